-- The arguments of the command line.
use Rattle.std.specs.Prelude.{◌≡◌, ℕ, ◌≤◌, ◌⊎◌, List, [], ◌∷◌, length, codes, Option, Some, None}
use Rattle.command_serve.specs.declared.play.TheConstants.{EVENT_LIMIT}
use Rattle.ports.specs.Counts.{greatest}
use Rattle.query_lang.specs.declared.read.TheConstants.{MAX_BYTES}
use Rattle.script_text.specs.Words.{number_of}

abbrev pub feed_words : List ℕ → List ℕ → List (List ℕ)
feed_words config file = codes "feed" ∷ (config ∷ (file ∷ []))

abbrev pub check_words : List ℕ → List (List ℕ)
check_words config = codes "check" ∷ (config ∷ [])

abbrev pub replay_words : List ℕ → List ℕ → List (List ℕ)
replay_words config script = codes "replay" ∷ (config ∷ (script ∷ []))

abbrev pub serve_words : List ℕ → List (List ℕ)
serve_words config = codes "serve" ∷ (config ∷ [])

abbrev pub serve_turns_words : List ℕ → List ℕ → List (List ℕ)
serve_turns_words config number = codes "serve" ∷ (config ∷ (codes "--turns" ∷ (number ∷ [])))

-- the arguments are `serve CONFIG --turns N` with this number, or `serve CONFIG` and it is the greatest one
abbrev pub IsServe : List (List ℕ) → List ℕ → ℕ → Type 0
IsServe words config turns = ((words ≡ serve_words config) × (turns ≡ greatest))
    ⊎ ((number : List ℕ) × (words ≡ serve_turns_words config number) × (number_of number ≡ Some turns))

abbrev pub load_words : List ℕ → List ℕ → List ℕ → List (List ℕ)
load_words config count start = codes "load" ∷ (config ∷ (count ∷ (start ∷ [])))

-- the arguments are `load CONFIG N START` with these numbers, and N is within its limit
pub record IsLoad (words : List (List ℕ)) (config : List ℕ) (count start : ℕ) : Type 0 where
  pub first : List ℕ
  pub second : List ℕ
  pub are : words ≡ load_words config first second
  pub counts : number_of first ≡ Some count
  pub few : count ≤ EVENT_LIMIT
  pub starts : number_of second ≡ Some start

abbrev pub graphite_words : List ℕ → List (List ℕ)
graphite_words file = codes "graphite" ∷ (file ∷ [])

abbrev pub graphite_host_words : List ℕ → List ℕ → List (List ℕ)
graphite_host_words file number = codes "graphite" ∷ (file ∷ (codes "--host" ∷ (number ∷ [])))

-- 1 or 2 digits with a value from 1 to 64
pub record IsHostPart (word : List ℕ) (part : ℕ) : Type 0 where
  pub digits : number_of word ≡ Some part
  pub short : length word ≤ 2
  pub least : 1 ≤ part
  pub most : part ≤ 64

-- the arguments are `graphite FILE --host K` with this number, or `graphite FILE` and there is none
abbrev pub IsGraphite : List (List ℕ) → List ℕ → Option ℕ → Type 0
IsGraphite words file host_part = ((words ≡ graphite_words file) × (host_part ≡ None))
    ⊎ ((number : List ℕ) × (part : ℕ) × (words ≡ graphite_host_words file number) × IsHostPart number part
    × (host_part ≡ Some part))

abbrev pub test_words : List ℕ → List ℕ → List (List ℕ)
test_words config tests = codes "test" ∷ (config ∷ (tests ∷ []))

abbrev pub send_words : List ℕ → List ℕ → List (List ℕ)
send_words address file = codes "send" ∷ (address ∷ (file ∷ []))

abbrev pub send_turns_words : List ℕ → List ℕ → List ℕ → List (List ℕ)
send_turns_words address file number = codes "send" ∷ (address ∷ (file ∷ (codes "--turns" ∷ (number ∷ []))))

-- the arguments are `send ADDRESS FILE --turns N` with this number, or `send ADDRESS FILE` and it is the greatest one
abbrev pub IsSend : List (List ℕ) → List ℕ → List ℕ → ℕ → Type 0
IsSend words address file turns = ((words ≡ send_words address file) × (turns ≡ greatest))
    ⊎ ((number : List ℕ) × (words ≡ send_turns_words address file number) × (number_of number ≡ Some turns))

abbrev pub query_words : List ℕ → List ℕ → List (List ℕ)
query_words address text = codes "query" ∷ (address ∷ (text ∷ []))

abbrev pub query_turns_words : List ℕ → List ℕ → List ℕ → List (List ℕ)
query_turns_words address text number = codes "query" ∷ (address ∷ (text ∷ (codes "--turns" ∷ (number ∷ []))))

-- the same of `query ADDRESS TEXT`, and the text is within the limit of a query
abbrev pub IsQuery : List (List ℕ) → List ℕ → List ℕ → ℕ → Type 0
IsQuery words address text turns =
    (length text ≤ MAX_BYTES) × (((words ≡ query_words address text) × (turns ≡ greatest))
    ⊎ ((number : List ℕ) × (words ≡ query_turns_words address text number) × (number_of number ≡ Some turns)))

abbrev pub record_words : List ℕ → List ℕ → List (List ℕ)
record_words config journal = codes "record" ∷ (config ∷ (journal ∷ []))

abbrev pub resume_words : List ℕ → List (List ℕ)
resume_words journal = codes "resume" ∷ (journal ∷ [])

-- the first argument names a command of a client
abbrev pub IsOfClient : List (List ℕ) → Type 0
IsOfClient [] = ⊥
IsOfClient (command ∷ rest) = (command ≡ codes "send") ⊎ (command ≡ codes "query")

-- ---- facts of the names, where the arguments are those of the command

abbrev pub OnFeed : List (List ℕ) → (List ℕ → List ℕ → Type 0) → Type 0
OnFeed words P = (config file : List ℕ) → words ≡ feed_words config file → P config file

abbrev pub OnCheck : List (List ℕ) → (List ℕ → Type 0) → Type 0
OnCheck words P = (config : List ℕ) → words ≡ check_words config → P config

abbrev pub OnReplay : List (List ℕ) → (List ℕ → List ℕ → Type 0) → Type 0
OnReplay words P = (config script : List ℕ) → words ≡ replay_words config script → P config script

abbrev pub OnServe : List (List ℕ) → (List ℕ → ℕ → Type 0) → Type 0
OnServe words P = (config : List ℕ) (turns : ℕ) → IsServe words config turns → P config turns

abbrev pub OnLoad : List (List ℕ) → (List ℕ → ℕ → ℕ → Type 0) → Type 0
OnLoad words P = (config : List ℕ) (count start : ℕ) → IsLoad words config count start → P config count start

abbrev pub OnGraphite : List (List ℕ) → (List ℕ → Option ℕ → Type 0) → Type 0
OnGraphite words P = (file : List ℕ) (host_part : Option ℕ) → IsGraphite words file host_part → P file host_part

abbrev pub OnTest : List (List ℕ) → (List ℕ → List ℕ → Type 0) → Type 0
OnTest words P = (config tests : List ℕ) → words ≡ test_words config tests → P config tests

abbrev pub OnSend : List (List ℕ) → (List ℕ → List ℕ → ℕ → Type 0) → Type 0
OnSend words P = (address file : List ℕ) (turns : ℕ) → IsSend words address file turns → P address file turns

abbrev pub OnQuery : List (List ℕ) → (List ℕ → List ℕ → ℕ → Type 0) → Type 0
OnQuery words P = (address text : List ℕ) (turns : ℕ) → IsQuery words address text turns → P address text turns

abbrev pub OnRecord : List (List ℕ) → (List ℕ → List ℕ → Type 0) → Type 0
OnRecord words P = (config journal : List ℕ) → words ≡ record_words config journal → P config journal

abbrev pub OnResume : List (List ℕ) → (List ℕ → Type 0) → Type 0
OnResume words P = (journal : List ℕ) → words ≡ resume_words journal → P journal

-- no command matches the arguments
abbrev pub IsUsage : List (List ℕ) → Type 0
IsUsage words = OnFeed words (λ config file. ⊥) × OnCheck words (λ config. ⊥)
    × OnReplay words (λ config script. ⊥) × OnServe words (λ config turns. ⊥) × OnLoad words (λ config count start. ⊥)
    × OnGraphite words (λ file host_part. ⊥) × OnTest words (λ config tests. ⊥)
    × OnSend words (λ address file turns. ⊥) × OnQuery words (λ address text turns. ⊥)
    × OnRecord words (λ config journal. ⊥) × OnResume words (λ journal. ⊥)
