-- What the calls of links add to their log, and why they fail.
use Rattle.std.specs.Prelude.{◌≡◌, ℕ, ◌<◌, ◌≤◌, ◌==◌, Bool, true, false, not, IsTrue, List, [], ◌∷◌, ◌++◌, filter, fold}
use Rattle.std.specs.Prelude.{take, Option, Some, None}
use Rattle.std.specs.List.{list_any}
use Rattle.std.specs.Option.{ForSome}
use Rattle.ports.specs.Counts.{Rose}
use Rattle.ports.specs.declared.entry.Entry.{Entry}
use Rattle.ports.specs.declared.entry.Entry.TheVariants.{Listen, Next, Send, Close}
use Rattle.ports.specs.declared.links.ListenAnswer.{ListenAnswer}
use Rattle.ports.specs.declared.links.ListenAnswer.TheVariants as listen
use Rattle.ports.specs.declared.links.SendAnswer.{SendAnswer}
use Rattle.ports.specs.declared.links.SendAnswer.TheVariants as send
use Rattle.ports.specs.declared.links.Turn.{Turn}
use Rattle.ports.specs.declared.links.Want.{Want}
use Rattle.ports.specs.declared.links.What.{What}
use Rattle.ports.specs.declared.links.What.TheVariants.{Opened, Read, Failed, Memory}

-- a log with the entries that one call added, where the log is reported
abbrev pub grown : Option (List Entry) → List Entry → Option (List Entry)
grown None added = None
grown (Some log) added = Some (log ++ added)

-- the entries that a call of `listen` adds: none where it was out of memory
abbrev pub listen_entries : List ℕ → ListenAnswer → List Entry
listen_entries address (listen.Ready secs) = Listen address (listen.Ready secs) ∷ []
listen_entries address listen.Failed = Listen address listen.Failed ∷ []
listen_entries address listen.Memory = []

-- the bytes of a read, which are the first ones of the buffer
abbrev pub piece_of : What → List ℕ → List ℕ
piece_of (Read link count) buf = take count buf
piece_of _ buf = []

-- the entries that a call of `next` adds, with the buffer after it
abbrev pub entries_of_turn : List Want → List ℕ → Turn → What → List Entry
entries_of_turn wants buf turn Memory = []
entries_of_turn wants buf turn what = Next wants turn (piece_of what buf) ∷ []

abbrev pub next_entries : List Want → List ℕ → Turn → List Entry
next_entries wants buf turn = entries_of_turn wants buf turn turn.what

-- the entries that a call of `send` adds
abbrev pub send_entries : ℕ → List ℕ → SendAnswer → List Entry
send_entries link bytes (send.Took count) = Send link bytes (send.Took count) ∷ []
send_entries link bytes send.Later = Send link bytes send.Later ∷ []
send_entries link bytes send.Failed = Send link bytes send.Failed ∷ []
send_entries link bytes send.Memory = []

-- why a call of `listen` answered so, with the counts of faults before and after
abbrev pub HasListenCause : ℕ → ℕ → ListenAnswer → Type 0
HasListenCause old new (listen.Ready secs) = new ≡ old
HasListenCause old new listen.Failed = Rose old new
HasListenCause old new listen.Memory = new ≡ old

-- why a call of `next` answered so
abbrev pub HasNextCause : ℕ → ℕ → What → Type 0
HasNextCause old new Failed = Rose old new
HasNextCause old new _ = new ≡ old

-- whether a call of `next` failed
abbrev pub is_failed_turn : What → Bool
is_failed_turn Failed = true
is_failed_turn _ = false

-- whether a call of `next` was out of memory
abbrev pub is_memory_turn : What → Bool
is_memory_turn Memory = true
is_memory_turn _ = false

-- whether a call of `send` was out of memory
abbrev pub is_memory_send : SendAnswer → Bool
is_memory_send send.Memory = true
is_memory_send _ = false

-- a read has at least one byte, and at most the limit
abbrev pub IsPieceWithin : ℕ → What → Type 0
IsPieceWithin limit (Read link count) = (0 < count) × (count ≤ limit)
IsPieceWithin limit _ = Unit {0}

-- a send took no more bytes than it was offered
abbrev pub IsWithin : ℕ → SendAnswer → Type 0
IsWithin offered (send.Took count) = count ≤ offered
IsWithin offered _ = Unit {0}

-- the links that are open after a turn or a close
abbrev pub unclosed_after_turn : List ℕ → What → List ℕ
unclosed_after_turn links (Opened link) = link ∷ links
unclosed_after_turn links _ = links

abbrev pub unclosed_after : List ℕ → Entry → List ℕ
unclosed_after links (Listen address answer) = links
unclosed_after links (Next wants turn piece) = unclosed_after_turn links turn.what
unclosed_after links (Send link bytes answer) = links
unclosed_after links (Close link) = filter (λ other. not (other == link)) links

-- the links that were opened in these entries and not closed since
abbrev pub unclosed : List Entry → List ℕ
unclosed entries = fold unclosed_after [] entries

abbrev pub is_unclosed : ℕ → List Entry → Bool
is_unclosed link entries = list_any (λ other. other == link) (unclosed entries)

-- the link was opened and not closed since, where the log is reported
abbrev pub MayClose : Option (List Entry) → ℕ → Type 0
MayClose log link = ForSome log (λ entries. IsTrue (is_unclosed link entries))
