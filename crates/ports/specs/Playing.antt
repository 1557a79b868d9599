-- What a script makes links answer.
use Rattle.std.specs.Prelude.{◌≡◌, ℕ, ◌-◌, ◌==◌, Bool, true, false, not, if◌then◌else◌, List, [], ◌∷◌, filter, fold}
use Rattle.std.specs.Prelude.{take, min, length, Option, Some, None, zero, suc}
use Rattle.std.specs.List.{flat_map}
use Rattle.std.specs.Option.{ForSome, option_map}
use Rattle.ports.specs.declared.entry.Entry.{Entry}
use Rattle.ports.specs.declared.entry.Entry.TheVariants.{Listen, Next, Send, Close}
use Rattle.ports.specs.declared.links.ListenAnswer.{ListenAnswer}
use Rattle.ports.specs.declared.links.ListenAnswer.TheVariants as listen
use Rattle.ports.specs.declared.links.SendAnswer.{SendAnswer}
use Rattle.ports.specs.declared.links.SendAnswer.TheVariants.{Took, Later, Failed}
use Rattle.ports.specs.declared.links.Turn.{Turn}
use Rattle.ports.specs.declared.links.What.{What}
use Rattle.ports.specs.declared.links.What.TheVariants as what
use Rattle.ports.specs.declared.rules.SendRule.{SendRule}
use Rattle.ports.specs.declared.script.LinkEvent.{LinkEvent}
use Rattle.ports.specs.declared.script.LinkEvent.TheVariants as event
use Rattle.ports.specs.declared.script.Script.{Script}
use Rattle.ports.specs.declared.script.Step.{Step}
use Rattle.ports.specs.declared.script.Step.TheVariants.{Turn as turn_step, Take, Fail}

-- what a link does without a rule: it takes all
abbrev pub takes_all : SendRule
takes_all = record { left = None; fails = false }

-- what a send of this many bytes is answered. A link that fails also fails where it takes nothing.
abbrev pub taken_of : Option ℕ → ℕ → SendAnswer
taken_of None count = Took count
taken_of (Some zero) count = Later
taken_of (Some (suc left)) count = Took (min count (suc left))

abbrev pub send_answer : SendRule → ℕ → SendAnswer
send_answer rule count = if rule.fails then Failed else taken_of rule.left count

-- the rule of the link after that send
abbrev pub rule_after : SendRule → ℕ → SendRule
rule_after rule count =
    if rule.fails then record rule { fails = false }
    else record rule { left = option_map (λ left. left - count) rule.left }

-- the rules of all links, by number
abbrev pub SendRules : Type 0
SendRules = ℕ → SendRule

-- the rules, where one link's is replaced
abbrev pub with_rule : ℕ → SendRule → SendRules → SendRules
with_rule link rule rules = λ other. if link == other then rule else rules other

abbrev pub is_turn : Step → Bool
is_turn (turn_step secs event) = true
is_turn (Take link count) = false
is_turn (Fail link) = false

-- the rules after the lines up to the next turn
abbrev pub rules_at_turn : List Step → SendRules → SendRules
rules_at_turn [] rules = rules
rules_at_turn (turn_step secs event ∷ steps) rules = rules
rules_at_turn (Take link count ∷ steps) rules =
    rules_at_turn steps (with_rule link (record (rules link) { left = Some count }) rules)
rules_at_turn (Fail link ∷ steps) rules =
    rules_at_turn steps (with_rule link (record (rules link) { fails = true }) rules)

-- the lines from the next turn on
abbrev pub from_turn : List Step → List Step
from_turn [] = []
from_turn (turn_step secs event ∷ steps) = turn_step secs event ∷ steps
from_turn (Take link count ∷ steps) = from_turn steps
from_turn (Fail link ∷ steps) = from_turn steps

-- what a turn of a script is for the server, and its bytes
abbrev pub what_of : LinkEvent → What
what_of event.Idle = what.Idle
what_of (event.Opened link) = what.Opened link
what_of (event.Read link piece) = what.Read link (length piece)
what_of (event.Ended link) = what.Ended link
what_of (event.Broken link) = what.Broken link
what_of (event.Room link) = what.Room link

abbrev pub bytes_of : LinkEvent → List ℕ
bytes_of (event.Read link piece) = piece
bytes_of _ = []

-- a turn with its bytes, and the lines after it
pub record Played : Type 0 where
  pub turn : Turn
  pub piece : List ℕ
  pub rest : List Step

-- The first turn of these lines. After the last line comes Stopped, at the last reading.
abbrev pub first_turn : List Step → ℕ → Played
first_turn [] secs = record { turn = record { secs = secs; what = what.Stopped }; piece = []; rest = [] }
first_turn (turn_step secs event ∷ steps) _ =
    record { turn = record { secs = secs; what = what_of event }; piece = bytes_of event; rest = steps }
first_turn (Take link count ∷ steps) secs = first_turn steps secs
first_turn (Fail link ∷ steps) secs = first_turn steps secs

-- where a script is: the lines to come, the last reading, and the rules of the links
pub record Playing : Type 0 where
  pub steps : List Step
  pub secs : ℕ
  pub rules : SendRules

-- before its first call
abbrev pub begun : Script → Playing
begun script = record { steps = script.steps; secs = script.start; rules = λ _. takes_all }

-- after one call
abbrev pub played : Playing → Entry → Playing
played state (Listen address answer) = state
played state (Next wants turn piece) = record {
  steps = (first_turn state.steps state.secs).rest;
  secs = turn.secs;
  rules = rules_at_turn state.steps state.rules;
}
played state (Send link bytes answer) =
    record state { rules = with_rule link (rule_after (state.rules link) (length bytes)) state.rules }
played state (Close link) = state

-- a call is answered as the script says
abbrev pub IsAnswered : Playing → Entry → Type 0
IsAnswered state (Listen address answer) = answer ≡ listen.Ready state.secs
IsAnswered state (Next wants turn piece) =
    (turn ≡ (first_turn state.steps state.secs).turn) × (piece ≡ (first_turn state.steps state.secs).piece)
IsAnswered state (Send link bytes answer) = answer ≡ send_answer (state.rules link) (length bytes)
IsAnswered state (Close link) = Unit {0}

-- each of these calls is
abbrev pub AreAnswered : Playing → List Entry → Type 0
AreAnswered state [] = Unit {0}
AreAnswered state (entry ∷ entries) = IsAnswered state entry × AreAnswered (played state entry) entries

-- whether a call of `listen` failed
abbrev pub is_failed_listen : ListenAnswer → Bool
is_failed_listen (listen.Ready secs) = false
is_failed_listen listen.Failed = true
is_failed_listen listen.Memory = false

-- whether an answer of `next` is a turn
abbrev pub is_turn_answer : What → Bool
is_turn_answer what.Failed = false
is_turn_answer what.Memory = false
is_turn_answer _ = true

abbrev pub succeeded : Entry → Bool
succeeded (Listen address answer) = not (is_failed_listen answer)
succeeded (Next wants turn piece) = is_turn_answer turn.what
succeeded (Send link bytes answer) = true
succeeded (Close link) = true

-- The calls are those of a run of the script: the turns are those of the script, in order, and the sends are answered
-- by its rules. A call of `listen` or `next` that failed changes nothing.
abbrev pub IsScriptedRun : Script → List Entry → Type 0
IsScriptedRun script entries = AreAnswered (begun script) (filter succeeded entries)

-- where the script is after these calls
abbrev pub playing : Script → List Entry → Playing
playing script entries = fold played (begun script) (filter succeeded entries)

-- the same of links, where they report both
abbrev pub Plays : Option Script → Option (List Entry) → Type 0
Plays script log = ForSome script (λ script. ForSome log (λ entries. IsScriptedRun script entries))

-- the bytes that a send took from the link
abbrev pub taken_by_send : List ℕ → SendAnswer → List ℕ
taken_by_send bytes (Took count) = take count bytes
taken_by_send bytes _ = []

abbrev pub taken_by : ℕ → Entry → List ℕ
taken_by link (Send other bytes answer) = if other == link then taken_by_send bytes answer else []
taken_by link _ = []

-- all bytes that these calls took from the link, in order
abbrev pub bytes_taken : ℕ → List Entry → List ℕ
bytes_taken link entries = flat_map (taken_by link) entries
