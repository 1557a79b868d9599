-- What the calls on one line answer.
use Rattle.std.specs.Prelude.{◌≡◌, ◌≢◌, ℕ, ◌<◌, ◌≤◌, List, [], ◌∷◌, ◌++◌, length, IfSome, Option, Some, None, Result}
use Rattle.std.specs.Prelude.{Ok, Err}
use Rattle.std.specs.Option.{option_copied}
use Rattle.ev_types.specs.declared.event.Event.{Event}
use Rattle.graphite_lines.specs.declared.fault.LineFault.{LineFault}
use Rattle.graphite_lines.specs.declared.fault.LineFault.TheVariants.{Refused, Memory}
use Rattle.graphite_lines.specs.declared.fault.LineWhy.{LineWhy}
use Rattle.graphite_lines.specs.declared.line.Said.{Said}
use Rattle.graphite_lines.specs.declared.words.LineWords.{LineWords}
use Rattle.graphite_lines.specs.declared.words.LineWords.TheVariants.{Nothing, Three, Other}
use Rattle.graphite_lines.specs.Lines.{metric_event}

-- Exactly what the line says. Memory may run out where it is accepted.
abbrev pub Reads : Result (Option Event) LineWhy → Result (Option Event) LineFault → Type 0
Reads says (Ok event) = says ≡ Ok event
Reads says (Err (Refused why)) = says ≡ Err why
Reads says (Err Memory) = (event : Event) × (says ≡ Ok (Some event))

-- these are the words
abbrev pub AreWords : List (List ℕ) → LineWords → Type 0
AreWords words Nothing = words ≡ []
AreWords words (Three path value time) = words ≡ path.now ∷ (value.now ∷ (time.now ∷ []))
AreWords words Other = (0 < length words) × (length words ≢ 3)

-- the service, whose bytes are in two places
abbrev pub said_service : Said → List ℕ
said_service said = said.placed.front.now ++ said.placed.back.now

-- the event that a line says
abbrev pub said_event : Said → Event
said_event said = metric_event said.time (said_service said) (option_copied said.placed.host) said.metric

-- its texts are no longer than a path
pub record IsShort (said : Said) : Type 0 where
  pub service : length (said_service said) ≤ 1024
  pub host : IfSome said.placed.host (λ host. length host.now ≤ 1024)

-- exactly what the line says, where the texts are in it
abbrev pub Parses : Result (Option Event) LineWhy → Result (Option Said) LineWhy → Type 0
Parses says (Ok None) = says ≡ Ok None
Parses says (Ok (Some said)) = (says ≡ Ok (Some (said_event said))) × IsShort said
Parses says (Err why) = says ≡ Err why

abbrev pub ParsesWords : Result (Option Event) LineWhy → Result Said LineWhy → Type 0
ParsesWords says (Ok said) = (says ≡ Ok (Some (said_event said))) × IsShort said
ParsesWords says (Err why) = says ≡ Err why
