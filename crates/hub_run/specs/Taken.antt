-- The turns that a server took, one after another.
use Rattle.std.specs.Prelude.{◌≡◌, ◌≢◌, ℕ, ◌<◌, ◌⊎◌, true, List, [], ◌∷◌, ◌++◌, length, Option}
use Rattle.std.specs.List.{AllByRecursion, flat_map}
use Rattle.conn_core.specs.Turning.{turn_step}
use Rattle.conn_core.specs.hub_link.Added.{IsSendOrClose}
use Rattle.conn_core.specs.hub_meaning.Runs.{Step, plain}
use Rattle.ports.specs.Playing.{is_turn_answer}
use Rattle.conn_core.specs.hub_meaning.Verdicts.{Refusal}
use Rattle.ports.specs.declared.entry.Entry.{Entry}
use Rattle.ports.specs.declared.entry.Entry.TheVariants.{Next}
use Rattle.ports.specs.declared.links.Turn.{Turn}
use Rattle.ports.specs.declared.links.Want.{Want}
use Rattle.ports.specs.declared.links.What.TheVariants.{Stopped}

-- a turn, what was wanted when it was asked for, the verdicts on its messages, and the sends and closes made in it
pub record TakenTurn : Type 0 where
  pub wants : List Want
  pub turn : Turn
  pub piece : List ℕ
  pub verdicts : List (Option Refusal)
  pub calls : List Entry

abbrev pub steps_of_turn : TakenTurn → List Step
steps_of_turn taken = turn_step taken.wants taken.turn taken.piece taken.verdicts ∷ plain taken.calls

-- the steps of a run that took these turns
abbrev pub steps_of : List TakenTurn → List Step
steps_of turns = flat_map steps_of_turn turns

abbrev pub entries_of_turn : TakenTurn → List Entry
entries_of_turn taken = Next taken.wants taken.turn taken.piece ∷ taken.calls

-- the calls that were made of links
abbrev pub entries_of : List TakenTurn → List Entry
entries_of turns = flat_map entries_of_turn turns

abbrev pub verdicts_of_turn : TakenTurn → List (Option Refusal)
verdicts_of_turn taken = taken.verdicts

-- the verdicts on all messages, in order
abbrev pub verdicts_of : List TakenTurn → List (Option Refusal)
verdicts_of turns = flat_map verdicts_of_turn turns

-- What came is a turn, and neither that the links failed nor that memory ran out. Within it no other was asked for.
pub record IsOneTurn (taken : TakenTurn) : Type 0 where
  pub came : is_turn_answer taken.turn.what ≡ true
  pub once : AllByRecursion IsSendOrClose taken.calls

-- ---- when a run is over

abbrev pub GoesOn : TakenTurn → Type 0
GoesOn taken = taken.turn.what ≢ Stopped

-- another turn is asked for: fewer were taken than may be, and none of them was the last
pub record MayGoOn (limit : ℕ) (turns : List TakenTurn) : Type 0 where
  pub fewer : length turns < limit
  pub going : AllByRecursion GoesOn turns

-- the last turn was Stopped
pub record IsStopped (limit : ℕ) (turns : List TakenTurn) : Type 0 where
  pub before : List TakenTurn
  pub last : TakenTurn
  pub are : turns ≡ before ++ last ∷ []
  pub went_on : MayGoOn limit before
  pub stopped : last.turn.what ≡ Stopped

-- as many turns were taken as the limit allows, and none stopped the run
pub record IsAtLimit (limit : ℕ) (turns : List TakenTurn) : Type 0 where
  pub all : length turns ≡ limit
  pub going : AllByRecursion GoesOn turns

abbrev pub HasEnded : ℕ → List TakenTurn → Type 0
HasEnded limit turns = IsStopped limit turns ⊎ IsAtLimit limit turns
