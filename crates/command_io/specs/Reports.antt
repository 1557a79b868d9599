-- What the objects that are handed to a call report of themselves, before and after it.
use Rattle.std.specs.Prelude.{◌≡◌, ℕ}
use Rattle.hub_meaning.specs.Verdicts.{PatternsReport}
use Rattle.ports.specs.Calls.{LinksReport}
use Rattle.ports.specs.Reading.{StoreReport}
use Rattle.ports.specs.Writing.{SinkReport}

pub record Reports : Type 0 where
  pub store : StoreReport
  pub links : LinksReport
  pub out : SinkReport
  pub err : SinkReport
  pub patterns : PatternsReport
  -- how many forks were entered
  pub forks : ℕ

abbrev pub reports : StoreReport → LinksReport → SinkReport → SinkReport → PatternsReport → ℕ → Reports
reports store links out err patterns forks =
    record { store = store; links = links; out = out; err = err; patterns = patterns; forks = forks }

-- no link was called, nothing was put to the output, and no fork was entered
abbrev pub IsIdle : Reports → Reports → Type 0
IsIdle old new = (new.links ≡ old.links) × (new.out ≡ old.out) × (new.forks ≡ old.forks)
