-- The calls that one call made of links.
use Rattle.std.specs.Prelude.{◌≡◌, List}
use Rattle.std.specs.List.{AllByRecursion}
use Rattle.ports.specs.Calls.{AddsCalls, LinksReport}
use Rattle.ports.specs.declared.entry.Entry.{Entry}
use Rattle.ports.specs.declared.entry.Entry.TheVariants.{Listen, Next, Send, Close}

-- the call is a send or a close, which is all that is done on links within a turn
abbrev pub IsSendOrClose : Entry → Type 0
IsSendOrClose (Listen address answer) = ⊥
IsSendOrClose (Next wants turn piece) = ⊥
IsSendOrClose (Send link bytes answer) = Unit {0}
IsSendOrClose (Close link) = Unit {0}

-- Some sends and closes were made, and of these the fact holds. Of a log that is not reported it holds for some.
pub record Added (before now : LinksReport) (P : List Entry → Type 0) : Type 0 where
  pub run : List Entry
  pub grew : AddsCalls before now run
  pub no_fault : now.faults ≡ before.faults
  pub calls : AllByRecursion IsSendOrClose run
  pub holds : P run
