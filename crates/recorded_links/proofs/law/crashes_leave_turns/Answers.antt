use Rattle.recorded_links.specs.Giving.{MayFollow}
use Rattle.recorded_links.proofs.CrashLaws.{leaves_all, leaves_first}
use Rattle.recorded_links.proofs.law.crashes_leave_turns.Goals as goal

pub returns : goal.returns
returns c = record {
  at_any_moment = λ journal start now turns breaks first links.
      leaves_first journal start now turns (MayFollow breaks first links);
  now = λ journal start now turns breaks first links.
      leaves_all journal start now turns (MayFollow breaks first links);
}
