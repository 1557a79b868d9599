use Rattle.load_links.proofs.LoadLemmas.{IsPushed}
use Rattle.load_links.proofs.links.push_events.Given as goal

abbrev pub invariant-loop-i : goal.invariant-loop-i
invariant-loop-i l = IsPushed l.fn.steps l.steps l.start l.count l.number l.i
