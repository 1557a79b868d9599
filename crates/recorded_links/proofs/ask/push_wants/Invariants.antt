use Rattle.std.proofs.Common.{◌≡◌, ◌++◌, take}
use Rattle.recorded_links.specs.Numbers.{first_after, inner_wants}
use Rattle.recorded_links.proofs.ask.push_wants.Given as goal

abbrev pub invariant-loop-want : goal.invariant-loop-want
invariant-loop-want l = l.kept ≡ l.fn.kept ++ inner_wants (first_after l.last) (take l.want-index l.wants)
