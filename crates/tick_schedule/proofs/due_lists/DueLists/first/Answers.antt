use Rattle.std.proofs.Common.{ℕ, List, subst}
use Rattle.tick_schedule.specs.Lists.{IsFirst}
use Rattle.tick_schedule.proofs.NumberLaws.{first-of}
use Rattle.tick_schedule.proofs.due_lists.DueLists.first.Goals as goal

pub returns : goal.returns
returns c =
    let P : List (ℕ × List ℕ) → Type 0 = λ lists. IsFirst lists c.self.inside.first in
    subst P c.self.view_is
    (first-of c.self.inside.numbers.entries c.self.inside.lists.slots c.self.inside.first c.self.invariant.have_ids
    c.self.invariant.is_first)
