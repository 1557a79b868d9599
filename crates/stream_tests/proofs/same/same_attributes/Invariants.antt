use Rattle.std.proofs.Common.{◌≡◌, length}
use Rattle.std.specs.Cmp.Lexicographic.{pointwise}
use Rattle.stream_tests.specs.Same.{same_attribute}
use Rattle.stream_tests.proofs.same.same_attributes.Given as goal

abbrev pub invariant-attributes : goal.invariant-attributes
invariant-attributes l = pointwise same_attribute l.left l.right ≡ pointwise same_attribute l.a l.b

abbrev pub decreases-attributes : goal.decreases-attributes
decreases-attributes l = length l.left
