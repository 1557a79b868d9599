use Rattle.std.proofs.Common.{◌≡◌, length}
use Rattle.config_terms.specs.Arguments.{bound_value}
use Rattle.config_terms.proofs.arguments.value_of.Given as goal

abbrev pub invariant-loop-binding : goal.invariant-loop-binding
invariant-loop-binding l = bound_value l.name l.outer ≡ bound_value l.name l.env

abbrev pub decreases-loop-binding : goal.decreases-loop-binding
decreases-loop-binding l = length l.outer
