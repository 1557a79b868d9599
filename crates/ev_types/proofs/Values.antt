-- The tests of values and keys decide whether they are equal.
use Rattle.std.proofs.Common.{◌≡◌, List, rules}
use Rattle.std.specs.Bool.{Decides}
use Rattle.std.specs.Cmp.Lexicographic.{pointwise_decides}
use Rattle.ev_types.specs.declared.value.Value.{Value}
use Rattle.ev_types.specs.Value.{same_value}
use Rattle.ev_types.specs.Key.{same_key}

pub same_value_decides : (a b : Value) → Decides (same_value a b) (a ≡ b)
same_value_decides = search rules

pub same_key_decides : (a b : List Value) → Decides (same_key a b) (a ≡ b)
same_key_decides = pointwise_decides same_value_decides
