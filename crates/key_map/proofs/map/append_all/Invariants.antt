use Rattle.std.proofs.Common.{◌≡◌, ◌++◌, map}
use Rattle.std.specs.List.{flat_map}
use Rattle.std.specs.Map.{values_of}
use Rattle.std.specs.Map.Iter.{deref}
use Rattle.key_map.proofs.map.append_all.Given as goal

abbrev pub invariant-loop-services : goal.invariant-loop-services
invariant-loop-services l = l.out ≡ l.fn.out ++ flat_map values_of (map deref l.yielded)
