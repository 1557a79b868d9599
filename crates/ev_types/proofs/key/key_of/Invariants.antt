use Rattle.std.proofs.Common.{◌≡◌, take, map}
use Rattle.ev_types.specs.Field.{field_value}
use Rattle.ev_types.proofs.key.key_of.Given as goal

abbrev pub invariant-loop-field : goal.invariant-loop-field
invariant-loop-field l = l.parts.items ≡ map (field_value l.event) (take l.field-index l.fields)
