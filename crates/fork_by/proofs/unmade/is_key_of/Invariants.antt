use Rattle.std.proofs.Common.{◌≡◌, map, take}
use Rattle.ev_types.specs.Field.{field_value}
use Rattle.fork_by.proofs.unmade.is_key_of.Given as goal

-- the parts so far are what the event holds
abbrev pub invariant-loop-i : goal.invariant-loop-i
invariant-loop-i l = take l.i l.parts ≡ map (field_value l.event) (take l.i l.fields)
