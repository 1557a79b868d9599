use Rattle.std.proofs.Common.{◌≡◌, ◌-◌, ◌≤◌, length}
use Rattle.std.specs.List.{fold}
use Rattle.std.specs.Option.{option_map, option_or}
use Rattle.pb_wire.specs.Fields.{fields_of, fields_from, fault_from}
use Rattle.riemann_msg.specs.Fault.{first_of, first_by, wire_fault}
use Rattle.riemann_msg.proofs.read.read_fields.Given as goal

abbrev pub invariant-fields : goal.invariant-fields
invariant-fields g l = record {
  bytes : l.fields.bytes ≡ l.bytes;
  inside : l.fields.place ≤ length l.bytes;
  fault : option_or (first_of (g.D.Draft.fault l.bytes) (fields_from l.bytes l.fields.place))
      (option_map wire_fault (fault_from l.bytes l.fields.place))
      ≡ first_by (g.D.Draft.fault l.bytes) l.bytes;
  draft : fold (g.D.Draft.with_field l.bytes) l.draft (fields_from l.bytes l.fields.place)
      ≡ fold (g.D.Draft.with_field l.bytes) l.fn.draft (fields_of l.bytes);
}

abbrev pub decreases-fields : goal.decreases-fields
decreases-fields g l = length l.bytes - l.fields.place
