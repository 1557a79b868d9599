use Rattle.std.proofs.Common.{◌≡◌, take}
use Rattle.ev_types.specs.Rebirth.{kept_attributes}
use Rattle.ev_types.proofs.event.Event.kept_attributes.Given as goal

abbrev pub invariant-loop-key : goal.invariant-loop-key
invariant-loop-key l = l.kept ≡ kept_attributes (take l.key-index l.keep) l.self
