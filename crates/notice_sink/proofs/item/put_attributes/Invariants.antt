use Rattle.std.proofs.Common.{◌≡◌, ◌++◌, map, take}
use Rattle.notice_sink.specs.Joining.{led}
use Rattle.notice_sink.specs.Lines.{attribute_text}
use Rattle.notice_sink.proofs.item.put_attributes.Given as goal

abbrev pub invariant-loop-attribute : goal.invariant-loop-attribute
invariant-loop-attribute l = l.out ≡ l.fn.out ++ led (map attribute_text (take l.attribute-index l.attributes))
