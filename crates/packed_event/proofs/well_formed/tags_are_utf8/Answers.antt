use Rattle.std.proofs.Common.{arith}
use Rattle.std.specs.Str.{IsUtf8}
use Rattle.std.proofs.lemmas.List.Elements.{AllWithin-more, at_read, recursion_from_All}
use Rattle.packed_event.proofs.well_formed.tags_are_utf8.Goals as goal

pub loop-tag-preserved : goal.loop-tag-preserved
loop-tag-preserved c =
    AllWithin-more IsUtf8 c.args.tags.now 0 c.loop-tag.tag-index c.loop-tag.invariant
    (at_read c.args.tags.now IsUtf8 c.loop-tag.tag-index c.tag-item.result c.loop-tag-test.true c.tag-item.is
    c.as_bytes.ensures.utf8)

pub returns : goal.returns
returns c = recursion_from_All IsUtf8 c.args.tags.now (λ k d lt. c.loop-tag.invariant k d (omega arith) (omega arith))
