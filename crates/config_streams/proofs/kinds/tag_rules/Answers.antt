use Rattle.std.proofs.Common.{arith}
use Rattle.config_streams.proofs.CodeLaws.{tag_more}
use Rattle.config_streams.proofs.kinds.tag_rules.Goals as goal

pub loop-tag-preserved : goal.loop-tag-preserved
loop-tag-preserved c =
    tag_more c.args.tags.now _ _ c.tag-item.result _ c.loop-tag.tag-index (omega arith) c.tag-item.is
    c.in_ok-copy.ensures c.in_ok-push.ensures.items c.loop-tag.invariant
