use Rattle.std.proofs.Common.{◌≡◌, take}
use Rattle.pred_eval.specs.Tree.{trees_in}
use Rattle.config_streams.specs.Table.{tag_rules}
use Rattle.config_streams.proofs.kinds.tag_rules.Given as goal

abbrev pub invariant-loop-tag : goal.invariant-loop-tag
invariant-loop-tag l = trees_in l.rules.items ≡ tag_rules (take l.tag-index l.tags)
