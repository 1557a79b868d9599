use Rattle.std.proofs.Common.{◌∙◌, ap, not}
use Rattle.stream_plan.proofs.Trees.{has_streams-list_trees}
use Rattle.stream_plan.proofs.search.has_streams.Goals as goal

pub returns : goal.returns
returns c = ap not c.is_empty.ensures ∙ has_streams-list_trees c.args.streams.now
