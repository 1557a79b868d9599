use Rattle.std.proofs.Common.{◌≡◌, ◌++◌, drop}
use Rattle.list_laws.specs.Prefix.{IsPrefix}
use Rattle.pred_eval.specs.Building.{texts_of}
use Rattle.stream_plan.specs.Ready.{plan_patterns}
use Rattle.stream_plan.specs.Tree.{list_trees}
use Rattle.stream_plan.proofs.ready.+append.Given as goal

abbrev pub invariant-append_streams-loop-stream : goal.invariant-append_streams-loop-stream
invariant-append_streams-loop-stream l =
    IsPrefix (texts_of l.fn.texts.items) (texts_of l.texts.items)
    × (texts_of l.texts.items ++ plan_patterns (list_trees (drop l.stream-index l.streams))
    ≡ texts_of l.fn.texts.items ++ plan_patterns (list_trees l.streams))
