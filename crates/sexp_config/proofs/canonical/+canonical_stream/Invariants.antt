use Rattle.std.proofs.Common.{◌≡◌, ◌++◌, take}
use Rattle.stream_plan.specs.Tree.{list_trees}
use Rattle.sexp_config.specs.Canonical.{bare_forms, stream_forms}
use Rattle.sexp_config.proofs.canonical.+canonical_stream.Given as goal

abbrev pub invariant-put_streams-loop-stream : goal.invariant-put_streams-loop-stream
invariant-put_streams-loop-stream l =
    bare_forms l.forms.items ≡ bare_forms l.fn.forms.items ++ stream_forms (list_trees (take l.stream-index l.streams))
