use Rattle.std.proofs.Common.{◌≡◌, drop}
use Rattle.stream_meaning.specs.Images.{with_tags}
use Rattle.flow_streams.proofs.change.apply_tags.Given as goal

abbrev pub invariant-loop-tag : goal.invariant-loop-tag
invariant-loop-tag l = with_tags (drop l.tag-index l.tags) l.changed ≡ with_tags l.tags l.initial.changed
