use Rattle.std.proofs.Common.{◌≡◌, ◌++◌, take}
use Rattle.ev_types.proofs.event.add_tags.Given as goal

abbrev pub invariant-loop-tag : goal.invariant-loop-tag
invariant-loop-tag l = l.copied ≡ l.fn.copied ++ take l.tag-index l.tags
