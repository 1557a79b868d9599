use Rattle.std.specs.List.{AllWithin}
use Rattle.std.specs.Str.{IsUtf8}
use Rattle.packed_event.proofs.well_formed.tags_are_utf8.Given as goal

abbrev pub invariant-loop-tag : goal.invariant-loop-tag
invariant-loop-tag l = AllWithin IsUtf8 l.tags 0 l.tag-index
