use Rattle.std.proofs.Common.{length, take}
use Rattle.pb_wire.specs.Spelling.{Bytes}
use Rattle.riemann_msg.specs.Spelling.{Counts, repeated, spelled}
use Rattle.riemann_msg.proofs.len.tags_len.Given as goal

abbrev pub invariant-loop-tag : goal.invariant-loop-tag
invariant-loop-tag l = Counts l.len (length (spelled (repeated 7 Bytes (take l.tag-index l.tags))))
