use Rattle.std.proofs.Common.{◌≡◌, ◌++◌, take}
use Rattle.pb_wire.specs.Spelling.{Bytes}
use Rattle.riemann_msg.specs.Spelling.{repeated, spelled}
use Rattle.riemann_msg.proofs.write.put_tags.Given as goal

abbrev pub invariant-loop-tag : goal.invariant-loop-tag
invariant-loop-tag l = l.out ≡ l.initial.out ++ spelled (repeated 7 Bytes (take l.tag-index l.tags))
