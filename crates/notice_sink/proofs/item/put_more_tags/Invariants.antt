use Rattle.std.proofs.Common.{◌≡◌, ◌++◌, map, take}
use Rattle.notice_sink.specs.Joining.{led}
use Rattle.notice_sink.specs.Quoting.{quoted}
use Rattle.notice_sink.proofs.item.put_more_tags.Given as goal

abbrev pub invariant-loop-tag : goal.invariant-loop-tag
invariant-loop-tag l = l.out ≡ l.fn.out ++ led (map quoted (take l.tag-index l.tags))
