use Rattle.std.proofs.Common.{◌≡◌, ◌++◌, length}
use Rattle.std.specs.List.{flat_map}
use Rattle.list_laws.specs.Prefix.{IsPrefix}
use Rattle.notice_sink.specs.Quoting.{quoted_byte}
use Rattle.notice_sink.proofs.quoting.put_content.Given as goal

abbrev pub invariant-stretches : goal.invariant-stretches
invariant-stretches l =
    IsPrefix l.fn.out l.out × (l.out ++ flat_map quoted_byte l.rest ≡ l.fn.out ++ flat_map quoted_byte l.fn.bytes)

abbrev pub decreases-stretches : goal.decreases-stretches
decreases-stretches l = length l.rest
