use Rattle.std.proofs.Common.{◌≡◌, take}
use Rattle.std.specs.List.{flat_map}
use Rattle.notice_sink.specs.Quoting.{quoted_byte}
use Rattle.notice_sink.proofs.quoting.count_plain.Given as goal

abbrev pub invariant-loop-byte : goal.invariant-loop-byte
invariant-loop-byte l =
    (l.count ≡ l.byte-index) × (flat_map quoted_byte (take l.byte-index l.bytes) ≡ take l.byte-index l.bytes)
