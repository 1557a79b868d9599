use Rattle.std.proofs.Common.{◌≡◌, length}
use Rattle.query_lang.specs.Tokens.{quoted}
use Rattle.query_lang.proofs.ScanLaws.{following}
use Rattle.query_lang.proofs.scan.quoted.Given as goal

abbrev pub invariant-bytes : goal.invariant-bytes
invariant-bytes l = following l.content (quoted l.rest) ≡ quoted l.fn.bytes

abbrev pub decreases-bytes : goal.decreases-bytes
decreases-bytes l = length l.rest
