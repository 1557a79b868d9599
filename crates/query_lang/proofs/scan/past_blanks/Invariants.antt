use Rattle.std.proofs.Common.{◌≡◌, length}
use Rattle.query_lang.specs.Tokens.{past_blanks}
use Rattle.query_lang.proofs.scan.past_blanks.Given as goal

abbrev pub invariant-loop-byte : goal.invariant-loop-byte
invariant-loop-byte l = past_blanks l.rest ≡ past_blanks l.fn.bytes

abbrev pub decreases-loop-byte : goal.decreases-loop-byte
decreases-loop-byte l = length l.rest
