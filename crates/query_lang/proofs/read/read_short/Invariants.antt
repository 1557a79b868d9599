use Rattle.std.proofs.Common.{length}
use Rattle.query_lang.specs.Parsing.{state_of}
use Rattle.query_lang.proofs.ReadLaws.{SoFar}
use Rattle.query_lang.proofs.read.read_short.Given as goal

abbrev pub invariant-tokens : goal.invariant-tokens
invariant-tokens l = SoFar l.text l.rest (state_of l.parser)

abbrev pub decreases-tokens : goal.decreases-tokens
decreases-tokens l = length l.rest
