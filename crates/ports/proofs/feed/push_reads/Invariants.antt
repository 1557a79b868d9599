use Rattle.std.proofs.Common.{◌≡◌, ◌++◌, length, map}
use Rattle.ports.specs.Pieces.{pieces_of, read_step}
use Rattle.ports.specs.declared.links.TheConstants.{PIECE_LIMIT}
use Rattle.ports.proofs.feed.push_reads.Given as goal

abbrev pub invariant-pieces : goal.invariant-pieces
invariant-pieces l =
    l.steps ++ map read_step (pieces_of PIECE_LIMIT l.rest)
    ≡ l.fn.steps ++ map read_step (pieces_of PIECE_LIMIT l.fn.bytes)

abbrev pub decreases-pieces : goal.decreases-pieces
decreases-pieces l = length l.rest
