use Rattle.std.proofs.Common.{[]}
use Rattle.command_io.proofs.Sinks.{front_of_pieces, on_error}
use Rattle.command_io.proofs.lines.put_pieces.Goals as goal

pub returns-in_err-put_all-clause-prefix : goal.returns-in_err-put_all-clause-prefix
returns-in_err-put_all-clause-prefix g c =
    on_error c.from_residual.result
    (front_of_pieces _ _ _ c.args.pieces.now c.loop-piece.piece-index (record { ref_ptr = (0, 0); now = [] })
    c.loop-piece-test.true c.loop-piece.invariant.0 (rw c.as_bytes.ensures.value at c.in_err-put_all.ensures.prefix))
