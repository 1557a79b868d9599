use Rattle.std.proofs.Common.{subst, sym, ap, ◌∙◌}
use Rattle.std.proofs.lemmas.Result.{err_from_is_err_and, IfOk-weaker}
use Rattle.sexp_read.specs.Grammar.{unclosed}
use Rattle.sexp_read.specs.Reading.{Reading, brackets_of}
use Rattle.sexp_read.proofs.Progress.{IsReadTo, read_none, read_more, read_refused, read_faulty, read_to_end, read_all}
use Rattle.sexp_read.proofs.Answering.{fault_of, same_fault}
use Rattle.sexp_read.proofs.read.read_pieces.Goals as goal

pub pieces-init : goal.pieces-init
pieces-init c =
    subst (λ (reading : Reading). IsReadTo c.args.text.now 0 reading) (sym c.fresh-reader.ensures)
    (read_none c.args.text.now)

pub returns-in_err-piece-clause-refused : goal.returns-in_err-piece-clause-refused
returns-in_err-piece-clause-refused c =
    let passed = err_from_is_err_and c.from_residual.result c.from_residual.ensures.1 in
    rw (passed.1, passed.2) (fault_of _ _ _ c.in_err-piece.ensures.gives
    (λ known e. read_faulty c.args.text.now c.pieces.place _ known c.pieces.invariant c.pieces-test.true e))

pub returns-in_err-put-clause-refused : goal.returns-in_err-put-clause-refused
returns-in_err-put-clause-refused c =
    let passed = err_from_is_err_and c.from_residual-in_err-put.result c.from_residual-in_err-put.ensures.1 in
    let moves = c.in_ok-piece.ensures.moves in
    rw (passed.1, passed.2) (fault_of _ _ _ c.in_err-put.ensures.refused
    (λ known e. read_refused c.args.text.now c.pieces.place c.in_ok-piece.end c.in_ok-piece.piece _ known
    c.pieces.invariant c.pieces-test.true moves.0
    c.in_ok-piece.ensures.gives e))

pub pieces-preserved : goal.pieces-preserved
pieces-preserved c =
    let moves = c.in_ok-piece.ensures.moves in
    read_more c.args.text.now c.pieces.place c.in_ok-piece.end c.in_ok-piece.piece _ _ c.pieces.invariant
    c.pieces-test.true moves.0 moves.1
    c.in_ok-piece.ensures.gives c.in_ok-put.ensures.ok

pub returns-clause-forms : goal.returns-clause-forms
returns-clause-forms c =
    let to_end = read_to_end c.args.text.now c.pieces.place _ c.pieces.invariant c.pieces-test.false in
    IfOk-weaker c.finish.result _ _ (λ forms p. (
      read_all c.args.text.now c.pieces.place _ _ c.pieces.invariant c.pieces-test.false p.0 p.1,
      to_end ∙ ap (λ stack. unclosed (brackets_of stack)) p.0,
    )) c.finish.ensures.ok

pub returns-clause-refused : goal.returns-clause-refused
returns-clause-refused c =
    same_fault c.finish.result _ _ (read_to_end c.args.text.now c.pieces.place _ c.pieces.invariant c.pieces-test.false)
    c.finish.ensures.refused
