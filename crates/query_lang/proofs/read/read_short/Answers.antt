use Rattle.std.proofs.Common.{refl}
use Rattle.std.proofs.lemmas.Result.{err_from_is_err_and}
use Rattle.query_lang.proofs.ReadLaws.{at_front, so_far_more, following_shorter, so_far_err, all_read}
use Rattle.query_lang.proofs.read.read_short.Goals as goal

pub tokens-init : goal.tokens-init
tokens-init c = at_front _ _ _ c.past_blanks-rest.ensures c.fresh-parser.ensures

pub returns-in_err-rest : goal.returns-in_err-rest
returns-in_err-rest c =
    let p = err_from_is_err_and c.from_residual.result c.from_residual.ensures.1 in
    rw (p.1, p.2)
    (so_far_err _ _ _ _ _ _ c.tokens.invariant c.is_empty.ensures c.tokens-test.true refl _ c.in_err-rest.ensures)

pub tokens-smaller : goal.tokens-smaller
tokens-smaller c = following_shorter _ _ _ _ _ c.in_ok-rest.ensures

pub tokens-preserved : goal.tokens-preserved
tokens-preserved c = so_far_more _ _ _ _ _ _ c.tokens.invariant c.in_ok-rest.ensures

pub returns : goal.returns
returns c = all_read _ _ _ _ c.tokens.invariant c.is_empty.ensures c.tokens-test.false _ c.finish.ensures
