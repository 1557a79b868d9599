use Rattle.std.proofs.Common.{◌≡◌, ◌+◌, arith}
use Rattle.std.proofs.lemmas.Result.{err_from_is_err_and}
use Rattle.riemann_msg.proofs.Lengths.{counted_as}
use Rattle.riemann_msg.proofs.len.both.Goals as goal

pub returns-in_err-a : goal.returns-in_err-a
returns-in_err-a c = λ m n first second.
    let p = err_from_is_err_and c.from_residual.result c.from_residual.ensures.1 in
    rw p.1 (omega (arith, rw c.in_err-a.was at first))

pub returns-in_err-b : goal.returns-in_err-b
returns-in_err-b c = λ m n first second.
    let p = err_from_is_err_and c.from_residual-in_err-b.result c.from_residual-in_err-b.ensures.1 in
    rw p.1 (omega (arith, rw c.in_err-b.was at second))

pub returns : goal.returns
returns c = λ m n first second.
    let first_is : c.in_ok-a.a ≡ m = rw c.in_ok-a.was at first in
    let second_is : c.in_ok-b.b ≡ n = rw c.in_ok-b.was at second in
    counted_as c.sum.result (m + n) (c.in_ok-a.a + c.in_ok-b.b) (omega arith) c.sum.ensures
