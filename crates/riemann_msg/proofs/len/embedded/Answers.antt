use Rattle.std.proofs.Common.{◌≡◌, ℕ, ◌+◌, length, subst, arith}
use Rattle.std.proofs.lemmas.Result.{err_from_is_err_and}
use Rattle.pb_wire.specs.Varint.{varint}
use Rattle.riemann_msg.specs.Spelling.{Counts}
use Rattle.riemann_msg.proofs.len.embedded.Goals as goal

pub returns-in_err-len : goal.returns-in_err-len
returns-in_err-len c = λ n counted.
    let p = err_from_is_err_and c.from_residual.result c.from_residual.ensures.1 in
    rw p.1 (omega (arith, rw c.in_err-len.was at counted))

pub returns : goal.returns
returns c = λ n counted.
    let is : c.in_ok-len.len ≡ n = rw c.in_ok-len.was at counted in
    subst (λ (k : ℕ). Counts c.embedded_len.result (1 + (length (varint k) + k))) is c.embedded_len.ensures
