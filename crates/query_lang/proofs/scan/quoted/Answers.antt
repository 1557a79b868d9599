use Rattle.std.proofs.Common.{◌≡◌, List, ℕ, subst, sym}
use Rattle.query_lang.specs.Tokens.{quoted}
use Rattle.query_lang.proofs.ScanLaws.{following, quoted_step}
use Rattle.query_lang.proofs.scan.quoted.Goals as goal

pub bytes-preserved : goal.bytes-preserved
bytes-preserved c =
    let step =
    quoted_step _ _ _ _ _ _ _ c.bytes.invariant c.in-Some.ensures.cases.0 c.if-byte-eq34.false
    c.in-Some-unescape.ensures in
    subst (λ (front : List ℕ). following front (quoted c.in-Some-unescape.after.now) ≡ quoted c.args.bytes.now)
    (sym c.in_ok-push.ensures.ok) step
