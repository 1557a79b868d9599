-- What a text holds after calls that appended to it, of which the last one may be out of memory.
use Rattle.std.proofs.Common.{◌≡◌, ℕ, List, ◌++◌, ap, ◌∙◌, append_assoc}
use Rattle.std.specs.Prelude.{Result, Ok, Err, IsErrAnd, OnOk, OnErr}
use Rattle.list_laws.specs.Prefix.{IsPrefix}

pub not_written : {T E : Type 0} (Q : E → Type 0) (answer : Result T E) (P : Type 0) → IsErrAnd answer Q
    → OnOk answer P
not_written Q (Ok value) P h = absurd h
not_written Q (Err error) P h = tt

-- what was there before is still there: after the first call, or after calls that appended
pub begins0 : {T E : Type 0} (answer : Result T E) (out new : List ℕ) → IsPrefix out new
    → OnErr answer (IsPrefix out new)
begins0 (Ok value) out new h = tt
begins0 (Err error) out new h = h

pub begins1 : {T E : Type 0} (answer : Result T E) (out a new x : List ℕ) → a ≡ out ++ x → IsPrefix a new
    → OnErr answer (IsPrefix out new)
begins1 answer out a new x p (rest, is) =
    begins0 answer out new (x ++ rest, is ∙ ap (λ (bytes : List ℕ). bytes ++ rest) p ∙ append_assoc out x rest)

pub begins2 : {T E : Type 0} (answer : Result T E) (out a b new x y : List ℕ) → a ≡ out ++ x → b ≡ a ++ y
    → IsPrefix b new → OnErr answer (IsPrefix out new)
begins2 answer out a b new x y p q h =
    begins1 answer out b new (x ++ y) (q ∙ (ap (λ (bytes : List ℕ). bytes ++ y) p ∙ append_assoc out x y)) h

pub begins3 : {T E : Type 0} (answer : Result T E) (out a b c new x y z : List ℕ) → a ≡ out ++ x → b ≡ a ++ y
    → c ≡ b ++ z → IsPrefix c new → OnErr answer (IsPrefix out new)
begins3 answer out a b c new x y z p q r h =
    begins2 answer out b c new (x ++ y) z (q ∙ (ap (λ (bytes : List ℕ). bytes ++ y) p ∙ append_assoc out x y)) r h
