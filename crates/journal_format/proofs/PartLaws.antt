-- Parts that were added one after the other.
use Rattle.list_laws.specs.Prefix.{IsPrefix}
use Rattle.std.proofs.Common.{◌≡◌, ℕ, List, ◌++◌, Result, Ok, Err, OnErr, ap, ◌∙◌, append_assoc}
use Rattle.std.specs.Prelude.{OnOk, IsErrAnd}

pub three_more : (out a b c first second third : List ℕ) → first ≡ out ++ a → second ≡ first ++ b → third ≡ second ++ c
    → third ≡ out ++ (a ++ (b ++ c))
three_more out a b c first second third e f g =
    g ∙ ap (λ (t : List ℕ). t ++ c) (f ∙ ap (λ (t : List ℕ). t ++ b) e) ∙ append_assoc (out ++ a) b c
    ∙ append_assoc out a (b ++ c)

-- a record is its front and its event
pub front_then : (out a b c e front whole : List ℕ) → front ≡ out ++ (a ++ (b ++ c)) → whole ≡ front ++ e
    → whole ≡ out ++ (a ++ (b ++ (c ++ e)))
front_then out a b c e front whole f w =
    w ∙ ap (λ (t : List ℕ). t ++ e) f ∙ append_assoc out (a ++ (b ++ c)) e
    ∙ ap (λ (t : List ℕ). out ++ t) (append_assoc a (b ++ c) e ∙ ap (λ (t : List ℕ). a ++ t) (append_assoc b c e))

-- the last part may not be added

pub two_end : {T E : Type 0} (answer : Result T E) (out a b first whole : List ℕ) → first ≡ out ++ a
    → OnOk answer (whole ≡ first ++ b) → OnOk answer (whole ≡ out ++ (a ++ b))
two_end (Ok value) out a b first whole f w = w ∙ ap (λ (t : List ℕ). t ++ b) f ∙ append_assoc out a b
two_end (Err error) out a b first whole f w = tt

pub three_end : {T E : Type 0} (answer : Result T E) (out a b c first second whole : List ℕ) → first ≡ out ++ a
    → second ≡ first ++ b → OnOk answer (whole ≡ second ++ c) → OnOk answer (whole ≡ out ++ (a ++ (b ++ c)))
three_end (Ok value) out a b c first second whole f g w = three_more out a b c first second whole f g w
three_end (Err error) out a b c first second whole f g w = tt

pub front_end : {T E : Type 0} (answer : Result T E) (out a b c e front whole : List ℕ)
    → front ≡ out ++ (a ++ (b ++ c)) → OnOk answer (whole ≡ front ++ e)
    → OnOk answer (whole ≡ out ++ (a ++ (b ++ (c ++ e))))
front_end (Ok value) out a b c e front whole f w = front_then out a b c e front whole f w
front_end (Err error) out a b c e front whole f w = tt

-- ---- what memory that ran out leaves

pub not_added : {T E : Type 0} (Q : E → Type 0) (answer : Result T E) (P : Type 0) → IsErrAnd answer Q
    → OnOk answer P
not_added Q (Ok value) P h = absurd h
not_added Q (Err error) P h = tt

pub prefix_more : (out part whole more : List ℕ) → part ≡ out ++ more → IsPrefix part whole → IsPrefix out whole
prefix_more out part whole more part_is (rest, is) =
    (more ++ rest, is ∙ ap (λ (t : List ℕ). t ++ rest) part_is ∙ append_assoc out more rest)

pub prefix_same : (out whole more : List ℕ) → whole ≡ out ++ more → IsPrefix out whole
prefix_same out whole more is = (more, is)

-- what holds at any answer
pub if_err : {T E : Type 0} (answer : Result T E) (P : Type 0) → P → OnErr answer P
if_err (Ok value) P p = tt
if_err (Err error) P p = p

pub prefix_two : (out a b first second whole : List ℕ) → first ≡ out ++ a → second ≡ first ++ b
    → IsPrefix second whole → IsPrefix out whole
prefix_two out a b first second whole f g p = prefix_more out first whole a f (prefix_more first second whole b g p)

pub two_cut : {T E : Type 0} (answer : Result T E) (out a first whole : List ℕ) → first ≡ out ++ a
    → OnErr answer (IsPrefix first whole) → OnErr answer (IsPrefix out whole)
two_cut (Ok value) out a first whole f p = tt
two_cut (Err error) out a first whole f p = prefix_more out first whole a f p

pub three_cut : {T E : Type 0} (answer : Result T E) (out a b first second whole : List ℕ) → first ≡ out ++ a
    → second ≡ first ++ b → OnErr answer (IsPrefix second whole) → OnErr answer (IsPrefix out whole)
three_cut (Ok value) out a b first second whole f g p = tt
three_cut (Err error) out a b first second whole f g p = prefix_two out a b first second whole f g p
