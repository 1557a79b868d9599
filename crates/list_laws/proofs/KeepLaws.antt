-- The kept items of a list, by number.
use Rattle.std.proofs.Common.{◌≡◌, ℕ, zero, suc, ◌<◌, Bool, true, false, cond, List, [], ◌∷◌, length, take, filter}
use Rattle.std.proofs.Common.{count_by, get_or, Some, sym, ◌∙◌, ap, refl}
use Rattle.std.specs.List.{slice_get}
use Rattle.std.proofs.lemmas.List.Sums.{length-filter}
use Rattle.std.proofs.lemmas.Option.{slice_get_read}

-- the item at the place i, where it is kept, is the one among the kept whose number is how many are kept before it
slice_get-filter : {T : Type 0} (p : T → Bool) (items : List T) (i : ℕ) (item : T) → slice_get items i ≡ Some item
    → p item ≡ true
    → slice_get (filter p items) (length (filter p (take i items))) ≡ Some item
slice_get-filter p [] i item is kept = absurd (cc)
slice_get-filter p (x ∷ items) zero item is kept = let e : p x ≡ true = cc in rw e is
slice_get-filter {T} p (x ∷ items) (suc i) item is kept =
    elim (p x) as (λ b. slice_get (cond b (x ∷ filter p items) (filter p items))
    (length (cond b (x ∷ filter p (take i items)) (filter p (take i items))))
    ≡ Some item)
    [ true ↦ slice_get-filter p items i item is kept | false ↦ slice_get-filter p items i item is kept ]

pub filter-at : {T : Type 0} (p : T → Bool) (items : List T) (i : ℕ) (item : T) → i < length items
    → item ≡ get_or items i item → p item ≡ true
    → slice_get (filter p items) (count_by p (take i items)) ≡ slice_get items i
filter-at p items i item within is kept =
    let there : slice_get items i ≡ Some item = slice_get_read items (length items) i item refl within is in
    ap (slice_get (filter p items)) (sym (length-filter p (take i items))) ∙ slice_get-filter p items i item there kept
    ∙ sym there
