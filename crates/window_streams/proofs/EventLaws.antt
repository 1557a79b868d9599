-- Lists that are one element longer, and the greatest of a list.
use Rattle.std.proofs.Common.{◌≡◌, ℤ, Bool, true, false, cond, List, [], ◌∷◌, ◌++◌, map, filter, refl, ap}
use Rattle.std.specs.Int.{int_max}
use Rattle.stream_meaning.specs.Windows.{greatest}

pub greatest-more : (a : ℤ) (bs : List ℤ) (b : ℤ) → greatest a (bs ++ b ∷ []) ≡ int_max (greatest a bs) b
greatest-more a [] b = refl
greatest-more a (first ∷ bs) b = greatest-more (int_max a first) bs b

module _ {A B : Type 0} where
  pub map-more : (f : A → B) (xs : List A) (x : A) → map f (xs ++ x ∷ []) ≡ map f xs ++ f x ∷ []
  map-more f [] x = refl
  map-more f (first ∷ xs) x = ap (λ bs. f first ∷ bs) (map-more f xs x)

module _ {A : Type 0} (p : A → Bool) where
  pub filter-more : (xs : List A) (x : A) → filter p (xs ++ x ∷ []) ≡ filter p xs ++ cond (p x) (x ∷ []) []
  filter-more [] x = refl
  filter-more (first ∷ xs) x = by_test (p first) (filter-more xs x)
    where
      by_test : (t : Bool) → filter p (xs ++ x ∷ []) ≡ filter p xs ++ cond (p x) (x ∷ []) [] →
          cond t (first ∷ filter p (xs ++ x ∷ [])) (filter p (xs ++ x ∷ []))
          ≡ cond t (first ∷ filter p xs) (filter p xs) ++ cond (p x) (x ∷ []) []
      by_test true e = ap (λ rest. first ∷ rest) e
      by_test false e = e
