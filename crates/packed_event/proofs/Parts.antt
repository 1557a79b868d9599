-- What reading gives is what was spelled, and what was spelled is read: words for it, and what all its proofs use.
use Rattle.std.proofs.Common.{◌≡◌, ℕ, suc, ◌+◌, ◌^◌, ◌<◌, ◌⊎◌, Bool, true, false, cond, List, ◌∷◌, ◌++◌, length, get_or}
use Rattle.std.proofs.Common.{take, drop, Option, Some, None, refl, ap, subst, ◌∙◌, arith, inl, inr}
use Rattle.std.proofs.lemmas.Bool.{cases_lt}
use Rattle.std.proofs.lemmas.List.{take_at, drop_at, length-take, get_or-drop, get_or-take, get_or_past}
use Rattle.packed_event.specs.Reading.{◌>>=◌, Gives}

-- ---- bytes

abbrev pub IsBytes : List ℕ → Type 0
IsBytes bytes = (i : ℕ) → get_or bytes i 0 < 256

pub IsBytes-drop : (n : ℕ) (bytes : List ℕ) → IsBytes bytes → IsBytes (drop n bytes)
IsBytes-drop n bytes h i = rw get_or-drop (h (n + i))

pub IsBytes-take : (n : ℕ) (bytes : List ℕ) → IsBytes bytes → IsBytes (take n bytes)
IsBytes-take n bytes h i =
    elim (cases_lt i n) [
      | inl lt ↦ rw (get_or-take n bytes i 0 lt) (h i)
      | inr le ↦ rw (get_or_past (take n bytes) i 0 (omega (arith, length-take n bytes))) (omega arith)
    ]

pub IsBytes-tail : (b : ℕ) (bytes : List ℕ) → IsBytes (b ∷ bytes) → IsBytes bytes
IsBytes-tail b bytes h i = h (suc i)

pub IsBytes-rest : (bytes text rest : List ℕ) → bytes ≡ text ++ rest → IsBytes bytes → IsBytes rest
IsBytes-rest bytes text rest is h =
    subst (λ (t : List ℕ). IsBytes t) (ap (drop (length text)) is ∙ drop_at text rest (length text) refl)
    (IsBytes-drop (length text) bytes h)

pub IsBytes-front : (bytes text rest : List ℕ) → bytes ≡ text ++ rest → IsBytes bytes → IsBytes text
IsBytes-front bytes text rest is h =
    subst (λ (t : List ℕ). IsBytes t) (ap (take (length text)) is ∙ take_at text rest (length text) refl)
    (IsBytes-take (length text) bytes h)

-- ---- steps and tests that did not fail

pub bind_some : {A B : Type 0} (o : Option A) (f : A → Option B) (y : B) → (o >>= f) ≡ Some y
    → (x : A) × (o ≡ Some x) × (f x ≡ Some y)
bind_some (Some x) f y e = (x, refl, e)
bind_some None f y e = absurd cc

pub passed : {A : Type 0} (b : Bool) (o : Option A) (y : A) → cond b o None ≡ Some y → (b ≡ true) × (o ≡ Some y)
passed true o y e = (refl, e)
passed false o y e = absurd cc

pub not_refused : {A : Type 0} (b : Bool) (o : Option A) (y : A) → cond b None o ≡ Some y
    → (b ≡ false) × (o ≡ Some y)
not_refused true o y e = absurd cc
not_refused false o y e = (refl, e)

pub chosen : {A : Type 0} (b : Bool) (x y z : A) → cond b x y ≡ z → ((b ≡ true) × (x ≡ z)) ⊎ ((b ≡ false) × (y ≡ z))
chosen true x y z e = inl (refl, e)
chosen false x y z e = inr (refl, e)

abbrev pub done : {A : Type 0} → A → Option A
done x = Some x

pub some_is : {A : Type 0} (x y : A) → done x ≡ done y → x ≡ y
some_is x y e = cc

-- what a function that returned None says
pub gives_none : {X Y : Type 0} (view : X → Y) (r : Option X) (read : Option Y) → Gives view r read → r ≡ None
    → read ≡ None
gives_none view None read given is = given
gives_none view (Some x) read given is = absurd cc

-- ---- parts

abbrev pub read_as : {A : Type 0} → A → List ℕ → Option (A × List ℕ)
read_as value rest = Some (value, rest)

-- The part reads exactly the values that are good, each by its text. No text reaches 2 ^ 64 bytes.
pub record IsPart {A : Type 0} (part : List ℕ → Option (A × List ℕ)) (text : A → List ℕ) (Good : A → Type 0) : Type 0
  where
    pub sound : (bytes : List ℕ) (read : A × List ℕ) → IsBytes bytes → part bytes ≡ Some read
        → (bytes ≡ text read.0 ++ read.1) × Good read.0
    pub whole : (value : A) (rest : List ℕ) → Good value → length (text value ++ rest) < 2 ^ 64
        → part (text value ++ rest) ≡ Some (value, rest)
