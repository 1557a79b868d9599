-- Fields that are there, that may be absent, and that are there any number of times.
use Rattle.std.proofs.Common.{◌≡◌, ℕ, zero, suc, ◌^◌, ◌<◌, ◌≤◌, eqb, List, [], ◌∷◌, ◌++◌, length, Option, Some, None}
use Rattle.std.proofs.Common.{refl, sym, ap, subst, ◌∙◌, append_assoc, length-append, arith, inl, inr}
use Rattle.std.specs.Prelude.{IfSome}
use Rattle.std.specs.List.{AllByRecursion}
use Rattle.std.proofs.lemmas.Bool.{eqb-true, eq-eqb, ne_eqb}
use Rattle.packed_event.specs.Reading.{◌>>=◌, at_end, optional, repeated, repeated_within, required}
use Rattle.packed_event.proofs.Parts.{IsBytes, IsBytes-tail, IsBytes-rest, IsPart, bind_some, chosen, done, passed}
use Rattle.packed_event.proofs.Parts.{some_is}

abbrev pub optional_text : {A : Type 0} → ℕ → (A → List ℕ) → Option A → List ℕ
optional_text tag text None = []
optional_text tag text (Some value) = tag ∷ text value

abbrev pub repeated_text : {A : Type 0} → ℕ → (A → List ℕ) → List A → List ℕ
repeated_text tag text [] = []
repeated_text tag text (item ∷ items) = tag ∷ (text item ++ repeated_text tag text items)

-- the bytes begin with no tag up to this one
abbrev pub Follows : ℕ → List ℕ → Type 0
Follows tag [] = Unit {0}
Follows tag (byte ∷ bytes) = tag < byte

pub follows_less : (other tag : ℕ) (rest : List ℕ) → other < tag → Follows tag rest → Follows other rest
follows_less other tag [] less follows = tt
follows_less other tag (byte ∷ rest) less follows = omega arith

pub optional_follows : {A : Type 0} (other tag : ℕ) (text : A → List ℕ) (value : Option A) (rest : List ℕ) → other < tag
    → Follows tag rest → Follows other (optional_text tag text value ++ rest)
optional_follows other tag text None rest less follows = follows_less other tag rest less follows
optional_follows other tag text (Some value) rest less follows = less

pub repeated_follows : {A : Type 0} (other tag : ℕ) (text : A → List ℕ) (items : List A) (rest : List ℕ) → other < tag
    → Follows tag rest → Follows other (repeated_text tag text items ++ rest)
repeated_follows other tag text [] rest less follows = follows_less other tag rest less follows
repeated_follows other tag text (item ∷ items) rest less follows = less

-- ---- one that is there

pub required_sound : {A : Type 0} (part : List ℕ → Option (A × List ℕ)) (text : A → List ℕ) (Good : A → Type 0)
    → IsPart part text Good → (tag : ℕ) (bytes : List ℕ) (read : A × List ℕ) → IsBytes bytes
    → required tag part bytes ≡ Some read → (bytes ≡ tag ∷ (text read.0 ++ read.1)) × Good read.0
unfolding required
required_sound part text Good is tag [] read fits e = absurd cc
required_sound part text Good is tag (byte ∷ bytes) read fits e =
    let p = passed (eqb byte tag) (part bytes) read e in
    let h = is.sound bytes read (IsBytes-tail byte bytes fits) p.1 in
    (ap (λ (b : ℕ). b ∷ bytes) (eqb-true byte tag p.0) ∙ ap (λ (t : List ℕ). tag ∷ t) h.0, h.1)

pub required_whole : {A : Type 0} (part : List ℕ → Option (A × List ℕ)) (text : A → List ℕ) (Good : A → Type 0)
    → IsPart part text Good → (tag : ℕ) (value : A) (rest : List ℕ) → Good value
    → length (tag ∷ (text value ++ rest)) < 2 ^ 64
    → required tag part (tag ∷ (text value ++ rest)) ≡ Some (value, rest)
unfolding required
required_whole part text Good is tag value rest good short =
    rw (eq-eqb tag tag refl, is.whole value rest good (omega arith)) refl

-- ---- one that may be absent

abbrev maybe_read : {A : Type 0} → Option A → List ℕ → Option (Option A × List ℕ)
maybe_read value rest = Some (value, rest)

abbrev some_of : {A : Type 0} → A → Option A
some_of x = Some x

pub optional_sound : {A : Type 0} (part : List ℕ → Option (A × List ℕ)) (text : A → List ℕ) (Good : A → Type 0)
    → IsPart part text Good → (tag : ℕ) (bytes : List ℕ) (read : Option A × List ℕ) → IsBytes bytes
    → optional tag part bytes ≡ Some read → (bytes ≡ optional_text tag text read.0 ++ read.1) × IfSome read.0 Good
unfolding optional
optional_sound {A = A} part text Good is tag [] read fits e =
    subst (λ (r : Option A × List ℕ). ([] ≡ optional_text tag text r.0 ++ r.1) × IfSome r.0 Good)
    (some_is (None, []) read e) (refl, tt)
optional_sound {A = A} part text Good is tag (byte ∷ bytes) read fits e =
    elim (chosen (eqb byte tag) (part bytes >>= λ (v : A × List ℕ). maybe_read (some_of v.0) v.1)
    (maybe_read None (byte ∷ bytes)) (done read) e) [
      | inl t ↦
          (let b = bind_some (part bytes) (λ (v : A × List ℕ). maybe_read (some_of v.0) v.1) read t.1 in
          let h = is.sound bytes b.0 (IsBytes-tail byte bytes fits) b.1 in
          subst (λ (r : Option A × List ℕ). (byte ∷ bytes ≡ optional_text tag text r.0 ++ r.1) × IfSome r.0 Good)
          (some_is (some_of b.0.0, b.0.1) read b.2)
          (ap (λ (b : ℕ). b ∷ bytes) (eqb-true byte tag t.0) ∙ ap (λ (t : List ℕ). tag ∷ t) h.0, h.1))
      | inr f ↦
          subst (λ (r : Option A × List ℕ). (byte ∷ bytes ≡ optional_text tag text r.0 ++ r.1) × IfSome r.0 Good)
          (some_is (None, byte ∷ bytes) read f.1) (refl, tt)
    ]

pub optional_whole : {A : Type 0} (part : List ℕ → Option (A × List ℕ)) (text : A → List ℕ) (Good : A → Type 0)
    → IsPart part text Good → (tag : ℕ) (value : Option A) (rest : List ℕ) → IfSome value Good → Follows tag rest
    → length (optional_text tag text value ++ rest) < 2 ^ 64
    → optional tag part (optional_text tag text value ++ rest) ≡ Some (value, rest)
unfolding optional
optional_whole part text Good is tag None [] good follows short = refl
optional_whole part text Good is tag None (byte ∷ rest) good follows short =
    rw (ne_eqb byte tag (λ e. omega (arith, e, follows))) refl
optional_whole part text Good is tag (Some value) rest good follows short =
    rw (eq-eqb tag tag refl, is.whole value rest good (omega arith)) refl

-- ---- one that is there any number of times

abbrev items_read : {A : Type 0} → List A → List ℕ → Option (List A × List ℕ)
items_read items rest = Some (items, rest)

pub repeated_sound : {A : Type 0} (part : List ℕ → Option (A × List ℕ)) (text : A → List ℕ) (Good : A → Type 0)
    → IsPart part text Good → (tag n : ℕ) (bytes : List ℕ) (read : List A × List ℕ) → IsBytes bytes
    → repeated_within n tag part bytes ≡ Some read
    → (bytes ≡ repeated_text tag text read.0 ++ read.1) × AllByRecursion Good read.0
unfolding repeated_within
repeated_sound {A = A} part text Good is tag zero bytes read fits e =
    subst (λ (r : List A × List ℕ). (bytes ≡ repeated_text tag text r.0 ++ r.1) × AllByRecursion Good r.0)
    (some_is ([], bytes) read e) (refl, tt)
repeated_sound {A = A} part text Good is tag (suc n) [] read fits e =
    subst (λ (r : List A × List ℕ). ([] ≡ repeated_text tag text r.0 ++ r.1) × AllByRecursion Good r.0)
    (some_is ([], []) read e) (refl, tt)
repeated_sound {A = A} part text Good is tag (suc n) (byte ∷ bytes) read fits e =
    elim (chosen (eqb byte tag) (part bytes >>= λ (item : A × List ℕ). repeated_within n tag part item.1
    >>= λ (items : List A × List ℕ). items_read (item.0 ∷ items.0) items.1)
    (items_read [] (byte ∷ bytes)) (done read) e) [
      | inl t ↦
          (let b = bind_some (part bytes) (λ (item : A × List ℕ). repeated_within n tag part item.1
          >>= λ (items : List A × List ℕ). items_read (item.0 ∷ items.0) items.1) read t.1 in
          let c = bind_some (repeated_within n tag part b.0.1) (λ (items : List A × List ℕ). items_read
          (b.0.0 ∷ items.0) items.1) read b.2 in
          let inner = IsBytes-tail byte bytes fits in
          let h = is.sound bytes b.0 inner b.1 in
          let k =
          repeated_sound part text Good is tag n b.0.1 c.0 (IsBytes-rest bytes (text b.0.0) b.0.1 h.0 inner) c.1 in
          subst (λ (r : List A × List ℕ). (byte ∷ bytes ≡ repeated_text tag text r.0 ++ r.1) × AllByRecursion Good r.0)
          (some_is (b.0.0 ∷ c.0.0, c.0.1) read c.2) (
            ap (λ (b : ℕ). b ∷ bytes) (eqb-true byte tag t.0)
                ∙ ap (λ (t : List ℕ). tag ∷ t)
                (h.0 ∙ ap (λ (t : List ℕ). text b.0.0 ++ t) k.0
                ∙ sym (append_assoc (text b.0.0) (repeated_text tag text c.0.0) c.0.1)),
            (h.1, k.1),
          ))
      | inr f ↦
          subst (λ (r : List A × List ℕ). (byte ∷ bytes ≡ repeated_text tag text r.0 ++ r.1) × AllByRecursion Good r.0)
          (some_is ([], byte ∷ bytes) read f.1) (refl, tt)
    ]

within_whole : {A : Type 0} (part : List ℕ → Option (A × List ℕ)) (text : A → List ℕ) (Good : A → Type 0)
    → IsPart part text Good → (tag n : ℕ) (items : List A) (rest : List ℕ) → length items ≤ n
    → AllByRecursion Good items → Follows tag rest → length (repeated_text tag text items ++ rest) < 2 ^ 64
    → repeated_within n tag part (repeated_text tag text items ++ rest) ≡ Some (items, rest)
unfolding repeated_within
within_whole part text Good is tag zero [] rest few good follows short = refl
within_whole part text Good is tag zero (item ∷ items) rest few good follows short = absurd (omega arith)
within_whole part text Good is tag (suc n) [] [] few good follows short = refl
within_whole part text Good is tag (suc n) [] (byte ∷ rest) few good follows short =
    rw (ne_eqb byte tag (λ e. omega (arith, e, follows))) refl
within_whole part text Good is tag (suc n) (item ∷ items) rest few good follows short =
    let more : List ℕ = repeated_text tag text items ++ rest in
    let moved : (text item ++ repeated_text tag text items) ++ rest ≡ text item ++ more =
    append_assoc (text item) (repeated_text tag text items) rest in
    let size : length (text item ++ more) < 2 ^ 64 = omega (arith, short, ap length moved) in
    let left : length more < 2 ^ 64 = omega (arith, size, length-append (text item) more) in
    rw (
      eq-eqb tag tag refl,
      moved,
      is.whole item more good.0 size,
      within_whole part text Good is tag n items rest (omega arith) good.1 follows left,
    )
    refl

as_many : {A : Type 0} (tag : ℕ) (text : A → List ℕ) (items : List A) (rest : List ℕ)
    → length items ≤ length (repeated_text tag text items ++ rest)
as_many tag text [] rest = omega arith
as_many tag text (item ∷ items) rest =
    omega (
      arith,
      as_many tag text items rest,
      length-append (text item ++ repeated_text tag text items) rest,
      length-append (text item) (repeated_text tag text items),
      length-append (repeated_text tag text items) rest,
    )

pub repeated_whole : {A : Type 0} (part : List ℕ → Option (A × List ℕ)) (text : A → List ℕ) (Good : A → Type 0)
    → IsPart part text Good → (tag : ℕ) (items : List A) (rest : List ℕ) → AllByRecursion Good items
    → Follows tag rest → length (repeated_text tag text items ++ rest) < 2 ^ 64
    → repeated tag part (repeated_text tag text items ++ rest) ≡ Some (items, rest)
repeated_whole part text Good is tag items rest good follows short =
    within_whole part text Good is tag (length (repeated_text tag text items ++ rest)) items rest
    (as_many tag text items rest) good follows short

-- ---- the end

none_left : (rest : List ℕ) → length rest ≡ 0 → rest ≡ []
none_left [] e = refl
none_left (byte ∷ rest) e = absurd (omega (arith, e))

pub at_end_sound : {A : Type 0} (value read : A) (rest : List ℕ) → at_end value rest ≡ Some read
    → (value ≡ read) × (rest ≡ [])
at_end_sound value read rest e =
    let p = passed (eqb (length rest) 0) (some_of value) read e in
    (some_is value read p.1, none_left rest (eqb-true (length rest) 0 p.0))
