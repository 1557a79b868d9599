-- What reading gives without the tests of a part is what it gives with them, wherever that gives anything.
use Rattle.std.proofs.Common.{◌≡◌, ℕ, zero, suc, eqb, List, [], ◌∷◌, length, Option, Some, None, ℤ, ap, ◌∙◌}
use Rattle.std.proofs.Common.{inl, inr}
use Rattle.std.specs.Int.{w32}
use Rattle.std.specs.Ordering.{int_eq}
use Rattle.std.specs.Str.{is_utf8}
use Rattle.ev_types.specs.declared.event.Attr.{Attr}
use Rattle.riemann_msg.specs.Ttl.{bits_of, seconds_of}
use Rattle.riemann_msg.specs.Value.{second_of}
use Rattle.packed_event.specs.Reading.{◌>>=◌, attribute_in, attribute_part, bytes_part, int64_part, micros_part}
use Rattle.packed_event.specs.Reading.{number_part, optional, repeated, repeated_within, text_part, ttl_part}
use Rattle.packed_event.proofs.Parts.{bind_some, chosen, done, passed, read_as, some_is}

-- ---- the same value

-- the loose part gives what the part gives
abbrev pub IsLooser : {A : Type 0} → (List ℕ → Option (A × List ℕ)) → (List ℕ → Option (A × List ℕ)) → Type 0
IsLooser {A = A} part loose = (bytes : List ℕ) (read : A × List ℕ) → part bytes ≡ Some read → loose bytes ≡ Some read

pub text_is_looser : IsLooser text_part bytes_part
unfolding text_part
text_is_looser bytes read e =
    let b = bind_some (bytes_part bytes) _ read e in
    let p = passed (is_utf8 b.0.0) (done b.0) read b.2 in
    b.1 ∙ p.1

pub micros_are_looser : (time : ℤ) → IsLooser (micros_part time) int64_part
unfolding micros_part
micros_are_looser time bytes read e =
    let b = bind_some (int64_part bytes) _ read e in
    let p = passed (int_eq (second_of b.0.0) time) (done b.0) read b.2 in
    b.1 ∙ p.1

abbrev some_of : {A : Type 0} → A → Option A
some_of x = Some x

abbrev maybe_read : {A : Type 0} → Option A → List ℕ → Option (Option A × List ℕ)
maybe_read value rest = Some (value, rest)

pub optional_same : {A : Type 0} (part loose : List ℕ → Option (A × List ℕ)) → IsLooser part loose → (tag : ℕ)
    → IsLooser (optional tag part) (optional tag loose)
unfolding optional
optional_same part loose is tag [] read e = e
optional_same {A = A} part loose is tag (byte ∷ bytes) read e =
    elim (chosen (eqb byte tag) (part bytes >>= λ (v : A × List ℕ). maybe_read (some_of v.0) v.1)
    (maybe_read None (byte ∷ bytes)) (done read) e) [
      | inl t ↦
          (let b = bind_some (part bytes) (λ (v : A × List ℕ). maybe_read (some_of v.0) v.1) read t.1 in
          rw (t.0, is bytes b.0 b.1) b.2)
      | inr f ↦ rw f.0 f.1
    ]

abbrev items_read : {A : Type 0} → List A → List ℕ → Option (List A × List ℕ)
items_read items rest = Some (items, rest)

within_same : {A : Type 0} (part loose : List ℕ → Option (A × List ℕ)) → IsLooser part loose → (tag n : ℕ)
    → IsLooser (repeated_within n tag part) (repeated_within n tag loose)
unfolding repeated_within
within_same part loose is tag zero bytes read e = e
within_same part loose is tag (suc n) [] read e = e
within_same {A = A} part loose is tag (suc n) (byte ∷ bytes) read e =
    elim (chosen (eqb byte tag) (part bytes >>= λ (item : A × List ℕ). repeated_within n tag part item.1
    >>= λ (items : List A × List ℕ). items_read (item.0 ∷ items.0) items.1)
    (items_read [] (byte ∷ bytes)) (done read) e) [
      | inl t ↦
          (let b = bind_some (part bytes) (λ (item : A × List ℕ). repeated_within n tag part item.1
          >>= λ (items : List A × List ℕ). items_read (item.0 ∷ items.0) items.1) read t.1 in
          let c = bind_some (repeated_within n tag part b.0.1) (λ (items : List A × List ℕ). items_read
          (b.0.0 ∷ items.0) items.1) read b.2 in
          rw (t.0, is bytes b.0 b.1, within_same part loose is tag n b.0.1 c.0 c.1) c.2)
      | inr f ↦ rw f.0 f.1
    ]

pub repeated_same : {A : Type 0} (part loose : List ℕ → Option (A × List ℕ)) → IsLooser part loose → (tag : ℕ)
    (bytes : List ℕ) (read : List A × List ℕ)
    → repeated tag part bytes ≡ Some read → repeated tag loose bytes ≡ Some read
repeated_same part loose is tag bytes read e = within_same part loose is tag (length bytes) bytes read e

-- ---- another value, and the same rest

-- the loose part gives something, with the rest that the part gives
abbrev pub IsAsLong : {A B : Type 0} → (List ℕ → Option (A × List ℕ)) → (List ℕ → Option (B × List ℕ)) → Type 0
IsAsLong {A = A} {B = B} part loose =
    (bytes : List ℕ) (read : A × List ℕ) → part bytes ≡ Some read → (value : B) × (loose bytes ≡ Some (value, read.1))

pub attribute_is_as_long : IsAsLong attribute_part bytes_part
unfolding attribute_part
attribute_is_as_long bytes read e =
    let a = bind_some (bytes_part bytes) _ read e in
    let b = bind_some (attribute_in a.0.0) (λ (attribute : Attr). read_as attribute a.0.1) read a.2 in
    let is = some_is {A = Attr × List ℕ} (b.0, a.0.1) read b.2 in
    (a.0.0, a.1 ∙ ap (λ (rest : List ℕ). read_as a.0.0 rest) (ap (λ (r : Attr × List ℕ). r.1) is))

pub ttl_is_as_long : IsAsLong ttl_part (number_part w32)
unfolding ttl_part
ttl_is_as_long bytes read e =
    let a = bind_some (number_part w32 bytes) _ read e in
    let b = bind_some (seconds_of a.0.0) _ read a.2 in
    let p = passed (eqb (bits_of b.0) a.0.0) (read_as b.0 a.0.1) read b.2 in
    let is = some_is {A = ℕ × List ℕ} (b.0, a.0.1) read p.1 in
    (a.0.0, a.1 ∙ ap (λ (rest : List ℕ). read_as a.0.0 rest) (ap (λ (r : ℕ × List ℕ). r.1) is))

pub optional_as_long : {A B : Type 0} (part : List ℕ → Option (A × List ℕ)) (loose : List ℕ → Option (B × List ℕ))
    → IsAsLong part loose → (tag : ℕ) → IsAsLong (optional tag part) (optional tag loose)
unfolding optional
optional_as_long {A = A} part loose is tag [] read e =
    let same = some_is {A = Option A × List ℕ} (None, []) read e in
    (None, ap (λ (rest : List ℕ). maybe_read None rest) (ap (λ (r : Option A × List ℕ). r.1) same))
optional_as_long {A = A} {B = B} part loose is tag (byte ∷ bytes) read e =
    elim (chosen (eqb byte tag) (part bytes >>= λ (v : A × List ℕ). maybe_read (some_of v.0) v.1)
    (maybe_read None (byte ∷ bytes)) (done read) e) [
      | inl t ↦
          (let b = bind_some (part bytes) (λ (v : A × List ℕ). maybe_read (some_of v.0) v.1) read t.1 in
          let l = is bytes b.0 b.1 in
          let same = some_is {A = Option A × List ℕ} (some_of b.0.0, b.0.1) read b.2 in (
            some_of l.0,
            rw (t.0, l.1)
                (ap (λ (rest : List ℕ). maybe_read (some_of l.0) rest) (ap (λ (r : Option A × List ℕ). r.1) same)),
          ))
      | inr f ↦
          (let same = some_is {A = Option A × List ℕ} (None, byte ∷ bytes) read f.1 in (
            None,
            rw f.0
                (ap (λ (rest : List ℕ). maybe_read {A = B} None rest) (ap (λ (r : Option A × List ℕ). r.1) same)),
          ))
    ]

within_as_long : {A B : Type 0} (part : List ℕ → Option (A × List ℕ)) (loose : List ℕ → Option (B × List ℕ))
    → IsAsLong part loose → (tag n : ℕ) → IsAsLong (repeated_within n tag part) (repeated_within n tag loose)
unfolding repeated_within
within_as_long {A = A} {B = B} part loose is tag zero bytes read e =
    let same = some_is {A = List A × List ℕ} ([], bytes) read e in
    ([], ap (λ (rest : List ℕ). items_read {A = B} [] rest) (ap (λ (r : List A × List ℕ). r.1) same))
within_as_long {A = A} {B = B} part loose is tag (suc n) [] read e =
    let same = some_is {A = List A × List ℕ} ([], []) read e in
    ([], ap (λ (rest : List ℕ). items_read {A = B} [] rest) (ap (λ (r : List A × List ℕ). r.1) same))
within_as_long {A = A} {B = B} part loose is tag (suc n) (byte ∷ bytes) read e =
    elim (chosen (eqb byte tag) (part bytes >>= λ (item : A × List ℕ). repeated_within n tag part item.1
    >>= λ (items : List A × List ℕ). items_read (item.0 ∷ items.0) items.1)
    (items_read [] (byte ∷ bytes)) (done read) e) [
      | inl t ↦
          (let b = bind_some (part bytes) (λ (item : A × List ℕ). repeated_within n tag part item.1
          >>= λ (items : List A × List ℕ). items_read (item.0 ∷ items.0) items.1) read t.1 in
          let c = bind_some (repeated_within n tag part b.0.1) (λ (items : List A × List ℕ). items_read
          (b.0.0 ∷ items.0) items.1) read b.2 in
          let l = is bytes b.0 b.1 in
          let more = within_as_long part loose is tag n b.0.1 c.0 c.1 in
          let same = some_is {A = List A × List ℕ} (b.0.0 ∷ c.0.0, c.0.1) read c.2 in (
            l.0 ∷ more.0,
            rw (t.0, l.1, more.1)
                (ap (λ (rest : List ℕ). items_read (l.0 ∷ more.0) rest) (ap (λ (r : List A × List ℕ). r.1) same)),
          ))
      | inr f ↦
          (let same = some_is {A = List A × List ℕ} ([], byte ∷ bytes) read f.1 in (
            [],
            rw f.0
                (ap (λ (rest : List ℕ). items_read {A = B} [] rest) (ap (λ (r : List A × List ℕ). r.1) same)),
          ))
    ]

pub repeated_as_long : {A B : Type 0} (part : List ℕ → Option (A × List ℕ)) (loose : List ℕ → Option (B × List ℕ))
    → IsAsLong part loose → (tag : ℕ) (bytes : List ℕ) (read : List A × List ℕ)
    → repeated tag part bytes ≡ Some read → (items : List B) × (repeated tag loose bytes ≡ Some (items, read.1))
repeated_as_long part loose is tag bytes read e = within_as_long part loose is tag (length bytes) bytes read e
