-- What is found in fields that are written one after the other.
use Rattle.std.proofs.Common.{◌≡◌, ℕ, ◌+◌, ◌*◌, ◌/◌, ◌%◌, ◌^◌, ◌<◌, ◌≤◌, Bool, true, false, cond, List, [], ◌∷◌, ◌++◌}
use Rattle.std.proofs.Common.{length, map, Option, Some, None, ℤ, pos, negsuc, refl, sym, ap, subst, ◌∙◌, arith}
use Rattle.std.proofs.Common.{length-append}
use Rattle.std.specs.Prelude.{IfSome, FitsSigned}
use Rattle.std.specs.Int.{w64}
use Rattle.std.specs.List.{AllByRecursion, filter_map, cons_option, last_or}
use Rattle.std.specs.Option.{option_map, option_to_list, option_and_then}
use Rattle.std.specs.Str.{is_utf8}
use Rattle.std.proofs.lemmas.Bool.{false≢true}
use Rattle.std.proofs.lemmas.Int.{to_z-of_z}
use Rattle.ev_types.specs.declared.event.Attr.{Attr}
use Rattle.pb_wire.specs.Fields.{FieldAt, fields_of}
use Rattle.pb_wire.specs.Spelling.{Content, Varint, Eight, Bytes, Four, field_spelling}
use Rattle.pb_wire.specs.Varint.{varint}
use Rattle.pb_wire.specs.ReadBack.{FieldValue, Fits, IsField, value_spelling, values_of}
use Rattle.pb_wire.proofs.ReadBackLaws.{fields_read_back}
use Rattle.riemann_msg.specs.Ttl.{IsSpellableTtl, bits_of}
use Rattle.riemann_msg.specs.Value.{int64_in, sint64_in, ttl_in, unzigzag}
use Rattle.riemann_msg.specs.Fault.{Fault, first_by, first_of}
use Rattle.riemann_msg.specs.Spelling.{field, optional, repeated, spelled, zigzag, int64, sint64}
use Rattle.riemann_msg.specs.Draft.{value_at}
use Rattle.riemann_msg.proofs.TtlBits.{seconds_from_ttl, bits_of_spells}

-- ---- what is found in fields that were put one after the other

pub found_in_both : {A B : Type 0} (f : A → Option B) (xs ys : List A)
    → filter_map f (xs ++ ys) ≡ filter_map f xs ++ filter_map f ys
found_in_both f [] ys = refl
found_in_both {B = B} f (x ∷ xs) ys =
    ap (cons_option (f x)) (found_in_both f xs ys) ∙ one (f x) (filter_map f xs) (filter_map f ys)
  where
    one : (found : Option B) (front back : List B) → cons_option found (front ++ back) ≡ cons_option found front ++ back
    one None front back = refl
    one (Some y) front back = refl

pub found_in_option : {A B C : Type 0} (f : B → Option C) (g : A → B) (o : Option A)
    → filter_map f (option_to_list (option_map g o)) ≡ option_to_list (option_and_then (λ x. f (g x)) o)
found_in_option f g None = refl
found_in_option {C = C} f g (Some x) = one (f (g x))
  where
    one : (found : Option C) → cons_option found [] ≡ option_to_list found
    one None = refl
    one (Some y) = refl

pub found_in_map : {A B C : Type 0} (f : B → Option C) (g : A → B) (xs : List A)
    → filter_map f (map g xs) ≡ filter_map (λ x. f (g x)) xs
found_in_map f g [] = refl
found_in_map f g (x ∷ xs) = ap (cons_option (f (g x))) (found_in_map f g xs)

pub none_in_option : {A B : Type 0} (o : Option A) → option_and_then {T = A} {U = B} (λ x. None) o ≡ None
none_in_option None = refl
none_in_option (Some x) = refl

pub none_in_list : {A B : Type 0} (xs : List A) → filter_map {X = A} {Y = B} (λ x. None) xs ≡ []
none_in_list [] = refl
none_in_list (x ∷ xs) = none_in_list xs

-- a function that gives each item back
pub some_in_option : {A : Type 0} (f : A → Option A) (o : Option A) → IfSome o (λ x. f x ≡ Some x)
    → option_and_then f o ≡ o
some_in_option f None back = refl
some_in_option f (Some x) back = back

pub some_in_list : {A : Type 0} (f : A → Option A) (xs : List A) → AllByRecursion (λ x. f x ≡ Some x) xs
    → filter_map f xs ≡ xs
some_in_list f [] back = refl
some_in_list f (x ∷ xs) back = rw back.0 (ap (λ ys. x ∷ ys) (some_in_list f xs back.1))

pub last_of_option : {A : Type 0} (o : Option A) → last_or None (option_to_list o) ≡ o
last_of_option None = refl
last_of_option (Some x) = refl

pub some_if : {A : Type 0} (P Q : A → Type 0) (o : Option A) → IfSome o P → ((x : A) → P x → Q x) → IfSome o Q
some_if P Q None reported each = tt
some_if P Q (Some x) reported each = each x reported

pub all_if : {A : Type 0} (P Q : A → Type 0) (xs : List A) → AllByRecursion P xs → ((x : A) → P x → Q x)
    → AllByRecursion Q xs
all_if P Q [] reported each = tt
all_if P Q (x ∷ xs) reported each = (each x reported.0, all_if P Q xs reported.1 each)

-- ---- numbers

abbrev pub some_attribute : Attr → Option Attr
some_attribute attribute = Some attribute

abbrev some_number : ℤ → Option ℤ
some_number number = Some number

unzigzag-zigzag : (value : ℤ) → unzigzag (zigzag value) ≡ value
unzigzag-zigzag (pos n) =
    let even : 2 * n % 2 ≡ 0 = omega arith in
    let half : 2 * n / 2 ≡ n = omega arith in
    rw (even, half) refl
unzigzag-zigzag (negsuc n) =
    let odd : (2 * n + 1) % 2 ≡ 1 = omega arith in
    let half : (2 * n + 1) / 2 ≡ n = omega arith in
    rw (odd, half) refl

pub int64_again : (number : ℤ) → FitsSigned w64 number → int64_in (int64 number) ≡ Some number
int64_again number fits = ap some_number (to_z-of_z w64 number fits)

pub sint64_again : (number : ℤ) → sint64_in (sint64 number) ≡ Some number
sint64_again number = ap some_number (unzigzag-zigzag number)

pub ttl_again : (ttl : ℕ) → IsSpellableTtl ttl → ttl_in (Four (bits_of ttl)) ≡ Some ttl
ttl_again ttl can = seconds_from_ttl (bits_of ttl) ttl (bits_of_spells ttl can)

-- ---- fields that are written are read again, and none of them has a fault

abbrev pub NumberFits : Content → Type 0
NumberFits (Varint value) = value < 2 ^ 64
NumberFits (Eight value) = value < 2 ^ 64
NumberFits (Four value) = value < 2 ^ 32
NumberFits (Bytes bytes) = Unit {0}

abbrev pub BytesWithin : ℕ → Content → Type 0
BytesWithin n (Bytes bytes) = length bytes ≤ n
BytesWithin n (Varint value) = Unit {0}
BytesWithin n (Eight value) = Unit {0}
BytesWithin n (Four value) = Unit {0}

pub record IsNumbered (value : FieldValue) : Type 0 where
  pub positive : 0 < value.number
  pub small : value.number < 2 ^ 29
  pub fits : NumberFits value.content

pub all_append : {A : Type 0} (P : A → Type 0) (xs ys : List A) → AllByRecursion P xs → AllByRecursion P ys
    → AllByRecursion P (xs ++ ys)
all_append P [] ys front back = back
all_append P (x ∷ xs) ys front back = (front.0, all_append P xs ys front.1 back)

pub all_optional : {A : Type 0} (P : FieldValue → Type 0) (number : ℕ) (content : A → Content) (o : Option A)
    → IfSome o (λ x. P (field number (content x))) → AllByRecursion P (optional number content o)
all_optional P number content None reported = tt
all_optional P number content (Some x) reported = (reported, tt)

pub all_repeated : {A : Type 0} (P : FieldValue → Type 0) (number : ℕ) (content : A → Content) (xs : List A)
    → AllByRecursion (λ x. P (field number (content x))) xs → AllByRecursion P (repeated number content xs)
all_repeated P number content [] reported = tt
all_repeated P number content (x ∷ xs) reported = (reported.0, all_repeated P number content xs reported.1)

pub from_repeated : {A : Type 0} (P : FieldValue → Type 0) (number : ℕ) (content : A → Content) (xs : List A)
    → AllByRecursion P (repeated number content xs) → AllByRecursion (λ x. P (field number (content x))) xs
from_repeated P number content [] reported = tt
from_repeated P number content (x ∷ xs) reported = (reported.0, from_repeated P number content xs reported.1)

pub from_back : {A : Type 0} (P : A → Type 0) (xs ys : List A) → AllByRecursion P (xs ++ ys) → AllByRecursion P ys
from_back P [] ys all = all
from_back P (x ∷ xs) ys all = from_back P xs ys all.1

pub from_front : {A : Type 0} (P : A → Type 0) (xs ys : List A) → AllByRecursion P (xs ++ ys) → AllByRecursion P xs
from_front P [] ys all = tt
from_front P (x ∷ xs) ys all = (all.0, from_front P xs ys all.1)

pub both_all : {A : Type 0} (P Q R : A → Type 0) (xs : List A) → ((x : A) → P x → Q x → R x) → AllByRecursion P xs
    → AllByRecursion Q xs → AllByRecursion R xs
both_all P Q R [] each p q = tt
both_all P Q R (x ∷ xs) each p q = (each x p.0 q.0, both_all P Q R xs each p.1 q.1)

-- each body is shorter than the bytes of all fields
body_within : (n number : ℕ) (content : Content) → length (field_spelling number content) ≤ n → BytesWithin n content
unfolding field_spelling
body_within n number (Varint value) short = tt
body_within n number (Eight value) short = tt
body_within n number (Four value) short = tt
body_within n number (Bytes bytes) short =
    omega (
      arith,
      length-append (varint (number * 8 + 2)) (varint (length bytes) ++ bytes),
      length-append (varint (length bytes)) bytes,
    )

pub bodies_within : (n : ℕ) (values : List FieldValue) → length (spelled values) ≤ n
    → AllByRecursion (λ value. BytesWithin n value.content) values
bodies_within n [] short = tt
bodies_within n (value ∷ values) short =
    let parts = length-append (value_spelling value) (spelled values) in
    (body_within n value.number value.content (omega (arith, parts)), bodies_within n values (omega (arith, parts)))

is_field : (n : ℕ) → n < 2 ^ 64 → (value : FieldValue) → IsNumbered value → BytesWithin n value.content → IsField value
is_field n small value numbered short =
    record { positive = numbered.positive; small = numbered.small; fits = fits value.content numbered.fits short }
  where
    fits : (content : Content) → NumberFits content → BytesWithin n content → Fits content
    fits (Varint value) known within = known
    fits (Eight value) known within = known
    fits (Four value) known within = known
    fits (Bytes bytes) known within = omega arith

first_clean : (fault : FieldAt → Option Fault) (Clean : FieldValue → Type 0) (bytes : List ℕ) (fields : List FieldAt)
    → ((field : FieldAt) → Clean (value_at bytes field) → fault field ≡ None)
    → AllByRecursion Clean (map (value_at bytes) fields) → first_of fault fields ≡ None
first_clean fault Clean bytes [] each clean = refl
first_clean fault Clean bytes (field ∷ fields) each clean =
    rw (each field clean.0) (first_clean fault Clean bytes fields each clean.1)

pub read_again : (fault : List ℕ → FieldAt → Option Fault) (Clean : FieldValue → Type 0) (values : List FieldValue)
    → ((bytes : List ℕ) (field : FieldAt) → Clean (value_at bytes field) → fault bytes field ≡ None)
    → AllByRecursion IsNumbered values → AllByRecursion Clean values → length (spelled values) < 2 ^ 64
    → (values_of (spelled values) ≡ values) × (first_by (fault (spelled values)) (spelled values) ≡ None)
unfolding values_of
read_again fault Clean values each numbered clean short =
    let n = length (spelled values) in
    let fields =
    both_all IsNumbered (λ value. BytesWithin n value.content) IsField values (is_field n short) numbered
    (bodies_within n values (omega arith)) in
    let back = fields_read_back values fields in
    let none : first_of (fault (spelled values)) (fields_of (spelled values)) ≡ None =
    first_clean (fault (spelled values)) Clean (spelled values) (fields_of (spelled values)) (each (spelled values))
    (subst (λ (vs : List FieldValue). AllByRecursion Clean vs) (sym back.0) clean) in
    (back.0, rw (none, back.1) refl)

-- ---- tests that a body meets

pub cond_none : (test : Bool) (x y : Option Fault) → (test ≡ true → x ≡ None) → (test ≡ false → y ≡ None)
    → cond test x y ≡ None
cond_none true x y then else' = then refl
cond_none false x y then else' = else' refl

pub utf8_none : (bytes : List ℕ) (x : Option Fault) → is_utf8 bytes ≡ true → cond (is_utf8 bytes) None x ≡ None
utf8_none bytes x is = rw is refl

pub no : {A : Type 0} → false ≡ true → A
no e = absurd (false≢true e)
