-- What the loops keep: the rest of the bytes reads as all of them do.
use Rattle.std.proofs.Common.{◌≡◌, ℕ, zero, suc, ◌+◌, ◌-◌, ◌*◌, ◌%◌, ◌^◌, ◌<◌, ◌≤◌, eqb, List, [], ◌∷◌, length, Option}
use Rattle.std.proofs.Common.{Some, None, refl, sym, ap, subst, ◌∙◌, arith, inl, inr}
use Rattle.std.proofs.Math.Nat.{mul-le-mul_left, mul-le-mul_right, pow-succ'}
use Rattle.std.proofs.lemmas.Bool.{le-ltb, lt-ltb, eq-eqb, eqb-true, ne_eqb}
use Rattle.std.specs.Option.{option_map}
use Rattle.packed_event.specs.Reading.{◌>>=◌, after_tag, digits_within, repeated, repeated_within, varint_part}
use Rattle.packed_event.proofs.Parts.{chosen, passed, read_as, some_is}

-- ---- the digits of a varint

-- the number that is read, once its first digits were
abbrev finished : ℕ → ℕ → Option (ℕ × List ℕ) → Option (ℕ × List ℕ)
finished value unit digits = digits >>= λ (more : ℕ × List ℕ). read_as (value + unit * more.0) more.1

pub record Grown (first : ℕ) (bytes : List ℕ) (more unit value : ℕ) (rest : List ℕ) : Type 0 where
  pub few : more ≤ 8
  pub unit_is : unit * 128 ^ more ≡ 2 ^ 63
  pub below : value < unit
  pub shorter : length rest ≤ length bytes
  pub read : varint_part (first ∷ bytes) ≡ finished value unit (digits_within more rest)

pub grown_first : (first : ℕ) (bytes : List ℕ) → 128 ≤ first → Grown first bytes 8 128 (first % 128) bytes
unfolding varint_part
grown_first first bytes high = record {
  few = omega arith;
  unit_is = refl;
  below = omega arith;
  shorter = omega arith;
  read = rw (le-ltb first 128 high) refl;
}

some_power : (n : ℕ) → 1 ≤ 128 ^ n
some_power zero = omega arith
some_power (suc n) = omega (arith, some_power n, pow-succ' 128 n)

unit_small : (unit more : ℕ) → unit * 128 ^ suc more ≡ 2 ^ 63 → 128 * unit ≤ 2 ^ 63
unit_small unit more is =
    let p : ℕ = 128 ^ more in
    let power : unit * 128 ^ suc more ≡ unit * (128 * p) = ap (λ (n : ℕ). unit * n) (pow-succ' 128 more) in
    let least : unit * 1 ≤ unit * p = mul-le-mul_left unit (some_power more) in
    omega (arith, power, least, is)

-- the next digit leaves room
pub digit_fits : (first : ℕ) (bytes : List ℕ) (more unit value digit : ℕ) (rest : List ℕ)
    → Grown first bytes more unit value rest → (more ≡ 0 → ⊥) → digit < 128 → value + digit * unit < 128 * unit
digit_fits first bytes more unit value digit rest grown some small =
    let most : digit * unit ≤ 127 * unit = mul-le-mul_right unit (omega arith) in
    omega (arith, most, grown.below)

pub unit_fits : (first : ℕ) (bytes : List ℕ) (more unit value : ℕ) (rest : List ℕ)
    → Grown first bytes more unit value rest → (more ≡ 0 → ⊥) → 128 * unit ≤ 2 ^ 63
unit_fits first bytes zero unit value rest grown some = absurd (some refl)
unit_fits first bytes (suc more) unit value rest grown some = unit_small unit more grown.unit_is

finished_again : (value unit digit : ℕ) (digits : Option (ℕ × List ℕ))
    → finished value unit (digits >>= λ (more : ℕ × List ℕ). read_as (digit + 128 * more.0) more.1)
    ≡ finished (value + digit * unit) (unit * 128) digits
finished_again value unit digit None = refl
finished_again value unit digit (Some more) =
    let same : value + unit * (digit + 128 * more.0) ≡ value + digit * unit + unit * 128 * more.0 = omega arith in
    ap (λ (n : ℕ). read_as n more.1) same

pub grown_more : (first : ℕ) (bytes : List ℕ) (more unit value byte : ℕ) (after : List ℕ)
    → Grown first bytes more unit value (byte ∷ after) → (more ≡ 0 → ⊥) → 128 ≤ byte
    → Grown first bytes (more - 1) (unit * 128) (value + byte % 128 * unit) after
unfolding digits_within
grown_more first bytes zero unit value byte after grown some high = absurd (some refl)
grown_more first bytes (suc more) unit value byte after grown some high =
    let less : suc more - 1 ≡ more = omega arith in
    let power : unit * 128 ^ suc more ≡ unit * (128 * 128 ^ more) = ap (λ (n : ℕ). unit * n) (pow-succ' 128 more) in
    let fits = digit_fits first bytes (suc more) unit value (byte % 128) (byte ∷ after) grown some (omega arith) in
    let read : varint_part (first ∷ bytes)
    ≡ finished value unit (digits_within more after >>= λ (m : ℕ × List ℕ). read_as (byte % 128 + 128 * m.0) m.1) =
    rw (le-ltb byte 128 high) at grown.read in
    subst (λ (n : ℕ). Grown first bytes n (unit * 128) (value + byte % 128 * unit) after) (sym less) (record {
      few = omega (arith, grown.few);
      unit_is = omega (arith, grown.unit_is, power);
      below = omega (arith, fits);
      shorter = omega (arith, grown.shorter);
      read = read ∙ finished_again value unit (byte % 128) (digits_within more after);
    })

pub grown_ends : (first : ℕ) (bytes : List ℕ) (more unit value byte : ℕ) (after : List ℕ)
    → Grown first bytes more unit value (byte ∷ after) → (more ≡ 0 → ⊥) → (byte ≡ 0 → ⊥) → byte < 128
    → varint_part (first ∷ bytes) ≡ Some (value + byte % 128 * unit, after)
unfolding digits_within
grown_ends first bytes zero unit value byte after grown some not_zero low = absurd (some refl)
grown_ends first bytes (suc more) unit value byte after grown some not_zero low =
    let same : value + unit * byte ≡ value + byte % 128 * unit =
    ap (λ (d : ℕ). value + d) (commuted unit byte ∙ ap (λ (d : ℕ). d * unit) digit) in
    rw (lt-ltb byte 128 low, ne_eqb byte 0 not_zero) at grown.read ∙ ap (λ (n : ℕ). read_as n after) same
  where
    commuted : (a b : ℕ) → a * b ≡ b * a
    commuted a b = omega arith

    digit : byte ≡ byte % 128
    digit = omega arith

pub grown_zero : (first : ℕ) (bytes : List ℕ) (more unit value byte : ℕ) (after : List ℕ)
    → Grown first bytes more unit value (byte ∷ after) → (more ≡ 0 → ⊥) → byte ≡ 0
    → varint_part (first ∷ bytes) ≡ None
unfolding digits_within
grown_zero first bytes zero unit value byte after grown some is = absurd (some refl)
grown_zero first bytes (suc more) unit value byte after grown some is =
    rw (lt-ltb byte 128 (omega arith), eq-eqb byte 0 is) at grown.read

pub grown_last : (first : ℕ) (bytes : List ℕ) (more unit value byte : ℕ) (after : List ℕ)
    → Grown first bytes more unit value (byte ∷ after) → more ≡ 0 → byte ≡ 1
    → varint_part (first ∷ bytes) ≡ Some (value + unit, after)
unfolding digits_within
grown_last first bytes zero unit value byte after grown none is =
    rw (eq-eqb byte 1 is) at grown.read
    ∙ ap (λ (n : ℕ). read_as n after) (one value unit)
  where
    one : (value unit : ℕ) → value + unit * 1 ≡ value + unit
    one value unit = omega arith
grown_last first bytes (suc more) unit value byte after grown none is = absurd (omega arith)

pub grown_past : (first : ℕ) (bytes : List ℕ) (more unit value byte : ℕ) (after : List ℕ)
    → Grown first bytes more unit value (byte ∷ after) → more ≡ 0 → (byte ≡ 1 → ⊥)
    → varint_part (first ∷ bytes) ≡ None
unfolding digits_within
grown_past first bytes zero unit value byte after grown none not_one = rw (ne_eqb byte 1 not_one) at grown.read
grown_past first bytes (suc more) unit value byte after grown none not_one = absurd (omega arith)

pub grown_cut : (first : ℕ) (bytes : List ℕ) (more unit value : ℕ) → Grown first bytes more unit value []
    → varint_part (first ∷ bytes) ≡ None
unfolding digits_within
grown_cut first bytes zero unit value grown = grown.read
grown_cut first bytes (suc more) unit value grown = grown.read

-- ---- the same, as the loop meets it

grown_at : (first : ℕ) (bytes : List ℕ) (more unit value : ℕ) (rest : List ℕ) (byte : ℕ) (after : List ℕ)
    → Grown first bytes more unit value rest → rest ≡ byte ∷ after
    → Grown first bytes more unit value (byte ∷ after)
grown_at first bytes more unit value rest byte after grown is =
    subst (λ (t : List ℕ). Grown first bytes more unit value t) is grown

pub first_at : (first : ℕ) (bytes : List ℕ) (value : ℕ) → 128 ≤ first → value ≡ first % 128
    → Grown first bytes 8 128 value bytes
first_at first bytes value high is =
    subst (λ (v : ℕ). Grown first bytes 8 128 v bytes) (sym is) (grown_first first bytes high)

pub more_at : (first : ℕ) (bytes : List ℕ) (more unit value : ℕ) (rest : List ℕ) (byte : ℕ) (after : List ℕ) (digit : ℕ)
    → Grown first bytes more unit value rest → rest ≡ byte ∷ after → (more ≡ 0 → ⊥) → 128 ≤ byte
    → digit ≡ byte % 128 → Grown first bytes (more - 1) (unit * 128) (value + digit * unit) after
more_at first bytes more unit value rest byte after digit grown is some high same =
    subst (λ (d : ℕ). Grown first bytes (more - 1) (unit * 128) (value + d * unit) after) (sym same)
    (grown_more first bytes more unit value byte after (grown_at first bytes more unit value rest byte after grown is)
    some
    high)

pub ends_at : (first : ℕ) (bytes : List ℕ) (more unit value : ℕ) (rest : List ℕ) (byte : ℕ) (after : List ℕ) (digit : ℕ)
    → Grown first bytes more unit value rest → rest ≡ byte ∷ after → (more ≡ 0 → ⊥) → (byte ≡ 0 → ⊥) → byte < 128
    → digit ≡ byte % 128 → varint_part (first ∷ bytes) ≡ Some (value + digit * unit, after)
ends_at first bytes more unit value rest byte after digit grown is some not_zero low same =
    subst (λ (d : ℕ). varint_part (first ∷ bytes) ≡ read_as (value + d * unit) after) (sym same)
    (grown_ends first bytes more unit value byte after (grown_at first bytes more unit value rest byte after grown is)
    some
    not_zero low)

pub zero_at : (first : ℕ) (bytes : List ℕ) (more unit value : ℕ) (rest : List ℕ) (byte : ℕ) (after : List ℕ)
    → Grown first bytes more unit value rest → rest ≡ byte ∷ after → (more ≡ 0 → ⊥) → byte ≡ 0
    → varint_part (first ∷ bytes) ≡ None
zero_at first bytes more unit value rest byte after grown is some zero' =
    grown_zero first bytes more unit value byte after (grown_at first bytes more unit value rest byte after grown is)
    some
    zero'

pub last_at : (first : ℕ) (bytes : List ℕ) (more unit value : ℕ) (rest : List ℕ) (byte : ℕ) (after : List ℕ)
    → Grown first bytes more unit value rest → rest ≡ byte ∷ after → more ≡ 0 → byte ≡ 1
    → varint_part (first ∷ bytes) ≡ Some (value + unit, after)
last_at first bytes more unit value rest byte after grown is none one =
    grown_last first bytes more unit value byte after (grown_at first bytes more unit value rest byte after grown is)
    none
    one

pub past_at : (first : ℕ) (bytes : List ℕ) (more unit value : ℕ) (rest : List ℕ) (byte : ℕ) (after : List ℕ)
    → Grown first bytes more unit value rest → rest ≡ byte ∷ after → more ≡ 0 → (byte ≡ 1 → ⊥)
    → varint_part (first ∷ bytes) ≡ None
past_at first bytes more unit value rest byte after grown is none not_one =
    grown_past first bytes more unit value byte after (grown_at first bytes more unit value rest byte after grown is)
    none
    not_one

pub cut_at : (first : ℕ) (bytes : List ℕ) (more unit value : ℕ) (rest : List ℕ)
    → Grown first bytes more unit value rest → length rest ≡ 0 → varint_part (first ∷ bytes) ≡ None
cut_at first bytes more unit value [] grown none = grown_cut first bytes more unit value grown
cut_at first bytes more unit value (byte ∷ rest) grown none = absurd (omega (arith, none))

-- the room for one more digit
pub record HasRoom (unit value digit : ℕ) : Type 0 where
  pub product : digit * unit < 2 ^ 64
  pub sum : value + digit * unit < 2 ^ 64
  pub next : unit * 128 < 2 ^ 64

pub room_at : (first : ℕ) (bytes : List ℕ) (more unit value : ℕ) (rest : List ℕ) (byte digit : ℕ)
    → Grown first bytes more unit value rest → (more ≡ 0 → ⊥) → digit ≡ byte % 128 → HasRoom unit value digit
room_at first bytes more unit value rest byte digit grown some same =
    let small : digit < 128 = omega (arith, same) in
    let sum = digit_fits first bytes more unit value digit rest grown some small in
    let room = unit_fits first bytes more unit value rest grown some in
    record { product = omega (arith, sum, room); sum = omega (arith, sum, room); next = omega (arith, room) }

-- ---- fields that are there any number of times

abbrev pub rest_of : {A : Type 0} → Option (A × List ℕ) → Option (List ℕ)
rest_of {A = A} read = option_map (λ (r : A × List ℕ). r.1) read

pub record Skips {A : Type 0} (tag : ℕ) (part : List ℕ → Option (A × List ℕ)) (bytes rest : List ℕ) : Type 0 where
  pub fuel : ℕ
  pub enough : length rest ≤ fuel
  pub read : rest_of (repeated tag part bytes) ≡ rest_of (repeated_within fuel tag part rest)

one_more : {A : Type 0} (n tag : ℕ) (part : List ℕ → Option (A × List ℕ)) (text after : List ℕ)
    (item : Option (A × List ℕ))
    → part text ≡ item → rest_of item ≡ Some after
    → rest_of (repeated_within (suc n) tag part (tag ∷ text)) ≡ rest_of (repeated_within n tag part after)
unfolding repeated_within
one_more n tag part text after None is given = absurd cc
one_more {A = A} n tag part text after (Some item) is given =
    rw (eq-eqb tag tag refl, is)
    (dropped item.0 (repeated_within n tag part item.1)
    ∙ ap (λ (t : List ℕ). rest_of (repeated_within n tag part t)) (some_is item.1 after given))
  where
    dropped : (first : A) (read : Option (List A × List ℕ))
        → rest_of (read >>= λ (items : List A × List ℕ). read_as (first ∷ items.0) items.1) ≡ rest_of read
    dropped first None = refl
    dropped first (Some items) = refl

none_more : {A : Type 0} (n tag : ℕ) (part : List ℕ → Option (A × List ℕ)) (text : List ℕ) (item : Option (A × List ℕ))
    → part text ≡ item → rest_of item ≡ None → rest_of (repeated_within (suc n) tag part (tag ∷ text)) ≡ None
unfolding repeated_within
none_more n tag part text None is given = rw (eq-eqb tag tag refl, is) refl
none_more n tag part text (Some item) is given = absurd cc

pub begun : (tag : ℕ) (rest text : List ℕ) → after_tag tag rest ≡ Some text → rest ≡ tag ∷ text
unfolding after_tag
begun tag [] text e = absurd cc
begun tag (byte ∷ rest) text e =
    let p = passed (eqb byte tag) (Some rest) text e in
    ap (λ (b : ℕ). b ∷ rest) (eqb-true byte tag p.0) ∙ ap (λ (t : List ℕ). tag ∷ t) (some_is rest text p.1)

pub skip_more : {A : Type 0} (tag : ℕ) (part : List ℕ → Option (A × List ℕ)) (bytes rest text after : List ℕ)
    → Skips tag part bytes rest → after_tag tag rest ≡ Some text → rest_of (part text) ≡ Some after
    → length after ≤ length text → Skips tag part bytes after
skip_more tag part bytes rest text after skips tagged given less =
    from skips.fuel (omega (arith, skips.enough, ap (length {A = ℕ}) is))
    (skips.read ∙ ap (λ (t : List ℕ). rest_of (repeated_within skips.fuel tag part t)) is)
  where
    is : rest ≡ tag ∷ text
    is = begun tag rest text tagged

    from : (n : ℕ) → length (tag ∷ text) ≤ n
        → rest_of (repeated tag part bytes) ≡ rest_of (repeated_within n tag part (tag ∷ text))
        → Skips tag part bytes after
    from zero enough read = absurd (omega arith)
    from (suc n) enough read = record {
      fuel = n;
      enough = omega arith;
      read = read ∙ one_more n tag part text after (part text) refl given;
    }

pub skip_fails : {A : Type 0} (tag : ℕ) (part : List ℕ → Option (A × List ℕ)) (bytes rest text : List ℕ)
    → Skips tag part bytes rest → after_tag tag rest ≡ Some text → rest_of (part text) ≡ None
    → rest_of (repeated tag part bytes) ≡ None
skip_fails tag part bytes rest text skips tagged given =
    from skips.fuel (omega (arith, skips.enough, ap (length {A = ℕ}) is))
    (skips.read ∙ ap (λ (t : List ℕ). rest_of (repeated_within skips.fuel tag part t)) is)
  where
    is : rest ≡ tag ∷ text
    is = begun tag rest text tagged

    from : (n : ℕ) → length (tag ∷ text) ≤ n
        → rest_of (repeated tag part bytes) ≡ rest_of (repeated_within n tag part (tag ∷ text))
        → rest_of (repeated tag part bytes) ≡ None
    from zero enough read = absurd (omega arith)
    from (suc n) enough read = read ∙ none_more n tag part text (part text) refl given

no_more : {A : Type 0} (n tag : ℕ) (part : List ℕ → Option (A × List ℕ)) (rest : List ℕ) → after_tag tag rest ≡ None
    → rest_of (repeated_within n tag part rest) ≡ Some rest
unfolding repeated_within after_tag
no_more zero tag part rest other = refl
no_more (suc n) tag part [] other = refl
no_more (suc n) tag part (byte ∷ rest) other =
    elim (chosen (eqb byte tag) (Some rest) None None other) [
      | inl is ↦ absurd (none_some rest (sym is.1))
      | inr is ↦ rw is.0 refl
    ]
  where
    none_some : (rest : List ℕ) → None ≡ Some rest → ⊥
    none_some rest e = cc

pub skip_ends : {A : Type 0} (tag : ℕ) (part : List ℕ → Option (A × List ℕ)) (bytes rest : List ℕ)
    → Skips tag part bytes rest → after_tag tag rest ≡ None → rest_of (repeated tag part bytes) ≡ Some rest
skip_ends tag part bytes rest skips other = skips.read ∙ no_more skips.fuel tag part rest other
