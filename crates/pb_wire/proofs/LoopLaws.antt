-- Reading a varint byte by byte.
use Rattle.std.proofs.Common.{◌≡◌, ℕ, zero, suc, ◌+◌, ◌*◌, ◌%◌, ◌^◌, ◌<◌, ◌≤◌, true, false, leb, List, [], ◌∷◌, ◌++◌}
use Rattle.std.proofs.Common.{length, take, drop, get_or, Ok, Err, refl, sym, ap, subst, ◌∙◌, arith, below_more}
use Rattle.std.proofs.Common.{add-one}
use Rattle.std.proofs.Math.Nat.{pow-succ', pow-le-pow_right}
use Rattle.std.proofs.lemmas.Bool.{le-ltb, lt-leb, le-leb}
use Rattle.std.proofs.lemmas.Nat.{mul-le}
use Rattle.std.proofs.lemmas.List.{take-append-drop, length-take-le}
use Rattle.pb_wire.specs.declared.reader.WireWhy.TheVariants.{Short, Varint}
use Rattle.pb_wire.specs.Varint.{low_bits, IsLastAlone, IsVarint, high_bytes, varint_at}
use Rattle.pb_wire.proofs.VarintLaws.{read_of, cons_alone, varint_again}

-- the first i bytes have their high bit set
abbrev pub AreHigh : List ℕ → ℕ → Type 0
AreHigh bytes i = (k : ℕ) → k < i → 128 ≤ get_or bytes k 0

tail_high : (b : ℕ) (bytes : List ℕ) (i : ℕ) → AreHigh (b ∷ bytes) (suc i) → AreHigh bytes i
tail_high b bytes i high = λ k h. high (suc k) (omega arith)

-- the value so far

pub low_more : (bytes : List ℕ) (i : ℕ) → i < length bytes
    → low_bits (take (suc i) bytes) ≡ low_bits (take i bytes) + get_or bytes i 0 % 128 * 128 ^ i
low_more [] i inside = absurd (omega arith)
low_more (b ∷ bytes) zero inside = omega arith
low_more (b ∷ bytes) (suc i) inside =
    let rest = low_more bytes i (omega arith) in
    rw (pow-succ' 128 i) (omega arith)

pub low_below : (bytes : List ℕ) → low_bits bytes < 128 ^ length bytes
low_below [] = omega arith
low_below (b ∷ bytes) =
    let rest = low_below bytes in
    let power = pow-succ' 128 (length bytes) in
    omega arith

-- a byte more makes it at most 128 times as large, which fits 64 bits up to nine bytes
pub record Below (value i : ℕ) : Type 0 where
  pub power : value < 128 ^ suc i
  pub fits : 128 ^ suc i ≤ 2 ^ 63

pub one_more : (value part unit i : ℕ) → value < unit → part < 128 → unit ≡ 128 ^ i → i < 9
    → Below (value + part * unit) i
one_more value part unit i below small is few =
    let power = pow-succ' 128 i in
    let product : part * unit ≤ 127 * unit = mul-le part unit 127 unit (omega arith) (omega arith) in
    record { power = omega arith; fits = pow-le-pow_right {n = 128} (omega arith) {i = suc i} {j = 9} (omega arith) }

-- how a varint ends

ends_alone : (bytes : List ℕ) (i : ℕ) → AreHigh bytes i → i < length bytes → get_or bytes i 0 < 128
    → IsLastAlone (take (suc i) bytes)
ends_alone [] i high inside low = absurd (omega arith)
ends_alone (b ∷ bytes) zero high inside low = low
ends_alone (b ∷ bytes) (suc i) high inside low =
    cons_alone b (take (suc i) bytes) (high 0 (omega arith))
    (ends_alone bytes i (tail_high b bytes i high) (omega arith) low)

pub ends : (bytes : List ℕ) (i value : ℕ) → AreHigh bytes i → i < length bytes → get_or bytes i 0 < 128 → i < 10
    → value ≡ low_bits (take (suc i) bytes) % 2 ^ 64
    → varint_at bytes ≡ Ok (value, suc i)
ends bytes i value high inside low few is =
    let size : length (take (suc i) bytes) ≡ suc i = length-take-le (suc i) bytes (omega arith) in
    let spelled : IsVarint (take (suc i) bytes) value =
    record { last = ends_alone bytes i high inside low; few = omega arith; sum = is } in
    let read = varint_again (take (suc i) bytes) (drop (suc i) bytes) value spelled in
    let whole : take (suc i) bytes ++ drop (suc i) bytes ≡ bytes = take-append-drop (suc i) bytes in
    subst (λ (n : ℕ). varint_at bytes ≡ Ok (value, n)) size
    (subst (λ (all : List ℕ). varint_at all ≡ Ok (value, length (take (suc i) bytes))) whole read)

-- how none does

all_high : (bytes : List ℕ) → AreHigh bytes (length bytes) → high_bytes bytes ≡ length bytes
all_high [] high = refl
all_high (b ∷ bytes) high =
    rw (le-ltb b 128 (high 0 (omega arith)))
    (ap (λ (n : ℕ). suc n) (all_high bytes (tail_high b bytes (length bytes) high)))

many_high : (bytes : List ℕ) (i : ℕ) → AreHigh bytes i → i ≤ length bytes → i ≤ high_bytes bytes
many_high bytes zero high inside = omega arith
many_high [] (suc i) high inside = absurd (omega arith)
many_high (b ∷ bytes) (suc i) high inside =
    let more = many_high bytes i (tail_high b bytes i high) (omega arith) in
    rw (le-ltb b 128 (high 0 (omega arith))) (omega arith)

pub cut : (bytes : List ℕ) → AreHigh bytes (length bytes) → length bytes < 10 → varint_at bytes ≡ Err Short
unfolding varint_at
cut bytes high few =
    let all = all_high bytes high in
    let not_long : leb 10 (high_bytes bytes) ≡ false = lt-leb _ _ (omega arith) in
    let short : leb (length bytes) (high_bytes bytes) ≡ true = le-leb _ _ (omega arith) in
    rw (not_long, short) refl

pub too_long : (bytes : List ℕ) → AreHigh bytes 10 → 10 ≤ length bytes → varint_at bytes ≡ Err Varint
unfolding varint_at
too_long bytes high many =
    let more = many_high bytes 10 high many in
    let long : leb 10 (high_bytes bytes) ≡ true = le-leb _ _ (omega arith) in
    rw (long) refl

-- what the loop keeps once it has read i bytes

pub record HasRead (bytes : List ℕ) (i value unit : ℕ) : Type 0 where
  pub high : AreHigh bytes i
  pub unit_is : unit ≡ 128 ^ i
  pub value_is : value ≡ low_bits (take i bytes)
  pub below : value < unit

-- the byte at i, of which the low seven bits are the part
pub record IsAt (bytes : List ℕ) (i byte part : ℕ) : Type 0 where
  pub inside : i < length bytes
  pub byte_is : byte ≡ get_or bytes i 0
  pub part_is : part ≡ byte % 128

pub fits : (bytes : List ℕ) (i value unit byte part : ℕ) → HasRead bytes i value unit → IsAt bytes i byte part → i < 9
    → (value + part * unit < 2 ^ 63) × (unit * 128 < 2 ^ 64)
fits bytes i value unit byte part read at few =
    let is = at.part_is in
    let more = one_more value part unit i read.below (omega arith) read.unit_is few in
    let unit_is = read.unit_is in
    let power = pow-succ' 128 i in
    (omega arith, omega arith)

more_value : (bytes : List ℕ) (i value unit byte part : ℕ) → HasRead bytes i value unit → IsAt bytes i byte part
    → value + part * unit ≡ low_bits (take (suc i) bytes)
more_value bytes i value unit byte part read at =
    let is : part ≡ get_or bytes i 0 % 128 = at.part_is ∙ ap (λ (b : ℕ). b % 128) at.byte_is in
    rw (is, read.value_is, read.unit_is) (sym (low_more bytes i at.inside))

pub reads_more : (bytes : List ℕ) (i value unit byte part : ℕ) → HasRead bytes i value unit → IsAt bytes i byte part
    → 128 ≤ byte → i < 9 → HasRead bytes (i + 1) (value + part * unit) (unit * 128)
reads_more bytes i value unit byte part read at large few =
    let is = at.part_is in
    let here = at.byte_is in
    let unit_is = read.unit_is in
    let power = pow-succ' 128 i in
    let more = one_more value part unit i read.below (omega arith) read.unit_is few in
    record {
      high = below_more _ _ read.high (omega arith);
      unit_is = rw add-one (omega arith);
      value_is = rw add-one (more_value bytes i value unit byte part read at);
      below = omega arith;
    }

pub stops : (bytes : List ℕ) (i value unit byte part : ℕ) → HasRead bytes i value unit → IsAt bytes i byte part
    → byte < 128 → i < 9 → Ok (value + part * unit, i + 1) ≡ varint_at bytes
stops bytes i value unit byte part read at small few =
    let here = at.byte_is in
    let below = (fits bytes i value unit byte part read at few).0 in
    let is : value + part * unit ≡ low_bits (take (suc i) bytes) % 2 ^ 64 =
    rw (← more_value bytes i value unit byte part read at) (omega arith) in
    rw add-one (sym (ends bytes i (value + part * unit) read.high at.inside (omega arith) (omega arith) is))

-- of the tenth byte one bit is in the value
pub stops_last : (bytes : List ℕ) (i value unit byte bit : ℕ) → HasRead bytes i value unit → i ≡ 9 → 9 < length bytes
    → byte ≡ get_or bytes 9 0 → byte < 128 → bit ≡ byte % 2
    → Ok (value + bit * unit, 10) ≡ varint_at bytes
stops_last bytes i value unit byte bit read nine inside here small is =
    let unit_is : unit ≡ 2 ^ 63 = read.unit_is ∙ ap (λ (n : ℕ). 128 ^ n) nine in
    let below = read.below in
    let at : IsAt bytes i byte byte = record {
      inside = omega arith;
      byte_is = here ∙ ap (λ (n : ℕ). get_or bytes n 0) (sym nine);
      part_is = omega arith;
    } in
    let all : value + byte * unit ≡ low_bits (take (suc i) bytes) = more_value bytes i value unit byte byte read at in
    let ten : suc i ≡ 10 = omega arith in
    let same : value + bit * unit ≡ (value + byte * unit) % 2 ^ 64 = rw (unit_is, is) (omega arith) in
    let sum : value + bit * unit ≡ low_bits (take (suc i) bytes) % 2 ^ 64 = same ∙ ap (λ (n : ℕ). n % 2 ^ 64) all in
    sym (ends bytes i (value + bit * unit) read.high at.inside (omega (arith, at.byte_is)) (omega arith) sum
    ∙ ap (λ (n : ℕ). read_of (value + bit * unit) n) ten)

pub never_stops : (bytes : List ℕ) (i value unit byte : ℕ) → HasRead bytes i value unit → i ≡ 9 → 9 < length bytes
    → byte ≡ get_or bytes 9 0 → 128 ≤ byte → Err Varint ≡ varint_at bytes
never_stops bytes i value unit byte read nine inside here large =
    let high : AreHigh bytes 9 = subst (λ (n : ℕ). AreHigh bytes n) nine read.high in
    sym (too_long bytes (below_more _ 9 high (omega arith)) (omega arith))

pub is_cut : (bytes : List ℕ) (i value unit : ℕ) → HasRead bytes i value unit → i ≡ length bytes → i < 10
    → Err Short ≡ varint_at bytes
is_cut bytes i value unit read all few =
    sym (cut bytes (subst (λ (n : ℕ). AreHigh bytes n) all read.high) (omega arith))
