-- A ttl in whole seconds, as IEEE 754 binary32 spells it. Of the 32 bits the highest is the sign, the next eight are
-- the exponent, and the last 23 the fraction.
use Rattle.std.specs.Prelude.{◌≡◌, ◌⊎◌, ℕ, zero, suc, ◌+◌, ◌-◌, ◌*◌, ◌/◌, ◌%◌, ◌^◌, ◌≤◌, ◌==◌, nat_le, ◌&&◌}
use Rattle.std.specs.Prelude.{if◌then◌else◌, Option, Some, None}
use Rattle.std.specs.Int.{w32, leading_zeros}

abbrev pub sign_of : ℕ → ℕ
sign_of bits = bits / 2 ^ 31

abbrev pub exponent_of : ℕ → ℕ
exponent_of bits = bits / 2 ^ 23 % 2 ^ 8

abbrev pub fraction_of : ℕ → ℕ
fraction_of bits = bits % 2 ^ 23

-- 2 ^ 150 times the number that the bits represent, where the sign is 0 and the exponent is neither 0 nor special
abbrev pub scaled_value : ℕ → ℕ
scaled_value bits = (2 ^ 23 + fraction_of bits) * 2 ^ exponent_of bits

-- both zeros are 0
pub record IsZero (bits seconds : ℕ) : Type 0 where
  pub exponent : exponent_of bits ≡ 0
  pub fraction : fraction_of bits ≡ 0
  pub value : seconds ≡ 0

-- (2 ^ 23 + fraction) * 2 ^ (exponent - 150) is a whole number below 2 ^ 31
pub record IsWhole (bits seconds : ℕ) : Type 0 where
  pub sign : sign_of bits ≡ 0
  pub least : 1 ≤ exponent_of bits
  pub greatest : exponent_of bits ≤ 157
  pub value : scaled_value bits ≡ seconds * 2 ^ 150

-- the bits represent this number of seconds
abbrev pub IsTtl : ℕ → ℕ → Type 0
IsTtl bits seconds = IsZero bits seconds ⊎ IsWhole bits seconds

-- some bits represent this number of seconds
abbrev pub IsSpellableTtl : ℕ → Type 0
IsSpellableTtl seconds = (bits : ℕ) × IsTtl bits seconds

-- the seconds that the bits represent
unfoldable pub seconds_of : ℕ → Option ℕ
seconds_of bits = if exponent_of bits == 0 && fraction_of bits == 0 then Some 0
    else if sign_of bits == 0 && nat_le 1 (exponent_of bits) && nat_le (exponent_of bits) 157
    && (scaled_value bits % 2 ^ 150 == 0)
    then Some (scaled_value bits / 2 ^ 150) else None

-- The bits that spell a number of seconds: none is set in those of 0; otherwise the exponent is that of the highest
-- digit, and the digits below it are the fraction.
unfoldable pub bits_of : ℕ → ℕ
bits_of zero = 0
bits_of (suc n) = let top = 31 - leading_zeros w32 (suc n) in (126 + top) * 2 ^ 23 + suc n * 2 ^ 23 / 2 ^ top
