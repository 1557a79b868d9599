-- What was done to the file of a disk, what a read gives, and what a crash may leave.
use Rattle.std.specs.Prelude.{◌≡◌, ◌⊎◌, ℕ, zero, suc, ◌+◌, ◌≤◌, max, List, ◌++◌, length, take, drop, Option, Some}
use Rattle.std.specs.Option.{ForSome, option_map}

-- what was done to the file, the latest outermost
pub data Past : Type 0 where
  -- a read gives these bytes, and nothing is known to be on the disk
  found : List ℕ → Past
  -- a write of that many bytes from that place on was begun, and a read gives these bytes after it
  wrote : Past → ℕ → ℕ → List ℕ → Past
  -- a sync succeeded
  synced : Past → Past

-- what a read gives
abbrev pub text_of : Past → List ℕ
text_of (found text) = text
text_of (wrote past place count text) = text
text_of (synced past) = text_of past

-- the bytes with others over them from a place on, which may go past the end
abbrev pub put : ℕ → List ℕ → List ℕ → List ℕ
put place bytes text = take place text ++ (bytes ++ drop (place + length bytes) text)

-- the past after a write that succeeded
abbrev pub written : ℕ → List ℕ → Past → Past
written place bytes past = wrote past place (length bytes) (put place bytes (text_of past))

-- The bytes after a write of that many bytes from that place on that a crash cut short. In its range, and past the old
-- end, are any bytes.
pub record Torn (place count : ℕ) (old new : List ℕ) : Type 0 where
  pub before : take place new ≡ take place old
  pub after : drop (place + count) new ≡ drop (place + count) old
  pub no_shorter : length old ≤ length new
  pub no_longer : length new ≤ max (length old) (place + count)

-- A crash now may leave these bytes. A write may be torn, and so may each write before it back to the last sync.
abbrev pub Leaves : Past → List ℕ → Type 0
Leaves (found text) image = Unit {0}
Leaves (wrote past place count text) image = (former : List ℕ) × Leaves past former × Torn place count former image
Leaves (synced past) image = image ≡ text_of past

-- a crash now leaves what a read gives, and nothing else
abbrev pub Rests : Past → Type 0
Rests past = (image : List ℕ) → Leaves past image → image ≡ text_of past

-- the past without the latest n calls
abbrev pub earlier : ℕ → Past → Past
earlier zero past = past
earlier (suc n) (found text) = found text
earlier (suc n) (wrote past place count text) = earlier n past
earlier (suc n) (synced past) = earlier n past

-- A crash at any moment since the old past leaves bytes that have P. Within a write it leaves nothing that it cannot
-- leave after it.
pub record LeavesOnly (old new : Past) (P : List ℕ → Type 0) : Type 0 where
  pub steps : ℕ
  pub began : earlier steps new ≡ old
  pub each : (count : ℕ) → count ≤ steps → (image : List ℕ) → Leaves (earlier count new) image → P image

-- A write that failed was not begun, or it was begun: in its range, and past the old end, are then any bytes.
abbrev pub IsUndoneOrBegun : ℕ → ℕ → Option Past → Option Past → Type 0
IsUndoneOrBegun place count old new = (new ≡ old)
    ⊎ ((text : List ℕ) × ForSome old (λ past. Torn place count (text_of past) text)
    × (new ≡ option_map (λ past. wrote past place count text) old))

-- Of a file that rests, a crash since the old past leaves what a write of that range may leave.
abbrev pub TearsOnly : ℕ → ℕ → Past → Option Past → Type 0
TearsOnly place count old new =
    Rests old → (now : Past) × (new ≡ Some now) × LeavesOnly old now (Torn place count (text_of old))

-- what may have been done to a file: in each write only bytes of its range changed
abbrev pub IsPossible : Past → Type 0
IsPossible (found text) = Unit {0}
IsPossible (wrote past place count text) = IsPossible past × Torn place count (text_of past) text
IsPossible (synced past) = IsPossible past

-- where only bytes in the ranges of writes had changed, only such have
abbrev pub StaysPossible : Option Past → Option Past → Type 0
StaysPossible old new = ForSome old IsPossible → ForSome new IsPossible
