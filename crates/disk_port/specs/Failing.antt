-- Which calls of a disk in memory fail, and how they are counted.
use Rattle.std.specs.Prelude.{◌≡◌, ℕ, ◌+◌, ◌==◌, ◌||◌, Bool, true, false, nat_le, List, [], ◌∷◌, min, Option, Some}
use Rattle.std.specs.Prelude.{None, Result, Ok, Err}
use Rattle.std.specs.List.{list_any}
use Rattle.list_laws.specs.Counts.{greatest}
use Rattle.disk_port.specs.declared.disk.DiskError.{DiskError}
use Rattle.disk_port.specs.declared.disk.DiskError.TheVariants.{Failed, Memory}
use Rattle.disk_port.specs.declared.disk_call.DiskCall.{DiskCall}

-- calls from this number on fail
abbrev pub is_stopped : Option ℕ → ℕ → Bool
is_stopped None number = false
is_stopped (Some stop) number = nat_le stop number

-- whether the call of that number fails
abbrev pub is_chosen : List ℕ → Option ℕ → ℕ → Bool
is_chosen failing stop number = is_stopped stop number || list_any (λ chosen. chosen == number) failing

-- a call failed exactly where it was chosen, unless memory ran out
abbrev pub FailsIf : {T : Type 0} → Bool → Result T DiskError → Type 0
FailsIf chosen (Ok value) = chosen ≡ false
FailsIf chosen (Err Failed) = chosen ≡ true
FailsIf chosen (Err Memory) = Unit {0}

-- the count of calls after one more
abbrev pub count_after : ℕ → ℕ
count_after calls = min (calls + 1) greatest

-- the count of calls after one with that answer: the same where memory ran out
abbrev pub calls_after : {T : Type 0} → ℕ → Result T DiskError → ℕ
calls_after calls (Ok value) = count_after calls
calls_after calls (Err Failed) = count_after calls
calls_after calls (Err Memory) = calls

-- the calls that one adds to the log: none where memory ran out
abbrev pub calls_made : {T : Type 0} → DiskCall → Result T DiskError → List DiskCall
calls_made call (Ok value) = call ∷ []
calls_made call (Err Failed) = call ∷ []
calls_made call (Err Memory) = []

-- which calls fail, and how many there were
pub record Counted : Type 0 where
  pub failing : List ℕ
  pub stop : Option ℕ
  pub calls : ℕ

-- The call was answered by its number, and counted.
pub record CountsCall {T : Type 0} (old new : Counted) (answer : Result T DiskError) : Type 0 where
  pub fails : FailsIf (is_chosen old.failing old.stop old.calls) answer
  pub calls : new.calls ≡ calls_after old.calls answer
  pub failing : new.failing ≡ old.failing
  pub stop : new.stop ≡ old.stop
