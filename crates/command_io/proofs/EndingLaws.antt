-- From how a command ended to what its status says.
use Rattle.std.proofs.Common.{◌≡◌, ℕ, ◌<◌, ◌≤◌, List, length, sym, subst, arith}
use Rattle.std.specs.Prelude.{Some}
use Rattle.ports.specs.Reading.{Content, IsHeld, IsOverLimit, StoreReport}
use Rattle.ports.specs.Counts.{IsStill, Rose}
use Rattle.command_io.specs.Files.{ForGiven, Gives}

-- the text that was given is what the store holds, where it reports it
pub reported_of : (name : List ℕ) (old new : StoreReport) (bytes : List ℕ) (P : List ℕ → Type 0)
    → IsHeld (old.held name) bytes → ForGiven name old new P
    → P bytes
reported_of name old new bytes P holds given =
    let same = given.1.held (Some bytes) holds in subst P (let e = same in cc) given.2

pub not_over : (content : Content) (bytes : List ℕ) (limit : ℕ) → IsHeld content bytes → length bytes ≤ limit
    → IsOverLimit content limit → ⊥
not_over content bytes limit holds fits over =
    let held = over (Some bytes) holds in
    let same : held.0 ≡ bytes = (let e = held.1 in cc) in
    let long : limit < length bytes = rw same at held.2 in
    omega arith

-- ---- what is known of the store once a file was read

pub held_since : (name text other bytes : List ℕ) (old mid : StoreReport) → Gives name text old mid
    → IsHeld (old.held other) bytes → IsHeld (mid.held other) bytes
held_since name text other bytes old mid gives holds =
    subst (λ (files : List ℕ → Content). IsHeld (files other) bytes) (sym gives.same) holds

pub still_since : (name text : List ℕ) (old mid : StoreReport) (faults : ℕ) → Gives name text old mid
    → IsStill old.faults faults → IsStill mid.faults faults
still_since name text old mid faults gives still = subst (λ (n : ℕ). IsStill n faults) (sym gives.quiet) still

pub rose_since : (name text : List ℕ) (old mid : StoreReport) (faults : ℕ) → Gives name text old mid
    → Rose mid.faults faults → Rose old.faults faults
rose_since name text old mid faults gives rose = subst (λ (n : ℕ). Rose n faults) gives.quiet rose
