-- What holds of the pasts that a disk reports.
use Rattle.std.specs.Prelude.{ℕ, ◌≤◌, List, length, Option}
use Rattle.std.specs.Option.{ForSome}
use Rattle.disk_port.specs.Past.{IsPossible, IsUndoneOrBegun, Leaves, Past, synced, text_of, written}

-- a crash may leave what a read gives
abbrev pub ReadsAreLeft : Type 0
ReadsAreLeft = (past : Past) → IsPossible past → Leaves past (text_of past)

-- a write that succeeded, one that failed, and a sync leave a past possible
pub record CallsArePossible : Type 0 where
  pub write : (past : Past) (place : ℕ) (bytes : List ℕ) → IsPossible past → place ≤ length (text_of past)
      → IsPossible (written place bytes past)
  pub failed_write : (old new : Option Past) (place count : ℕ) → ForSome old IsPossible
      → IsUndoneOrBegun place count old new → ForSome new IsPossible
  pub sync : (past : Past) → IsPossible past → IsPossible (synced past)
