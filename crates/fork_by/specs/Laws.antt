-- Laws of tables of forks: what is so of the forks of every table, and what becomes of them if one of them is written.
use Rattle.std.specs.Prelude.{◌≡◌, ℕ, ◌≤◌, List, map, Some, IsSome}
use Rattle.std.specs.List.{AllByRecursion}
use Rattle.ev_types.specs.declared.value.Value.{Value}
use Rattle.fork_by.specs.Labels.{IsLatest}
use Rattle.fork_by.specs.Table.{AreApart, HasFork, IsTable, KeptFork, fork_labels, fork_replaced, kept_at, kept_forks}
use Rattle.fork_by.specs.Table.{kept_number, with_fork}
use Rattle.fork_by.specs.declared.table.ForkTable.{ForkTable}

-- one of the forks is of the key and has the number
pub record FoundFork {F : Type 0} (key : List Value) (number : ℕ) (forks : List (KeptFork F)) : Type 0 where
  pub kept : KeptFork F
  pub at : kept_at number forks ≡ Some kept
  pub of_key : kept.key ≡ key

module _ (F : Type 0) where
  -- ---- the forks of a table
  -- each has a key and a number of its own
  abbrev pub ForksAreApart : Type 0
  ForksAreApart = (table : ForkTable F) → IsTable table → AreApart (kept_forks table)

  -- the number of a key is that of a fork of the key
  abbrev pub KeysHaveForks : Type 0
  KeysHaveForks = (table : ForkTable F) → IsTable table → (key : List Value) (number : ℕ) →
      kept_number key (kept_forks table) ≡ Some number → FoundFork key number (kept_forks table)

  -- each fork is reached by its number
  abbrev pub ForksAreReached : Type 0
  ForksAreReached = (table : ForkTable F) → IsTable table →
      AllByRecursion (λ kept. HasFork kept.number table) (kept_forks table)

  -- what is reached by a number is one of the forks
  abbrev pub NumbersReachForks : Type 0
  NumbersReachForks = (table : ForkTable F) → IsTable table → (number : ℕ) → HasFork number table →
      IsSome (kept_at number (kept_forks table))

  -- a moment is at least that of each label if it is at least that of each fork
  abbrev pub LatestIsOfForks : Type 0
  LatestIsOfForks = (table : ForkTable F) → IsTable table → (now : ℕ) →
      AllByRecursion (λ kept. kept.moment ≤ now) (kept_forks table) → IsLatest now (fork_labels table)

  -- ---- a table in which the fork of a number was written
  -- each label has its fork, as before
  abbrev pub WrittenIsTable : Type 0
  WrittenIsTable = (table : ForkTable F) → IsTable table → (number : ℕ) (fork : F) →
      IsTable (with_fork table number fork)

  -- every number that had a fork has one
  abbrev pub WrittenHasForks : Type 0
  WrittenHasForks = (table : ForkTable F) (number : ℕ) (fork : F) (other : ℕ) → HasFork other table →
      HasFork other (with_fork table number fork)

  -- the fork of the number is the one that was written, and all else is as it was
  abbrev pub WrittenIsReplaced : Type 0
  WrittenIsReplaced = (table : ForkTable F) → IsTable table → (number : ℕ) (fork : F) → HasFork number table →
      kept_forks (with_fork table number fork) ≡ map (fork_replaced number fork) (kept_forks table)
