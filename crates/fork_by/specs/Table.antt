-- A table of forks by key, as contracts see it: a list of forks in the order in which they were added, each with its
-- key, its number, the moment of its last item, and the moment at which it is due, if it is.
use Rattle.std.specs.Prelude.{◌≡◌, ℕ, ◌+◌, ◌<◌, eqb, not, nat_le, List, map, filter, filter_map, find, length}
use Rattle.std.specs.Prelude.{slice_get, unwrap_or, Option, None, if◌then◌else◌}
use Rattle.std.specs.Borrow.{Lends, MutBor, Fml, RattleType}
use Rattle.std.specs.List.{IsDistinct}
use Rattle.std.specs.Map.{lookup}
use Rattle.std.specs.Option.{option_map}
use Rattle.std.specs.Vec.{with_item}
use Rattle.ev_types.specs.declared.value.Value.{Value}
use Rattle.ev_types.specs.Key.{same_key}
use Rattle.fork_by.specs.Labels.{Label, AreSound, IsLive, index_at, is_due_by}
use Rattle.fork_by.specs.declared.table.ForkTable.{ForkTable}
use Rattle.fork_by.specs.contracts.table.ForkTable.{the_row}

pub record KeptFork (F : Type 0) : Type 0 where
  pub key : List Value
  pub number : ℕ
  pub fork : F
  pub moment : ℕ
  pub due : Option ℕ

module _ {F : Type 0} where
  -- what the table knows of its forks beside the forks themselves
  abbrev pub fork_labels : ForkTable F → List Label
  fork_labels table = table.labels

  abbrev pub labelled : Label → F → KeptFork F
  labelled label fork =
      record { key = label.key; number = label.number; fork = fork; moment = label.moment; due = label.due }

  -- the fork that has the label, with it
  abbrev pub fork_with : List F → Label → Option (KeptFork F)
  fork_with forks label = option_map (labelled label) (slice_get forks label.index)

  -- the forks in the order in which they were added
  abbrev pub kept_forks : ForkTable F → List (KeptFork F)
  kept_forks table = filter_map (fork_with table.forks.items) table.labels

  -- the number of the key's fork, if it has one
  abbrev pub kept_number : List Value → List (KeptFork F) → Option ℕ
  kept_number key kept = lookup (same_key key) (map (λ fork. (fork.key, fork.number)) kept)

  -- the fork of the number, if it has one
  abbrev pub kept_at : ℕ → List (KeptFork F) → Option (KeptFork F)
  kept_at number kept = find (λ fork. eqb fork.number number) kept

  -- the numbers of the forks that are due at or before `now`
  abbrev pub due_kept : ℕ → List (KeptFork F) → List ℕ
  due_kept now kept = map (λ fork. fork.number) (filter (λ fork. is_due_by now fork.due) kept)

  -- the moments at which forks are due
  abbrev pub kept_dues : List (KeptFork F) → List ℕ
  kept_dues kept = filter_map (λ fork. fork.due) kept

  -- each fork has a key and a number of its own
  pub record AreApart (kept : List (KeptFork F)) : Type 0 where
    pub keys : IsDistinct same_key (map (λ fork. fork.key) kept)
    pub numbers : IsDistinct eqb (map (λ fork. fork.number) kept)

  -- each fork has a label of its own
  pub record IsTable (table : ForkTable F) : Type 0 where
    pub even : length table.forks.items ≡ length table.labels
    pub sound : AreSound table.labels

  -- where the fork of the number is among the forks as they are kept, and 0 where it has none
  abbrev pub place_of : ℕ → ForkTable F → ℕ
  place_of number table = unwrap_or (index_at number table.labels) 0

  -- the number has a fork
  pub record HasFork (number : ℕ) (table : ForkTable F) : Type 0 where
    pub live : IsLive number table.labels
    pub within : place_of number table < length table.forks.items

  -- the table with the fork of the number in place of the one that it has
  abbrev pub with_fork : ForkTable F → ℕ → F → ForkTable F
  with_fork table number fork = record table { forks = with_item table.forks (place_of number table) fork }

  -- ---- changes
  abbrev pub fork_replaced : ℕ → F → KeptFork F → KeptFork F
  fork_replaced number fork kept = if eqb kept.number number then record kept { fork = fork } else kept

  abbrev pub fork_touched : ℕ → ℕ → KeptFork F → KeptFork F
  fork_touched number moment kept = if eqb kept.number number then record kept { moment = moment } else kept

  abbrev pub fork_dated : ℕ → Option ℕ → KeptFork F → KeptFork F
  fork_dated number due kept = if eqb kept.number number then record kept { due = due } else kept

  -- the fork, without its due moment if that is at or before `now`
  abbrev pub fork_cleared : ℕ → KeptFork F → KeptFork F
  fork_cleared now kept = if is_due_by now kept.due then record kept { due = None } else kept

  -- the fork at the index is gone, if there is one, and the last one is there in its place
  pub record TakesFork (forks forks' : List F) (index : ℕ) : Type 0 where
    pub count : index < length forks → length forks' + 1 ≡ length forks
    pub entry : index < length forks → (i : ℕ)
        → slice_get forks' i
        ≡ (if eqb i (length forks') then None else if eqb i index then slice_get forks (length forks')
        else slice_get forks i)

  -- the forks whose last items came after the moment
  abbrev pub later_than : ℕ → List (KeptFork F) → List (KeptFork F)
  later_than upto kept = filter (λ fork. not (nat_le fork.moment upto)) kept

-- the table ends with the last fork written through the reference, in place of the fork of the number
abbrev pub LendsFork : (F : RattleType) → MutBor (ForkTable F.Denot) → ℕ → MutBor F.Denot → Fml
LendsFork F table number lent = Lends (the_row F) F table lent (with_fork table.now number)
