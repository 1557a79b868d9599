-- How the ids of each moment are kept: lists under numbers, and the number of each moment's list.
use Rattle.std.specs.Prelude.{◌≡◌, ◌≢◌, ℕ, ◌≤◌, List, [], map, slice_index_or, Option, None, Some, IsSome, MatchOption}
use Rattle.std.specs.Map.{lookup}
use Rattle.std.specs.Ordering.{nat_cmp}
use Rattle.std.specs.BTreeMap.{is_at}
use Rattle.tick_schedule.specs.declared.due_lists.DueList.{DueList}
use Rattle.tick_schedule.specs.Lists.{HaveIds}

-- the list under the number, if there is one
abbrev pub list_under : ℕ → List (Option DueList) → Option DueList
list_under number slots = slice_index_or slots number None

-- the number of the moment's list, if it has one
abbrev pub number_at : ℕ → List (ℕ × ℕ) → Option ℕ
number_at moment numbers = lookup (is_at (nat_cmp moment)) numbers

abbrev pub ids_in : Option DueList → List ℕ
ids_in None = []
ids_in (Some list) = list.ids

-- the ids of each moment
abbrev pub lists_of : List (ℕ × ℕ) → List (Option DueList) → List (ℕ × List ℕ)
lists_of numbers slots = map (λ entry. (entry.0, ids_in (list_under entry.1 slots))) numbers

abbrev pub IsListOf : ℕ → Option DueList → Type 0
IsListOf moment slot = MatchOption slot ⊥ (λ list. list.moment ≡ moment)

-- a moment has the number of its list, and a list is that of its moment
pub record AreNumbered (numbers : List (ℕ × ℕ)) (slots : List (Option DueList)) : Type 0 where
  pub numbered : (moment number : ℕ) → number_at moment numbers ≡ Some number
      → IsListOf moment (list_under number slots)
  pub listed : (number : ℕ) (list : DueList) → list_under number slots ≡ Some list
      → number_at list.moment numbers ≡ Some number

-- the least moment that has a number
abbrev pub IsFirstNumber : List (ℕ × ℕ) → Option ℕ → Type 0
IsFirstNumber numbers first = MatchOption first (numbers ≡ []) (λ moment. IsSome (number_at moment numbers)
    × ((other : ℕ) → IsSome (number_at other numbers) → moment ≤ other))

-- the lists, their numbers, and the first moment
pub record AreDue (numbers : List (ℕ × ℕ)) (slots : List (Option DueList)) (first : Option ℕ) : Type 0 where
  pub numbered : AreNumbered numbers slots
  pub have_ids : HaveIds (lists_of numbers slots)
  pub is_first : IsFirstNumber numbers first

-- the number has this list or none now, and every other number has what it had
pub record Relists (old new : List (Option DueList)) (number : ℕ) (list : Option DueList) : Type 0 where
  pub changed : list_under number new ≡ list
  pub others : (other : ℕ) → other ≢ number → list_under other new ≡ list_under other old

abbrev pub list_with : ℕ → List ℕ → DueList
list_with moment ids = record { moment = moment; ids = ids }
