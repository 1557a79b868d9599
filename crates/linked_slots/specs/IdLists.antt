-- Lists of ids, as contracts see them.
use Rattle.std.specs.Prelude.{ℕ, zero, suc, ◌+◌, ◌<◌, ◌≤◌, not, eqb, List, [], ◌∷◌, ◌++◌, map, filter, slice_index_or}
use Rattle.std.specs.Prelude.{Option, None, Some, if◌then◌else◌}

-- the lists, and how many more ids they take without memory
pub record IdLists : Type 0 where
  pub lists : List (List ℕ)
  pub spare : ℕ

-- the list of this number
abbrev pub list_at : List (List ℕ) → ℕ → List ℕ
list_at lists number = slice_index_or lists number []

-- how often the id is in the list
abbrev pub times_in : ℕ → List ℕ → ℕ
times_in id [] = 0
times_in id (first ∷ rest) = if eqb first id then suc (times_in id rest) else times_in id rest

-- how often the id is in the lists
abbrev pub times : ℕ → List (List ℕ) → ℕ
times id [] = 0
times id (list ∷ lists) = times_in id list + times id lists

-- the id is in the lists
abbrev pub IsListed : ℕ → List (List ℕ) → Type 0
IsListed id lists = 0 < times id lists

-- no id is in the lists twice
abbrev pub AreApart : List (List ℕ) → Type 0
AreApart lists = (id : ℕ) → times id lists ≤ 1

-- the lists without the id
abbrev pub without : ℕ → List (List ℕ) → List (List ℕ)
without id lists = map (λ list. filter (λ other. not (eqb other id)) list) lists

-- the lists, where the list of this number has the id at its end too
abbrev pub append_to : ℕ → ℕ → List (List ℕ) → List (List ℕ)
append_to number id [] = []
append_to zero id (list ∷ lists) = (list ++ id ∷ []) ∷ lists
append_to (suc number) id (list ∷ lists) = list ∷ append_to number id lists

-- the first id of the list
abbrev pub first_of : List ℕ → Option ℕ
first_of [] = None
first_of (first ∷ rest) = Some first

-- the last id of the list that begins with this one
abbrev pub last_from : ℕ → List ℕ → ℕ
last_from first [] = first
last_from first (second ∷ rest) = last_from second rest

-- the last id of the list
abbrev pub last_of : List ℕ → Option ℕ
last_of [] = None
last_of (first ∷ rest) = Some (last_from first rest)

-- the id that follows the given one in the list
abbrev pub following : ℕ → List ℕ → Option ℕ
following id [] = None
following id (first ∷ rest) = if eqb first id then first_of rest else following id rest
