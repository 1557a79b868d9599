-- The ids that are due at each moment, as lists: pairs of a moment and its ids, by rising moment.
use Rattle.std.specs.Prelude.{◌≡◌, ◌≢◌, ℕ, ◌≤◌, true, nat_le, eqb, ◌&&◌, List, [], slice_get, unwrap_or, Option, None}
use Rattle.std.specs.Prelude.{Some, MatchOption, if◌then◌else◌}
use Rattle.std.specs.List.{flat_map, list_any, take_while}
use Rattle.std.specs.Map.{lookup}
use Rattle.std.specs.Ordering.{nat_cmp}
use Rattle.std.specs.BTreeMap.{is_at}

-- the list without the id at the index, where the last one has come, if it was another one
pub record Removes (old new : List ℕ) (index : ℕ) (moved : Option ℕ) : Type 0 where
  pub last : ℕ
  pub is_last : MatchOption moved (last ≡ index) (λ id. (last ≢ index) × (slice_get old last ≡ Some id))
  pub ids : (i : ℕ) → slice_get new i ≡ (if eqb i index then moved else if eqb i last then None else slice_get old i)

-- the list of the moment, if it has one
abbrev pub list_at : ℕ → List (ℕ × List ℕ) → Option (List ℕ)
list_at moment lists = lookup (is_at (nat_cmp moment)) lists

abbrev pub id_in : ℕ → Option (List ℕ) → Option ℕ
id_in index None = None
id_in index (Some ids) = slice_get ids index

-- the id at the index in the list of the moment
abbrev pub id_at : ℕ → ℕ → List (ℕ × List ℕ) → Option ℕ
id_at moment index lists = id_in index (list_at moment lists)

-- the moment has this list or none now, and every other moment has what it had
abbrev pub ListChange : List (ℕ × List ℕ) → List (ℕ × List ℕ) → ℕ → Option (List ℕ) → Type 0
ListChange old new moment given = (m : ℕ) → list_at m new ≡ (if is_at (nat_cmp moment) m then given else list_at m old)

-- a moment without ids has no list
abbrev pub HaveIds : List (ℕ × List ℕ) → Type 0
HaveIds lists = (moment : ℕ) → list_at moment lists ≢ Some []

-- the moment has the id at an index that had none, and all else is as it was
pub record AddsAt (old new : List (ℕ × List ℕ)) (moment index id : ℕ) : Type 0 where
  pub free : id_at moment index old ≡ None
  pub ids : (m i : ℕ) → id_at m i new ≡ (if eqb m moment && eqb i index then Some id else id_at m i old)

-- the moment's list is without the id at the index, and all else is as it was
pub record RemovesAt (old new : List (ℕ × List ℕ)) (moment index : ℕ) (moved : Option ℕ) : Type 0 where
  pub last : ℕ
  pub is_last : MatchOption moved (last ≡ index) (λ id. (last ≢ index) × (id_at moment last old ≡ Some id))
  pub ids : (m i : ℕ) → id_at m i new
      ≡ (if eqb m moment then (if eqb i index then moved else if eqb i last then None else id_at m i old)
      else id_at m i old)

-- the ids of the moment, which are none where it has no list
abbrev pub ids_of : List (ℕ × List ℕ) → ℕ → List ℕ
ids_of lists moment = unwrap_or (list_at moment lists) []

-- the ids of the lists of moments at or before `now`, in the order of the lists
abbrev pub ids_by : ℕ → List (ℕ × List ℕ) → List ℕ
ids_by now lists = flat_map (λ (e : ℕ × List ℕ). e.1) (take_while (λ (e : ℕ × List ℕ). nat_le e.0 now) lists)

-- some id has the moment, and none has an earlier one
pub record IsEarliest (lists : List (ℕ × List ℕ)) (moment : ℕ) : Type 0 where
  pub id : ℕ
  pub is_listed : id_at moment 0 lists ≡ Some id
  pub least : (m i other : ℕ) → id_at m i lists ≡ Some other → moment ≤ m

abbrev pub IsFirst : List (ℕ × List ℕ) → Option ℕ → Type 0
IsFirst lists first = MatchOption first (lists ≡ []) (IsEarliest lists)

-- the id is due at or before the moment
pub record IsListedBy (now id : ℕ) (lists : List (ℕ × List ℕ)) : Type 0 where
  pub moment : ℕ
  pub index : ℕ
  pub is_listed : id_at moment index lists ≡ Some id
  pub by : nat_le moment now ≡ true

-- these are the ids that are due at or before the moment
pub record AreListedBy (now : ℕ) (ids : List ℕ) (lists : List (ℕ × List ℕ)) : Type 0 where
  pub listed : (id : ℕ) → list_any (is_at (nat_cmp id)) ids ≡ true → IsListedBy now id lists
  pub all : (id : ℕ) → IsListedBy now id lists → list_any (is_at (nat_cmp id)) ids ≡ true
