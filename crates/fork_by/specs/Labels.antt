-- What a table of forks knows of them beside the forks themselves, in the order in which they were added.
use Rattle.std.specs.Prelude.{Box, ◌≡◌, ℕ, ◌-◌, ◌<◌, ◌≤◌, Bool, false, not, eqb, nat_le, List, [], ◌∷◌, ◌++◌, map}
use Rattle.std.specs.Prelude.{filter, find, length, Option, None, Some, IsSome, if◌then◌else◌, filter_map}
use Rattle.std.specs.List.{All, IsDistinct}
use Rattle.std.specs.Map.{lookup}
use Rattle.std.specs.Option.{option_map}
use Rattle.ev_types.specs.declared.value.Value.{Value}
use Rattle.ev_types.specs.Key.{same_key}

-- of a fork: its key, its number, where it is among the forks as they are kept, the moment of its last item, and the
-- moment at which it is due, if it is
pub record Label : Type 0 where
  pub key : List Value
  pub number : ℕ
  pub index : ℕ
  pub moment : ℕ
  pub due : Option ℕ

-- the labels, if there are any
abbrev pub labels_in : {A : Type 0} → Option (Box (List Label) A) → List Label
labels_in None = []
labels_in (Some labels) = labels.value

-- the number of the key, if it has one
abbrev pub number_of : List Value → List Label → Option ℕ
number_of key labels = lookup (same_key key) (map (λ label. (label.key, label.number)) labels)

-- the label of the number, if it has one
abbrev pub label_at : ℕ → List Label → Option Label
label_at number labels = find (λ label. eqb label.number number) labels

-- where the fork of the number is, if it has one
abbrev pub index_at : ℕ → List Label → Option ℕ
index_at number labels = option_map (λ label. label.index) (label_at number labels)

-- the moment of the last item of the fork of the number, if it has one
abbrev pub last_moment_at : ℕ → List Label → Option ℕ
last_moment_at number labels = option_map (λ label. label.moment) (label_at number labels)

-- the number has a fork
abbrev pub IsLive : ℕ → List Label → Type 0
IsLive number labels = IsSome (label_at number labels)

-- the label, with this moment if it is that of the number
abbrev pub with_moment : ℕ → ℕ → Label → Label
with_moment number moment label = if eqb label.number number then record label { moment = moment } else label

abbrev pub touched : ℕ → ℕ → List Label → List Label
touched number moment labels = map (with_moment number moment) labels

-- the label, with this due moment or none if it is that of the number
abbrev pub with_due : ℕ → Option ℕ → Label → Label
with_due number due label = if eqb label.number number then record label { due = due } else label

abbrev pub dues_set : ℕ → Option ℕ → List Label → List Label
dues_set number due labels = map (with_due number due) labels

-- whether the moment is there and at or before `now`
abbrev pub is_due_by : ℕ → Option ℕ → Bool
is_due_by now None = false
is_due_by now (Some moment) = nat_le moment now

-- the numbers of the forks that are due at or before `now`
abbrev pub due_numbers : ℕ → List Label → List ℕ
due_numbers now labels = map (λ label. label.number) (filter (λ label. is_due_by now label.due) labels)

-- the label, without its due moment if that is at or before `now`
abbrev pub without_due : ℕ → Label → Label
without_due now label = if is_due_by now label.due then record label { due = None } else label

abbrev pub dues_cleared : ℕ → List Label → List Label
dues_cleared now labels = map (without_due now) labels

-- the moments at which forks are due
abbrev pub due_moments : List Label → List ℕ
due_moments labels = filter_map (λ label. label.due) labels

-- the label, with this index if it had the last one
abbrev pub moved_to : ℕ → ℕ → Label → Label
moved_to index last label = if eqb label.index last then record label { index = index } else label

-- the labels without that of the number, whose fork was at the index; the last fork has come there
abbrev pub dropped : ℕ → ℕ → List Label → List Label
dropped number index labels =
    map (moved_to index (length labels - 1)) (filter (λ label. not (eqb label.number number)) labels)

-- the moment is at least that of each label
abbrev pub IsLatest : ℕ → List Label → Type 0
IsLatest now labels = All (λ label. label.moment ≤ now) labels

-- each label has a key, a number and an index of its own, and indices are below the number of labels
pub record AreSound (labels : List Label) : Type 0 where
  pub keys : IsDistinct same_key (map (λ label. label.key) labels)
  pub numbers : IsDistinct eqb (map (λ label. label.number) labels)
  pub indices : All (λ one. All (λ other. eqb one.index other.index ≡ eqb one.number other.number) labels) labels
  pub within : All (λ label. label.index < length labels) labels

-- a label of the key and a number that had none is put after the others; its moment is `now` if none is later
pub record Adds (old new : List Label) (key : List Value) (number now : ℕ) : Type 0 where
  pub moment : ℕ
  pub vacant : label_at number old ≡ None
  pub added : new ≡ old ++ record { key = key; number = number; index = length old; moment = moment; due = None } ∷ []
  pub is_now : IsLatest now old → moment ≡ now

-- the label of the number has another moment, which is `now` if none is later
pub record Touches (old new : List Label) (number now : ℕ) : Type 0 where
  pub moment : ℕ
  pub is : new ≡ touched number moment old
  pub is_now : IsLatest now old → moment ≡ now

-- a fork whose moment is at or before `upto` was dropped, and was at the index
pub record Drops (old new : List Label) (upto index : ℕ) : Type 0 where
  pub number : ℕ
  pub label : Label
  pub was : label_at number old ≡ Some label
  pub at_index : label.index ≡ index
  pub idle : label.moment ≤ upto
  pub is : new ≡ dropped number index old
