-- The places of ids, as a list with a slot for each id from 0 on.
use Rattle.std.specs.Prelude.{ℕ, suc, List, [], ◌∷◌, slice_index_or, Option, None, Some}

-- where an id is: the moment at which it is due, and its index in the list of that moment
pub record Place : Type 0 where
  pub moment : ℕ
  pub index : ℕ

abbrev pub at : ℕ → ℕ → Place
at moment index = record { moment = moment; index = index }

-- the place of the id, if it has one
abbrev pub place_at : ℕ → List (Option Place) → Option Place
place_at id slots = slice_index_or slots id None

-- the moment of a place
abbrev pub moment_in : Option Place → Option ℕ
moment_in None = None
moment_in (Some place) = Some place.moment

-- the ids from `id` on that have a place, with its moment
abbrev pub moments_from : ℕ → List (Option Place) → List (ℕ × ℕ)
moments_from id [] = []
moments_from id (None ∷ slots) = moments_from (suc id) slots
moments_from id (Some place ∷ slots) = (id, place.moment) ∷ moments_from (suc id) slots
