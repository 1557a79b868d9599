-- What ties the parts of a queue of due moments.
use Rattle.std.specs.Prelude.{◌≡◌, ℕ, false, eqb, ◌&&◌, List, Option, Some, MatchOption}
use Rattle.tick_schedule.specs.Lists.{id_at}
use Rattle.tick_schedule.specs.Moments.{Place, at, place_at}

-- an id is in a list exactly where its place says
pub record IsTied (places : List (Option Place)) (lists : List (ℕ × List ℕ)) : Type 0 where
  pub placed : (id moment index : ℕ) → id_at moment index lists ≡ Some id → place_at id places ≡ Some (at moment index)
  pub listed : (id moment index : ℕ) → place_at id places ≡ Some (at moment index) → id_at moment index lists ≡ Some id

-- the same, but for the id that leaves its list: its place is in a list, and is no id's place
pub record IsTiedButOne (place : Place) (places : List (Option Place)) (lists : List (ℕ × List ℕ)) : Type 0 where
  pub leaving : ℕ
  pub is_leaving : id_at place.moment place.index lists ≡ Some leaving
  pub placed : (id moment index : ℕ) → id_at moment index lists ≡ Some id
      → (eqb moment place.moment && eqb index place.index) ≡ false → place_at id places ≡ Some (at moment index)
  pub listed : (id moment index : ℕ) → place_at id places ≡ Some (at moment index) → id_at moment index lists ≡ Some id
  pub apart : (id moment index : ℕ) → place_at id places ≡ Some (at moment index)
      → (eqb moment place.moment && eqb index place.index) ≡ false

-- the same, but for the id that leaves this place, if there is one
abbrev pub IsTiedBut : Option Place → List (Option Place) → List (ℕ × List ℕ) → Type 0
IsTiedBut place places lists = MatchOption place (IsTied places lists) (λ left. IsTiedButOne left places lists)
