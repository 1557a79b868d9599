-- A test that is asked of the items of a list.
use Rattle.std.specs.Prelude.{◌≡◌, ℕ, ◌<◌, Bool, List, Contains, count_by}
use Rattle.std.specs.Fn.{Shared}
use denote.Ref.{Bor}

module _ {F T : Type 0} (calls : Shared F (Bor T × Unit {0}) Bool) (test : F) where
  -- it may be asked of each of the items
  abbrev pub IsAskable : List T → Type 0
  IsAskable items = (item : Bor T) → Contains items item.now → calls.pre test (item, tt)

  -- of each of the items it answers what p says
  abbrev pub AnswersBy : (T → Bool) → List T → Type 0
  AnswersBy p items =
      (item : Bor T) (answer : Bool) → Contains items item.now → calls.post test (item, tt) answer → answer ≡ p item.now

  -- it answers by some function, of which more than that many of the items pass
  pub record KeepsMoreThan (count : ℕ) (items : List T) : Type 0 where
    pub by : T → Bool
    pub answers : AnswersBy by items
    pub more : count < count_by by items
