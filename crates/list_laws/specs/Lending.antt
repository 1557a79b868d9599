-- What a list becomes when an item is written through a reference.
use Rattle.std.specs.Prelude.{ℕ, List, slice_set}
use Rattle.std.specs.Borrow.{Lends, MutBor, Fml, RattleType}
use Rattle.list_laws.specs.contracts.items.Items.{the_row}

module _ (T : RattleType) (list : MutBor (List T.Denot)) where
  -- after the loan, item i of the list is the last one written through the reference, and the others are as before
  abbrev pub LendsItem : ℕ → MutBor T.Denot → Fml
  LendsItem i lent = Lends (the_row T) T list lent (slice_set list.now i)
