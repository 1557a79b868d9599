-- What a table is once a value that it lent is given back.
use Rattle.std.specs.Prelude.{ℕ, slice_set, Some}
use Rattle.std.specs.Borrow.{Lends, MutBor, Fml, RattleType}
use Rattle.linked_slots.specs.Table.{Table}
use Rattle.linked_slots.specs.contracts.table.StepTable.{the_row}

-- the table ends with the last value written through the reference at the number
abbrev pub LendsValue : (T : RattleType) → MutBor (Table T.Denot) → ℕ → MutBor T.Denot → Fml
LendsValue T table number lent =
    Lends (the_row T) T table lent
    (λ value. record table.now { values = slice_set table.now.values number (Some value) })
