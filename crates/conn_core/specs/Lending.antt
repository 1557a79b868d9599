-- How a value of the table is lent.
use Rattle.std.specs.Prelude.{ℕ, slice_set}
use Rattle.std.specs.Borrow.{Lends, MutBor, Fml, RattleType}
use Rattle.conn_core.specs.Kept.{Kept}
use Rattle.conn_core.specs.contracts.table.LinkTable.{the_row}

-- the table ends with the last value written through the reference at the place
abbrev pub LendsValue : (T : RattleType) → MutBor (Kept T.Denot) → ℕ → MutBor T.Denot → Fml
LendsValue T table place lent =
    Lends (the_row T) T table lent (λ value. record table.now { values = slice_set table.now.values place value })
