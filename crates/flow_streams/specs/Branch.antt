-- The branches below a rule, by their numbers.
use Rattle.std.specs.Prelude.{ℕ, Bool, if◌then◌else◌}

-- the children where the rule holds, else the streams of `else`
abbrev pub branch_of : Bool → ℕ
branch_of met = if met then 0 else 1
