-- Steps in order.
use Rattle.std.specs.Prelude.{Bool, true, false}
use Rattle.step_count.specs.declared.runs.Step.{Step}
use Rattle.step_count.specs.declared.runs.Step.TheVariants.{Fork, Entry}

abbrev pub is_fork : Step → Bool
is_fork Fork = true
is_fork Entry = false

abbrev pub is_entry : Step → Bool
is_entry Fork = false
is_entry Entry = true
