-- The names of the causes.
use Rattle.std.specs.Prelude.{ℕ, List, codes}
use Rattle.graphite_lines.specs.declared.fault.LineWhy.{LineWhy}
use Rattle.graphite_lines.specs.declared.fault.LineWhy.TheVariants.{Words, Path, Value, Time}

abbrev pub why_name : LineWhy → List ℕ
why_name Words = codes "words"
why_name Path = codes "path"
why_name Value = codes "value"
why_name Time = codes "time"
