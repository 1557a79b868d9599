-- What a call answers, where it may be out of memory.
use Rattle.std.specs.Prelude.{◌≡◌, Option, Some, None, Result, Ok, Err}

-- it found the value, or that there is no value, which the given error says; any other error is out of memory
abbrev pub Gives : {X Y E : Type 0} → (X → Y) → E → Result X E → Option Y → Type 0
Gives view missing (Ok x) wanted = wanted ≡ Some (view x)
Gives view missing (Err e) wanted = e ≡ missing → wanted ≡ None
