-- The defaults of configurations, as numbers.
use Rattle.std.specs.Prelude.{ℕ}

-- the port of a configuration that names none
abbrev pub default_port : ℕ
default_port = 5555

-- the greatest port
abbrev pub greatest_port : ℕ
greatest_port = 65535

-- the seconds from one expiry to the next, if a configuration names none
abbrev pub default_interval : ℕ
default_interval = 10
