-- Limits and defaults in seconds, as numbers.
use Rattle.std.specs.Prelude.{ℕ}

-- the greatest ttl that a configuration can set, in seconds
abbrev pub greatest_set_ttl : ℕ
greatest_set_ttl = 16777216

-- after how many seconds an event without a ttl expires
abbrev pub default_ttl : ℕ
default_ttl = 60

-- the most seconds that a configuration gives a stream, or leaves between two looks for expired events: a week
abbrev pub longest_interval : ℕ
longest_interval = 604800
