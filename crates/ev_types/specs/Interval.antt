-- How often expired events are looked for.
use Rattle.std.specs.Prelude.{◌≤◌, Option}
use Rattle.std.specs.Option.{ForSome}
use Rattle.ev_types.specs.declared.settings.Expiry.{Expiry}
use Rattle.ev_types.specs.Limits.{longest_interval}

-- the seconds from one look to the next, if there are looks: at least one, and at most the longest interval
abbrev pub IsInterval : Option Expiry → Type 0
IsInterval expiry = ForSome expiry (λ set. (1 ≤ set.interval) × (set.interval ≤ longest_interval))
