-- How many bytes of a client are read at once, by what its reads cost the server.
use Rattle.std.specs.Prelude.{ℕ, ◌*◌, ◌/◌, min, max, nat_lt, Bool, if◌then◌else◌}

-- the server took over 20 milliseconds
abbrev pub is_long : ℕ → Bool
is_long nanos = nat_lt 20_000_000 nanos

-- the server took under 5 milliseconds
abbrev pub is_short : ℕ → Bool
is_short nanos = nat_lt nanos 5_000_000

-- how many bytes are read at once after a read for which the server took so long: half as many after a long one, and
-- twice as many after a short one, from 512 to 65,536
abbrev pub weighed : ℕ → ℕ → ℕ
weighed bytes nanos =
    if is_long nanos then max 512 (bytes / 2) else if is_short nanos then min 65_536 (2 * bytes) else bytes
