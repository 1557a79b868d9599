-- What the number of a failure of accept says, by the groups of accept(2) on Linux.
use Rattle.std.specs.Prelude.{ℕ, ℤ, ◌==◌, unsigned_abs, if◌then◌else◌, Bool, List, [], ◌∷◌, Option, Some, None}
use Rattle.std.specs.List.{list_any}
use Rattle.mio_links.specs.declared.accept.Refusal.{Refusal}
use Rattle.mio_links.specs.declared.accept.Refusal.TheVariants.{NoneWaits, OneConnection, Lack, Listener}

abbrev pub is_one_of : List ℕ → ℕ → Bool
is_one_of numbers code = list_any (λ number. number == code) numbers

-- EAGAIN says that no connection waits. EINTR, and the faults of the network that one connection had before it was
-- accepted, are answered by asking again. A lack is one of memory, of files, or of leave by the firewall.
abbrev pub refusal : ℕ → Refusal
refusal code = if code == 11 then NoneWaits
    else if is_one_of (4 ∷ 64 ∷ 71 ∷ 92 ∷ 95 ∷ 100 ∷ 101 ∷ 103 ∷ 112 ∷ 113 ∷ []) code then OneConnection
    else if is_one_of (1 ∷ 12 ∷ 23 ∷ 24 ∷ 105 ∷ []) code then Lack else Listener

-- an error without a number is of one connection
abbrev pub refusal_by : Option ℤ → Refusal
refusal_by None = OneConnection
refusal_by (Some code) = refusal (unsigned_abs code)
