-- What is known of a turn of a link, and of a turn that is given.
use Rattle.std.proofs.Common.{◌≡◌, ◌≢◌, ℕ, true, Option, Some, None, subst}
use Rattle.std.specs.Prelude.{IfSome}
use Rattle.ports.specs.Links.{HasNextCause}
use Rattle.ports.specs.declared.links.What.{What}
use Rattle.ports.specs.declared.links.What.TheVariants.{Idle, Opened, Read, Ended, Broken, Room, Stopped, Failed}
use Rattle.ports.specs.declared.links.What.TheVariants.{Memory}
use Rattle.mio_links.specs.Sockets.{has_link}
use Rattle.mio_links.specs.Turns.{IsGiven, IsOn, OfLink, OpensAt}
use Rattle.mio_links.specs.declared.sockets.Sockets.{Sockets}

on_open : (sockets : Sockets) (link : ℕ) (what : What) → has_link sockets link ≡ true → IsOn link what
    → OfLink what (λ other. has_link sockets other ≡ true)
on_open sockets link Idle is_open on = tt
on_open sockets link (Opened other) is_open on = absurd on
on_open sockets link (Read other count) is_open on = rw on is_open
on_open sockets link (Ended other) is_open on = rw on is_open
on_open sockets link (Broken other) is_open on = rw on is_open
on_open sockets link (Room other) is_open on = rw on is_open
on_open sockets link Stopped is_open on = tt
on_open sockets link Failed is_open on = tt
on_open sockets link Memory is_open on = tt

-- a turn on an open link is of an open link
pub some_on_open : (sockets : Sockets) (link : ℕ) (found : Option What) → has_link sockets link ≡ true
    → IfSome found (IsOn link) → IfSome found (λ what. OfLink what (λ other. has_link sockets other ≡ true))
some_on_open sockets link None is_open on = tt
some_on_open sockets link (Some what) is_open on = on_open sockets link what is_open on

on_opens : (link next : ℕ) (what : What) → IsOn link what → OpensAt next what
on_opens link next Idle on = tt
on_opens link next (Opened other) on = absurd on
on_opens link next (Read other count) on = tt
on_opens link next (Ended other) on = tt
on_opens link next (Broken other) on = tt
on_opens link next (Room other) on = tt
on_opens link next Stopped on = tt
on_opens link next Failed on = tt
on_opens link next Memory on = tt

-- a turn on an open link opens none
pub some_opens : (link next : ℕ) (found : Option What) → IfSome found (IsOn link) → IfSome found (OpensAt next)
some_opens link next None on = tt
some_opens link next (Some what) on = on_opens link next what on

-- a turn that is given is no fault
pub given_counts : (old new : ℕ) (what : What) → new ≡ old → IsGiven what → HasNextCause old new what
given_counts old new Idle same given = same
given_counts old new (Opened link) same given = same
given_counts old new (Read link count) same given = same
given_counts old new (Ended link) same given = same
given_counts old new (Broken link) same given = same
given_counts old new (Room link) same given = same
given_counts old new Stopped same given = same
given_counts old new Failed same given = absurd given
given_counts old new Memory same given = same

-- a turn that is given is not the last
pub given_goes_on : (what : What) → IsGiven what → what ≢ Stopped
given_goes_on what given = λ same. subst IsGiven same given

-- a turn that is given is not that memory ran out
pub given_is_no_memory : (what : What) → IsGiven what → what ≢ Memory
given_is_no_memory what given = λ same. subst IsGiven same given
