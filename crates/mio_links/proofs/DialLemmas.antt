-- What is known of a turn of the one link of a client.
use Rattle.std.proofs.Common.{◌≡◌}
use Rattle.ports.specs.declared.links.What.{What}
use Rattle.ports.specs.declared.links.What.TheVariants.{Idle, Opened, Read, Ended, Broken, Room, Stopped, Failed}
use Rattle.ports.specs.declared.links.What.TheVariants.{Memory}
use Rattle.mio_links.specs.Turns.{IsOn, OfLink}

pub some_on_zero : (what : What) → IsOn 0 what → OfLink what (λ link. link ≡ 0)
some_on_zero Idle on = tt
some_on_zero (Opened other) on = absurd on
some_on_zero (Read other count) on = on
some_on_zero (Ended other) on = on
some_on_zero (Broken other) on = on
some_on_zero (Room other) on = on
some_on_zero Stopped on = tt
some_on_zero Failed on = tt
some_on_zero Memory on = tt
