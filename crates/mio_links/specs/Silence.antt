-- Which link is given up for its silence.
use Rattle.std.specs.Prelude.{◌≡◌, ℕ, ◌+◌, ◌<◌, ◌≤◌, nat_eq, List, length, Option, Some, None, IsSome, ⊤}
use Rattle.std.specs.List.{All}
use Rattle.std.specs.Option.{option_map, ForSome}
use Rattle.std.specs.HashMap.{get}
use Rattle.ports.specs.declared.links.Want.{Want}
use Rattle.ports.specs.declared.links.What.{What}
use Rattle.ports.specs.declared.links.What.TheVariants.{Broken}
use Rattle.mio_links.specs.declared.sockets.Heard.{Heard}
use Rattle.mio_links.specs.declared.sockets.Sockets.{Sockets}

-- the reading of the clock at the last turn of the link, if it is open
abbrev pub heard_of : Sockets → ℕ → Option ℕ
heard_of sockets link = option_map (λ client. client.heard) (get nat_eq sockets.clients link)

-- a link that had its last turn at this reading, if it is one, was silent no longer than the one that was found
abbrev pub IsNoLonger : Option Heard → Option ℕ → Type 0
IsNoLonger found None = ⊤
IsNoLonger None (Some secs) = ⊥
IsNoLonger (Some found) (Some secs) = found.secs ≤ secs

-- of these links, none that is open was silent longer than the one that was found
abbrev pub AreNoLonger : Sockets → List Want → Option Heard → Type 0
AreNoLonger sockets wants found = All (λ want. IsNoLonger found (heard_of sockets want.link)) wants

-- The link is given up at this reading of the clock: 256 links are connected, it had no turn for 600 seconds, and no
-- other one was silent longer.
pub record IsGivenUp (sockets : Sockets) (wants : List Want) (secs : ℕ) (found : Heard) : Type 0 where
  pub full : 256 ≤ length wants
  pub heard : heard_of sockets found.link ≡ Some found.secs
  pub silent : found.secs + 600 ≤ secs
  pub longest : AreNoLonger sockets wants (Some found)

-- the link, if it is open, had a turn less than 600 seconds before this reading
abbrev pub IsRecent : ℕ → Option ℕ → Type 0
IsRecent secs None = ⊤
IsRecent secs (Some heard) = secs < heard + 600

-- no link is given up: fewer than 256 are connected, or each of them had a turn not long ago
abbrev pub NoneIsGivenUp : Sockets → List Want → ℕ → Type 0
NoneIsGivenUp sockets wants secs = 256 ≤ length wants → All (λ want. IsRecent secs (heard_of sockets want.link)) wants

-- a turn of the listener that breaks a link is of one that is given up, and a connection waits for its place
abbrev pub GivesUp : Sockets → List Want → ℕ → What → Type 0
GivesUp sockets wants secs (Broken link) = IsSome sockets.arrived ×
    ForSome (heard_of sockets link) (λ heard. IsGivenUp sockets wants secs (record { link = link; secs = heard }))
GivesUp sockets wants secs _ = ⊤
