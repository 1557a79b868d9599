-- What is known of open sockets.
use Rattle.std.specs.Prelude.{◌≡◌, ℕ, ◌≤◌, nat_eq, Bool, true, is_some, Option, Some, None, ⊤}
use Rattle.std.specs.HashMap.{get}
use Rattle.std.specs.Option.{option_map, ForSome}
use Rattle.ports.specs.declared.links.What.{What}
use Rattle.ports.specs.declared.links.What.TheVariants.{Read}
use Rattle.mio_links.specs.Queues.{IsFull}
use Rattle.mio_links.specs.declared.client.Waiting.TheVariants.{PutOff}
use Rattle.mio_links.specs.declared.share.Share.{Share}
use Rattle.mio_links.specs.declared.sockets.Sockets.{Sockets}

-- the link was opened on these sockets and not closed since
abbrev pub has_link : Sockets → ℕ → Bool
has_link sockets link = is_some (get nat_eq sockets.clients link)

-- the same of sockets that may not be there yet
abbrev pub IsOpenOn : Option Sockets → ℕ → Type 0
IsOpenOn None link = ⊥
IsOpenOn (Some sockets) link = has_link sockets link ≡ true

-- one source more can wait only with more memory, on sockets that may not be there yet
abbrev pub IsFullOn : Option Sockets → Type 0
IsFullOn sockets = ForSome sockets (λ sockets. IsFull sockets.queue)

-- how much of the link is read at once, if it is open
abbrev pub share_of : Sockets → ℕ → Option Share
share_of sockets link = option_map (λ client. client.share) (get nat_eq sockets.clients link)

-- a read has at most as many bytes as are read of its link at once
abbrev pub IsWithinShare : Sockets → What → Type 0
IsWithinShare sockets (Read link count) = ForSome (share_of sockets link) (λ share. count ≤ share.bytes)
IsWithinShare sockets _ = ⊤

-- the same of sockets that may not be there yet
abbrev pub IsWithinShareOn : Option Sockets → What → Type 0
IsWithinShareOn sockets what = ForSome sockets (λ sockets. IsWithinShare sockets what)

-- a link whose last read was dear was put off, so that all others of its round were served
abbrev pub MayHaveTurn : Sockets → ℕ → Type 0
MayHaveTurn sockets link = ForSome (get nat_eq sockets.clients link)
    (λ client. client.share.is_dear ≡ true → client.waiting ≡ PutOff)
