-- The search for the link that was silent longest, step by step.
use Rattle.std.proofs.Common.{◌≡◌, ℕ, ◌+◌, ◌<◌, ◌≤◌, List, length, take, get_or, Option, subst}
use Rattle.std.proofs.lemmas.List.{take_all}
use Rattle.std.proofs.lemmas.List.Elements.{All-more}
use Rattle.std.specs.Prelude.{nat_eq}
use Rattle.std.specs.List.{All}
use Rattle.std.specs.HashMap.{get}
use Rattle.std.specs.Option.{option_map}
use Rattle.ports.specs.declared.links.Want.{Want}
use Rattle.mio_links.specs.Silence.{AreNoLonger, IsNoLonger, IsRecent, NoneIsGivenUp, heard_of}
use Rattle.mio_links.specs.declared.sockets.Heard.{Heard}
use Rattle.mio_links.specs.declared.sockets.Sockets.{Sockets}

-- one more link was looked at
pub one_more : (sockets : Sockets) (wants : List Want) (i : ℕ) (d : Want) (found next : Option Heard) → i < length wants
    → AreNoLonger sockets (take i wants) found
    → ((secs : Option ℕ) → IsNoLonger found secs → IsNoLonger next secs)
    → IsNoLonger next (heard_of sockets (get_or wants i d).link)
    → AreNoLonger sockets (take (i + 1) wants) next
one_more sockets wants i d found next within before others this =
    All-more (λ want. IsNoLonger next (heard_of sockets want.link)) wants i d within
    (λ k e lower. others (heard_of sockets (get_or (take i wants) k e).link) (before k e lower)) this

-- all links were looked at
pub all_of : (sockets : Sockets) (wants : List Want) (i : ℕ) (found : Option Heard) → length wants ≤ i
    → AreNoLonger sockets (take i wants) found → AreNoLonger sockets wants found
all_of sockets wants i found long before =
    subst (λ looked. AreNoLonger sockets looked found) (take_all i wants long) before

-- no link is given up where none of the same clients is
pub same_silence : (sockets other : Sockets) (wants : List Want) (secs : ℕ) → other.clients ≡ sockets.clients
    → NoneIsGivenUp other wants secs → NoneIsGivenUp sockets wants secs
same_silence sockets other wants secs same =
    subst (λ clients. 256 ≤ length wants
    → All (λ want. IsRecent secs (option_map (λ client. client.heard) (get nat_eq clients want.link))) wants) same
