-- What sends to one link do.
use Rattle.std.specs.Prelude.{◌≡◌, ℕ, Bool, not, ◌&&◌, ◌||◌, if◌then◌else◌, nat_lt, List, [], ◌∷◌}
use Rattle.std.specs.Prelude.{length, Some}
use Rattle.msg_replies.specs.event_core.Core.{CoreConfig}
use Rattle.ports.specs.declared.entry.Entry.{Entry}
use Rattle.ports.specs.declared.entry.Entry.TheVariants.{Listen, Next, Send, Close}
use Rattle.msg_replies.specs.hub_meaning.Legal.{IsLegalFrom, IsSettled, MayClose}
use Rattle.msg_replies.specs.hub_meaning.Links.{Link, changed, find_link, is_open_stage, is_read_closed_stage, sent}
use Rattle.msg_replies.specs.hub_meaning.Runs.{RunState, plain, state_from, with_links}
use Rattle.hub_link.specs.declared.link.HubLink.{HubLink}
use Rattle.hub_link.specs.HubLink.{RepresentsLink, number_of}

-- the link after the sends among these calls
abbrev pub after_sends : List Entry → Link → Link
after_sends [] link = link
after_sends (Listen address answer ∷ entries) link = after_sends entries link
after_sends (Next wants turn piece ∷ entries) link = after_sends entries link
after_sends (Send number bytes answer ∷ entries) link = after_sends entries (sent bytes answer link)
after_sends (Close number ∷ entries) link = after_sends entries link

-- the link is one of the state's
pub record IsOf (link : HubLink) (state : RunState) (meant : Link) : Type 0 where
  pub found : find_link (number_of link) state.links ≡ Some meant
  pub represents : RepresentsLink link meant

-- each of these calls is a send to the link of this number
abbrev pub AreSendsTo : ℕ → List Entry → Type 0
AreSendsTo number [] = Unit {0}
AreSendsTo number (Listen address answer ∷ entries) = ⊥
AreSendsTo number (Next wants turn piece ∷ entries) = ⊥
AreSendsTo number (Send other bytes answer ∷ entries) = (other ≡ number) × AreSendsTo number entries
AreSendsTo number (Close other ∷ entries) = ⊥

-- In every state that has the link, these calls may come, one after another, and they change that link alone.
pub record Sends (link link' : HubLink) (run : List Entry) : Type 0 where
  pub only : AreSendsTo (number_of link) run
  pub legal : (config : CoreConfig) (state : RunState) (meant : Link) → IsOf link state meant
      → IsLegalFrom config (plain run) state
  pub leads : (config : CoreConfig) (state : RunState) (meant : Link) → IsOf link state meant
      → state_from config (plain run) state ≡ with_links (changed (number_of link) (after_sends run) state.links) state
  pub represents : (meant : Link) → RepresentsLink link meant → RepresentsLink link' (after_sends run meant)

-- all was sent that is taken, or the link is to be closed
abbrev pub IsSent : HubLink → Type 0
IsSent link = (meant : Link) → RepresentsLink link meant → (MayClose meant → ⊥) → IsSettled meant

-- the link may be sent to, and has bytes to send
abbrev pub can_send : HubLink → Bool
can_send link =
    (is_open_stage link.stage || is_read_closed_stage link.stage) && (not link.blocked && nat_lt 0 (length link.unsent))

-- the bytes that there are to send
abbrev pub sendable : HubLink → ℕ
sendable link = if can_send link then length link.unsent else 0
