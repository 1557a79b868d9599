-- What a link of a server represents.
use Rattle.std.specs.Prelude.{◌≡◌, ℕ, ◌≤◌, true, length}
use Rattle.framing.specs.Frames.{partial}
use Rattle.msg_replies.specs.hub_meaning.Links.{Link, is_open, unsent}
use Rattle.hub_link.specs.declared.link.HubLink.{HubLink}

abbrev pub number_of : HubLink → ℕ
number_of link = link.number

-- it is as that link is: of the bytes that came it keeps those of no whole frame, and of the replies those not taken
pub record RepresentsLink (link : HubLink) (meant : Link) : Type 0 where
  pub number : link.number ≡ meant.number
  pub stage : link.stage ≡ meant.stage
  pub blocked : link.blocked ≡ meant.blocked
  pub input : is_open meant ≡ true → link.input ≡ partial meant.came
  pub unsent : link.unsent ≡ unsent meant
  pub within : length meant.taken ≤ length meant.replies

-- whatever link the old one represented, the new one represents that link changed
abbrev pub RepresentsChanged : (Link → Link) → HubLink → HubLink → Type 0
RepresentsChanged change old new = (meant : Link) → RepresentsLink old meant → RepresentsLink new (change meant)
