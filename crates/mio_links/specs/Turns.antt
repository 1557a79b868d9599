-- What the turns of real links say.
use Rattle.std.specs.Prelude.{◌≡◌, ℕ, ◌+◌, ⊤}
use Rattle.ports.specs.declared.links.What.{What}
use Rattle.ports.specs.declared.links.What.TheVariants.{Opened, Read, Ended, Broken, Room, Stopped, Failed, Memory}

-- a turn of a server that goes on
abbrev pub IsGiven : What → Type 0
IsGiven Stopped = ⊥
IsGiven Failed = ⊥
IsGiven Memory = ⊥
IsGiven _ = ⊤

-- the turn is one of this link, which was open before it
abbrev pub IsOn : ℕ → What → Type 0
IsOn link (Read other count) = other ≡ link
IsOn link (Ended other) = other ≡ link
IsOn link (Broken other) = other ≡ link
IsOn link (Room other) = other ≡ link
IsOn link _ = ⊥

-- the fact holds of the link that a turn is of, where it is of one
abbrev pub OfLink : What → (ℕ → Type 0) → Type 0
OfLink (Opened link) P = P link
OfLink (Read link count) P = P link
OfLink (Ended link) P = P link
OfLink (Broken link) P = P link
OfLink (Room link) P = P link
OfLink _ P = ⊤

-- A link that opened has this number, and the next one will have the number after it.
abbrev pub CountsOpened : ℕ → ℕ → What → Type 0
CountsOpened next after (Opened link) = (link ≡ next) × (after ≡ next + 1)
CountsOpened next after _ = after ≡ next

-- a link that opened has this number
abbrev pub OpensAt : ℕ → What → Type 0
OpensAt next (Opened link) = link ≡ next
OpensAt next _ = ⊤
