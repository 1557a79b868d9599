-- The numbers of the inner links. They begin here with a number `first`.
use Rattle.std.specs.Prelude.{◌≡◌, ℕ, ◌+◌, ◌-◌, ◌^◌, nat_lt, nat_le, if◌then◌else◌, List, [], ◌∷◌, Option, Some, None}
use Rattle.std.specs.Prelude.{IsTrue}
use Rattle.std.specs.List.{flat_map}
use Rattle.std.specs.Option.{ForSome}
use Rattle.ports.specs.Links.{is_unclosed}
use Rattle.ports.specs.declared.entry.Entry.{Entry}
use Rattle.ports.specs.declared.links.Turn.{Turn}
use Rattle.ports.specs.declared.links.Want.{Want}
use Rattle.ports.specs.declared.links.What.{What}
use Rattle.ports.specs.declared.links.What.TheVariants.{Idle, Opened, Read, Ended, Broken, Room, Stopped, Failed}
use Rattle.ports.specs.declared.links.What.TheVariants.{Memory}

-- the number after the last one that is taken
abbrev pub first_after : Option ℕ → ℕ
first_after None = 0
first_after (Some last) = last + 1

-- the number here of an inner link, if it has 64 bits
abbrev pub own_number : ℕ → ℕ → Option ℕ
own_number first link = if nat_lt (first + link) (2 ^ 64) then Some (first + link) else None

-- a turn of the link, or Idle where it has no number
abbrev pub of_link : Option ℕ → (ℕ → What) → What
of_link None what = Idle
of_link (Some link) what = what link

-- a turn of the inner links with the numbers here
abbrev pub own_what : ℕ → What → What
own_what first Idle = Idle
own_what first (Opened link) = of_link (own_number first link) Opened
own_what first (Read link count) = of_link (own_number first link) (λ own. Read own count)
own_what first (Ended link) = of_link (own_number first link) Ended
own_what first (Broken link) = of_link (own_number first link) Broken
own_what first (Room link) = of_link (own_number first link) Room
own_what first Stopped = Stopped
own_what first Failed = Failed
own_what first Memory = Memory

abbrev pub own_turn : ℕ → Turn → Turn
own_turn first turn = record { secs = turn.secs; what = own_what first turn.what }

-- the number there of a link, if it is an inner one
abbrev pub inner_number : ℕ → ℕ → Option ℕ
inner_number first link = if nat_le first link then Some (link - first) else None

-- what is wanted of a link, if it is an inner one
abbrev pub wants_of : Option ℕ → Want → List Want
wants_of None want = []
wants_of (Some number) want = record { link = number; read = want.read; room = want.room } ∷ []

abbrev pub inner_want : ℕ → Want → List Want
inner_want first want = wants_of (inner_number first want.link) want

abbrev pub inner_wants : ℕ → List Want → List Want
inner_wants first wants = flat_map (inner_want first) wants

-- each inner link that was opened here and not closed since was opened there and not closed since
abbrev pub Knows : ℕ → List Entry → Option (List Entry) → Type 0
Knows first own inner =
    ForSome inner (λ entries. (link number : ℕ) → inner_number first link ≡ Some number → IsTrue (is_unclosed link own)
    → IsTrue (is_unclosed number entries))
