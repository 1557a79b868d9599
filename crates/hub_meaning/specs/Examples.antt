-- Small runs, as the definitions compute them.
use Rattle.std.specs.Prelude.{◌≡◌, ℕ, zero, suc, true, false, List, [], ◌∷◌, ◌++◌, length, None}
use Rattle.stream_meaning.specs.Arrivals.{CoreConfig}
use Rattle.ports.specs.declared.entry.Entry.{Entry}
use Rattle.ports.specs.declared.entry.Entry.TheVariants.{Next, Send, Close}
use Rattle.ports.specs.declared.links.SendAnswer.TheVariants.{Took, Later}
use Rattle.ports.specs.declared.links.Want.{Want}
use Rattle.ports.specs.declared.links.What.{What}
use Rattle.ports.specs.declared.links.What.TheVariants.{Ended, Room}
use Rattle.stream_plan.specs.Tree.{Index, none}
use Rattle.stream_meaning.specs.Small.{above, alone}
use Rattle.ev_types.specs.Clock.{next_moment}
use Rattle.hub_meaning.specs.Legal.{IsLegalFrom}
use Rattle.hub_meaning.specs.Links.{Link, Open, Closed, connected, opened}
use Rattle.hub_meaning.specs.Runs.{RunState, plain, state_from}

-- a clock that goes back, and then far on: an hour a turn is taken of it
abbrev pub moments : ℕ → List ℕ → List ℕ
moments now [] = []
moments now (secs ∷ readings) = next_moment now secs ∷ moments (next_moment now secs) readings

abbrev pub ClockExample : Type 0
ClockExample = moments 100 (90 ∷ 8000 ∷ 8000 ∷ []) ≡ 100 ∷ 3700 ∷ 7300 ∷ []

-- only the index, from moment 0 on
abbrev pub index_only : CoreConfig
index_only = record { plan = alone (above Index none); expiry = None; start = 0 }

-- the reply that a message was accepted
abbrev pub ok_reply : List ℕ
ok_reply = 0 ∷ 0 ∷ 0 ∷ 2 ∷ 16 ∷ 1 ∷ []

abbrev pub at_once : List Want → What → Entry
at_once wants what = Next wants (record { secs = 0; what = what }) []

abbrev pub wanted : Want
wanted = record { link = 0; read = false; room = true }

-- one link, to which that reply is not sent yet
abbrev pub one_link : RunState
one_link = record {
  now = 0;
  arrivals = [];
  links = record { number = 0; stage = Open; blocked = false; came = []; replies = ok_reply; taken = [] } ∷ [];
}

-- the link takes four bytes, then nothing; its peer ends; and once there is room again it takes the rest, and is closed
abbrev pub first_sends : List Entry
first_sends =
    Send 0 ok_reply (Took 4) ∷ Send 0 (16 ∷ 1 ∷ []) Later ∷ at_once (record wanted { read = true } ∷ []) (Ended 0) ∷ []

abbrev pub last_sends : List Entry
last_sends = at_once (wanted ∷ []) (Room 0) ∷ Send 0 (16 ∷ 1 ∷ []) (Took 2) ∷ Close 0 ∷ []

abbrev pub LateRoomExample : Type 0
LateRoomExample = IsLegalFrom index_only (plain (first_sends ++ last_sends)) one_link

abbrev pub AllTakenExample : Type 0
AllTakenExample = (state_from index_only (plain (first_sends ++ last_sends)) one_link).links
    ≡ record { number = 0; stage = Closed; blocked = false; came = []; replies = ok_reply; taken = ok_reply } ∷ []

-- it is not closed while bytes are unsent
abbrev pub ClosedEarlyExample : Type 0
ClosedEarlyExample = IsLegalFrom index_only (plain (first_sends ++ Close 0 ∷ [])) one_link → ⊥

-- n links, from number 0 on
abbrev pub opened_links : ℕ → List Link
opened_links zero = []
opened_links (suc n) = opened n (opened_links n)

-- of 257 links, 256 are connected
abbrev pub ConnectedExample : Type 0
ConnectedExample = length (connected (opened_links 257)) ≡ 256
