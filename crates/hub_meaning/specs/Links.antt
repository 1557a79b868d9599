-- The state of a link and its changes: the bytes that were read from it, its replies, and what was taken of them.
use Rattle.std.specs.Prelude.{ℕ, ◌==◌, nat_lt, Bool, true, false, ◌&&◌, ◌||◌, if◌then◌else◌, List, [], ◌∷◌, ◌++◌}
use Rattle.std.specs.Prelude.{length, map, take, drop, filter, Option, Some, None}
use Rattle.std.specs.List.{list_all}
use Rattle.framing.specs.declared.TheConstants.{BODY_LIMIT}
use Rattle.ports.specs.declared.links.SendAnswer.{SendAnswer}
use Rattle.ports.specs.declared.links.SendAnswer.TheVariants.{Took, Later, Failed, Memory}
use Rattle.ports.specs.declared.links.Want.{Want}
pub use Rattle.hub_meaning.specs.declared.stage.Stage.{Stage}
pub use Rattle.hub_meaning.specs.declared.stage.Stage.TheVariants.{Open, ReadClosed, Closing, Closed}

pub record Link : Type 0 where
  pub number : ℕ
  pub stage : Stage
  -- a send took nothing, and it is not known yet that there is room again
  pub blocked : Bool
  -- the bytes that were read from it
  pub came : List ℕ
  -- its replies, one after another, and what was taken of them
  pub replies : List ℕ
  pub taken : List ℕ

abbrev pub is_open_stage : Stage → Bool
is_open_stage Open = true
is_open_stage ReadClosed = false
is_open_stage Closing = false
is_open_stage Closed = false

abbrev pub is_read_closed_stage : Stage → Bool
is_read_closed_stage Open = false
is_read_closed_stage ReadClosed = true
is_read_closed_stage Closing = false
is_read_closed_stage Closed = false

abbrev pub is_open : Link → Bool
is_open link = is_open_stage link.stage

-- it is open or read-closed
abbrev pub is_connected : Link → Bool
is_connected link = is_open_stage link.stage || is_read_closed_stage link.stage

-- the reply bytes that were not taken
abbrev pub unsent : Link → List ℕ
unsent link = drop (length link.taken) link.replies

-- ---- links by their numbers, which rise

abbrev pub has_number : ℕ → Link → Bool
has_number number link = link.number == number

abbrev pub find_link : ℕ → List Link → Option Link
find_link number [] = None
find_link number (link ∷ links) = if has_number number link then Some link else find_link number links

-- the link of this number is changed
abbrev pub changed : ℕ → (Link → Link) → List Link → List Link
changed number change links = map (λ link. if has_number number link then change link else link) links

-- the number is above those of all links so far
abbrev pub is_above : ℕ → List Link → Bool
is_above number links = list_all (λ link. nat_lt link.number number) links

-- whether a link of this stage is to be closed while `count` bytes are unsent
abbrev pub is_over_as : Stage → ℕ → Bool
is_over_as Open count = false
is_over_as ReadClosed count = count == 0
is_over_as Closing count = true
is_over_as Closed count = false

-- ---- how a link begins, and what changes it

-- most links that are connected at once
abbrev pub connected_limit : ℕ
connected_limit = 256

abbrev pub connected : List Link → List Link
connected links = filter is_connected links

-- a link over the limit is closed at once
abbrev pub new_link : ℕ → List Link → Link
new_link number links = record {
  number = number;
  stage = if nat_lt (length (connected links)) connected_limit then Open else Closing;
  blocked = false;
  came = [];
  replies = [];
  taken = [];
}

-- a number that is not above all that came before is ignored
abbrev pub opened : ℕ → List Link → List Link
opened number links = if is_above number links then links ++ new_link number links ∷ [] else links

abbrev pub with_stage : Stage → Link → Link
with_stage stage link = record link { stage = stage }

-- the peer sends no more
abbrev pub ended : Link → Link
ended link = if is_open link then with_stage ReadClosed link else link

-- the link does not work any more
abbrev pub broken : Link → Link
broken link = if is_connected link then with_stage Closing link else link

-- it may be sent to again
abbrev pub unblocked : Link → Link
unblocked link = if is_connected link then record link { blocked = false } else link

-- bytes were sent, and answered so
abbrev pub sent : List ℕ → SendAnswer → Link → Link
sent bytes (Took count) link = record link { taken = link.taken ++ take count bytes; blocked = count == 0 }
sent bytes Later link = record link { blocked = true }
sent bytes Failed link = with_stage Closing link
sent bytes Memory link = link

abbrev pub closed : Link → Link
closed link = with_stage Closed link

-- ---- what is wanted of links

-- no more is read while as many bytes as a body may have are unsent
abbrev pub want_of : Link → Want
want_of link = record {
  link = link.number;
  read = is_open link && nat_lt (length (unsent link)) BODY_LIMIT;
  room = nat_lt 0 (length (unsent link));
}

-- one for each that is connected, by rising number
abbrev pub wants_of : List Link → List Want
wants_of links = map want_of (connected links)
