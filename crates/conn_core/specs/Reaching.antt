-- What the calls of a turn do to the links, from the state after its occurrence.
use Rattle.std.specs.Prelude.{◌≡◌, ◌≢◌, ℕ, suc, ◌<◌, List, [], ◌∷◌, ◌++◌, length, take, drop, slice_index_or, Some}
use Rattle.std.specs.Prelude.{Result, OnOk}
use Rattle.hub_link.specs.event_core.Core.{CoreConfig}
use Rattle.hub_link.specs.hub_meaning.Laws.{AreRising}
use Rattle.hub_link.specs.hub_meaning.Legal.{AreSettled, IsLegalFrom, IsSettled, MayClose}
use Rattle.hub_link.specs.hub_meaning.declared.stage.Stage.TheVariants.{Closed}
use Rattle.hub_link.specs.hub_meaning.Links.{Link, broken, changed, connected, connected_limit, ended, is_above}
use Rattle.hub_link.specs.hub_meaning.Links.{new_link, opened, unblocked, want_of, wants_of}
use Rattle.hub_link.specs.hub_meaning.Runs.{RunState, plain, state_from, with_links}
use Rattle.hub_link.specs.declared.link.HubLink.{HubLink}
use Rattle.hub_link.specs.HubLink.{RepresentsLink}
use Rattle.conn_core.specs.Kept.{Kept, is_newer, number_at}
use Rattle.list_laws.specs.declared.memory.Memory.{Memory}
use Rattle.ports.specs.declared.entry.Entry.{Entry}
use Rattle.ports.specs.declared.links.What.{What}
use Rattle.ports.specs.declared.links.What.TheVariants.{Idle, Opened, Read, Ended, Broken, Room, Stopped, Failed}
use Rattle.ports.specs.declared.links.What.TheVariants.{Memory as NoMemory}
use Rattle.conn_core.specs.Keeping.{AreBeside, Keeps}

-- after these calls all links are settled, and the table has them
pub record Ends (table : Kept HubLink) (config : CoreConfig) (state : RunState) (run : List Entry) : Type 0 where
  pub links : List Link
  pub leads : state_from config (plain run) state ≡ with_links links state
  pub keeps : Keeps table links
  pub settled : AreSettled links

-- these calls may come in the state, one after another; where memory did not run out, all links are settled then
pub record Reaches (table : Kept HubLink) (result : Result (Unit {0}) Memory) (config : CoreConfig) (state : RunState)
    (run : List Entry) : Type 0 where
  pub legal : IsLegalFrom config (plain run) state
  pub ends : OnOk result (Ends table config state run)

-- One link is looked at: the table has it and those before and after it, but what is wanted of it is not up to date.
-- The others are settled.
pub record Focus (table : Kept HubLink) (number place : ℕ) (links : List Link) (meant : Link) : Type 0 where
  pub first : List Link
  pub last : List Link
  pub are : links ≡ first ++ meant ∷ last
  pub number_is : meant.number ≡ number
  pub unclosed : meant.stage ≢ Closed
  pub rising : AreRising links
  pub free : (other : ℕ) → is_above other links ≡ is_newer other table.newest
  pub within : place < length table.values
  pub beside : length table.wants ≡ length table.values
  pub has_number : number_at table.wants place ≡ number
  pub wants_first : take place table.wants ≡ wants_of first
  pub wants_last : drop (suc place) table.wants ≡ wants_of last
  pub values_first : AreBeside (take place table.values) (connected first)
  pub value : (value : HubLink) → RepresentsLink (slice_index_or table.values place value) meant
  pub values_last : AreBeside (drop (suc place) table.values) (connected last)
  pub settled_first : AreSettled first
  pub settled_last : AreSettled last

-- from a state with the link, these calls settle all links
abbrev pub Settles : Kept HubLink → Kept HubLink → ℕ → ℕ → Result (Unit {0}) Memory → List Entry → Type 0
Settles table table' number place result run =
    (config : CoreConfig) (state : RunState) (meant : Link) → Focus table number place state.links meant
    → Reaches table' result config state run

-- the same where that link is settled unless it may be closed
abbrev pub Finishes : Kept HubLink → Kept HubLink → ℕ → ℕ → Result (Unit {0}) Memory → List Entry → Type 0
Finishes table table' number place result run =
    (config : CoreConfig) (state : RunState) (meant : Link) → Focus table number place state.links meant
    → ((MayClose meant → ⊥) → IsSettled meant)
    → Reaches table' result config state run

-- what becomes of the links where nothing is read
abbrev pub links_after : What → List Link → List Link
links_after Idle links = links
links_after (Opened number) links = opened number links
links_after (Read number count) links = links
links_after (Ended number) links = changed number ended links
links_after (Broken number) links = changed number broken links
links_after (Room number) links = changed number unblocked links
links_after Stopped links = links
links_after Failed links = links
links_after NoMemory links = links

-- the links are changed so, and then these calls settle them
abbrev pub Changes : (List Link → List Link) → Kept HubLink → Kept HubLink → Result (Unit {0}) Memory → List Entry
    → Type 0
Changes change table table' result run =
    (config : CoreConfig) (state : RunState) → Keeps table state.links → AreSettled state.links
    → Reaches table' result config (with_links (change state.links) state) run

-- the table has one more link, which was opened
pub record AddsLink (number : ℕ) (table table' : Kept HubLink) : Type 0 where
  pub value : HubLink
  pub represents : (links : List Link) → length (connected links) < connected_limit
      → RepresentsLink value (new_link number links)
  pub wants : table'.wants ≡ table.wants ++ want_of (new_link number []) ∷ []
  pub values : table'.values ≡ table.values ++ value ∷ []
  pub newest : table'.newest ≡ Some number
