-- What comes to a key, and what a configuration whose keys are apart gives for it.
use Rattle.std.specs.Prelude.{◌≡◌, ℕ, IsTrue, if◌then◌else◌, List, [], ◌∷◌, filter, Option}
use Rattle.std.specs.List.{AllByRecursion}
use Rattle.ev_types.specs.declared.field.Field.{Field}
use Rattle.ev_types.specs.declared.item.Notice.{Notice}
use Rattle.ev_types.specs.declared.settings.Expiry.{Expiry}
use Rattle.ev_types.specs.declared.value.Value.{Value}
use Rattle.index_log.specs.Live.{live_events}
use Rattle.index_log.specs.OfKey.{event_has}
use Rattle.stream_plan.specs.Tree.{StreamTrees}
use Rattle.stream_meaning.specs.Arrivals.{Arrival, Elapsed, Post, state_after, notices_of}
use Rattle.stream_meaning.specs.Keys.{notice_has}
use Rattle.key_laws.specs.Apart.{keys_apart}

-- the arrivals of a key: all seconds, and the posted events of the key
abbrev pub arrivals_of : List Field → List Value → List Arrival → List Arrival
arrivals_of fields key [] = []
arrivals_of fields key (Elapsed ∷ more) = Elapsed ∷ arrivals_of fields key more
arrivals_of fields key (Post event ∷ more) =
    if event_has fields key event then Post event ∷ arrivals_of fields key more else arrivals_of fields key more

-- the notices of a key are the notices over the arrivals of the key alone
abbrev pub KeysHaveTheirNotices : Type 0
KeysHaveTheirNotices =
    (fields : List Field) (plan : StreamTrees) (expiry : Option Expiry) (start : ℕ) (arrivals : List Arrival)
    (key : List Value) →
    IsTrue (keys_apart fields plan expiry) →
    filter (notice_has fields key) (notices_of plan expiry start arrivals)
    ≡ notices_of plan expiry start (arrivals_of fields key arrivals)

-- the notice has a key, and no other
pub record IsOfOneKey (fields : List Field) (given : Notice) : Type 0 where
  pub key : List Value
  pub has : IsTrue (notice_has fields key given)
  pub only : (other : List Value) → IsTrue (notice_has fields other given) → other ≡ key

abbrev pub NoticesAreOfOneKey : Type 0
NoticesAreOfOneKey =
    (fields : List Field) (plan : StreamTrees) (expiry : Option Expiry) (start : ℕ) (arrivals : List Arrival) →
    IsTrue (keys_apart fields plan expiry) → AllByRecursion (IsOfOneKey fields) (notices_of plan expiry start arrivals)

-- what the index holds of a key is what it holds after the arrivals of the key alone
abbrev pub KeysHaveTheirLiveEvents : Type 0
KeysHaveTheirLiveEvents =
    (fields : List Field) (plan : StreamTrees) (expiry : Option Expiry) (start : ℕ) (arrivals : List Arrival)
    (key : List Value) →
    IsTrue (keys_apart fields plan expiry) →
    filter (event_has fields key) (live_events (state_after plan expiry start arrivals).log)
    ≡ live_events (state_after plan expiry start (arrivals_of fields key arrivals)).log
