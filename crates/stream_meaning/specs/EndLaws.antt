-- Laws of the ends of keys, and of the forks that are live.
use Rattle.std.specs.Prelude.{◌≡◌, ◌↔◌, ℕ, ◌+◌, ◌<◌, Bool, false, IsTrue, IsFalse, List, [], ◌∷◌, ◌++◌, map, filter}
use Rattle.std.specs.Prelude.{Option, Some, None, Contains}
use Rattle.std.specs.List.{list_any, AllByRecursion, IsDistinct}
use Rattle.ev_types.specs.declared.field.Field.{Field}
use Rattle.ev_types.specs.declared.item.Item.{Item}
use Rattle.ev_types.specs.declared.item.Item.TheVariants.{One, Many}
use Rattle.ev_types.specs.declared.value.Value.{Value}
use Rattle.ev_types.specs.Key.{same_key, event_key}
use Rattle.stream_meaning.specs.History.{History, ◌▸◌, Entry, Tick, In, moment_of}
use Rattle.stream_meaning.specs.Came.{Timed, timed_events}
use Rattle.stream_meaning.specs.Ends.{last_moment, ends_next, times_ended, KeyFork, same_fork, forks_that_came}
use Rattle.stream_meaning.specs.Ends.{live_forks, live_keys}
use Rattle.stream_meaning.specs.Branches.{fork_keys}
use Rattle.stream_meaning.specs.KeyOrderLaws.{lengthened}
use Rattle.stream_meaning.specs.Laws.{of_key, of_fork}

-- ---- the last event

abbrev pub has_key : List Field → List Value → Timed → Bool
has_key fields key timed = same_key (event_key timed.event fields) key

abbrev pub at_of : Timed → ℕ
at_of timed = timed.at

-- the moments at which events of the key came, in order
abbrev pub moments_of_key : List Field → List Value → History → List ℕ
moments_of_key fields key h = map at_of (filter (has_key fields key) (timed_events h))

pub record EndsWith (moments : List ℕ) (last : ℕ) : Type 0 where
  pub earlier : List ℕ
  pub is : moments ≡ earlier ++ last ∷ []

-- the last of the moments, if there is one
abbrev pub IsLast : List ℕ → Option ℕ → Type 0
IsLast moments None = moments ≡ []
IsLast moments (Some last) = EndsWith moments last

abbrev pub LastMomentsAreLast : Type 0
LastMomentsAreLast = (fields : List Field) (key : List Value) (h : History)
    → IsLast (moments_of_key fields key h) (last_moment fields key h)

-- ---- ends

-- the last event of the key came so many seconds before the next tick
pub record CameBefore (secs : ℕ) (fields : List Field) (key : List Value) (h : History) : Type 0 where
  pub last : ℕ
  pub is : last_moment fields key h ≡ Some last
  pub age : last + secs ≡ moment_of (h ▸ Tick)

-- a key ends at a tick exactly if its last event came `secs` seconds before
abbrev pub EndsFollowSilence : Type 0
EndsFollowSilence =
    (secs : ℕ) (fields : List Field) (key : List Value) (h : History)
    → IsTrue (ends_next (Some secs) fields key h) ↔ CameBefore secs fields key h

-- the entry is an event of the key
abbrev pub is_event_of : List Field → List Value → Entry → Bool
is_event_of fields key Tick = false
is_event_of fields key (In (One event)) = same_key (event_key event fields) key
is_event_of fields key (In (Many es)) = false

-- between two ends of a key an event of it comes
abbrev pub EndsAreApart : Type 0
EndsAreApart =
    (idle : Option ℕ) (fields : List Field) (key : List Value) (h : History) (more : List Entry) →
    IsTrue (ends_next idle fields key h) →
    IsTrue (ends_next idle fields key (lengthened (h ▸ Tick) more)) → IsTrue (list_any (is_event_of fields key) more)

-- ---- what a fork receives

-- a key has no fork with a number that it has not come to
abbrev pub ForksComeByNumber : Type 0
ForksComeByNumber =
    (idle : Option ℕ) (fields : List Field) (fork : KeyFork) (h : History) →
    times_ended idle fields fork.key h < fork.number →
    IsFalse (list_any (λ other. same_fork other fork) (forks_that_came idle fields h))

-- once its key has ended, a fork gets no more items
abbrev pub EndedForksGetNoItems : Type 0
EndedForksGetNoItems =
    (idle : Option ℕ) (fields : List Field) (fork : KeyFork) (h : History) (item : Item) →
    fork.number < times_ended idle fields fork.key h →
    of_fork idle fields fork (h ▸ In item) ≡ of_fork idle fields fork h

-- ---- without `idle`

-- the first fork of a key
abbrev pub first_fork : List Value → KeyFork
first_fork key = record { key = key; number = 0 }

-- no key ends, so each key that came has one fork, with all its events
pub record HasNoEnds (fields : List Field) (h : History) : Type 0 where
  pub ends : (key : List Value) → IsFalse (ends_next None fields key h)
  pub times : (key : List Value) → times_ended None fields key h ≡ 0
  pub forks : live_forks None fields h ≡ map first_fork (fork_keys fields h)
  pub keys : live_keys None fields h ≡ fork_keys fields h
  pub events : (key : List Value) → of_fork None fields (first_fork key) h ≡ of_key fields key h

abbrev pub NothingEndsWithoutIdle : Type 0
NothingEndsWithoutIdle = (fields : List Field) (h : History) → HasNoEnds fields h

-- ---- live forks

-- no key has two live forks
abbrev pub LiveKeysAreApart : Type 0
LiveKeysAreApart = (idle : Option ℕ) (fields : List Field) (h : History) → IsDistinct same_key (live_keys idle fields h)

-- the number of a live fork is how often its key ended
abbrev pub LiveForksAreTheLatest : Type 0
LiveForksAreTheLatest = (idle : Option ℕ) (fields : List Field) (h : History)
    → AllByRecursion (λ fork. fork.number ≡ times_ended idle fields fork.key h) (live_forks idle fields h)

-- the last event of the key came less than so many seconds ago
pub record CameWithin (secs : ℕ) (fields : List Field) (key : List Value) (h : History) : Type 0 where
  pub last : ℕ
  pub is : last_moment fields key h ≡ Some last
  pub age : moment_of h < last + secs

-- a key has a live fork exactly if its last event came less than `secs` seconds ago
abbrev pub LiveKeysAreRecent : Type 0
LiveKeysAreRecent = (secs : ℕ) (fields : List Field) (key : List Value) (h : History) → 0 < secs →
    Contains (live_keys (Some secs) fields h) key ↔ CameWithin secs fields key h
