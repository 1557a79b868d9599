-- What each entry does to the forks that are live, and to the moments of their last events.
use Rattle.std.specs.Prelude.{◌≡◌, ℕ, ◌+◌, ◌-◌, ◌<◌, ◌≤◌, Bool, IsTrue, nat_lt, not, if◌then◌else◌, List, [], ◌∷◌, ◌++◌}
use Rattle.std.specs.Prelude.{map, filter, Option, Some, None}
use Rattle.std.specs.List.{list_any, AllByRecursion}
use Rattle.ev_types.specs.declared.event.Event.{Event}
use Rattle.ev_types.specs.declared.field.Field.{Field}
use Rattle.ev_types.specs.declared.item.Item.TheVariants.{One, Many}
use Rattle.ev_types.specs.declared.value.Value.{Value}
use Rattle.ev_types.specs.Key.{same_key, event_key}
use Rattle.stream_meaning.specs.History.{History, since, ◌▸◌, Tick, In, moment_of}
use Rattle.stream_meaning.specs.Ends.{last_moment, ends_next, fork_of, with_fork, live_forks, live_keys}
use Rattle.stream_meaning.specs.Branches.{with_key}

-- a tick leaves the forks whose key does not end at it, and an event brings the fork of its key if that is not there
pub record LiveForksFollow (idle : Option ℕ) (fields : List Field) : Type 0 where
  pub begin : (start : ℕ) → live_forks idle fields (since start) ≡ []
  pub tick : (h : History)
      → live_forks idle fields (h ▸ Tick)
      ≡ filter (λ fork. not (ends_next idle fields fork.key h)) (live_forks idle fields h)
  pub event : (h : History) (event : Event)
      → live_forks idle fields (h ▸ In (One event)) ≡ with_fork (fork_of idle fields event h) (live_forks idle fields h)
  pub vector : (h : History) (es : List Event) → live_forks idle fields (h ▸ In (Many es)) ≡ live_forks idle fields h

-- so with their keys
pub record LiveKeysFollow (idle : Option ℕ) (fields : List Field) : Type 0 where
  pub begin : (start : ℕ) → live_keys idle fields (since start) ≡ []
  pub tick : (h : History)
      → live_keys idle fields (h ▸ Tick) ≡ filter (λ key. not (ends_next idle fields key h)) (live_keys idle fields h)
  pub event : (h : History) (event : Event)
      → live_keys idle fields (h ▸ In (One event)) ≡ with_key (event_key event fields) (live_keys idle fields h)
  pub vector : (h : History) (es : List Event) → live_keys idle fields (h ▸ In (Many es)) ≡ live_keys idle fields h

abbrev pub LiveForksFollowEntries : Type 0
LiveForksFollowEntries = (idle : Option ℕ) (fields : List Field) → LiveForksFollow idle fields

abbrev pub LiveKeysFollowEntries : Type 0
LiveKeysFollowEntries = (idle : Option ℕ) (fields : List Field) → LiveKeysFollow idle fields

-- a key, and the moment at which its last event came
pub record TimedKey : Type 0 where
  pub key : List Value
  pub at : ℕ

-- 0 for a key that never came
abbrev pub moment_or_zero : Option ℕ → ℕ
moment_or_zero None = 0
moment_or_zero (Some moment) = moment

abbrev pub timed_key : List Field → History → List Value → TimedKey
timed_key fields h key = record { key = key; at = moment_or_zero (last_moment fields key h) }

-- the keys of the live forks with their moments, in the order of the forks
abbrev pub timed_keys : Option ℕ → List Field → History → List TimedKey
timed_keys idle fields h = map (timed_key fields h) (live_keys idle fields h)

abbrev pub is_of_key : List Value → TimedKey → Bool
is_of_key key timed = same_key key timed.key

-- a key that has one more event at this moment
abbrev pub touched : List Value → ℕ → TimedKey → TimedKey
touched key now timed = if is_of_key key timed then record timed { at = now } else timed

-- an event of the key comes at this moment
abbrev pub with_timed : List Value → ℕ → List TimedKey → List TimedKey
with_timed key now timed =
    if list_any (is_of_key key) timed then map (touched key now) timed else timed ++ record { key = key; at = now } ∷ []

-- the key does not end by this moment
abbrev pub is_fresh : ℕ → ℕ → TimedKey → Bool
is_fresh secs now timed = nat_lt now (timed.at + secs)

-- a tick leaves the keys whose last event came less than `secs` seconds before it, and an event sets the moment of its
-- key
pub record TimedKeysFollow (secs : ℕ) (fields : List Field) : Type 0 where
  pub begin : (start : ℕ) → timed_keys (Some secs) fields (since start) ≡ []
  pub tick : (h : History)
      → timed_keys (Some secs) fields (h ▸ Tick)
      ≡ filter (is_fresh secs (moment_of (h ▸ Tick))) (timed_keys (Some secs) fields h)
  pub event : (h : History) (event : Event) →
      timed_keys (Some secs) fields (h ▸ In (One event))
      ≡ with_timed (event_key event fields) (moment_of h) (timed_keys (Some secs) fields h)
  pub vector : (h : History) (es : List Event)
      → timed_keys (Some secs) fields (h ▸ In (Many es)) ≡ timed_keys (Some secs) fields h
  -- no event came later than the last entry, and none of a live key is `secs` seconds old
  pub between : (h : History)
      → AllByRecursion (λ timed. (timed.at ≤ moment_of h) × (moment_of h < timed.at + secs))
      (timed_keys (Some secs) fields h)

abbrev pub TimedKeysFollowEntries : Type 0
TimedKeysFollowEntries = (secs : ℕ) (fields : List Field) → 0 < secs → TimedKeysFollow secs fields

-- the keys that end by a moment are those whose last event came `secs` seconds before it or earlier, and none before so
-- many seconds have passed since moment 0
pub record IsFreshByMoment (secs now : ℕ) (timed : TimedKey) : Type 0 where
  pub later : secs ≤ now → is_fresh secs now timed ≡ nat_lt (now - secs) timed.at
  pub early : now < secs → IsTrue (is_fresh secs now timed)

abbrev pub FreshKeysGoByMoments : Type 0
FreshKeysGoByMoments = (secs now : ℕ) (timed : TimedKey) → IsFreshByMoment secs now timed
