-- Forks that end. A key ends at the second at which its last event came `idle` seconds before, and the next event of
-- the key begins a new fork. Without `idle` no key ends.
use Rattle.std.specs.Prelude.{ℕ, ◌+◌, ◌&&◌, ◌==◌, Bool, if◌then◌else◌, List, [], ◌∷◌, ◌++◌, map, filter, Option, Some}
use Rattle.std.specs.Prelude.{None}
use Rattle.std.specs.List.{list_any}
use Rattle.ev_types.specs.declared.event.Event.{Event}
use Rattle.ev_types.specs.declared.field.Field.{Field}
use Rattle.ev_types.specs.declared.item.Item.TheVariants.{One, Many}
use Rattle.ev_types.specs.declared.value.Value.{Value}
use Rattle.ev_types.specs.Key.{same_key, event_key}
use Rattle.stream_meaning.specs.History.{History, since, ◌▸◌, Tick, In, moment_of, is_at}

-- the moment at which the last event of a key came, if one did
abbrev pub last_moment : List Field → List Value → History → Option ℕ
last_moment fields key (since start) = None
last_moment fields key (h ▸ Tick) = last_moment fields key h
last_moment fields key (h ▸ In (One event)) =
    if same_key (event_key event fields) key then Some (moment_of h) else last_moment fields key h
last_moment fields key (h ▸ In (Many es)) = last_moment fields key h

-- so many seconds after a moment, if there are both
abbrev pub idle_after : Option ℕ → Option ℕ → Option ℕ
idle_after None last = None
idle_after (Some secs) None = None
idle_after (Some secs) (Some moment) = Some (moment + secs)

-- the moment at which a key ends if no more events of it come
abbrev pub end_of : Option ℕ → List Field → List Value → History → Option ℕ
end_of idle fields key h = idle_after idle (last_moment fields key h)

-- if the next entry is a tick, the key ends at it
abbrev pub ends_next : Option ℕ → List Field → List Value → History → Bool
ends_next idle fields key h = is_at (moment_of h + 1) (end_of idle fields key h)

-- how often a key ended
abbrev pub times_ended : Option ℕ → List Field → List Value → History → ℕ
times_ended idle fields key (since start) = 0
times_ended idle fields key (h ▸ Tick) =
    if ends_next idle fields key h then times_ended idle fields key h + 1 else times_ended idle fields key h
times_ended idle fields key (h ▸ In item) = times_ended idle fields key h

-- a fork of a `by`: its key, and how often that had ended when the fork began
pub record KeyFork : Type 0 where
  pub key : List Value
  pub number : ℕ

abbrev pub same_fork : KeyFork → KeyFork → Bool
same_fork a b = a.number == b.number && same_key a.key b.key

abbrev pub key_of_fork : KeyFork → List Value
key_of_fork fork = fork.key

-- the fork to which the next event of a key goes
abbrev pub fork_at : Option ℕ → List Field → List Value → History → KeyFork
fork_at idle fields key h = record { key = key; number = times_ended idle fields key h }

-- the fork to which an event goes
abbrev pub fork_of : Option ℕ → List Field → Event → History → KeyFork
fork_of idle fields event h = fork_at idle fields (event_key event fields) h

-- the forks, and one more if it is not among them
abbrev pub with_fork : KeyFork → List KeyFork → List KeyFork
with_fork fork forks = if list_any (λ other. same_fork other fork) forks then forks else forks ++ fork ∷ []

-- the forks to which events went, in the order in which the first event of each came
abbrev pub forks_that_came : Option ℕ → List Field → History → List KeyFork
forks_that_came idle fields (since start) = []
forks_that_came idle fields (h ▸ Tick) = forks_that_came idle fields h
forks_that_came idle fields (h ▸ In (One event)) =
    with_fork (fork_of idle fields event h) (forks_that_came idle fields h)
forks_that_came idle fields (h ▸ In (Many es)) = forks_that_came idle fields h

-- the key of the fork has not ended since the fork began
abbrev pub is_live : Option ℕ → List Field → History → KeyFork → Bool
is_live idle fields h fork = fork.number == times_ended idle fields fork.key h

-- those of them that are live, in the same order
abbrev pub live_forks : Option ℕ → List Field → History → List KeyFork
live_forks idle fields h = filter (is_live idle fields h) (forks_that_came idle fields h)

-- their keys
abbrev pub live_keys : Option ℕ → List Field → History → List (List Value)
live_keys idle fields h = map key_of_fork (live_forks idle fields h)
