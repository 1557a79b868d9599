-- Which keys came to a `by`, and in which order. If no fork ends, these are the keys of its forks.
use Rattle.std.specs.Prelude.{◌≡◌, ◌↔◌, List, [], ◌∷◌, ◌++◌, map, Contains}
use Rattle.ev_types.specs.declared.field.Field.{Field}
use Rattle.ev_types.specs.declared.value.Value.{Value}
use Rattle.ev_types.specs.Key.{event_key}
use Rattle.stream_meaning.specs.History.{History, ◌▸◌, Entry}
use Rattle.stream_meaning.specs.Came.{events}
use Rattle.stream_meaning.specs.Branches.{fork_keys}

-- the key of each event that came
abbrev pub keys_that_came : List Field → History → List (List Value)
keys_that_came fields h = map (λ event. event_key event fields) (events h)

-- a key is listed exactly where an event with that key came
abbrev pub KeysAreThoseThatCame : Type 0
KeysAreThoseThatCame =
    (fields : List Field) (key : List Value) (h : History)
    → Contains (fork_keys fields h) key ↔ Contains (keys_that_came fields h) key

-- a history with more entries
abbrev pub lengthened : History → List Entry → History
lengthened h [] = h
lengthened h (x ∷ more) = lengthened (h ▸ x) more

-- the keys are those that were there before, and later ones after them
pub record AddsKeys (before now : List (List Value)) : Type 0 where
  pub later : List (List Value)
  pub is : now ≡ before ++ later

-- keys stand in the order in which they first came: those of a longer history begin with those of the shorter one
abbrev pub KeysStayInOrder : Type 0
KeysStayInOrder = (fields : List Field) (h : History) (more : List Entry)
    → AddsKeys (fork_keys fields h) (fork_keys fields (lengthened h more))
