-- Words for small examples: events, plans and what comes.
use Rattle.std.specs.Prelude.{◌≡◌, ℕ, zero, suc, pos, codes, List, [], ◌∷◌, Some, None}
use Prim.Native.String.{String}
use Rattle.ev_types.specs.declared.event.Event.{Event}
use Rattle.ev_types.specs.declared.item.Item.{Item}
use Rattle.ev_types.specs.declared.item.Item.TheVariants.{One, Many}
use Rattle.ev_types.specs.declared.item.Notice.{Notice}
use Rattle.stream_plan.specs.Tree.{KindTree, Notice as notice_kind, StreamTree, StreamTrees, stream, none, also}
use Rattle.stream_meaning.specs.History.{History, since, ◌▸◌, Tick, In}
use Rattle.stream_meaning.specs.Outputs.{outputs_of}
use Rattle.stream_meaning.specs.Arrivals.{notices_among}

-- an event of this time and nothing else
abbrev pub bare : ℕ → Event
bare time = record {
  host = None;
  service = None;
  state = None;
  description = None;
  tags = [];
  time = pos time;
  time_micros = None;
  ttl = None;
  metric = None;
  raw_d = None;
  raw_f = None;
  attributes = [];
}

abbrev pub of_host : String → ℕ → Event
of_host host time = record (bare time) { host = Some (codes host) }

abbrev pub of_state : String → ℕ → Event
of_state state time = record (bare time) { state = Some (codes state) }

-- a stream with these children, and none after `else`
abbrev pub above : KindTree → StreamTrees → StreamTree
above kind children = stream kind children none

abbrev pub alone : StreamTree → StreamTrees
alone first = also first none

abbrev pub noticed : String → StreamTrees
noticed name = alone (above (notice_kind (codes name)) none)

-- notices of all that a stream of this kind passes on
abbrev pub noticing : KindTree → StreamTrees
noticing kind = alone (above kind (noticed "n"))

-- n seconds pass, or an event comes
pub data Step : Type 0 where
  Wait : ℕ → Step
  Comes : Event → Step

abbrev pub waited : ℕ → History → History
waited zero h = h
waited (suc n) h = waited n (h ▸ Tick)

abbrev pub followed : History → List Step → History
followed h [] = h
followed h (Wait n ∷ steps) = followed (waited n h) steps
followed h (Comes event ∷ steps) = followed (h ▸ In (One event)) steps

abbrev pub given : String → ℕ → Item → Notice
given name moment item = record { name = codes name; moment = moment; item = item }

-- a notice of a vector, and of one event
abbrev pub of_many : ℕ → List Event → Notice
of_many moment es = given "n" moment (Many es)

abbrev pub of_one : ℕ → Event → Notice
of_one moment event = given "n" moment (One event)

-- the plan gives these notices where it begins at this moment and this comes
abbrev pub Gives : StreamTrees → ℕ → List Step → List Notice → Type 0
Gives plan start steps notices = notices_among (outputs_of plan (followed (since start) steps)) ≡ notices

abbrev pub a : ℕ → Event
a = of_host "a"

abbrev pub b : ℕ → Event
b = of_host "b"

abbrev pub ok : ℕ → Event
ok = of_state "ok"

abbrev pub bad : ℕ → Event
bad = of_state "bad"

abbrev pub measuring : ℕ → ℕ → Event
measuring metric time = record (a time) { metric = Some (pos metric) }
