-- The turns of a generated load.
use Rattle.std.specs.Prelude.{ℕ, zero, suc, ◌+◌, ◌*◌, ◌/◌, ◌%◌, ◌^◌, ◌==◌, if◌then◌else◌, List, [], ◌∷◌, ◌++◌, Some}
use Rattle.std.specs.Prelude.{None, pos, codes}
use Rattle.std.specs.Fmt.{decimal}
use Rattle.ev_types.specs.declared.event.Event.{Event}
use Rattle.framing.specs.Frames.{frame}
use Rattle.load_links.specs.declared.events.TheConstants.{INCREMENT, MULTIPLIER}
use Rattle.ports.specs.declared.script.LinkEvent.TheVariants.{Opened, Read, Ended}
use Rattle.ports.specs.declared.script.Script.{Script}
use Rattle.ports.specs.declared.script.Step.{Step}
use Rattle.ports.specs.declared.script.Step.TheVariants.{Turn}
use Rattle.riemann_msg.specs.declared.msg.Msg.{Msg}
use Rattle.riemann_msg.specs.Spelling.{spelling}

-- the generator's next number
abbrev pub number_after : ℕ → ℕ
number_after number = (number * MULTIPLIER + INCREMENT) % 2 ^ 64

-- the number that it reaches from this one in i steps
abbrev pub number_at : ℕ → ℕ → ℕ
number_at start zero = start
number_at start (suc i) = number_after (number_at start i)

-- the upper bits of a number, from which an event's fields are drawn
abbrev pub drawn_from : ℕ → ℕ
drawn_from number = number / 2 ^ 33

-- ten events come in each second
abbrev pub second_of : ℕ → ℕ
second_of i = i / 10

-- one state in four is critical
abbrev pub state_of : ℕ → List ℕ
state_of drawn = if drawn / 50 % 4 == 0 then codes "critical" else codes "ok"

-- one of ten hosts, one of five services, and a metric below 1000
abbrev pub load_event : ℕ → ℕ → Event
load_event second drawn = record {
  host = Some (codes "h" ++ decimal (drawn % 10));
  service = Some (codes "s" ++ decimal (drawn / 10 % 5));
  state = Some (state_of drawn);
  description = None;
  tags = [];
  time = pos second;
  time_micros = None;
  ttl = None;
  metric = Some (pos (drawn / 200 % 1000));
  raw_d = None;
  raw_f = None;
  attributes = [];
}

-- a message of one event, and one that asks for all events
abbrev pub event_msg : Event → Msg
event_msg event = record { ok = None; error = None; query = None; events = event ∷ [] }

abbrev pub query_msg : Msg
query_msg = record { ok = None; error = None; query = Some (record { string = Some (codes "true") }); events = [] }

-- link 0 reads the frame of a message
abbrev pub read_step : ℕ → Msg → Step
read_step second msg = Turn second (Read 0 (frame (spelling msg)))

-- it reads the event of this number
abbrev pub event_step : ℕ → ℕ → Step
event_step start i =
    read_step (second_of i) (event_msg (load_event (second_of i) (drawn_from (number_at start i))))

-- it reads n events, from the one of this number on
abbrev pub event_steps : ℕ → ℕ → ℕ → List Step
event_steps start i zero = []
event_steps start i (suc n) = event_step start i ∷ event_steps start (i + 1) n

-- Link 0 opens at second 0, reads as many events as the count says, numbered from 1, asks for all events, and ends.
abbrev pub load_script : ℕ → ℕ → Script
load_script count start = let last = second_of count in record {
  start = 0;
  steps = Turn 0 (Opened 0) ∷ (event_steps start 1 count ++ read_step last query_msg ∷ Turn last (Ended 0) ∷ []);
}
