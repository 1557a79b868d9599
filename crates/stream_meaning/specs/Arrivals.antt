-- What comes to a plan with an index: seconds and posted events. Every n seconds the expired events of the index
-- come to the plan again.
use Rattle.std.specs.Prelude.{ℕ, ◌-◌, ◌%◌, ◌==◌, if◌then◌else◌, List, [], ◌∷◌, ◌++◌, map, filter, Option, Some, None}
use Rattle.ev_types.specs.declared.event.Event.{Event}
use Rattle.ev_types.specs.declared.item.Item.TheVariants.{One}
use Rattle.ev_types.specs.declared.item.Notice.{Notice}
use Rattle.ev_types.specs.declared.item.Output.{Output}
use Rattle.ev_types.specs.declared.item.Output.TheVariants.{Notice as notice, Write as write}
use Rattle.ev_types.specs.declared.settings.Expiry.{Expiry}
use Rattle.ev_types.specs.declared.settings.KeepKey.{KeepKey}
use Rattle.ev_types.specs.Expiry.{is_expired}
use Rattle.ev_types.specs.Rebirth.{expired_copy}
use Rattle.index_log.specs.Live.{IndexLog, Write, Reap, live_events}
use Rattle.pred_eval.specs.Tree.{Tree}
use Rattle.pred_eval.specs.Truth.{holds}
use Rattle.stream_plan.specs.Tree.{StreamTrees}
use Rattle.stream_meaning.specs.History.{History, since, ◌▸◌, Entry, Tick, In, begun, moment_of}
use Rattle.stream_meaning.specs.Outputs.{outputs_at, outputs_of}

pub data Arrival : Type 0 where
  -- one more second has passed
  Elapsed : Arrival
  Post : Event → Arrival

-- the history of the streams, and the log of the index
pub record CoreState : Type 0 where
  pub history : History
  pub log : IndexLog

-- the live events that meet the rule, in their order
abbrev pub matching_events : Tree → IndexLog → List Event
matching_events rule log = filter (holds rule) (live_events log)

abbrev pub writes_among : List Output → IndexLog
writes_among [] = []
writes_among (write event ∷ more) = Write event ∷ writes_among more
writes_among (notice given ∷ more) = writes_among more

abbrev pub notices_among : List Output → List Notice
notices_among [] = []
notices_among (write event ∷ more) = notices_among more
notices_among (notice given ∷ more) = given ∷ notices_among more

-- one entry comes to the streams, and what they write to the index
abbrev pub entered : StreamTrees → Entry → CoreState → CoreState
entered plan x state = record {
  history = state.history ▸ x;
  log = state.log ++ writes_among (outputs_at plan (state.history ▸ x));
}

-- events come to the streams, one after another
abbrev pub streamed : StreamTrees → List Event → CoreState → CoreState
streamed plan [] state = state
streamed plan (event ∷ es) state = streamed plan es (entered plan (In (One event)) state)

-- the live events that have expired, in their order, as they come again
abbrev pub expired_copies : List KeepKey → CoreState → List Event
expired_copies keep state =
    let now = moment_of state.history in
    map (λ event. expired_copy keep event now) (filter (is_expired now) (live_events state.log))

-- the index once they left it
abbrev pub with_reap : CoreState → CoreState
with_reap state = record { history = state.history; log = state.log ++ Reap (moment_of state.history) ∷ [] }

-- the live events that have expired leave the index, and then come again
abbrev pub fed_back : StreamTrees → List KeepKey → CoreState → CoreState
fed_back plan keep state = streamed plan (expired_copies keep state) (with_reap state)

-- they do where expiry is set, every `interval` seconds
abbrev pub swept : StreamTrees → Option Expiry → CoreState → CoreState
swept plan None state = state
swept plan (Some expiry) state =
    if (moment_of state.history - begun state.history) % expiry.interval == 0 then fed_back plan expiry.keep state
    else state

abbrev pub arrived : StreamTrees → Option Expiry → Arrival → CoreState → CoreState
arrived plan expiry Elapsed state = swept plan expiry (entered plan Tick state)
arrived plan expiry (Post event) state = entered plan (In (One event)) state

abbrev pub state_from : StreamTrees → Option Expiry → List Arrival → CoreState → CoreState
state_from plan expiry [] state = state
state_from plan expiry (first ∷ more) state = state_from plan expiry more (arrived plan expiry first state)

-- the history and the log after these arrivals, from this moment on
abbrev pub state_after : StreamTrees → Option Expiry → ℕ → List Arrival → CoreState
state_after plan expiry start arrivals = state_from plan expiry arrivals (record { history = since start; log = [] })

-- the notices given over these arrivals
abbrev pub notices_of : StreamTrees → Option Expiry → ℕ → List Arrival → List Notice
notices_of plan expiry start arrivals = notices_among (outputs_of plan (state_after plan expiry start arrivals).history)

-- the streams that arrivals come to, with their index: the plan, how expired events are looked for, and the first
-- moment
pub record CoreConfig : Type 0 where
  pub plan : StreamTrees
  pub expiry : Option Expiry
  pub start : ℕ

-- the state after these arrivals
abbrev pub state_by : CoreConfig → List Arrival → CoreState
state_by config arrivals = state_after config.plan config.expiry config.start arrivals

-- the notices given over them
abbrev pub notices_by : CoreConfig → List Arrival → List Notice
notices_by config arrivals = notices_of config.plan config.expiry config.start arrivals
