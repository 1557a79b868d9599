-- What a vector does to a stream that takes events, kind by kind.
use Rattle.std.proofs.Common.{◌≡◌, ℕ, zero, suc, ◌+◌, ◌-◌, nat_lt, List, length, drop, refl, sym, ap, ◌∙◌}
use Rattle.ev_types.specs.declared.event.Event.{Event}
use Rattle.ev_types.specs.declared.item.Item.TheVariants.{Many}
use Rattle.flow_streams.specs.Changed.{ChangedRepresents}
use Rattle.flow_streams.specs.Runs.{RunsRepresents}
use Rattle.flow_streams.specs.declared.changed.ChangedState.{ChangedState}
use Rattle.flow_streams.specs.declared.runs.RunsState.{RunsState}
use Rattle.rate_streams.specs.Throttle.{ThrottleRepresents}
use Rattle.rate_streams.specs.Rollup.{RollupRepresents}
use Rattle.rate_streams.specs.Batch.{BatchRepresents}
use Rattle.rate_streams.specs.Stable.{StableRepresents}
use Rattle.rate_streams.specs.declared.throttle.ThrottleState.{ThrottleState}
use Rattle.rate_streams.specs.declared.rollup.RollupState.{RollupState}
use Rattle.rate_streams.specs.declared.batch.BatchState.{BatchState}
use Rattle.rate_streams.specs.declared.stable.StableState.{StableState}
use Rattle.window_streams.specs.FixedEvent.{FixedEventRepresents}
use Rattle.window_streams.specs.MovingEvent.{MovingEventRepresents}
use Rattle.window_streams.specs.FixedTime.{FixedTimeRepresents}
use Rattle.window_streams.specs.MovingTime.{MovingTimeRepresents}
use Rattle.window_streams.specs.Coalesce.{CoalesceRepresents}
use Rattle.window_streams.specs.declared.fixed_event.FixedEventState.{FixedEventState}
use Rattle.window_streams.specs.declared.moving_event.MovingEventState.{MovingEventState}
use Rattle.window_streams.specs.declared.fixed_time.FixedTimeState.{FixedTimeState}
use Rattle.window_streams.specs.declared.moving_time.MovingTimeState.{MovingTimeState}
use Rattle.window_streams.specs.declared.coalesce.CoalesceState.{CoalesceState}
use Rattle.stream_plan.specs.Tree.{Sdo, Smap}
use Rattle.stream_meaning.specs.declared.entry.Entry.TheVariants.{Item as In}
use Rattle.stream_meaning.specs.History.{History, ◌▸◌, window_of}
use Rattle.stream_meaning.specs.Rates.{events_now, count_in, rolls_into, one_if}
use Rattle.stream_states.specs.Kept.{HasHistory}
use Rattle.stream_states.specs.VectorLaws.{VectorsPassNothing, VectorsAreIgnored}
use Rattle.stream_states.specs.declared.kept.KeptState.{KeptState}
use Rattle.stream_states.specs.declared.kept.KeptState.TheVariants as kept

pub vectors_pass_nothing : VectorsPassNothing
vectors_pass_nothing Sdo h es keeps = cc
vectors_pass_nothing (Smap fold) h es keeps = cc
vectors_pass_nothing kind h es keeps = refl

rolls_same : (n secs window : ℕ) (h : History) (es : List Event)
    → rolls_into n secs window (h ▸ In (Many es)) ≡ rolls_into n secs window h
rolls_same n secs zero h es = refl
rolls_same n secs (suc window) h es =
    ap (λ rolls. nat_lt n (count_in secs window h + one_if rolls)) (rolls_same n secs window h es)

changed_same : (s : ChangedState) (h : History) (es : List Event) → ChangedRepresents s h
    → ChangedRepresents s (h ▸ In (Many es))
changed_same s h es r = record { sound = r.sound; last = r.last }

runs_same : (s : RunsState) (h : History) (es : List Event) → RunsRepresents s h → RunsRepresents s (h ▸ In (Many es))
runs_same s h es r = record { sound = r.sound; last = r.last; length = r.length }

throttle_same : (s : ThrottleState) (h : History) (es : List Event) → ThrottleRepresents s h
    → ThrottleRepresents s (h ▸ In (Many es))
throttle_same s h es r = record { sound = r.sound; start = r.start; passed = r.passed }

rollup_same : (s : RollupState) (h : History) (es : List Event) → RollupRepresents s h
    → RollupRepresents s (h ▸ In (Many es))
rollup_same s h es r =
    let secs : ℕ = s.windows.secs in
    let rolls = rolls_same s.count secs (window_of secs h) h es in
    record {
      sound = r.sound;
      positive = r.positive;
      start = r.start;
      reached = r.reached;
      room = r.room ∙ ap (λ rolls. s.count - (length (events_now secs h) + one_if rolls)) (sym rolls);
      waiting = r.waiting ∙ ap (λ rolls. drop (s.count - one_if rolls) (events_now secs h)) (sym rolls);
      window = r.window;
    }

batch_same : (s : BatchState) (h : History) (es : List Event) → BatchRepresents s h
    → BatchRepresents s (h ▸ In (Many es))
batch_same s h es r =
    record { sound = r.sound; positive = r.positive; start = r.start; waiting = r.waiting; window = r.window }

stable_same : (s : StableState) (h : History) (es : List Event) → StableRepresents s h
    → StableRepresents s (h ▸ In (Many es))
stable_same s h es r =
    record { sound = r.sound; positive = r.positive; last = r.last; began = r.began; waiting = r.waiting }

fixed_event_same : (s : FixedEventState) (h : History) (es : List Event) → FixedEventRepresents s h
    → FixedEventRepresents s (h ▸ In (Many es))
fixed_event_same s h es r =
    record { sound = r.sound; passed = r.passed; whole = r.whole; waiting = r.waiting; short = r.short }

moving_event_same : (s : MovingEventState) (h : History) (es : List Event) → MovingEventRepresents s h
    → MovingEventRepresents s (h ▸ In (Many es))
moving_event_same s h es r = record { sound = r.sound; latest = r.latest }

fixed_time_same : (s : FixedTimeState) (h : History) (es : List Event) → FixedTimeRepresents s h
    → FixedTimeRepresents s (h ▸ In (Many es))
fixed_time_same s h es r = record { sound = r.sound; first = r.first; latest = r.latest; waiting = r.waiting }

moving_time_same : (s : MovingTimeState) (h : History) (es : List Event) → MovingTimeRepresents s h
    → MovingTimeRepresents s (h ▸ In (Many es))
moving_time_same s h es r = record { sound = r.sound; latest = r.latest; recent = r.recent }

coalesce_same : (s : CoalesceState) (h : History) (es : List Event) → CoalesceRepresents s h
    → CoalesceRepresents s (h ▸ In (Many es))
coalesce_same s h es r = record { sound = r.sound; start = r.start; last = r.last; boundary = r.boundary }

history_same : (state : KeptState) (h : History) (es : List Event) → HasHistory state h
    → HasHistory state (h ▸ In (Many es))
history_same (kept.Changed s) h es r = changed_same s h es r
history_same (kept.Runs s) h es r = runs_same s.value h es r
history_same (kept.Throttle s) h es r = throttle_same s h es r
history_same (kept.Rollup s) h es r = rollup_same s h es r
history_same (kept.Batch s) h es r = batch_same s h es r
history_same (kept.Stable s) h es r = stable_same s.value h es r
history_same (kept.FixedEvent s) h es r = fixed_event_same s h es r
history_same (kept.MovingEvent s) h es r = moving_event_same s h es r
history_same (kept.FixedTime s) h es r = fixed_time_same s h es r
history_same (kept.MovingTime s) h es r = moving_time_same s h es r
history_same (kept.Coalesce s) h es r = coalesce_same s h es r

pub vectors_are_ignored : VectorsAreIgnored
vectors_are_ignored kind state h es r = record { same_kind = r.same_kind; history = history_same state h es r.history }
