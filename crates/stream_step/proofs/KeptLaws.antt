-- What the states of kinds that keep something pass on, and what they keep at a vector and at a quiet tick.
use Rattle.std.proofs.Common.{◌≡◌, ℕ, ◌+◌, ◌==◌, nat_lt, Bool, true, false, cond, List, [], ◌∷◌, ◌++◌, map, refl, sym}
use Rattle.std.proofs.Common.{ap, subst, ◌∙◌, arith}
use Rattle.std.proofs.lemmas.Bool.Decides.{nat_tests}
use Rattle.ev_types.specs.declared.event.Event.{Event}
use Rattle.ev_types.specs.declared.item.Emission.{Emission as CodeEmission}
use Rattle.ev_types.specs.declared.item.Item.{Item}
use Rattle.ev_types.specs.declared.item.Item.TheVariants.{One, Many}
use Rattle.stream_states.specs.flow_streams.Changed.{changed_kind, ChangedRepresents}
use Rattle.stream_states.specs.flow_streams.Runs.{RunsRepresents}
use Rattle.stream_states.specs.flow_streams.declared.changed.ChangedState.{ChangedState}
use Rattle.stream_states.specs.flow_streams.declared.runs.RunsState.{RunsState}
use Rattle.stream_states.specs.rate_streams.Stable.{stable_passes, StableRepresents}
use Rattle.stream_states.specs.rate_streams.declared.stable.StableState.{StableState}
use Rattle.stream_states.proofs.RateStreamsThrottleLaws.{tick_represents}
use Rattle.stream_states.proofs.RateStreamsRollupLaws.{still_represents as rollup_still}
use Rattle.stream_states.proofs.RateStreamsBatchLaws.{still_represents as batch_still}
use Rattle.stream_states.specs.window_streams.FixedEvent.{FixedEventRepresents}
use Rattle.stream_states.specs.window_streams.MovingEvent.{MovingEventRepresents}
use Rattle.stream_states.specs.window_streams.FixedTime.{FixedTimeRepresents}
use Rattle.stream_states.specs.window_streams.MovingTime.{MovingTimeRepresents}
use Rattle.stream_states.specs.window_streams.declared.fixed_event.FixedEventState.{FixedEventState}
use Rattle.stream_states.specs.window_streams.declared.moving_event.MovingEventState.{MovingEventState}
use Rattle.stream_states.specs.window_streams.declared.fixed_time.FixedTimeState.{FixedTimeState}
use Rattle.stream_states.specs.window_streams.declared.moving_time.MovingTimeState.{MovingTimeState}
use Rattle.stream_states.proofs.WindowStreamsCoalesceLaws.{coalesce-waits, coalesce-quiet}
use Rattle.stream_meaning.specs.Came.{each}
use Rattle.stream_meaning.specs.Emission.{Emission, Children, to, to_children, emissions}
use Rattle.stream_meaning.specs.Emitted.{emitted}
use Rattle.stream_meaning.specs.declared.entry.Entry.{Entry}
use Rattle.stream_meaning.specs.declared.entry.Entry.TheVariants.{Tick, Item as In}
use Rattle.stream_meaning.specs.History.{History, ◌▸◌, moment_of}
use Rattle.stream_meaning.specs.Runs.{run, run_began}
use Rattle.stream_plan.specs.Tree.{KindTree}
use Rattle.stream_states.specs.Kept.{keeps, kept_kind, KeptRepresents, HasHistory, Passes}
use Rattle.stream_states.specs.declared.kept.KeptState.{KeptState}
use Rattle.stream_states.specs.declared.kept.KeptState.TheVariants.{Changed, Runs, Throttle, Rollup, Batch, Stable}
use Rattle.stream_states.specs.declared.kept.KeptState.TheVariants.{FixedEvent, MovingEvent, FixedTime, MovingTime}
use Rattle.stream_states.specs.declared.kept.KeptState.TheVariants.{Coalesce}
use Rattle.stream_states.proofs.PassLaws.{none_passed, silent_as}
use Rattle.stream_states.proofs.VectorLaws.{vectors_pass_nothing, vectors_are_ignored}
use Rattle.stream_step.specs.Step.{emission_meant}

-- ---- what is passed on

emitted_meant : (items : List Item) → map emission_meant (emitted items) ≡ to_children items
emitted_meant [] = refl
emitted_meant (item ∷ items) = ap (λ es. emission_meant (record { branch = 0; item = item }) ∷ es) (emitted_meant items)

-- what a state appends to an empty list is meant as its kind passes it on
pub passes_meant : (before made : List CodeEmission) (meant : List Emission) → before ≡ [] → Passes before made meant
    → map emission_meant made ≡ meant
passes_meant before made meant none passes =
    ap (map emission_meant) (passes.appended ∙ ap (λ es. es ++ emitted passes.items) none) ∙ emitted_meant passes.items
    ∙ sym passes.passed

-- and so it does of an event that was copied
pub given_meant : (before made : List CodeEmission) (kind : KindTree) (h : History) (copied event : Event) →
    before ≡ [] → copied ≡ event →
    Passes before made (emissions kind (h ▸ In (One copied))) →
    map emission_meant made ≡ emissions kind (h ▸ In (One event))
given_meant before made kind h copied event none same passes =
    passes_meant before made (emissions kind (h ▸ In (One copied))) none passes
    ∙ ap (λ e. emissions kind (h ▸ In (One e))) same

-- ---- a `changed` stream

changed_at_first : (kind : KindTree) (state : KeptState) (old : ChangedState) (h : History) → state ≡ Changed old
    → KeptRepresents kind state h → KeptRepresents kind (Changed old) h
changed_at_first kind state old h is represents = subst (λ (s : KeptState). KeptRepresents kind s h) is represents

-- where its own state goes on to a longer history, so does the state of its kind
pub changed_represents : (kind : KindTree) (state : KeptState) (old new : ChangedState) (h after : History) →
    state ≡ Changed old → changed_kind new ≡ changed_kind old →
    (ChangedRepresents old h → ChangedRepresents new after) → KeptRepresents kind state h →
    KeptRepresents kind (Changed new) after
changed_represents kind state old new h after is same goes represents =
    let first : KeptRepresents kind (Changed old) h = changed_at_first kind state old h is represents in
    record { same_kind = same ∙ first.same_kind; history = goes first.history }

-- what its own state passes on is what its kind passes on
pub changed_passes : (kind : KindTree) (state : KeptState) (old : ChangedState) (h after : History)
    (passed : List Emission) → state ≡ Changed old →
    (ChangedRepresents old h → passed ≡ emissions (changed_kind old) after) → KeptRepresents kind state h →
    passed ≡ emissions kind after
changed_passes kind state old h after passed is goes represents =
    let first : KeptRepresents kind (Changed old) h = changed_at_first kind state old h is represents in
    goes first.history ∙ ap (λ k. emissions k after) first.same_kind

-- an event passes as it came, or not at all
pub one_passes : (passes : Bool) (items : List Item) (event : Event) →
    items ≡ cond passes (each (event ∷ [])) [] → passes ≡ true →
    to Children (One event) ≡ to_children items
one_passes passes items event are met =
    sym (ap to_children (are ∙ ap (λ (test : Bool). cond test (each (event ∷ [])) []) met))

pub none_passes : (passes : Bool) (items : List Item) (event : Event) →
    items ≡ cond passes (each (event ∷ [])) [] → passes ≡ false → [] ≡ to_children items
none_passes passes items event are unmet =
    sym (ap to_children (are ∙ ap (λ (test : Bool). cond test (each (event ∷ [])) []) unmet))

-- ---- a vector

pub kept_keeps : (state : KeptState) → keeps (kept_kind state) ≡ true
kept_keeps (Changed state) = refl
kept_keeps state = refl

-- a stream whose state is kept passes nothing on at a vector
pub vector_passes_nothing : (kind : KindTree) (state : KeptState) (h : History) (item : Item) (es : List Event) →
    item ≡ Many es → KeptRepresents kind state h →
    [] ≡ emissions kind (h ▸ In item)
vector_passes_nothing kind state h item es is represents =
    sym (vectors_pass_nothing kind h es (ap keeps (sym represents.same_kind) ∙ kept_keeps state))
    ∙ ap (λ i. emissions kind (h ▸ In i)) (sym is)

-- and it represents the longer history
pub vector_kept : (kind : KindTree) (state : KeptState) (h : History) (item : Item) (es : List Event) → item ≡ Many es →
    KeptRepresents kind state h → KeptRepresents kind state (h ▸ In item)
vector_kept kind state h item es is represents =
    subst (λ (i : Item). KeptRepresents kind state (h ▸ In i)) (sym is) (vectors_are_ignored kind state h es represents)

-- ---- the entry

-- what holds of an entry holds of one that is equal
pub kept_at : (kind : KindTree) (state : KeptState) (h : History) (x y : Entry) (now : ℕ) → x ≡ y →
    (moment_of (h ▸ y) ≡ now → KeptRepresents kind state (h ▸ y)) →
    moment_of (h ▸ x) ≡ now → KeptRepresents kind state (h ▸ x)
kept_at kind state h x y now is next =
    subst (λ (z : Entry). moment_of (h ▸ z) ≡ now → KeptRepresents kind state (h ▸ z)) (sym is) next

-- ---- a quiet tick

changed_still : (state : ChangedState) (h : History) → ChangedRepresents state h → ChangedRepresents state (h ▸ Tick)
changed_still state h r = record { sound = r.sound; last = r.last }

runs_still : (state : RunsState) (h : History) → RunsRepresents state h → RunsRepresents state (h ▸ Tick)
runs_still state h r = record { sound = r.sound; last = r.last; length = r.length }

fixed_event_still : (state : FixedEventState) (h : History) → FixedEventRepresents state h
    → FixedEventRepresents state (h ▸ Tick)
fixed_event_still state h r =
    record { sound = r.sound; passed = r.passed; whole = r.whole; waiting = r.waiting; short = r.short }

moving_event_still : (state : MovingEventState) (h : History) → MovingEventRepresents state h
    → MovingEventRepresents state (h ▸ Tick)
moving_event_still state h r = record { sound = r.sound; latest = r.latest }

fixed_time_still : (state : FixedTimeState) (h : History) → FixedTimeRepresents state h
    → FixedTimeRepresents state (h ▸ Tick)
fixed_time_still state h r = record { sound = r.sound; first = r.first; latest = r.latest; waiting = r.waiting }

moving_time_still : (state : MovingTimeState) (h : History) → MovingTimeRepresents state h
    → MovingTimeRepresents state (h ▸ Tick)
moving_time_still state h r = record { sound = r.sound; latest = r.latest; recent = r.recent }

either_nothing : (test : Bool) → cond {A = List Event} test [] [] ≡ []
either_nothing true = refl
either_nothing false = refl

nothing_waits : (waiting : List Event) (a b : Bool) → each waiting ≡ [] → cond a waiting [] ≡ cond b waiting []
nothing_waits [] a b none = either_nothing a ∙ sym (either_nothing b)
nothing_waits (event ∷ waiting) a b none = cc

not_yet : (now due : ℕ) → (now + 1 == due) ≡ false → nat_lt now due ≡ nat_lt (now + 1) due
not_yet now due apart = grind (arith, nat_tests)

-- where nothing passes at the next second, as many wait as before
waits_on : (test : Bool) (waiting : List Event) (now due : ℕ) → (now + 1 == due) ≡ test →
    cond test (each waiting) [] ≡ [] →
    cond (nat_lt now due) waiting [] ≡ cond (nat_lt (now + 1) due) waiting []
waits_on true waiting now due at none = nothing_waits waiting (nat_lt now due) (nat_lt (now + 1) due) none
waits_on false waiting now due apart none = ap (λ test. cond test waiting []) (not_yet now due apart)

stable_still : (state : StableState) (h : History) → StableRepresents state h → stable_passes state (h ▸ Tick) ≡ []
    → StableRepresents state (h ▸ Tick)
stable_still state h r none = record {
  sound = r.sound;
  positive = r.positive;
  last = r.last;
  began = r.began;
  waiting =
      r.waiting
      ∙ waits_on (moment_of h + 1 == run_began state.field h + state.secs) (run state.field h) (moment_of h)
      (run_began state.field h + state.secs) refl none;
}

history_still : (state : KeptState) (h : History) → emissions (kept_kind state) (h ▸ Tick) ≡ [] → HasHistory state h
    → HasHistory state (h ▸ Tick)
history_still (Changed state) h quiet r = changed_still state h r
history_still (Runs state) h quiet r = runs_still state.value h r
history_still (Throttle state) h quiet r = tick_represents state h r
history_still (Rollup state) h quiet r = rollup_still state h r (none_passed _ quiet)
history_still (Batch state) h quiet r = batch_still state h r (none_passed _ quiet)
history_still (Stable state) h quiet r = stable_still state.value h r (none_passed _ quiet)
history_still (FixedEvent state) h quiet r = fixed_event_still state h r
history_still (MovingEvent state) h quiet r = moving_event_still state h r
history_still (FixedTime state) h quiet r = fixed_time_still state h r
history_still (MovingTime state) h quiet r = moving_time_still state h r
history_still (Coalesce state) h quiet r =
    (coalesce-waits state h r state.positive
    (coalesce-quiet state h r state.positive (ap emitted (none_passed _ quiet)))).1

-- a state of a kind that keeps something represents the longer history too
pub kept_still : (kind : KindTree) (state : KeptState) (h : History) → KeptRepresents kind state h
    → emissions kind (h ▸ Tick) ≡ [] → KeptRepresents kind state (h ▸ Tick)
kept_still kind state h represents quiet = record {
  same_kind = represents.same_kind;
  history =
      history_still state h (silent_as (kept_kind state) kind (h ▸ Tick) represents.same_kind quiet) represents.history;
}
