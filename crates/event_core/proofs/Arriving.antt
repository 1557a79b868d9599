-- One more event and one more second, and the moments at which streams are then.
use Rattle.std.proofs.Common.{◌≡◌, ℕ, zero, suc, ◌+◌, ◌-◌, ◌≤◌, List, [], ◌∷◌, ◌++◌, map, filter, replicate, Option}
use Rattle.std.proofs.Common.{refl, sym, ap, subst, ◌∙◌, arith}
use Rattle.std.proofs.lemmas.List.{map-append, replicate_more}
use Rattle.ev_types.specs.declared.event.Event.{Event}
use Rattle.ev_types.specs.declared.item.Item.TheVariants.{One}
use Rattle.ev_types.specs.declared.item.Notice.{Notice}
use Rattle.ev_types.specs.declared.settings.Expiry.{Expiry}
use Rattle.ev_types.specs.declared.settings.KeepKey.{KeepKey}
use Rattle.ev_types.specs.Expiry.{is_expired}
use Rattle.ev_types.specs.Rebirth.{expired_copy}
use Rattle.index_log.specs.Live.{live_events}
use Rattle.stream_plan.specs.Tree.{StreamTrees}
use Rattle.stream_meaning.specs.History.{begun, moment_of}
use Rattle.stream_meaning.specs.declared.entry.Entry.TheVariants.{Tick, Item as In}
use Rattle.stream_meaning.specs.Arrivals.{Arrival, Elapsed, CoreState, entered, streamed, expired_copies, with_reap}
use Rattle.stream_meaning.specs.Arrivals.{fed_back, swept, arrived, state_from}
use Rattle.stream_meaning.proofs.ArrivalMoments.{from-append, streamed-moments, swept-moments}
use Rattle.event_core.specs.declared.streams.IndexedStreams.{IndexedStreams}
use Rattle.event_core.specs.Counts.{forks_in}
use Rattle.event_core.specs.Streams.{Moved}
use Rattle.event_core.proofs.Moves.{moved-then}

-- ---- one more event

streamed-append : (plan : StreamTrees) (es : List Event) (event : Event) (state : CoreState)
    → streamed plan (es ++ event ∷ []) state ≡ entered plan (In (One event)) (streamed plan es state)
streamed-append plan [] event state = refl
streamed-append plan (first ∷ es) event state = streamed-append plan es event (entered plan (In (One first)) state)

pub streamed-moment : (plan : StreamTrees) (es : List Event) (state : CoreState) (now : ℕ)
    → moment_of state.history ≡ now → moment_of (streamed plan es state).history ≡ now
streamed-moment plan es state now at = (streamed-moments plan es state).ends ∙ at

-- the copy of one more event comes to the streams
pub streamed-one : (plan : StreamTrees) (keep : List KeepKey) (now : ℕ) (es : List Event) (event copy : Event)
    (state : CoreState) →
    copy ≡ expired_copy keep event now →
    entered plan (In (One copy)) (streamed plan (map (λ e. expired_copy keep e now) es) state)
    ≡ streamed plan (map (λ e. expired_copy keep e now) (es ++ event ∷ [])) state
streamed-one plan keep now es event copy state is =
    let copies = map (λ e. expired_copy keep e now) es in
    ap (λ (e : Event). entered plan (In (One e)) (streamed plan copies state)) is
    ∙ sym (streamed-append plan copies (expired_copy keep event now) state)
    ∙ ap (λ (all : List Event). streamed plan all state)
    (sym (map-append (λ e. expired_copy keep e now) es (event ∷ [])))

pub streamed-all : (plan : StreamTrees) (es fs : List Event) (state : CoreState)
    → streamed plan fs (streamed plan es state) ≡ streamed plan (es ++ fs) state
streamed-all plan [] fs state = refl
streamed-all plan (event ∷ es) fs state = streamed-all plan es fs (entered plan (In (One event)) state)

pub streamed-more : (plan later : StreamTrees) (between streams : IndexedStreams) (keep : List KeepKey) (now : ℕ)
    (es : List Event) (event copy : Event) (state : CoreState)
    (out_a : List Notice) (forks_a : ℕ) (out_b : List Notice) (forks_b : ℕ) (out_c : List Notice) (forks_c : ℕ) →
    later ≡ plan → copy ≡ expired_copy keep event now →
    Moved plan between state (streamed plan (map (λ e. expired_copy keep e now) es) state) out_a forks_a out_b forks_b →
    Moved later streams (streamed plan (map (λ e. expired_copy keep e now) es) state)
    (entered later (In (One copy)) (streamed plan (map (λ e. expired_copy keep e now) es) state)) out_b forks_b out_c
    forks_c →
    Moved plan streams state (streamed plan (map (λ e. expired_copy keep e now) (es ++ event ∷ [])) state) out_a forks_a
    out_c forks_c
streamed-more plan later between streams keep now es event copy state out_a forks_a out_b forks_b out_c forks_c same is
    first second =
    let copies = map (λ e. expired_copy keep e now) es in
    let before = streamed plan copies state in
    let there =
    subst (λ (p : StreamTrees). Moved p streams before (entered p (In (One copy)) before) out_b forks_b out_c forks_c)
    same second in
    let all =
    moved-then plan between streams state before (entered plan (In (One copy)) before) out_a forks_a out_b forks_b out_c
    forks_c first there in
    subst (λ (after : CoreState). Moved plan streams state after out_a forks_a out_c forks_c)
    (streamed-one plan keep now es event copy state is) all

-- ---- one more second

pub second-moments : (plan : StreamTrees) (expiry : Option Expiry) (state : CoreState)
    → (moment_of (arrived plan expiry Elapsed state).history ≡ moment_of state.history + 1)
    × (begun (arrived plan expiry Elapsed state).history ≡ begun state.history)
second-moments plan expiry state =
    let same = swept-moments plan expiry (entered plan Tick state) in (same.ends, same.begins)

pub second-moved : (plan later : StreamTrees) (expiry : Option Expiry) (between streams : IndexedStreams)
    (state : CoreState)
    (out_a : List Notice) (forks_a : ℕ) (out_b : List Notice) (forks_b : ℕ) (out_c : List Notice) (forks_c : ℕ) →
    later ≡ plan → Moved plan between state (entered plan Tick state) out_a forks_a out_b forks_b →
    Moved later streams (entered plan Tick state) (swept later expiry (entered plan Tick state)) out_b forks_b out_c
    forks_c →
    Moved plan streams state (arrived plan expiry Elapsed state) out_a forks_a out_c forks_c
second-moved plan later expiry between streams state out_a forks_a out_b forks_b out_c forks_c same first second =
    let ticked = entered plan Tick state in
    moved-then plan between streams state ticked (swept plan expiry ticked) out_a forks_a out_b forks_b out_c forks_c
    first
    (subst (λ (p : StreamTrees). Moved p streams ticked (swept p expiry ticked) out_b forks_b out_c forks_c) same
    second)

pub seconds-moments : (plan : StreamTrees) (expiry : Option Expiry) (n : ℕ) (state : CoreState) →
    (moment_of (state_from plan expiry (replicate n Elapsed) state).history ≡ moment_of state.history + n)
    × (begun (state_from plan expiry (replicate n Elapsed) state).history ≡ begun state.history)
seconds-moments plan expiry zero state = (omega arith, refl)
seconds-moments plan expiry (suc n) state =
    let one = second-moments plan expiry state in
    let later = seconds-moments plan expiry n (arrived plan expiry Elapsed state) in (
      later.0
          ∙ (let sum : moment_of (arrived plan expiry Elapsed state).history + n ≡ moment_of state.history + suc n =
          omega (arith, one.0) in
          sum),
      later.1 ∙ one.1,
    )

pub seconds-more : (plan : StreamTrees) (expiry : Option Expiry) (n : ℕ) (state : CoreState)
    → state_from plan expiry (replicate (n + 1) Elapsed) state
    ≡ arrived plan expiry Elapsed (state_from plan expiry (replicate n Elapsed) state)
seconds-more plan expiry n state =
    ap (λ (more : List Arrival). state_from plan expiry more state) (sym (replicate_more n Elapsed))
    ∙ from-append plan expiry (replicate n Elapsed) (Elapsed ∷ []) state

pub pass-more : (plan later : StreamTrees) (expiry : Option Expiry) (between streams : IndexedStreams) (from now : ℕ)
    (state : CoreState)
    (out_a : List Notice) (forks_a : ℕ) (out_b : List Notice) (forks_b : ℕ) (out_c : List Notice) (forks_c : ℕ) →
    from ≤ now → later ≡ plan →
    Moved plan between state (state_from plan expiry (replicate (now - from) Elapsed) state) out_a forks_a out_b
    forks_b →
    Moved later streams (state_from plan expiry (replicate (now - from) Elapsed) state)
    (arrived later expiry Elapsed (state_from plan expiry (replicate (now - from) Elapsed) state)) out_b forks_b out_c
    forks_c →
    Moved plan streams state (state_from plan expiry (replicate (now + 1 - from) Elapsed) state) out_a forks_a out_c
    forks_c
pass-more plan later expiry between streams from now state out_a forks_a out_b forks_b out_c forks_c reached same first
    second =
    let before = state_from plan expiry (replicate (now - from) Elapsed) state in
    let there =
    subst (λ (p : StreamTrees). Moved p streams before (arrived p expiry Elapsed before) out_b forks_b out_c forks_c)
    same second in
    let all =
    moved-then plan between streams state before (arrived plan expiry Elapsed before) out_a forks_a out_b forks_b out_c
    forks_c first there in
    let count : now - from + 1 ≡ now + 1 - from = omega arith in
    let ends : arrived plan expiry Elapsed before ≡ state_from plan expiry (replicate (now + 1 - from) Elapsed) state =
    sym (seconds-more plan expiry (now - from) state)
    ∙ ap (λ (n : ℕ). state_from plan expiry (replicate n Elapsed) state) count in
    subst (λ (after : CoreState). Moved plan streams state after out_a forks_a out_c forks_c) ends all

-- ---- the events that have expired come again

-- the copies of the events that were reaped are those that come again
pub copies-are : (keep : List KeepKey) (now : ℕ) (state : CoreState) (held expired : List Event) →
    moment_of state.history ≡ now → held ≡ live_events state.log → expired ≡ filter (is_expired now) held →
    map (λ e. expired_copy keep e now) expired ≡ expired_copies keep state
copies-are keep now state held expired at holds are =
    ap (map (λ e. expired_copy keep e now)) (are ∙ ap (filter (is_expired now)) holds)
    ∙ subst
    (λ (t : ℕ).
    map (λ e. expired_copy keep e t) (filter (is_expired t) (live_events state.log)) ≡ expired_copies keep state)
    at refl

pub fed_back-moved : (plan : StreamTrees) (streams : IndexedStreams) (keep : List KeepKey) (now : ℕ) (state : CoreState)
    (held expired : List Event)
    (out_a : List Notice) (forks_a : ℕ) (forks_b : ℕ) (out_c : List Notice) (forks_c : ℕ) →
    moment_of state.history ≡ now → held ≡ live_events state.log → expired ≡ filter (is_expired now) held →
    forks_b ≡ forks_a →
    Moved plan streams (with_reap state) (streamed plan (map (λ e. expired_copy keep e now) expired) (with_reap state))
    out_a forks_b out_c forks_c →
    Moved plan streams state (fed_back plan keep state) out_a forks_a out_c forks_c
fed_back-moved plan streams keep now state held expired out_a forks_a forks_b out_c forks_c at holds are same moved =
    let copies = copies-are keep now state held expired at holds are in
    let all =
    subst
    (λ (es : List Event).
    Moved plan streams (with_reap state) (streamed plan es (with_reap state)) out_a forks_b out_c forks_c)
    copies moved in
    record {
      holds = all.holds;
      made = all.made;
      reported = all.reported;
      grew = all.grew;
      forks = ap (λ (f : ℕ). f + forks_in plan (fed_back plan keep state).history) (sym same) ∙ all.forks;
    }
