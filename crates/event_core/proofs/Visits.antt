-- How many entries are visited on the way of streams with an index from one state to another.
use Rattle.std.proofs.Common.{◌≡◌, ℕ, zero, suc, ◌+◌, ◌*◌, ◌-◌, ◌%◌, ◌==◌, ◌≤◌, Bool, true, false, if◌then◌else◌, List}
use Rattle.std.proofs.Common.{[], ◌∷◌, ◌++◌, map, filter, length, replicate, Option, None, Some, refl, sym, ap, subst}
use Rattle.std.proofs.Common.{◌∙◌, append_assoc, arith}
use Rattle.std.proofs.lemmas.List.{append-nil, map-append}
use Rattle.ev_types.specs.declared.event.Event.{Event}
use Rattle.ev_types.specs.declared.item.Item.TheVariants.{One}
use Rattle.ev_types.specs.declared.item.Output.{Output}
use Rattle.ev_types.specs.declared.item.Output.TheVariants.{Notice as notice, Write as write}
use Rattle.ev_types.specs.declared.settings.Expiry.{Expiry}
use Rattle.ev_types.specs.declared.settings.KeepKey.{KeepKey}
use Rattle.ev_types.specs.Expiry.{is_expired}
use Rattle.ev_types.specs.Rebirth.{expired_copy}
use Rattle.index_log.specs.Live.{IndexLog, Write, Reap, live_events}
use Rattle.stream_plan.specs.Tree.{StreamTrees}
use Rattle.stream_meaning.specs.History.{◌▸◌, begun, moment_of}
use Rattle.stream_meaning.specs.declared.entry.Entry.{Entry}
use Rattle.stream_meaning.specs.declared.entry.Entry.TheVariants.{Tick, Item as In}
use Rattle.stream_meaning.specs.Outputs.{plan_effects, outputs_at, due_among}
use Rattle.stream_meaning.specs.Arrivals.{Arrival, Elapsed, Post, CoreState, writes_among, entered, streamed}
use Rattle.stream_meaning.specs.Arrivals.{expired_copies, with_reap, fed_back, swept, arrived, state_from}
use Rattle.event_core.specs.Counts.{expired_in, reaped_after, visits_to}
use Rattle.event_core.specs.Core.{CoreConfig, state_by, VisitedFor}
use Rattle.event_core.specs.Streams.{Visited}
use Rattle.event_core.proofs.Arriving.{copies-are, seconds-more, streamed-all, streamed-one}
use Rattle.event_core.proofs.Longer.{in_order, later}

-- ---- a log with one more reap, or with more writes

pub reaped-reap : (first log : IndexLog) (t : ℕ)
    → reaped_after first (log ++ Reap t ∷ []) ≡ reaped_after first log + expired_in t (first ++ log)
reaped-reap first [] t =
    let all = ap (expired_in t) (append-nil first) in
    omega (arith, all)
reaped-reap first (Write event ∷ log) t =
    reaped-reap (first ++ Write event ∷ []) log t
    ∙ ap (λ (all : IndexLog). reaped_after (first ++ Write event ∷ []) log + expired_in t all)
    (append_assoc first (Write event ∷ []) log)
reaped-reap first (Reap s ∷ log) t =
    let later = reaped-reap (first ++ Reap s ∷ []) log t in
    let all = ap (expired_in t) (append_assoc first (Reap s ∷ []) log) in
    omega (arith, later, all)

writes-alone : (first : IndexLog) (outputs : List Output) → reaped_after first (writes_among outputs) ≡ 0
writes-alone first [] = refl
writes-alone first (write event ∷ outputs) = writes-alone (first ++ Write event ∷ []) outputs
writes-alone first (notice given ∷ outputs) = writes-alone first outputs

reaped-writes : (first log : IndexLog) (outputs : List Output)
    → reaped_after first (log ++ writes_among outputs) ≡ reaped_after first log
reaped-writes first [] outputs = writes-alone first outputs
reaped-writes first (Write event ∷ log) outputs = reaped-writes (first ++ Write event ∷ []) log outputs
reaped-writes first (Reap t ∷ log) outputs =
    ap (λ n. expired_in t first + n) (reaped-writes (first ++ Reap t ∷ []) log outputs)

-- ---- a state is reached by no fewer visits than one before it

visits-entered : (plan : StreamTrees) (x : Entry) (state : CoreState)
    → visits_to plan (entered plan x state) ≡ visits_to plan state + due_among (plan_effects plan (state.history ▸ x))
visits-entered plan x state =
    let reaped = reaped-writes [] state.log (outputs_at plan (state.history ▸ x)) in
    omega (arith, reaped)

visits-reap : (plan : StreamTrees) (state : CoreState)
    → visits_to plan (with_reap state) ≡ visits_to plan state + 2 * expired_in (moment_of state.history) state.log
visits-reap plan state =
    let reaped = reaped-reap [] state.log (moment_of state.history) in
    omega (arith, reaped)

pub streamed-grows : (plan : StreamTrees) (es : List Event) (state : CoreState)
    → visits_to plan state ≤ visits_to plan (streamed plan es state)
streamed-grows plan [] state = omega arith
streamed-grows plan (event ∷ es) state =
    let first = visits-entered plan (In (One event)) state in
    let later = streamed-grows plan es (entered plan (In (One event)) state) in
    omega (arith, first, later)

fed_back-grows : (plan : StreamTrees) (keep : List KeepKey) (state : CoreState)
    → visits_to plan state ≤ visits_to plan (fed_back plan keep state)
fed_back-grows plan keep state =
    let first = visits-reap plan state in
    let later = streamed-grows plan (expired_copies keep state) (with_reap state) in
    omega (arith, first, later)

pub swept-grows : (plan : StreamTrees) (expiry : Option Expiry) (state : CoreState)
    → visits_to plan state ≤ visits_to plan (swept plan expiry state)
swept-grows plan None state = omega arith
swept-grows plan (Some expiry) state = by_turn ((moment_of state.history - begun state.history) % expiry.interval == 0)
  where
    by_turn : (b : Bool) → visits_to plan state ≤ visits_to plan (if b then fed_back plan expiry.keep state else state)
    by_turn true = fed_back-grows plan expiry.keep state
    by_turn false = omega arith

arrived-grows : (plan : StreamTrees) (expiry : Option Expiry) (arrival : Arrival) (state : CoreState)
    → visits_to plan state ≤ visits_to plan (arrived plan expiry arrival state)
arrived-grows plan expiry Elapsed state =
    let first = visits-entered plan Tick state in
    let later = swept-grows plan expiry (entered plan Tick state) in
    omega (arith, first, later)
arrived-grows plan expiry (Post event) state =
    let first = visits-entered plan (In (One event)) state in omega (arith, first)

pub from-grows : (plan : StreamTrees) (expiry : Option Expiry) (more : List Arrival) (state : CoreState)
    → visits_to plan state ≤ visits_to plan (state_from plan expiry more state)
from-grows plan expiry [] state = omega arith
from-grows plan expiry (arrival ∷ more) state =
    let first = arrived-grows plan expiry arrival state in
    let later = from-grows plan expiry more (arrived plan expiry arrival state) in
    omega (arith, first, later)

-- ---- what is visited on the way

pub visited-entry : (plan : StreamTrees) (x : Entry) (state : CoreState) (a b : ℕ)
    → b ≤ a + due_among (plan_effects plan (state.history ▸ x)) → Visited plan state (entered plan x state) a b
visited-entry plan x state a b within = let first = visits-entered plan x state in omega (arith, first, within)

-- the event that came is equal to another one
pub visited-equal : (plan : StreamTrees) (shown event : Event) (state : CoreState) (a b : ℕ) → shown ≡ event
    → Visited plan state (entered plan (In (One shown)) state) a b
    → Visited plan state (entered plan (In (One event)) state) a b
visited-equal plan shown event state a b same visited =
    subst (λ (e : Event). Visited plan state (entered plan (In (One e)) state) a b) same visited

pub visited-then : (plan : StreamTrees) (before between after : CoreState) (a b c : ℕ) → Visited plan before between a b
    → Visited plan between after b c → Visited plan before after a c
visited-then plan before between after a b c first second = omega (arith, first, second)

-- ---- expired events come again

pub streamed-visited : (plan later : StreamTrees) (keep : List KeepKey) (now : ℕ) (es : List Event) (event copy : Event)
    (state : CoreState) (a b c : ℕ) →
    later ≡ plan → copy ≡ expired_copy keep event now →
    Visited plan state (streamed plan (map (λ e. expired_copy keep e now) es) state) a b →
    Visited later (streamed plan (map (λ e. expired_copy keep e now) es) state)
    (entered later (In (One copy)) (streamed plan (map (λ e. expired_copy keep e now) es) state)) b c →
    Visited plan state (streamed plan (map (λ e. expired_copy keep e now) (es ++ event ∷ [])) state) a c
streamed-visited plan later keep now es event copy state a b c same is first second =
    let before = streamed plan (map (λ e. expired_copy keep e now) es) state in
    let there = subst (λ (p : StreamTrees). Visited p before (entered p (In (One copy)) before) b c) same second in
    subst (λ (after : CoreState). Visited plan state after a c) (streamed-one plan keep now es event copy state is)
    (visited-then plan state before (entered plan (In (One copy)) before) a b c first there)

pub rest-more : {A : Type 0} (done items rest all : List A) (x : A) → done ++ items ≡ all → items ≡ x ∷ rest
    → (done ++ x ∷ []) ++ rest ≡ all
rest-more {A} done items rest all x left next =
    append_assoc done (x ∷ []) rest ∙ ap (λ (l : List A). done ++ l) (sym next) ∙ left

-- what was visited for some events is not more than what is for more of them
pub streamed-part : (plan : StreamTrees) (keep : List KeepKey) (now : ℕ) (done more all : List Event)
    (state : CoreState) (a b : ℕ) →
    done ++ more ≡ all →
    Visited plan state (streamed plan (map (λ e. expired_copy keep e now) done) state) a b →
    Visited plan state (streamed plan (map (λ e. expired_copy keep e now) all) state) a b
streamed-part plan keep now done more all state a b is visited =
    let copies = λ (es : List Event). map (λ e. expired_copy keep e now) es in
    let rest = streamed-grows plan (copies more) (streamed plan (copies done) state) in
    let ends =
    streamed-all plan (copies done) (copies more) state
    ∙ ap (λ (es : List Event). streamed plan es state)
    (sym (map-append (λ e. expired_copy keep e now) done more) ∙ ap copies is) in
    let same = ap (visits_to plan) ends in
    omega (arith, rest, same, visited)

pub fed_back-part : (plan : StreamTrees) (keep : List KeepKey) (now : ℕ) (state : CoreState) (held : List Event)
    (a b : ℕ) →
    moment_of state.history ≡ now → held ≡ live_events state.log → b ≤ a + 2 * length (filter (is_expired now) held) →
    Visited plan state (fed_back plan keep state) a b
fed_back-part plan keep now state held a b at holds within =
    let count : length (filter (is_expired now) held) ≡ expired_in (moment_of state.history) state.log =
    ap (λ (es : List Event). length (filter (is_expired now) es)) holds
    ∙ ap (λ (t : ℕ). expired_in t state.log) (sym at) in
    let first = visits-reap plan state in
    let later = streamed-grows plan (expired_copies keep state) (with_reap state) in
    omega (arith, count, first, later, within)

pub fed_back-visited : (plan : StreamTrees) (keep : List KeepKey) (now : ℕ) (state : CoreState)
    (held expired : List Event) (a b c : ℕ) →
    moment_of state.history ≡ now → held ≡ live_events state.log → expired ≡ filter (is_expired now) held →
    b ≤ a + 2 * length (filter (is_expired now) held) →
    Visited plan (with_reap state) (streamed plan (map (λ e. expired_copy keep e now) expired) (with_reap state)) b c →
    Visited plan state (fed_back plan keep state) a c
fed_back-visited plan keep now state held expired a b c at holds are within visited =
    let copies = copies-are keep now state held expired at holds are in
    let count : length (filter (is_expired now) held) ≡ expired_in (moment_of state.history) state.log =
    ap (λ (es : List Event). length (filter (is_expired now) es)) holds
    ∙ ap (λ (t : ℕ). expired_in t state.log) (sym at) in
    let first = visits-reap plan state in
    let later =
    subst (λ (es : List Event). Visited plan (with_reap state) (streamed plan es (with_reap state)) b c) copies
    visited in
    omega (arith, count, first, later, within)

-- ---- a second passes

seconds-append : (plan : StreamTrees) (expiry : Option Expiry) (m n : ℕ) (state : CoreState)
    → state_from plan expiry (replicate (m + n) Elapsed) state
    ≡ state_from plan expiry (replicate n Elapsed) (state_from plan expiry (replicate m Elapsed) state)
seconds-append plan expiry zero n state =
    let count : zero + n ≡ n = omega arith in ap (λ (k : ℕ). state_from plan expiry (replicate k Elapsed) state) count
seconds-append plan expiry (suc m) n state =
    let count : suc m + n ≡ suc (m + n) = omega arith in
    ap (λ (k : ℕ). state_from plan expiry (replicate k Elapsed) state) count
    ∙ seconds-append plan expiry m n (arrived plan expiry Elapsed state)

pub second-part : (plan : StreamTrees) (expiry : Option Expiry) (state : CoreState) (a b : ℕ)
    → Visited plan state (entered plan Tick state) a b → Visited plan state (arrived plan expiry Elapsed state) a b
second-part plan expiry state a b first =
    let later = swept-grows plan expiry (entered plan Tick state) in omega (arith, first, later)

pub second-visited : (plan later : StreamTrees) (expiry : Option Expiry) (state : CoreState) (a b c : ℕ) →
    later ≡ plan →
    Visited plan state (entered plan Tick state) a b →
    Visited later (entered plan Tick state) (swept later expiry (entered plan Tick state)) b c →
    Visited plan state (arrived plan expiry Elapsed state) a c
second-visited plan later expiry state a b c same first second =
    let ticked = entered plan Tick state in
    visited-then plan state ticked (swept plan expiry ticked) a b c first
    (subst (λ (p : StreamTrees). Visited p ticked (swept p expiry ticked) b c) same second)

pub pass-visited : (plan later : StreamTrees) (expiry : Option Expiry) (from now : ℕ) (state : CoreState) (a b c : ℕ) →
    from ≤ now → later ≡ plan →
    Visited plan state (state_from plan expiry (replicate (now - from) Elapsed) state) a b →
    Visited later (state_from plan expiry (replicate (now - from) Elapsed) state)
    (arrived later expiry Elapsed (state_from plan expiry (replicate (now - from) Elapsed) state)) b c →
    Visited plan state (state_from plan expiry (replicate (now + 1 - from) Elapsed) state) a c
pass-visited plan later expiry from now state a b c reached same first second =
    let before = state_from plan expiry (replicate (now - from) Elapsed) state in
    let there = subst (λ (p : StreamTrees). Visited p before (arrived p expiry Elapsed before) b c) same second in
    let all = visited-then plan state before (arrived plan expiry Elapsed before) a b c first there in
    let count : now - from + 1 ≡ now + 1 - from = omega arith in
    let ends : arrived plan expiry Elapsed before ≡ state_from plan expiry (replicate (now + 1 - from) Elapsed) state =
    sym (seconds-more plan expiry (now - from) state)
    ∙ ap (λ (n : ℕ). state_from plan expiry (replicate n Elapsed) state) count in
    subst (λ (after : CoreState). Visited plan state after a c) ends all

-- what was visited over some seconds is not more than what is over more of them
pub pass-part : (plan : StreamTrees) (expiry : Option Expiry) (from now to : ℕ) (state : CoreState) (a b : ℕ) →
    from ≤ now → now ≤ to →
    Visited plan state (state_from plan expiry (replicate (now - from) Elapsed) state) a b →
    Visited plan state (state_from plan expiry (replicate (to - from) Elapsed) state) a b
pass-part plan expiry from now to state a b reached ahead visited =
    let before = state_from plan expiry (replicate (now - from) Elapsed) state in
    let rest = from-grows plan expiry (replicate (to - now) Elapsed) before in
    let count : (now - from) + (to - now) ≡ to - from = omega arith in
    let ends : state_from plan expiry (replicate (to - now) Elapsed) before
    ≡ state_from plan expiry (replicate (to - from) Elapsed) state =
    sym (seconds-append plan expiry (now - from) (to - now) state)
    ∙ ap (λ (n : ℕ). state_from plan expiry (replicate n Elapsed) state) count in
    let same = ap (visits_to plan) ends in
    omega (arith, rest, same, visited)

-- ---- more arrivals

pub longer-visited : (config : CoreConfig) (arrivals more : List Arrival) (a b : ℕ)
    → Visited config.plan (state_by config arrivals) (later config arrivals more) a b
    → VisitedFor config arrivals more a b
longer-visited config arrivals more a b visited =
    let same = ap (visits_to config.plan) (in_order config arrivals more) in omega (arith, same, visited)
