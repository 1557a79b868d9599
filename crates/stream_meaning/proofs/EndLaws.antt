-- When keys end, and what their forks receive.
use Rattle.std.proofs.Common.{◌≡◌, ℕ, ◌+◌, ◌≤◌, ◌==◌, Bool, true, false, ◌||◌, cond, List, [], ◌∷◌, ◌++◌, map, Option}
use Rattle.std.proofs.Common.{Some, None, refl, sym, ap, subst, ◌∙◌, arith}
use mathlib.Core.Bool.{true≢false}
use Rattle.std.specs.List.{AllByRecursion, filter, list_any}
use Rattle.std.proofs.lemmas.Bool.{eq-eqb, eqb-true}
use Rattle.std.proofs.lemmas.Bool.Decides.{same_from_decides}
use Rattle.std.proofs.lemmas.List.{append-nil, map-append}
use Rattle.std.proofs.lemmas.List.Elements.{filter-append}
use Rattle.std.proofs.lemmas.List.Folds.{list_any-append}
use Rattle.ev_types.specs.declared.event.Event.{Event}
use Rattle.ev_types.specs.declared.field.Field.{Field}
use Rattle.ev_types.specs.declared.item.Item.TheVariants.{One, Many}
use Rattle.ev_types.specs.declared.value.Value.{Value}
use Rattle.ev_types.specs.Key.{same_key, event_key}
use Rattle.ev_types.proofs.Values.{same_key_decides}
use Rattle.index_log.proofs.OfKeyLaws.{both_true}
use Rattle.stream_meaning.specs.History.{History, since, ◌▸◌, Entry, Tick, In, moment_of, is_at, TicksAlone}
use Rattle.stream_meaning.specs.Came.{timed_events}
use Rattle.stream_meaning.specs.Ends.{last_moment, idle_after, ends_next, times_ended, KeyFork, same_fork, fork_of}
use Rattle.stream_meaning.specs.Ends.{forks_that_came}
use Rattle.stream_meaning.specs.EndLaws.{has_key, at_of, moments_of_key, IsLast, LastMomentsAreLast, CameBefore}
use Rattle.stream_meaning.specs.EndLaws.{EndsFollowSilence, is_event_of, EndsAreApart, ForksComeByNumber}
use Rattle.stream_meaning.specs.EndLaws.{EndedForksGetNoItems}
use Rattle.stream_meaning.specs.KeyOrderLaws.{lengthened}
use Rattle.stream_meaning.specs.Laws.{of_fork, UnseenForksHaveTicks}
use Rattle.stream_meaning.proofs.ForkLaws.{fork_events, event_step}
use Rattle.stream_meaning.proofs.KeptEvents.{all-append, all-weaker}

-- ---- tests

neither : (s t : Bool) → s || t ≡ false → (s ≡ false) × (t ≡ false)
neither true t e = absurd (true≢false e)
neither false t e = (refl, e)

pub key_is : (a b : List Value) → same_key a b ≡ true → a ≡ b
key_is a b e = (same_key_decides a b).0 e

pub key_same : (a b : List Value) → a ≡ b → same_key a b ≡ true
key_same a b e = (same_key_decides a b).1 e

pub key_flip : (a b : List Value) → same_key a b ≡ same_key b a
key_flip a b =
    same_from_decides (same_key a b) (same_key b a) (same_key_decides a b)
    (λ e. sym ((same_key_decides b a).0 e), λ e. (same_key_decides b a).1 (sym e))

abbrev pub the_fork : List Value → ℕ → KeyFork
the_fork key number = record { key = key; number = number }

pub fork_is : (a b : KeyFork) → same_fork a b ≡ true → a ≡ b
fork_is a b e =
    let parts = both_true (a.number == b.number) (same_key a.key b.key) e in
    ap (λ (key : List Value). the_fork key a.number) (key_is a.key b.key parts.1)
    ∙ ap (λ (number : ℕ). the_fork b.key number) (eqb-true a.number b.number parts.0)

-- ---- the last event

last_step : (t : Bool) (now : ℕ) (moments : List ℕ) (last : Option ℕ) → IsLast moments last
    → IsLast (moments ++ cond t (now ∷ []) []) (cond t (Some now) last)
last_step true now moments last is = record { earlier = moments; is = refl }
last_step false now moments last is = subst (λ (l : List ℕ). IsLast l last) (sym (append-nil moments)) is

map_one : (t : Bool) (event : Event) (now : ℕ)
    → map at_of (cond t (record { event = event; at = now } ∷ []) []) ≡ cond t (now ∷ []) []
map_one true event now = refl
map_one false event now = refl

moments_push : (fields : List Field) (key : List Value) (h : History) (event : Event) →
    moments_of_key fields key (h ▸ In (One event))
    ≡ moments_of_key fields key h ++ cond (same_key (event_key event fields) key) (moment_of h ∷ []) []
moments_push fields key h event =
    ap (map at_of)
    (filter-append (has_key fields key) (timed_events h) (record { event = event; at = moment_of h } ∷ []))
    ∙ map-append at_of (filter (has_key fields key) (timed_events h))
    (filter (has_key fields key) (record { event = event; at = moment_of h } ∷ []))
    ∙ ap (λ l. moments_of_key fields key h ++ l) (map_one (same_key (event_key event fields) key) event (moment_of h))

pub last_moments_are_last : LastMomentsAreLast
last_moments_are_last fields key (since start) = refl
last_moments_are_last fields key (h ▸ Tick) = last_moments_are_last fields key h
last_moments_are_last fields key (h ▸ In (One event)) =
    subst (λ (l : List ℕ). IsLast l (last_moment fields key (h ▸ In (One event))))
    (sym (moments_push fields key h event))
    (last_step (same_key (event_key event fields) key) (moment_of h) (moments_of_key fields key h)
    (last_moment fields key h) (last_moments_are_last fields key h))
last_moments_are_last fields key (h ▸ In (Many es)) = last_moments_are_last fields key h

-- ---- ends

pub ends_follow_silence : EndsFollowSilence
ends_follow_silence secs fields key h = (
  λ e. came (last_moment fields key h) refl e,
  λ c. ap (λ (last : Option ℕ). is_at (moment_of h + 1) (idle_after (Some secs) last)) c.is
      ∙ eq-eqb (moment_of h + 1) (c.last + secs) (sym c.age),
)
  where
    came : (last : Option ℕ) → last_moment fields key h ≡ last
        → is_at (moment_of h + 1) (idle_after (Some secs) last) ≡ true → CameBefore secs fields key h
    came None is e = absurd (true≢false (sym e))
    came (Some last) is e = record { last = last; is = is; age = sym (eqb-true (moment_of h + 1) (last + secs) e) }

last-kept : (fields : List Field) (key : List Value) (x : Entry) (h : History) → is_event_of fields key x ≡ false
    → last_moment fields key (h ▸ x) ≡ last_moment fields key h
last-kept fields key Tick h e = refl
last-kept fields key (In (One event)) h e = ap (λ t. cond t (Some (moment_of h)) (last_moment fields key h)) e
last-kept fields key (In (Many es)) h e = refl

last-lengthened : (fields : List Field) (key : List Value) (more : List Entry) (h : History) →
    list_any (is_event_of fields key) more ≡ false →
    last_moment fields key (lengthened h more) ≡ last_moment fields key h
last-lengthened fields key [] h e = refl
last-lengthened fields key (x ∷ more) h e =
    let parts = neither (is_event_of fields key x) (list_any (is_event_of fields key) more) e in
    last-lengthened fields key more (h ▸ x) parts.1 ∙ last-kept fields key x h parts.0

moment-≤ : (x : Entry) (h : History) → moment_of h ≤ moment_of (h ▸ x)
moment-≤ Tick h = omega arith
moment-≤ (In item) h = omega arith

lengthened-≤ : (more : List Entry) (h : History) → moment_of h ≤ moment_of (lengthened h more)
lengthened-≤ [] h = omega arith
lengthened-≤ (x ∷ more) h =
    let first = moment-≤ x h in
    let later = lengthened-≤ more (h ▸ x) in
    omega arith

at_one : (a b : ℕ) (moment : Option ℕ) → is_at a moment ≡ true → is_at b moment ≡ true → a ≡ b
at_one a b None e f = absurd (true≢false (sym e))
at_one a b (Some moment) e f = eqb-true a moment e ∙ sym (eqb-true b moment f)

pub ends_are_apart : EndsAreApart
ends_are_apart idle fields key h more first second = either (list_any (is_event_of fields key) more) refl
  where
    either : (t : Bool) → list_any (is_event_of fields key) more ≡ t → t ≡ true
    either true e = refl
    either false e =
        let same : last_moment fields key (lengthened (h ▸ Tick) more) ≡ last_moment fields key h =
        last-lengthened fields key more (h ▸ Tick) e in
        let one : moment_of h + 1 ≡ moment_of (lengthened (h ▸ Tick) more) + 1 =
        at_one (moment_of h + 1) (moment_of (lengthened (h ▸ Tick) more) + 1)
        (idle_after idle (last_moment fields key h)) first
        (sym (ap (λ (last : Option ℕ). is_at (moment_of (lengthened (h ▸ Tick) more) + 1) (idle_after idle last)) same)
        ∙ second) in
        let later : moment_of h + 1 ≤ moment_of (lengthened (h ▸ Tick) more) = lengthened-≤ more (h ▸ Tick) in
        absurd (omega arith)

-- ---- the numbers of forks

-- the fork's key has ended as often, or oftener
abbrev pub HasCome : Option ℕ → List Field → History → KeyFork → Type 0
HasCome idle fields h fork = fork.number ≤ times_ended idle fields fork.key h

ended-≤ : (t : Bool) (n : ℕ) → n ≤ cond t (n + 1) n
ended-≤ true n = omega arith
ended-≤ false n = omega arith

≤-both : (a b c : ℕ) → a ≤ b → b ≤ c → a ≤ c
≤-both a b c p q = omega arith

with_fork-all : (P : KeyFork → Type 0) (t : Bool) (forks : List KeyFork) (fork : KeyFork) → AllByRecursion P forks
    → P fork → AllByRecursion P (cond t forks (forks ++ fork ∷ []))
with_fork-all P true forks fork all here = all
with_fork-all P false forks fork all here = all-append P forks (fork ∷ []) all (here, tt)

pub forks_have_come : (idle : Option ℕ) (fields : List Field) (h : History)
    → AllByRecursion (HasCome idle fields h) (forks_that_came idle fields h)
forks_have_come idle fields (since start) = tt
forks_have_come idle fields (h ▸ Tick) =
    all-weaker (HasCome idle fields h) (HasCome idle fields (h ▸ Tick))
    (λ fork come. ≤-both fork.number (times_ended idle fields fork.key h) (times_ended idle fields fork.key (h ▸ Tick))
    come (ended-≤ (ends_next idle fields fork.key h) (times_ended idle fields fork.key h)))
    (forks_that_came idle fields h) (forks_have_come idle fields h)
forks_have_come idle fields (h ▸ In (One event)) =
    let fork = fork_of idle fields event h in
    with_fork-all (HasCome idle fields h) (list_any (λ other. same_fork other fork) (forks_that_came idle fields h))
    (forks_that_came idle fields h) fork (forks_have_come idle fields h)
    (let itself : times_ended idle fields (event_key event fields) h
    ≤ times_ended idle fields (event_key event fields) h =
    omega arith in
    itself)
forks_have_come idle fields (h ▸ In (Many es)) = forks_have_come idle fields h

pub forks_come_by_number : ForksComeByNumber
forks_come_by_number idle fields fork h less = none (forks_that_came idle fields h) (forks_have_come idle fields h)
  where
    differs : (other : KeyFork) → HasCome idle fields h other → (t : Bool) → same_fork other fork ≡ t → t ≡ false
    differs other come false e = refl
    differs other come true e =
        let within : fork.number ≤ times_ended idle fields fork.key h =
        subst (HasCome idle fields h) (fork_is other fork e) come in
        absurd (omega arith)

    none : (forks : List KeyFork) → AllByRecursion (HasCome idle fields h) forks
        → list_any (λ other. same_fork other fork) forks ≡ false
    none [] all = refl
    none (other ∷ forks) all =
        ap (λ t. t || list_any (λ other. same_fork other fork) forks) (differs other all.0 (same_fork other fork) refl)
        ∙ none forks all.1

-- ---- what a fork receives

-- of forks among which the new one is already (t) or not
without_fork : (t : Bool) (fork new : KeyFork) (forks : List KeyFork) →
    list_any (λ other. same_fork other new) forks ≡ t →
    list_any (λ other. same_fork other fork) (cond t forks (forks ++ new ∷ [])) ≡ false →
    (list_any (λ other. same_fork other fork) forks ≡ false) × (same_fork new fork ≡ false)
without_fork false fork new forks e f =
    let test = λ (other : KeyFork). same_fork other fork in
    let parts =
    neither (list_any test forks) (same_fork new fork || false) (sym (list_any-append test forks (new ∷ [])) ∙ f) in
    (parts.0, (neither (same_fork new fork) false parts.1).0)
without_fork true fork new forks e f = (f, differs (same_fork new fork) refl)
  where
    differs : (t : Bool) → same_fork new fork ≡ t → t ≡ false
    differs false g = refl
    differs true g =
        absurd (true≢false
        (sym e ∙ ap (λ (k : KeyFork). list_any (λ other. same_fork other k) forks) (fork_is new fork g) ∙ f))

new_forks_have_ticks : (idle : Option ℕ) (fields : List Field) (fork : KeyFork) (h : History) →
    list_any (λ other. same_fork other fork) (forks_that_came idle fields h) ≡ false →
    TicksAlone (of_fork idle fields fork h)
new_forks_have_ticks idle fields fork (since start) e = tt
new_forks_have_ticks idle fields fork (h ▸ Tick) e = new_forks_have_ticks idle fields fork h e
new_forks_have_ticks idle fields fork (h ▸ In (One event)) e =
    let new = fork_of idle fields event h in
    let forks = forks_that_came idle fields h in
    let parts = without_fork (list_any (λ other. same_fork other new) forks) fork new forks refl e in
    event_step (same_fork new fork) event (of_fork idle fields fork h) parts.1
    (new_forks_have_ticks idle fields fork h parts.0)
new_forks_have_ticks idle fields fork (h ▸ In (Many es)) e = new_forks_have_ticks idle fields fork h e

pub unseen_forks_have_ticks : UnseenForksHaveTicks
unseen_forks_have_ticks idle fields fork h e =
    subst TicksAlone (sym (fork_events idle fields fork h)) (new_forks_have_ticks idle fields fork h e)

pub ended_forks_get_no_items : EndedForksGetNoItems
ended_forks_get_no_items idle fields fork h (Many es) less = refl
ended_forks_get_no_items idle fields fork h (One event) less =
    ap (λ t. cond t (of_fork idle fields fork h ▸ In (One event)) (of_fork idle fields fork h))
    (differs (same_fork (fork_of idle fields event h) fork) refl)
  where
    differs : (t : Bool) → same_fork (fork_of idle fields event h) fork ≡ t → t ≡ false
    differs false e = refl
    differs true e =
        let is = fork_is (fork_of idle fields event h) fork e in
        let key : event_key event fields ≡ fork.key = ap (λ (k : KeyFork). k.key) is in
        let number : times_ended idle fields (event_key event fields) h ≡ fork.number =
        ap (λ (k : KeyFork). k.number) is in
        let same : times_ended idle fields (event_key event fields) h ≡ times_ended idle fields fork.key h =
        ap (λ (k : List Value). times_ended idle fields k h) key in
        absurd (omega arith)
