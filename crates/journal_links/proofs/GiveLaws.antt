-- The turns of the journal that are given again, and those that say that a link of the journal broke.
use Rattle.std.proofs.Common.{◌≡◌, ◌⊎◌, inl, inr, ℕ, zero, suc, ◌+◌, ◌<◌, Bool, true, false, List, [], ◌∷◌, drop}
use Rattle.std.proofs.Common.{length, refl, ap, sym, ◌∙◌, subst, arith}
use Rattle.std.specs.Prelude.{nat_lt}
use Rattle.std.specs.List.{list_all}
use Rattle.std.proofs.lemmas.Bool.{and_parts, lt-ltb, ltb-true}
use Rattle.journal_format.specs.declared.turn_record.TurnEvent.{TurnEvent}
use Rattle.journal_format.specs.declared.turn_record.TurnEvent.TheVariants as event
use Rattle.journal_format.specs.declared.turn_record.TurnRecord.{TurnRecord}
use Rattle.journal_links.specs.Steps.{HandsAgain, opens_before}
use Rattle.ports.specs.Calls.{LinksReport}
use Rattle.ports.specs.Counts.{Rose}
use Rattle.ports.specs.Links.{HasListenCause, HasNextCause, IsPieceWithin, is_failed_turn, is_memory_turn}
use Rattle.ports.specs.declared.links.ListenAnswer.{ListenAnswer}
use Rattle.ports.specs.declared.links.ListenAnswer.TheVariants as listen
use Rattle.ports.specs.declared.links.Turn.{Turn}
use Rattle.ports.specs.declared.links.What.{What}
use Rattle.ports.specs.declared.links.What.TheVariants.{Idle, Opened, Read, Ended, Broken, Room, Stopped, Failed}
use Rattle.ports.specs.declared.links.What.TheVariants.{Memory}
use Rattle.recorded_links.specs.Keeping.{FailedIf, is_lost, is_ready}
use Rattle.recorded_links.specs.Steps.{OwnStep, Seen, own_full, own_refused, own_taken}
use Rattle.journal_links.specs.Opened.{is_before, number_after}
use Rattle.journal_links.specs.Replaying.{what_of}

-- ---- the next record

-- the record that is next, of which a test that all pass holds
pub record Next (test : TurnRecord → Bool) (n : ℕ) (records : List TurnRecord) : Type 0 where
  pub entry : TurnRecord
  pub later : List TurnRecord
  pub is : drop n records ≡ entry ∷ later
  pub passes : test entry ≡ true

pub next : (test : TurnRecord → Bool) (n : ℕ) (records : List TurnRecord) → n < length records
    → list_all test records ≡ true → Next test n records
next test n [] less all = absurd (omega (arith, less))
next test zero (entry ∷ records) less all =
    record {
      entry = entry;
      later = records;
      is = refl;
      passes =
          (and_parts (test entry) (list_all test records) all).0;
    }
next test (suc n) (entry ∷ records) less all =
    let more = next test n records (omega (arith, less)) (and_parts (test entry) (list_all test records) all).1 in
    record { entry = more.entry; later = more.later; is = more.is; passes = more.passes }

before_event : (first link : ℕ) (given : TurnEvent) → Opened link ≡ what_of given
    → nat_lt (number_after given) (first + 1) ≡ true → nat_lt link first ≡ true
before_event first link event.Listen is before = absurd (cc is)
before_event first link event.Idle is before = absurd (cc is)
before_event first link (event.Opened other) is before =
    let same : link ≡ other = cc in
    lt-ltb link first (omega (arith, same, ltb-true (other + 1) (first + 1) before))
before_event first link (event.Read other bytes) is before = absurd (cc is)
before_event first link (event.Ended other) is before = absurd (cc is)
before_event first link (event.Broken other) is before = absurd (cc is)
before_event first link (event.Room other) is before = absurd (cc is)

-- a turn of the journal opens no inner link
pub gives_before : (first n : ℕ) (records : List TurnRecord) (what : What) → n < length records
    → list_all (is_before first) records ≡ true
    → (is_memory_turn what ≡ false → (entry : TurnRecord) (later : List TurnRecord) → drop n records ≡ entry ∷ later
    → what ≡ what_of entry.event) → opens_before first what ≡ true
gives_before first n records (Opened link) some all gives =
    let at = next (is_before first) n records some all in
    before_event first link at.entry.event (gives refl at.entry at.later at.is) at.passes
gives_before first n records Idle some all gives = refl
gives_before first n records (Read link count) some all gives = refl
gives_before first n records (Ended link) some all gives = refl
gives_before first n records (Broken link) some all gives = refl
gives_before first n records (Room link) some all gives = refl
gives_before first n records Stopped some all gives = refl
gives_before first n records Failed some all gives = refl
gives_before first n records Memory some all gives = refl

-- ---- a link of the journal that broke

-- what holds of all that may be handed out holds of what is
own_what : (P : What → Type 0) (old new : Seen) (secs link : ℕ) (turn : Turn) → P Memory → P Stopped → P Failed
    → P (Broken link) → OwnStep old new (record { secs = secs; what = Broken link }) turn → P turn.what
own_what P old new secs link turn memory stopped failed broken (own_refused why what rests) = subst P (sym what) memory
own_what P old new secs link turn memory stopped failed broken (own_full ready full is rests) =
    subst P (sym (ap (λ (t : Turn). t.what) is)) stopped
own_what P old new secs link turn memory stopped failed broken (own_taken takes) = by_way takes.hands
  where
    by_way : (turn ≡ record { secs = secs; what = Broken link }) ⊎ ((turn.what ≡ Failed) ⊎ (turn.what ≡ Memory))
        → P turn.what
    by_way (inl same) = subst P (sym (ap (λ (t : Turn). t.what) same)) broken
    by_way (inr (inl lost)) = subst P (sym lost) failed
    by_way (inr (inr out)) = subst P (sym out) memory

pub own_before : (first : ℕ) (old new : Seen) (secs link : ℕ) (turn : Turn)
    → OwnStep old new (record { secs = secs; what = Broken link }) turn → opens_before first turn.what ≡ true
own_before first old new secs link turn step =
    own_what (λ what. opens_before first what ≡ true) old new secs link turn refl refl refl refl step

pub own_within : (limit : ℕ) (old new : Seen) (secs link : ℕ) (turn : Turn)
    → OwnStep old new (record { secs = secs; what = Broken link }) turn → IsPieceWithin limit turn.what
own_within limit old new secs link turn step = own_what (IsPieceWithin limit) old new secs link turn tt tt tt tt step

-- why it was answered so
pub own_cause : (old new : Seen) (secs link : ℕ) (turn : Turn) → new.inner ≡ old.inner
    → OwnStep old new (record { secs = secs; what = Broken link }) turn
    → HasNextCause (old.inner.faults + old.faults) (new.inner.faults + new.faults) turn.what
own_cause old new secs link turn inner (own_refused why what rests) =
    let asked : new.inner.faults ≡ old.inner.faults = ap (λ (report : LinksReport). report.faults) inner in
    let none : new.faults ≡ old.faults = rests.faults in
    subst (HasNextCause (old.inner.faults + old.faults) (new.inner.faults + new.faults)) (sym what)
    (omega (arith, asked, none))
own_cause old new secs link turn inner (own_full ready full is rests) =
    let asked : new.inner.faults ≡ old.inner.faults = ap (λ (report : LinksReport). report.faults) inner in
    let none : new.faults ≡ old.faults = rests.faults in
    subst (HasNextCause (old.inner.faults + old.faults) (new.inner.faults + new.faults))
    (sym (ap (λ (t : Turn). t.what) is)) (omega (arith, asked, none))
own_cause old new secs link turn inner (own_taken takes) = by_way takes.hands
  where
    faults_at : (what : What) → turn.what ≡ what → FailedIf (is_lost (Broken link) what) old.faults new.faults
    faults_at what is = subst (λ (w : What). FailedIf (is_lost (Broken link) w) old.faults new.faults) is takes.faults

    same_inner : new.inner.faults ≡ old.inner.faults
    same_inner = ap (λ (report : LinksReport). report.faults) inner

    by_way : (turn ≡ record { secs = secs; what = Broken link }) ⊎ ((turn.what ≡ Failed) ⊎ (turn.what ≡ Memory))
        → HasNextCause (old.inner.faults + old.faults) (new.inner.faults + new.faults) turn.what
    by_way (inl same) =
        let is : turn.what ≡ Broken link = ap (λ (t : Turn). t.what) same in
        let none : new.faults ≡ old.faults = faults_at (Broken link) is in
        subst (HasNextCause (old.inner.faults + old.faults) (new.inner.faults + new.faults)) (sym is)
        (omega (arith, same_inner, none))
    by_way (inr (inl lost)) =
        let fails = faults_at Failed lost in
        subst (HasNextCause (old.inner.faults + old.faults) (new.inner.faults + new.faults)) (sym lost)
        (λ less. let rose : old.faults < new.faults = fails.risen (omega (arith, less)) in
        omega (arith, same_inner, rose))
    by_way (inr (inr out)) =
        let none : new.faults ≡ old.faults = faults_at Memory out in
        subst (HasNextCause (old.inner.faults + old.faults) (new.inner.faults + new.faults)) (sym out)
        (omega (arith, same_inner, none))

-- ---- listening again

pub again_cause : (asked answer : ListenAnswer) (inner inner' disk disk' : ℕ) → HasListenCause inner inner' asked
    → HandsAgain asked answer → disk' ≡ disk → HasListenCause (inner + disk) (inner' + disk') answer
again_cause (listen.Ready secs) (listen.Ready other) inner inner' disk disk' cause hands same =
    let none : inner' ≡ inner = cause in omega (arith, none, same)
again_cause (listen.Ready secs) listen.Failed inner inner' disk disk' cause (inl ready) same = absurd (cc ready)
again_cause (listen.Ready secs) listen.Failed inner inner' disk disk' cause (inr memory) same = absurd (cc memory)
again_cause (listen.Ready secs) listen.Memory inner inner' disk disk' cause hands same =
    let none : inner' ≡ inner = cause in omega (arith, none, same)
again_cause listen.Failed answer inner inner' disk disk' cause hands same =
    subst (HasListenCause (inner + disk) (inner' + disk')) (sym hands)
    (λ less. let rose : inner < inner' = cause (omega (arith, less)) in omega (arith, rose, same))
again_cause listen.Memory answer inner inner' disk disk' cause hands same =
    let none : inner' ≡ inner = cause in
    subst (HasListenCause (inner + disk) (inner' + disk')) (sym hands) (omega (arith, none, same))

-- it failed since the inner links did
pub again_failed : (asked answer : ListenAnswer) (inner inner' : ℕ) → HasListenCause inner inner' asked
    → HandsAgain asked answer → answer ≡ listen.Failed → Rose inner inner'
again_failed (listen.Ready secs) answer inner inner' cause (inl ready) failed = absurd (cc (ap is_ready failed, ready))
again_failed (listen.Ready secs) answer inner inner' cause (inr memory) failed = absurd (cc (memory, failed))
again_failed listen.Failed answer inner inner' cause hands failed = cause
again_failed listen.Memory answer inner inner' cause hands failed = absurd (cc (hands, failed))

-- ---- what a record is given as

not_memory : (given : TurnEvent) → is_memory_turn (what_of given) ≡ false
not_memory event.Listen = refl
not_memory event.Idle = refl
not_memory (event.Opened link) = refl
not_memory (event.Read link bytes) = refl
not_memory (event.Ended link) = refl
not_memory (event.Broken link) = refl
not_memory (event.Room link) = refl

pub not_failed : (given : TurnEvent) → is_failed_turn (what_of given) ≡ false
not_failed event.Listen = refl
not_failed event.Idle = refl
not_failed (event.Opened link) = refl
not_failed (event.Read link bytes) = refl
not_failed (event.Ended link) = refl
not_failed (event.Broken link) = refl
not_failed (event.Room link) = refl

-- a turn of the journal is neither a failure nor out of memory
pub gives_turn : (test : TurnRecord → Bool) (n : ℕ) (records : List TurnRecord) (what : What) → n < length records
    → list_all test records ≡ true
    → ((entry : TurnRecord) (later : List TurnRecord) → drop n records ≡ entry ∷ later → what ≡ what_of entry.event)
    → (is_memory_turn what ≡ false) × (is_failed_turn what ≡ false)
gives_turn test n records what some all gives =
    let at = next test n records some all in
    let is = gives at.entry at.later at.is in
    (ap is_memory_turn is ∙ not_memory at.entry.event, ap is_failed_turn is ∙ not_failed at.entry.event)

-- ---- a turn that is lost

pub failed_if : (what : What) → is_failed_turn what ≡ true → what ≡ Failed
failed_if Idle is = absurd (cc is)
failed_if (Opened link) is = absurd (cc is)
failed_if (Read link count) is = absurd (cc is)
failed_if (Ended link) is = absurd (cc is)
failed_if (Broken link) is = absurd (cc is)
failed_if (Room link) is = absurd (cc is)
failed_if Stopped is = absurd (cc is)
failed_if Failed is = refl
failed_if Memory is = absurd (cc is)
