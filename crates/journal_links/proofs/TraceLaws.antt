-- What became of the journal and of the links after one call more.
use Rattle.std.proofs.Common.{◌≡◌, inl, inr, ℕ, Bool, true, false, List, [], ◌∷◌, ◌++◌, ◌<◌, length, refl, sym, ◌∙◌, ap}
use Rattle.std.proofs.Common.{arith, subst}
use Rattle.std.proofs.lemmas.Bool.{false_from_ne_true, leb-true}
use Rattle.std.specs.Prelude.{Option, Some, None}
use Rattle.journal_format.specs.declared.turn_record.Summary.{Summary}
use Rattle.journal_format.specs.declared.turn_record.TurnRecord.{TurnRecord}
use Rattle.journal_links.specs.Steps.{CloseOf, GivesAgain, ListenOf, NextOf, Progress, SendOf, close_again}
use Rattle.journal_links.specs.Steps.{close_passed, is_over, last_secs, listen_again, listen_first, listen_unasked}
use Rattle.journal_links.specs.Steps.{next_again, next_broken, next_inner, next_unasked, send_again, send_memory}
use Rattle.journal_links.specs.Steps.{send_passed}
use Rattle.ports.specs.Calls.{AddsCalls, LinksReport}
use Rattle.ports.specs.Links.{listen_entries, next_entries, send_entries}
use Rattle.ports.specs.declared.entry.Entry.{Entry}
use Rattle.ports.specs.declared.entry.Entry.TheVariants.{Close}
use Rattle.ports.specs.declared.links.ListenAnswer.{ListenAnswer}
use Rattle.ports.specs.declared.links.ListenAnswer.TheVariants as listen
use Rattle.ports.specs.declared.links.SendAnswer.{SendAnswer}
use Rattle.ports.specs.declared.links.SendAnswer.TheVariants as send
use Rattle.ports.specs.declared.links.Turn.{Turn}
use Rattle.ports.specs.declared.links.Want.{Want}
use Rattle.ports.specs.declared.links.What.TheVariants.{Broken, Memory}
use Rattle.ports.proofs.CallLemmas.{calls_then, no_calls}
use Rattle.recorded_links.specs.Keeping.{HandsOut, is_ready, is_recorded}
use Rattle.recorded_links.specs.Noting.{Noted, noted}
use Rattle.recorded_links.specs.Sending.{after_send, may_note}
use Rattle.recorded_links.specs.Numbers.{inner_number}
use Rattle.recorded_links.specs.Steps.{CloseStep, OwnStep, Rests, Seen, SendStep, Unsent, own_full, own_refused}
use Rattle.recorded_links.specs.Steps.{own_taken}
use Rattle.recorded_links.proofs.NoteLaws.{close_noted, listen_quiet, send_noted, turn_quiet}
use Rattle.recorded_links.specs.Giving.{MayFollow}
use Rattle.recorded_links.specs.Lending.{Keeps, Lent}
use Rattle.recorded_links.specs.Making.{AreCalls, closed, listened, none_yet, one_more, sent, turned}
use Rattle.recorded_links.specs.Passing.{stops, unasked}
use Rattle.recorded_links.proofs.CallLaws.{keeps_close, keeps_listen, keeps_next, keeps_send}
use Rattle.recorded_links.proofs.GivenLaws.{may_close_step, may_still}
use Rattle.recorded_links.proofs.JournalLaws.{keeps_begun, keeps_same}
use Rattle.journal_links.specs.Opened.{first_free}
use Rattle.journal_links.specs.Asking.{AsksFor, IsAfter, IsAgain, breaks, closes_again, closes_inner, gives_again}
use Rattle.journal_links.specs.Asking.{listens_again, none_again, none_made, one_after, one_again, passes_on}
use Rattle.journal_links.specs.Asking.{sends_again}
use Rattle.journal_links.specs.Making.{State, resuming, unresumed}
use Rattle.journal_links.proofs.OwnLaws.{broken_at, keeps_own}
use Rattle.journal_links.proofs.SplitLaws.{Splits, again_turn, splits_after, splits_again, splits_begun, splits_listen}
use Rattle.journal_links.proofs.SplitLaws.{splits_still}
use Rattle.journal_links.proofs.StepLaws.{AsksOnce, asks_none, close_asks, listen_asks, memory_next, next_asks}
use Rattle.journal_links.proofs.StepLaws.{send_asks, unsent_asks}

-- Of links that resume a journal with these records: what became of it and of the links since these were lent.
pub record Traces (first : ℕ) (lent : Lent) (records : List TurnRecord) (calls : List Entry) (seen : Seen)
    (progress : Progress) : Type 0 where
  -- the calls after the journal's turns
  pub later : List Entry
  pub splits : Splits progress calls later
  pub keeps : Keeps lent (MayFollow (Some (last_secs records)) first seen.inner) later seen.kept seen.sends seen.spent
  -- those that were made of the links that were lent
  pub asked : List Entry
  pub adds : AddsCalls lent.links seen.inner asked
  pub asks : AsksFor first (last_secs records) calls later asked
  pub records_are : progress.records ≡ records

-- ---- one call more

again_more : (first : ℕ) (lent : Lent) (records : List TurnRecord) (calls calls' made more : List Entry)
    (old new : Seen) (was is : Progress) (all : Traces first lent records calls old was) → all.later ≡ []
    → IsAgain first made more → AddsCalls old.inner new.inner more
    → calls' ≡ calls ++ made → new.sends ≡ old.sends → new.kept ≡ old.kept → (old.spent ≡ true → new.spent ≡ true)
    → (old.spent ≡ true → (entry : TurnRecord) → MayFollow (Some (last_secs records)) first old.inner entry
    → MayFollow (Some (last_secs records)) first new.inner entry)
    → is.records ≡ was.records → Splits is calls' all.later → Traces first lent records calls' new is
again_more first lent records calls calls' made more old new was is all none again adds log sends kept stays may
    same splits = record {
      later = all.later;
      splits = splits;
      keeps =
          let sends_are : (noted all.later).sends ≡ old.sends = (all.keeps).sends_are in
          keeps_same lent (MayFollow (Some (last_secs records)) first old.inner)
          (MayFollow (Some (last_secs records)) first new.inner)
          all.later all.later old.kept new.kept old.sends new.sends old.spent new.spent all.keeps refl
          (sends_are ∙ sym sends) kept stays may;
      asked = all.asked ++ more;
      adds = calls_then lent.links old.inner new.inner all.asked more all.adds adds;
      asks =
          one_again calls made all.asked more
          (subst (λ (later : List Entry). AsksFor first (last_secs records) calls later all.asked) none all.asks) again
          log none refl;
      records_are = same ∙ all.records_are;
    }

-- one for which nothing was asked
again_own : (first : ℕ) (lent : Lent) (records : List TurnRecord) (calls calls' made : List Entry) (old new : Seen)
    (was is : Progress) (all : Traces first lent records calls old was) → all.later ≡ [] → IsAgain first made []
    → new.inner ≡ old.inner → calls' ≡ calls ++ made → new.sends ≡ old.sends → new.kept ≡ old.kept
    → (old.spent ≡ true → new.spent ≡ true) → is.records ≡ was.records → Splits is calls' all.later
    → Traces first lent records calls' new is
again_own first lent records calls calls' made old new was is all none again still log sends kept stays same splits =
    again_more first lent records calls calls' made [] old new was is all none again
    (subst (λ (report : LinksReport). AddsCalls old.inner report []) (sym still) (no_calls old.inner)) log sends kept
    stays (λ was. may_still (Some (last_secs records)) first old.inner new.inner still) same splits

after_more : (first : ℕ) (lent : Lent) (records : List TurnRecord) (calls calls' made more : List Entry)
    (old new : Seen) (was is : Progress) (all : Traces first lent records calls old was)
    → IsAfter first (last_secs records) old.sends made more → AddsCalls old.inner new.inner more
    → calls' ≡ calls ++ made
    → Keeps lent (MayFollow (Some (last_secs records)) first new.inner) (all.later ++ made) new.kept new.sends new.spent
    → is_over was ≡ true
    → is.records ≡ was.records → is.given ≡ was.given → Traces first lent records calls' new is
after_more first lent records calls calls' made more old new was is all after adds log keeps over same given = record {
  later = all.later ++ made;
  splits = splits_after was is calls calls' all.later made all.splits log over same given;
  keeps = keeps;
  asked = all.asked ++ more;
  adds = calls_then lent.links old.inner new.inner all.asked more all.adds adds;
  asks =
      let sends_are : (noted all.later).sends ≡ old.sends = (all.keeps).sends_are in
      one_after calls all.later made all.asked more all.asks
      (subst (λ (sends : List Summary). IsAfter first (last_secs records) sends made more) (sym sends_are) after) log
      refl refl;
  records_are = same ∙ all.records_are;
}

after_passed : (lent : Lent) (records : List TurnRecord) (calls calls' made : List Entry) (old new : Seen)
    (was is : Progress) (all : Traces old.first lent records calls old was)
    → AsksOnce old.first old.sends made old.inner new.inner
    → calls' ≡ calls ++ made
    → Keeps lent (MayFollow (Some (last_secs records)) old.first new.inner) (all.later ++ made)
    new.kept new.sends new.spent → is_over was ≡ true
    → is.records ≡ was.records → is.given ≡ was.given → Traces old.first lent records calls' new is
after_passed lent records calls calls' made old new was is all once log keeps over same given =
    after_more old.first lent records calls calls' made once.more old new was is all
    (passes_on once.is) once.adds log keeps over same given

-- a journal has turns left
some_left : (progress : Progress) → progress.given < length progress.records → is_over progress ≡ false
some_left progress some =
    false_from_ne_true (is_over progress)
    (λ over. omega (arith, some, leb-true (length progress.records) progress.given over))

-- ---- `next`

own_after : (lent : Lent) (records : List TurnRecord) (calls calls' : List Entry) (old new : Seen) (was is : Progress)
    (wants : List Want) (buf : List ℕ) (turn : Turn) (link secs : ℕ)
    (all : Traces old.first lent records calls old was) → secs ≡ last_secs records
    → OwnStep old new (record { secs = secs; what = Broken link }) turn → calls' ≡ calls ++ next_entries wants buf turn
    → Keeps lent (MayFollow (Some (last_secs records)) old.first new.inner) (all.later ++ next_entries wants buf turn)
    new.kept new.sends new.spent
    → is_over was ≡ true → is.records ≡ was.records → is.given ≡ was.given → Traces old.first lent records calls' new is
own_after lent records calls calls' old new was is wants buf turn link secs all secs_are
    (own_refused why memory rests) log keeps over same given =
    after_passed lent records calls calls' (next_entries wants buf turn) old new was is all
    (asks_none old.first old.sends (next_entries wants buf turn) old.inner new.inner
    (unasked (memory_next wants buf turn memory) refl) rests.inner) log keeps over same given
own_after lent records calls calls' old new was is wants buf turn link secs all secs_are
    (own_full ready full stopped rests) log keeps over same given =
    after_passed lent records calls calls' (next_entries wants buf turn) old new was is all
    (asks_none old.first old.sends (next_entries wants buf turn) old.inner new.inner
    (stops wants (ap (next_entries wants buf) stopped) refl) rests.inner) log keeps over same given
own_after lent records calls calls' old new was is wants buf turn link secs all secs_are (own_taken takes) log keeps
    over same given =
    after_more old.first lent records calls calls' (next_entries wants buf turn) [] old new was is all
    (breaks link wants buf turn
    (subst (λ (second : ℕ). HandsOut (Broken link) (record { secs = second; what = Broken link }) turn) secs_are
    takes.hands) refl refl)
    (subst (λ (report : LinksReport). AddsCalls old.inner report []) (sym takes.inner) (no_calls old.inner)) log
    keeps over same given

turn_again : (old new : Seen) (was is : Progress) (wants : List Want) (buf : List ℕ) (turn : Turn)
    → is_over was ≡ false → GivesAgain old new was is buf turn → IsAgain old.first (next_entries wants buf turn) []
turn_again old new was is wants buf turn over gives = elim (again_turn old new was is buf turn over gives) [
  | inl memory ↦ none_again (memory_next wants buf turn memory) refl
  | inr recorded ↦ gives_again wants buf turn recorded refl refl
]

next_more : (lent : Lent) (records : List TurnRecord) (calls calls' : List Entry) (old new : Seen) (was is : Progress)
    (wants : List Want) (buf : List ℕ) (turn : Turn) → Traces old.first lent records calls old was
    → calls' ≡ calls ++ next_entries wants buf turn
    → NextOf old new was is wants buf turn → (turn.what ≡ Memory → new.spent ≡ true)
    → Traces old.first lent records calls' new is
next_more lent records calls calls' old new was is wants buf turn all log (next_unasked over why memory rests stays)
    spends =
    let same = turn_quiet calls calls' wants buf turn log (ap is_recorded memory) in
    again_own old.first lent records calls calls' (next_entries wants buf turn) old new was is all
    ((all.splits).none_later over) (none_again (memory_next wants buf turn memory) refl) rests.inner log rests.sends
    rests.kept (λ was. spends memory) stays.records
    (splits_still was is calls calls' all.later all.splits (ap (λ (so_far : Noted). so_far.records) same)
    (λ _. ap (λ (so_far : Noted). so_far.sends) same) stays.records stays.given)
next_more lent records calls calls' old new was is wants buf turn all log (next_again over gives) spends =
    again_own old.first lent records calls calls' (next_entries wants buf turn) old new was is all
    ((all.splits).none_later over) (turn_again old new was is wants buf turn over gives) (gives.rests).inner log
    (gives.rests).sends
    (gives.rests).kept (λ was. absurd (cc (gives.unspent, was))) gives.records
    (splits_again old new was is wants buf turn calls calls' all.later all.splits log over gives)
next_more lent records calls calls' old new was is wants buf turn all log (next_broken over broken) spends =
    let gives : OwnStep old new (broken_at (last_secs records) broken.link) turn =
    subst (λ (secs : ℕ). OwnStep old new (broken_at secs broken.link) turn) (ap last_secs all.records_are)
    broken.gives in
    own_after lent records calls calls' old new was is wants buf turn broken.link (last_secs records) all refl gives log
    (keeps_own lent all.later (all.later ++ next_entries wants buf turn) old new wants buf turn (last_secs records)
    broken.link all.keeps refl gives spends) over broken.records broken.given
next_more lent records calls calls' old new was is wants buf turn all log (next_inner over none step stays) spends =
    after_passed lent records calls calls' (next_entries wants buf turn) old new was is all
    (next_asks old new wants buf turn step) log
    (keeps_next lent (Some (last_secs records)) all.later (all.later ++ next_entries wants buf turn)
    old new wants buf turn all.keeps refl step
    spends) over stays.records stays.given

-- ---- `listen`

listen_more : (lent : Lent) (records : List TurnRecord) (calls calls' : List Entry) (old new : Seen)
    (was is : Progress) (address : List ℕ) (answer : ListenAnswer) → Traces old.first lent records calls old was
    → calls' ≡ calls ++ listen_entries address answer
    → ListenOf old new was is address answer → (answer ≡ listen.Memory → new.spent ≡ true)
    → Traces old.first lent records calls' new is
listen_more lent records calls calls' old new was is address answer all log (listen_unasked why memory rests stays)
    spends =
    by_over (is_over was) refl
  where
    quiet : Keeps lent (MayFollow (Some (last_secs records)) old.first new.inner)
        (all.later ++ listen_entries address answer) new.kept new.sends new.spent
    quiet =
        let same = listen_quiet all.later (all.later ++ listen_entries address answer) address answer refl
        (ap is_ready memory) in
        let sends_are : (noted all.later).sends ≡ old.sends = (all.keeps).sends_are in
        keeps_same lent (MayFollow (Some (last_secs records)) old.first old.inner)
        (MayFollow (Some (last_secs records)) old.first new.inner) all.later
        (all.later ++ listen_entries address answer) old.kept new.kept old.sends new.sends
        old.spent new.spent all.keeps (ap (λ (so_far : Noted). so_far.records) same)
        (ap (λ (so_far : Noted). so_far.sends) same ∙ (sends_are ∙ sym rests.sends)) rests.kept (λ was. spends memory)
        (λ was. may_still (Some (last_secs records)) old.first old.inner new.inner rests.inner)

    by_over : (t : Bool) → is_over was ≡ t → Traces old.first lent records calls' new is
    by_over true over =
        after_passed lent records calls calls' (listen_entries address answer) old new was is all
        (asks_none old.first old.sends (listen_entries address answer) old.inner new.inner
        (unasked (ap (listen_entries address) memory) refl) rests.inner) log quiet over stays.records stays.given
    by_over false over =
        let same = listen_quiet calls calls' address answer log (ap is_ready memory) in
        again_own old.first lent records calls calls' (listen_entries address answer) old new was is all
        ((all.splits).none_later over) (none_again (ap (listen_entries address) memory) refl) rests.inner log
        rests.sends rests.kept (λ was. spends memory) stays.records
        (splits_still was is calls calls' all.later all.splits (ap (λ (so_far : Noted). so_far.records) same)
        (λ _. ap (λ (so_far : Noted). so_far.sends) same) stays.records stays.given)
listen_more lent records calls calls' old new was is address answer all log (listen_again again) spends =
    let none = (all.splits).none_later (some_left was again.some) in
    again_more old.first lent records calls calls' (listen_entries address answer)
    (listen_entries address again.asked) old new was is all none
    (listens_again address again.asked answer again.hands refl refl) again.asks log again.sends again.kept
    (λ was. absurd (cc (again.unspent, was))) (λ was. absurd (cc (again.unspent, was))) (again.gives).records
    (splits_listen old new was is address answer calls calls' all.later all.splits log none again)
listen_more lent records calls calls' old new was is address answer all log (listen_first over step stays) spends =
    after_passed lent records calls calls' (listen_entries address answer) old new was is all
    (listen_asks old new address answer step) log
    (keeps_listen lent (Some (last_secs records)) all.later (all.later ++ listen_entries address answer)
    old new address answer all.keeps refl step
    spends) over stays.records stays.given

-- ---- `send` and `close`

-- a send that was passed on, and was out of memory
pub unsent_of : (old new : Seen) (link : ℕ) (bytes : List ℕ) (answer : SendAnswer) → answer ≡ send.Memory
    → SendStep old new link bytes answer → Unsent old new
unsent_of old new link bytes answer memory step = record {
  calls = by_number (inner_number old.first link) refl (may_note link (length bytes) old.sends) refl;
  sends = step.sends ∙ ap (λ (a : SendAnswer). after_send link a old.sends) memory;
  kept = step.kept;
  faults = step.faults;
}
  where
    by_number : (at : Option ℕ) → inner_number old.first link ≡ at → (t : Bool)
        → may_note link (length bytes) old.sends ≡ t → AddsCalls old.inner new.inner []
    by_number None is t may = let later = (step.own is).0 in absurd (cc (memory, later))
    by_number (Some number) is true may =
        subst (λ (a : SendAnswer). AddsCalls old.inner new.inner (send_entries number bytes a)) memory
        (step.passed number is may)
    by_number (Some number) is false may = let later = (step.unnoted may).0 in absurd (cc (memory, later))

send_more : (lent : Lent) (records : List TurnRecord) (calls calls' : List Entry) (old new : Seen) (was is : Progress)
    (link : ℕ) (bytes : List ℕ) (answer : SendAnswer) → Traces old.first lent records calls old was
    → calls' ≡ calls ++ send_entries link bytes answer
    → SendOf old new was is link bytes answer → (answer ≡ send.Memory → new.spent ≡ true)
    → Traces old.first lent records calls' new is
send_more lent records calls calls' old new was is link bytes answer all log
    (send_again over answer_is left same given opened rests stays) spends =
    let noted_as = send_noted calls calls' link bytes answer log in
    again_own old.first lent records calls calls' (send_entries link bytes answer) old new was is all
    ((all.splits).none_later over) (sends_again link bytes answer refl refl) rests.inner log rests.sends rests.kept
    stays same
    (splits_still was is calls calls' all.later all.splits (ap (λ (so_far : Noted). so_far.records) noted_as)
    (λ is_over. absurd (cc (over, is_over))) same given)
send_more lent records calls calls' old new was is link bytes answer all log (send_passed over step stays) spends =
    after_passed lent records calls calls' (send_entries link bytes answer) old new was is all
    (send_asks old new link bytes answer step) log
    (keeps_send lent (Some (last_secs records)) all.later (all.later ++ send_entries link bytes answer) old new link bytes
    answer all.keeps refl (λ some. step) (λ memory. unsent_of old new link bytes answer memory step) spends) over
    stays.records stays.given
send_more lent records calls calls' old new was is link bytes answer all log (send_memory over memory unsent stays)
    spends =
    after_passed lent records calls calls' (send_entries link bytes answer) old new was is all
    (unsent_asks old new link bytes answer memory unsent) log
    (keeps_send lent (Some (last_secs records)) all.later (all.later ++ send_entries link bytes answer) old new link bytes
    answer all.keeps refl (λ some. absurd (some memory)) (λ none. unsent) spends) over stays.records stays.given

-- the close of a link that is not an inner one
rests_close : (old new : Seen) (link : ℕ) → inner_number old.first link ≡ None → Rests old new
    → (old.spent ≡ true → new.spent ≡ true) → CloseStep old new link
rests_close old new link none rests stays = record {
  passed = λ number at. absurd (cc (none, at));
  own = λ same. rests.inner;
  sends = rests.sends;
  kept = rests.kept;
  faults = rests.faults;
  spent = stays;
}

close_more : (lent : Lent) (records : List TurnRecord) (calls calls' : List Entry) (old new : Seen) (was is : Progress)
    (link : ℕ) → Traces old.first lent records calls old was → calls' ≡ calls ++ Close link ∷ []
    → CloseOf old new was is link → Traces old.first lent records calls' new is
close_more lent records calls calls' old new was is link all log
    (close_again none opened same given left rests stays) =
    by_over (is_over was) refl
  where
    by_over : (t : Bool) → is_over was ≡ t → Traces old.first lent records calls' new is
    by_over true over =
        after_passed lent records calls calls' (Close link ∷ []) old new was is all
        (close_asks old new link (rests_close old new link none rests stays)) log
        (keeps_close lent (Some (last_secs records)) all.later (all.later ++ Close link ∷ []) old new link all.keeps refl
        (rests_close old new link none rests stays)) over same given
    by_over false over =
        let noted_as = close_noted calls calls' link log in
        again_own old.first lent records calls calls' (Close link ∷ []) old new was is all
        ((all.splits).none_later over) (closes_again link none refl refl) rests.inner log rests.sends rests.kept stays
        same
        (splits_still was is calls calls' all.later all.splits (ap (λ (so_far : Noted). so_far.records) noted_as)
        (λ _. ap (λ (so_far : Noted). so_far.sends) noted_as) same given)
close_more lent records calls calls' old new was is link all log (close_passed number at step stays) =
    by_over (is_over was) refl
  where
    by_over : (t : Bool) → is_over was ≡ t → Traces old.first lent records calls' new is
    by_over true over =
        after_passed lent records calls calls' (Close link ∷ []) old new was is all (close_asks old new link step) log
        (keeps_close lent (Some (last_secs records)) all.later (all.later ++ Close link ∷ []) old new link all.keeps refl
        step) over stays.records stays.given
    by_over false over =
        let noted_as = close_noted calls calls' link log in
        again_more old.first lent records calls calls' (Close link ∷ []) (Close number ∷ []) old new was is all
        ((all.splits).none_later over) (closes_inner link number at refl refl) (step.passed number at) log step.sends
        step.kept step.spent (λ was. may_close_step (Some (last_secs records)) old new link step) stays.records
        (splits_still was is calls calls' all.later all.splits (ap (λ (so_far : Noted). so_far.records) noted_as)
        (λ _. ap (λ (so_far : Noted). so_far.sends) noted_as) stays.records stays.given)

-- ---- all calls

-- the numbers of the inner links begin where they did
renumbered : (lent : Lent) (records : List TurnRecord) (calls : List Entry) (old new : Seen) (is : Progress)
    → new.first ≡ old.first → Traces old.first lent records calls new is → Traces new.first lent records calls new is
renumbered lent records calls old new is same =
    subst (λ (first : ℕ). Traces first lent records calls new is) (sym same)

abbrev pub MadeOf : Lent → List TurnRecord → List Entry → State → Type 0
MadeOf lent records calls now =
    AreCalls resuming (unresumed lent.found records lent.links lent.disk) calls now

pub traces_made : (lent : Lent) (records : List TurnRecord) (calls : List Entry) (now : State)
    → MadeOf lent records calls now → Traces now.seen.first lent records calls now.seen now.progress
traces_made lent records calls now (none_yet fresh is) =
    let start : State = unresumed lent.found records lent.links lent.disk in
    let begun : Traces start.seen.first lent records [] start.seen start.progress = record {
      later = [];
      splits = splits_begun start.progress [] refl refl;
      keeps =
          keeps_begun lent (MayFollow (Some (last_secs records)) start.seen.first start.seen.inner)
          start.seen.kept start.seen.sends start.seen.spent refl refl;
      asked = [];
      adds = no_calls lent.links;
      asks = none_made refl refl refl;
      records_are = refl;
    } in
    subst (λ (calls : List Entry). Traces now.seen.first lent records calls now.seen now.progress) (sym fresh)
    (subst (λ (state : State). Traces state.seen.first lent records [] state.seen state.progress) (sym is) begun)
traces_made lent records calls now (one_more before made old all (turned wants buf turn step spends is) same log) =
    renumbered lent records calls old.seen now.seen now.progress same
    (next_more lent records before calls old.seen now.seen old.progress now.progress wants buf turn
    (traces_made lent records before old all) (log ∙ ap (λ more. before ++ more) is) step spends)
traces_made lent records calls now (one_more before made old all (listened address answer step spends is) same log) =
    renumbered lent records calls old.seen now.seen now.progress same
    (listen_more lent records before calls old.seen now.seen old.progress now.progress address answer
    (traces_made lent records before old all) (log ∙ ap (λ more. before ++ more) is) step spends)
traces_made lent records calls now (one_more before made old all (sent link bytes answer step spends is) same log) =
    renumbered lent records calls old.seen now.seen now.progress same
    (send_more lent records before calls old.seen now.seen old.progress now.progress link bytes answer
    (traces_made lent records before old all) (log ∙ ap (λ more. before ++ more) is) step spends)
traces_made lent records calls now (one_more before made old all (closed link step is) same log) =
    renumbered lent records calls old.seen now.seen now.progress same
    (close_more lent records before calls old.seen now.seen old.progress now.progress link
    (traces_made lent records before old all) (log ∙ ap (λ more. before ++ more) is) step)

pub first_made : (lent : Lent) (records : List TurnRecord) (calls : List Entry) (now : State)
    → MadeOf lent records calls now → now.seen.first ≡ first_free records
first_made lent records calls now (none_yet fresh is) = ap (λ (state : State). state.seen.first) is
first_made lent records calls now (one_more before made old all call same log) =
    same ∙ first_made lent records before old all
