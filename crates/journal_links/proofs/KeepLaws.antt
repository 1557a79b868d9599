-- What a crash leaves of the turns that were handed out, for the other calls and at the start.
use Rattle.std.proofs.Common.{◌≡◌, inl, inr, ℕ, ◌<◌, Bool, true, false, not, List, [], ◌∷◌, ◌++◌, ◌&&◌, drop, length}
use Rattle.std.proofs.Common.{refl, ap, sym, ◌∙◌, subst, append_assoc, arith}
use Rattle.std.specs.List.{list_all}
use Rattle.std.proofs.lemmas.List.{map-append}
use Rattle.disk_port.specs.Past.{synced}
use Rattle.journal_format.specs.Journals.{AreRecords}
use Rattle.journal_format.specs.Spelling.{is_listen}
use Rattle.journal_format.specs.declared.turn_record.TurnEvent.{TurnEvent}
use Rattle.journal_format.specs.declared.turn_record.TurnEvent.TheVariants as event
use Rattle.journal_format.specs.declared.turn_record.TurnRecord.{TurnRecord}
use Rattle.journal_links.specs.Steps.{Progress, close_again, close_passed, listen_again, listen_first, listen_unasked}
use Rattle.journal_links.specs.Steps.{send_again, send_memory, send_passed}
use Rattle.journal_links.specs.Turns.{AreTurns, BegunKeepsTurns, BeginsWithListen, CloseKeepsTurns, KeepsTurns}
use Rattle.journal_links.specs.Turns.{ListenKeepsTurns, PlainTurn, ResumedKeepsTurns, SendKeepsTurns, StaysJournal}
use Rattle.journal_links.specs.Turns.{handed, is_turn, plain, turns_in}
use Rattle.journal_links.proofs.TurnLaws.{added, none_left, plain_is, quiet, still, turns_of}
use Rattle.ports.specs.Links.{listen_entries, send_entries}
use Rattle.ports.specs.declared.entry.Entry.{Entry}
use Rattle.ports.specs.declared.entry.Entry.TheVariants.{Close}
use Rattle.ports.specs.declared.links.ListenAnswer.{ListenAnswer}
use Rattle.ports.specs.declared.links.ListenAnswer.TheVariants as listen
use Rattle.ports.specs.declared.links.SendAnswer.{SendAnswer}
use Rattle.ports.specs.declared.links.SendAnswer.TheVariants as send
use Rattle.recorded_links.specs.Keeping.{HandsListen, Kept, is_ready, listen_entry}
use Rattle.recorded_links.specs.Noting.{after_listen, noted}
use Rattle.recorded_links.proofs.NoteLaws.{close_noted, listen_noted, send_noted}
use Rattle.recorded_links.specs.Steps.{ListenStep, listen_refused, listen_taken}

-- ---- `send` and `close`

handed_send : (log : List Entry) (link : ℕ) (bytes : List ℕ) (answer : SendAnswer)
    → handed (log ++ send_entries link bytes answer) ≡ handed log
handed_send log link bytes answer = ap turns_of (send_noted log (log ++ send_entries link bytes answer) link bytes
    answer refl)

pub send_keeps : SendKeepsTurns
send_keeps old new was is link bytes answer log keeps
    (send_again over answer_is left records given opened rests spent) =
    still log was old.kept keeps (log ++ send_entries link bytes answer) new.kept is true rests.kept
    (handed_send log link bytes answer) records given
send_keeps old new was is link bytes answer log keeps (send_passed over step stays) =
    still log was old.kept keeps (log ++ send_entries link bytes answer) new.kept is true step.kept
    (handed_send log link bytes answer) stays.records stays.given
send_keeps old new was is link bytes answer log keeps (send_memory over answer_is unsent stays) =
    still log was old.kept keeps (log ++ send_entries link bytes answer) new.kept is true unsent.kept
    (handed_send log link bytes answer) stays.records stays.given

handed_close : (log : List Entry) (link : ℕ) → handed (log ++ Close link ∷ []) ≡ handed log
handed_close log link = ap turns_of (close_noted log (log ++ Close link ∷ []) link refl)

pub close_keeps : CloseKeepsTurns
close_keeps old new was is link log keeps (close_again none opened records given left rests spent) =
    still log was old.kept keeps (log ++ Close link ∷ []) new.kept is true rests.kept
    (handed_close log link) records given
close_keeps old new was is link log keeps (close_passed number at step stays) =
    still log was old.kept keeps (log ++ Close link ∷ []) new.kept is true step.kept
    (handed_close log link) stays.records stays.given

-- ---- `listen`

handed_ready : (log : List Entry) (address : List ℕ) (answer : ListenAnswer) (secs : ℕ) → answer ≡ listen.Ready secs
    → handed (log ++ listen_entries address answer) ≡ handed log ++ record { secs = secs; event = event.Listen } ∷ []
handed_ready log address answer secs is =
    ap turns_of (listen_noted log (log ++ listen_entries address answer) address answer refl
    ∙ ap (after_listen (noted log)) is)
    ∙ map-append plain (noted log).records (listen_entry (noted log).sends secs ∷ [])

is_listen_event : (given : TurnEvent) → is_listen given ≡ true → event.Listen ≡ given
is_listen_event event.Listen is = refl
is_listen_event event.Idle is = absurd (cc is)
is_listen_event (event.Opened link) is = absurd (cc is)
is_listen_event (event.Read link bytes) is = absurd (cc is)
is_listen_event (event.Ended link) is = absurd (cc is)
is_listen_event (event.Broken link) is = absurd (cc is)
is_listen_event (event.Room link) is = absurd (cc is)

-- the listen of a journal that has records
record First (records : List TurnRecord) : Type 0 where
  entry : TurnRecord
  later : List TurnRecord
  is : records ≡ entry ∷ later

first : (records : List TurnRecord) → 0 < length records → First records
first [] less = absurd (omega (arith, less))
first (entry ∷ later) less = record { entry = entry; later = later; is = refl }

-- an answer that is not ready hands out nothing
unready : (old new : Kept) (was is : Progress) (log log' : List Entry) (answer : ListenAnswer)
    (keeps : KeepsTurns log was old) → new ≡ old → is_ready answer ≡ false
    → StaysJournal log log' old new was is (is_ready answer) keeps
unready old new was is log log' answer keeps same none =
    quiet log was old keeps log' new is (is_ready answer) same (λ ready. absurd (cc (ready, none)))

pub listen_keeps : ListenKeepsTurns
listen_keeps old new was is address answer log keeps begins (listen_unasked why answer_is rests stays) =
    unready old.kept new.kept was is log (log ++ listen_entries address answer) answer keeps rests.kept
    (ap is_ready answer_is)
listen_keeps old new was is address answer log keeps begins (listen_again again) =
    quiet log was old.kept keeps (log ++ listen_entries address answer) new.kept is (is_ready answer) again.kept
    (λ ready. by_answer answer refl ready)
  where
    by_answer : (a : ListenAnswer) → answer ≡ a → is_ready a ≡ true
        → handed log ++ turns_in (drop was.given was.records) ≡ handed
        (log ++ listen_entries address answer) ++ turns_in (drop is.given is.records)
    by_answer (listen.Ready secs) answer_is ready =
        let none_given : was.given ≡ 0 = again.unbegun in
        let less : was.given < length was.records = again.some in
        let at = first was.records (omega (arith, less)) in
        let all : drop was.given was.records ≡ at.entry ∷ at.later =
        ap (λ (n : ℕ). drop n was.records) none_given ∙ at.is in
        let gives = again.gives in
        let given = gives.gives secs at.entry at.later answer_is all in
        let event_is : event.Listen ≡ at.entry.event =
        is_listen_event at.entry.event (begins at.entry at.later at.is) in
        let turn : PlainTurn = record { secs = secs; event = event.Listen } in
        let plain_same : turn ≡ plain at.entry =
        plain_is secs at.entry.secs event.Listen at.entry.event given.secs_is event_is in
        let handed_more : handed (log ++ listen_entries address answer) ≡ handed log ++ plain at.entry ∷ [] =
        handed_ready log address answer secs answer_is ∙ ap (λ (t : PlainTurn). handed log ++ t ∷ []) plain_same in
        ap (λ (entries : List TurnRecord). handed log ++ turns_in entries) all
        ∙ (sym (append_assoc (handed log) (plain at.entry ∷ []) (turns_in at.later))
        ∙ (ap (λ (turns : List PlainTurn). turns ++ turns_in at.later) (sym handed_more)
        ∙ ap (λ (entries : List TurnRecord). handed (log ++ listen_entries address answer) ++ turns_in entries)
        (sym given.rest_is)))
    by_answer listen.Failed answer_is ready = absurd (cc ready)
    by_answer listen.Memory answer_is ready = absurd (cc ready)
listen_keeps old new was is address answer log keeps begins (listen_first over step stays) = by_step step
  where
    by_step : ListenStep old new address answer
        → StaysJournal log (log ++ listen_entries address answer) old.kept new.kept was is (is_ready answer) keeps
    by_step (listen_refused why answer_is rests) =
        unready old.kept new.kept was is log (log ++ listen_entries address answer) answer keeps rests.kept
        (ap is_ready answer_is)
    by_step (listen_taken takes) = by_asked takes.asked refl
      where
        by_way : (secs : ℕ) → HandsListen (listen.Ready secs) answer → is_ready answer ≡ true
            → handed (log ++ listen_entries address answer) ≡ handed log ++ plain (listen_entry old.sends secs) ∷ []
        by_way secs (inl same) ready = handed_ready log address answer secs same
        by_way secs (inr (inl lost)) ready =
            let none : is_ready answer ≡ false = ap is_ready lost in absurd (cc (ready, none))
        by_way secs (inr (inr out)) ready =
            let none : is_ready answer ≡ false = ap is_ready out in absurd (cc (ready, none))

        by_asked : (asked : ListenAnswer) → takes.asked ≡ asked
            → StaysJournal log (log ++ listen_entries address answer) old.kept new.kept was is (is_ready answer) keeps
        by_asked (listen.Ready secs) asked_is =
            let after : drop is.given is.records ≡ drop was.given was.records = cc (stays.records, stays.given) in
            let hands : HandsListen (listen.Ready secs) answer =
            subst (λ (a : ListenAnswer). HandsListen a answer) asked_is takes.hands in
            added log was old.kept keeps (log ++ listen_entries address answer) new.kept is (is_ready answer)
            (listen_entry old.sends secs) (is_ready answer)
            (none_left was over) (after ∙ none_left was over) (takes.allowed secs asked_is) (sym (ap not takes.unbegun))
            (takes.records secs asked_is) (λ ready. (ready, by_way secs hands ready))
        by_asked listen.Failed asked_is =
            let hands : HandsListen listen.Failed answer =
            subst (λ (a : ListenAnswer). HandsListen a answer) asked_is takes.hands in
            unready old.kept new.kept was is log (log ++ listen_entries address answer) answer keeps
            (takes.other (ap is_ready asked_is)) (ap is_ready hands)
        by_asked listen.Memory asked_is =
            let hands : HandsListen listen.Memory answer =
            subst (λ (a : ListenAnswer). HandsListen a answer) asked_is takes.hands in
            unready old.kept new.kept was is log (log ++ listen_entries address answer) answer keeps
            (takes.other (ap is_ready asked_is)) (ap is_ready hands)

-- ---- at the start

pub begun_keeps : BegunKeepsTurns
begun_keeps config kept progress records given stands = record {
  past = stands.0;
  journal = record { config = config; records = [] };
  told = stands.1;
  stands = stands.2;
  begins =
      let empty : drop progress.given progress.records ≡ [] = ap (λ (n : ℕ). drop n progress.records) given ∙ records in
      ap turns_in (sym empty);
}

both_true : (a b : Bool) → a ≡ true → b ≡ true → (a && b) ≡ true
both_true true b is other = other
both_true false b is other = absurd (cc is)

later_turns : (records : List TurnRecord) (run : List ℕ) → AreRecords false records run
    → list_all is_turn records ≡ true
later_turns [] run are = refl
later_turns (entry ∷ records) run are =
    let begins = are.1 in
    both_true (is_turn entry) (list_all is_turn records) (ap not (let spells = begins.spells in spells.order))
    (later_turns records are.0 are.2)

all_turns : (records : List TurnRecord) (run : List ℕ) → AreRecords true records run → AreTurns records
all_turns [] run are = refl
all_turns (entry ∷ records) run are = later_turns records are.0 are.2

starts : (records : List TurnRecord) (run : List ℕ) → AreRecords true records run → BeginsWithListen records
starts [] run are entry later is = absurd (cc is)
starts (other ∷ records) run are entry later is =
    let begins = are.1 in
    let spells = begins.spells in
    let same : other ≡ entry = cc in
    subst (λ (e : TurnRecord). is_listen e.event ≡ true) same spells.order

pub resumed_keeps : ResumedKeepsTurns
resumed_keeps past config kept progress told given resumes = record {
  keeps = record {
    past = synced past;
    journal = resumes.journal;
    told = told;
    stands = resumes.stands;
    begins = ap turns_in (sym (ap (λ (n : ℕ). drop n progress.records) given ∙ resumes.records_are));
  };
  first =
      subst BeginsWithListen (sym resumes.records_are)
      (starts resumes.journal.records resumes.stands.holds.begins.run resumes.stands.holds.begins.records);
  others =
      subst AreTurns (sym resumes.records_are)
      (all_turns resumes.journal.records resumes.stands.holds.begins.run resumes.stands.holds.begins.records);
}
