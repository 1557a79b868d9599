-- What a crash leaves of the turns that were handed out.
use Rattle.std.proofs.Common.{◌≡◌, ◌⊎◌, inl, inr, ℕ, zero, suc, ◌<◌, Bool, true, false, not, cond, List, [], ◌∷◌, ◌++◌}
use Rattle.std.proofs.Common.{drop, length, refl, ap, sym, ◌∙◌, subst, append-nil, append_assoc, arith}
use Rattle.std.proofs.lemmas.Bool.{leb-false, leb-true}
use Rattle.std.proofs.lemmas.List.{drop_all, map-append}
use Rattle.disk_port.proofs.PastLaws.{begins, weaker}
use Rattle.disk_port.specs.Past.{Leaves}
use Rattle.journal_format.specs.Journals.{HoldsAt, with_record}
use Rattle.journal_format.specs.Spelling.{IsRecord, is_listen, record_bytes}
use Rattle.journal_format.specs.declared.turn_record.TurnEvent.{TurnEvent}
use Rattle.journal_format.specs.declared.turn_record.TurnEvent.TheVariants as event
use Rattle.journal_format.specs.declared.turn_record.TurnRecord.{TurnRecord}
use Rattle.journal_links.specs.Steps.{Progress, is_over, last_secs, next_again, next_broken, next_inner, next_unasked}
use Rattle.journal_links.specs.Turns.{AreTurns, HoldsTurns, KeepsTurns, NextKeepsTurns, PlainTurn, StaysJournal, handed}
use Rattle.journal_links.specs.Turns.{is_done, is_turn, plain, turns_in}
use Rattle.journal_links.proofs.GiveLaws.{Next, next}
use Rattle.ports.specs.Links.{is_failed_turn, is_memory_turn, next_entries, piece_of}
use Rattle.ports.specs.declared.entry.Entry.{Entry}
use Rattle.ports.specs.declared.links.Turn.{Turn}
use Rattle.ports.specs.declared.links.Want.{Want}
use Rattle.ports.specs.declared.links.What.{What}
use Rattle.ports.specs.declared.links.What.TheVariants.{Idle, Opened, Read, Ended, Broken, Room, Stopped, Failed}
use Rattle.ports.specs.declared.links.What.TheVariants.{Memory}
use Rattle.recorded_links.specs.Keeping.{AddsRecord, HandsOut, Kept, entry_of, event_of, is_recorded}
use Rattle.recorded_links.specs.Noting.{Noted, noted}
use Rattle.recorded_links.specs.Steps.{NextStep, OwnStep, next_full, next_refused, next_taken, own_full, own_refused}
use Rattle.recorded_links.specs.Steps.{own_taken}
use Rattle.recorded_links.proofs.NoteLaws.{turn_added, turn_quiet}
use Rattle.turn_journal.specs.Standing.{Adds, HoldsOrWith, Stands}
use Rattle.journal_links.specs.Replaying.{bytes_of, what_of}

-- ---- one turn

again_event : (given : TurnEvent) → not (is_listen given) ≡ true → event_of (what_of given) (bytes_of given) ≡ given
again_event event.Listen is = absurd (cc is)
again_event event.Idle is = refl
again_event (event.Opened link) is = refl
again_event (event.Read link bytes) is = refl
again_event (event.Ended link) is = refl
again_event (event.Broken link) is = refl
again_event (event.Room link) is = refl

again_recorded : (given : TurnEvent) → is_recorded (what_of given) ≡ true
again_recorded event.Listen = refl
again_recorded event.Idle = refl
again_recorded (event.Opened link) = refl
again_recorded (event.Read link bytes) = refl
again_recorded (event.Ended link) = refl
again_recorded (event.Broken link) = refl
again_recorded (event.Room link) = refl

turn_event : (what : What) (piece : List ℕ) → is_listen (event_of what piece) ≡ false
turn_event Idle piece = refl
turn_event (Opened link) piece = refl
turn_event (Read link count) piece = refl
turn_event (Ended link) piece = refl
turn_event (Broken link) piece = refl
turn_event (Room link) piece = refl
turn_event Stopped piece = refl
turn_event Failed piece = refl
turn_event Memory piece = refl

memory_unrecorded : (what : What) → is_memory_turn what ≡ true → is_recorded what ≡ false
memory_unrecorded Idle is = absurd (cc is)
memory_unrecorded (Opened link) is = absurd (cc is)
memory_unrecorded (Read link count) is = absurd (cc is)
memory_unrecorded (Ended link) is = absurd (cc is)
memory_unrecorded (Broken link) is = absurd (cc is)
memory_unrecorded (Room link) is = absurd (cc is)
memory_unrecorded Stopped is = absurd (cc is)
memory_unrecorded Failed is = absurd (cc is)
memory_unrecorded Memory is = refl

pub plain_is : (secs secs' : ℕ) (given given' : TurnEvent) → secs ≡ secs' → given ≡ given'
    → ◌≡◌ {A = PlainTurn} (record { secs = secs; event = given }) (record { secs = secs'; event = given' })
plain_is secs secs' given given' same other =
    subst (λ (s : ℕ). ◌≡◌ {A = PlainTurn} (record { secs = secs; event = given }) (record { secs = s; event = given' }))
    same
    (ap (λ (e : TurnEvent). let turn : PlainTurn = record { secs = secs; event = e } in turn) other)

abbrev plain_turn : Turn → List ℕ → PlainTurn
plain_turn turn buf = record { secs = turn.secs; event = event_of turn.what (piece_of turn.what buf) }

-- the turns of the records so far
abbrev pub turns_of : Noted → List PlainTurn
turns_of so_far = turns_in so_far.records

pub handed_none : (log : List Entry) (wants : List Want) (buf : List ℕ) (turn : Turn) → is_recorded turn.what ≡ false
    → handed (log ++ next_entries wants buf turn) ≡ handed log
handed_none log wants buf turn is = ap turns_of (turn_quiet log (log ++ next_entries wants buf turn) wants buf turn refl
    is)

handed_one : (log : List Entry) (wants : List Want) (buf : List ℕ) (turn : Turn) → is_recorded turn.what ≡ true
    → handed (log ++ next_entries wants buf turn) ≡ handed log ++ plain_turn turn buf ∷ []
handed_one log wants buf turn is =
    ap turns_of (turn_added log (log ++ next_entries wants buf turn) wants buf turn refl is)
    ∙ map-append plain (noted log).records (entry_of (noted log).sends turn (piece_of turn.what buf) ∷ [])

-- ---- a call that adds no record

module _ (log : List Entry) (was : Progress) (old : Kept) (keeps : KeepsTurns log was old) where
  at_rest : (image : List ℕ) → Leaves keeps.past image → HoldsTurns log was image
  at_rest image leaves = record {
    journal = keeps.journal;
    more = [];
    holds =
        (old.gate, subst (HoldsAt keeps.journal old.gate) (sym (keeps.stands.rests image leaves)) keeps.stands.holds);
    begins =
        keeps.begins ∙ ap (λ (turns : List PlainTurn). handed log ++ turns)
        (sym (append-nil (turns_in (drop was.given was.records))));
    one = omega arith;
  }

  pub quiet : (log' : List Entry) (new : Kept) (is : Progress) (done : Bool) → new ≡ old
      → (done ≡ true → handed log ++ turns_in (drop was.given was.records) ≡ handed log' ++ turns_in
      (drop is.given is.records))
      → StaysJournal log log' old new was is done keeps
  quiet log' new is done same goes = record {
    now = keeps.past;
    told = ap (λ (kept : Kept). kept.past) same ∙ keeps.told;
    leaves = begins keeps.past (HoldsTurns log was) at_rest;
    after = λ over. record {
      past = keeps.past;
      journal = keeps.journal;
      told = ap (λ (kept : Kept). kept.past) same ∙ keeps.told;
      stands =
          subst (λ (kept : Kept). Stands keeps.past kept.gate kept.has_record keeps.journal) (sym same) keeps.stands;
      begins = keeps.begins ∙ goes over;
    };
  }

  -- nothing was given, and nothing handed out
  pub still : (log' : List Entry) (new : Kept) (is : Progress) (done : Bool) → new ≡ old → handed log' ≡ handed log
      → is.records ≡ was.records → is.given ≡ was.given → StaysJournal log log' old new was is done keeps
  still log' new is done same handed_same records given =
      let dropped : drop is.given is.records ≡ drop was.given was.records = cc in
      quiet log' new is done same
      (λ over. ap (λ (turns : List PlainTurn). turns ++ turns_in (drop was.given was.records)) (sym handed_same) ∙ ap
      (λ (entries : List TurnRecord). handed log' ++ turns_in entries) (sym dropped))

  -- ---- a call that adds a record

  -- the journal, or the journal with one record more
  holds_more : (image : List ℕ) (entry : TurnRecord) → HoldsOrWith keeps.journal entry image → HoldsTurns log was image
  holds_more image entry (inl held) = record {
    journal = keeps.journal;
    more = [];
    holds = held;
    begins =
        keeps.begins ∙ ap (λ (turns : List PlainTurn). handed log ++ turns)
        (sym (append-nil (turns_in (drop was.given was.records))));
    one = omega arith;
  }
  holds_more image entry (inr held) = record {
    journal = with_record keeps.journal entry;
    more = plain entry ∷ [];
    holds = held;
    begins =
        map-append plain keeps.journal.records (entry ∷ [])
        ∙ (ap (λ (turns : List PlainTurn). turns ++ plain entry ∷ []) keeps.begins
        ∙ append_assoc (handed log) (turns_in (drop was.given was.records)) (plain entry ∷ []));
    one = omega arith;
  }

  pub added : (log' : List Entry) (new : Kept) (is : Progress) (done : Bool) (entry : TurnRecord) (was_added : Bool)
      → drop was.given was.records ≡ [] → drop is.given is.records ≡ [] → IsRecord entry
      → is_listen entry.event ≡ not old.has_record → AddsRecord (record_bytes entry) was_added old new
      → (done ≡ true → (was_added ≡ true) × (handed log' ≡ handed log ++ plain entry ∷ []))
      → StaysJournal log log' old new was is done keeps
  added log' new is done entry was_added none_left none_after allowed order records goes =
      let adds : Adds old.past old.gate old.has_record (record_bytes entry) =
      record {
        past = keeps.past;
        journal = keeps.journal;
        entry = entry;
        is_told = keeps.told;
        stands = keeps.stands;
        spells = record { allowed = allowed; order = order; text = refl };
      } in
      let any = records.any_moment adds in
      record {
        now = any.0;
        told = any.1;
        leaves =
            weaker keeps.past any.0 (HoldsOrWith keeps.journal entry) (HoldsTurns log was)
            (λ image. holds_more image entry) any.2;
        after = λ over.
            let stands = records.stands (goes over).0 adds in
            record {
              past = stands.0;
              journal = with_record keeps.journal entry;
              told = stands.1;
              stands = stands.2;
              begins =
                  map-append plain keeps.journal.records (entry ∷ [])
                  ∙ (ap (λ (turns : List PlainTurn). turns ++ plain entry ∷ [])
                  (keeps.begins ∙ (ap (λ (entries : List TurnRecord). handed log ++ turns_in entries) none_left
                  ∙ append-nil (handed log)))
                  ∙ (sym (goes over).1 ∙ sym
                  (ap (λ (entries : List TurnRecord). handed log' ++ turns_in entries) none_after ∙ append-nil
                  (handed log'))));
            };
      }

-- ---- `next`

hands_unrecorded : (what : What) (asked turn : Turn) → asked.what ≡ what → is_recorded what ≡ false
    → HandsOut what asked turn → is_recorded turn.what ≡ false
hands_unrecorded Idle asked turn is none hands = absurd (cc none)
hands_unrecorded (Opened link) asked turn is none hands = absurd (cc none)
hands_unrecorded (Read link count) asked turn is none hands = absurd (cc none)
hands_unrecorded (Ended link) asked turn is none hands = absurd (cc none)
hands_unrecorded (Broken link) asked turn is none hands = absurd (cc none)
hands_unrecorded (Room link) asked turn is none hands = absurd (cc none)
hands_unrecorded Stopped asked turn is none hands = ap (λ (t : Turn). is_recorded t.what) hands
hands_unrecorded Failed asked turn is none hands = ap (λ (t : Turn). is_recorded t.what) hands ∙ ap is_recorded is
hands_unrecorded Memory asked turn is none hands = ap (λ (t : Turn). is_recorded t.what) hands ∙ ap is_recorded is

hands_recorded : (what : What) (asked turn : Turn) → is_recorded what ≡ true → HandsOut what asked turn
    → (turn ≡ asked) ⊎ ((turn.what ≡ Failed) ⊎ (turn.what ≡ Memory))
hands_recorded Idle asked turn is hands = hands
hands_recorded (Opened link) asked turn is hands = hands
hands_recorded (Read link count) asked turn is hands = hands
hands_recorded (Ended link) asked turn is hands = hands
hands_recorded (Broken link) asked turn is hands = hands
hands_recorded (Room link) asked turn is hands = hands
hands_recorded Stopped asked turn is hands = absurd (cc is)
hands_recorded Failed asked turn is hands = absurd (cc is)
hands_recorded Memory asked turn is hands = absurd (cc is)

abbrev done_of : Turn → What → Bool
done_of turn what = cond (is_failed_turn what) false (not (is_memory_turn what))

-- a turn whose record was begun, and that was handed out unless it is lost
goes_on : (log : List Entry) (wants : List Want) (buf : List ℕ) (asked turn : Turn) (entry : TurnRecord)
    → is_recorded asked.what ≡ true → ◌≡◌ {A = PlainTurn} (plain_turn asked buf) (plain entry)
    → (turn ≡ asked) ⊎ ((turn.what ≡ Failed) ⊎ (turn.what ≡ Memory)) → is_done turn ≡ true
    → (is_recorded turn.what ≡ true) × (handed (log ++ next_entries wants buf turn) ≡ handed log ++ plain entry ∷ [])
goes_on log wants buf asked turn entry recorded is (inl same) done =
    let turn_recorded : is_recorded turn.what ≡ true = ap (λ (t : Turn). is_recorded t.what) same ∙ recorded in (
      turn_recorded,
      handed_one log wants buf turn turn_recorded ∙ ap (λ (t : PlainTurn). handed log ++ t ∷ [])
          (ap (λ (t : Turn). plain_turn t buf) same ∙ is),
    )
goes_on log wants buf asked turn entry recorded is (inr (inl lost)) done =
    let none : is_done turn ≡ false = ap (done_of turn) lost in absurd (cc (done, none))
goes_on log wants buf asked turn entry recorded is (inr (inr out)) done =
    let none : is_done turn ≡ false = ap (done_of turn) out in absurd (cc (done, none))

pub none_left : (was : Progress) → is_over was ≡ true → drop was.given was.records ≡ []
none_left was over = drop_all was.given was.records (leb-true (length was.records) was.given over)

pub next_keeps : NextKeepsTurns
next_keeps old new was is wants buf turn log keeps are (next_unasked over why what rests stays) =
    still log was old.kept keeps (log ++ next_entries wants buf turn) new.kept is (is_done turn) rests.kept
    (handed_none log wants buf turn (ap is_recorded what)) stays.records stays.given
next_keeps old new was is wants buf turn log keeps are (next_again over gives) =
    by_memory (is_memory_turn turn.what) refl
  where
    found : (n : ℕ) (records : List TurnRecord) → n < length records → 0 < n → AreTurns records → Next is_turn n records
    found zero records less begun all = absurd (omega (arith, begun))
    found (suc n) [] less begun all = absurd (omega (arith, less))
    found (suc n) (entry ∷ records) less begun all =
        let at = next is_turn n records (omega (arith, less)) all in
        record { entry = at.entry; later = at.later; is = at.is; passes = at.passes }

    by_memory : (memory : Bool) → is_memory_turn turn.what ≡ memory
        → StaysJournal log (log ++ next_entries wants buf turn) old.kept new.kept was is (is_done turn) keeps
    by_memory true memory =
        still log was old.kept keeps (log ++ next_entries wants buf turn) new.kept is (is_done turn) gives.rests.kept
        (handed_none log wants buf turn (memory_unrecorded turn.what memory)) gives.records (gives.still memory)
    by_memory false memory =
        let less = leb-false (length was.records) was.given over in
        let at = found was.given was.records (omega (arith, less)) gives.begun are in
        let given = (gives.gives memory at.entry at.later at.is).0 in
        let recorded : is_recorded turn.what ≡ true =
        ap (λ (t : Turn). is_recorded t.what) given.turn_is ∙ again_recorded at.entry.event in
        let event_is : event_of turn.what (piece_of turn.what buf) ≡ at.entry.event =
        ap (λ (piece : List ℕ). event_of turn.what piece) given.piece
        ∙ (ap (λ (t : Turn). event_of t.what (bytes_of at.entry.event)) given.turn_is
        ∙ again_event at.entry.event at.passes) in
        let plain_same : plain_turn turn buf ≡ plain at.entry =
        plain_is turn.secs at.entry.secs (event_of turn.what (piece_of turn.what buf)) at.entry.event
        (ap (λ (t : Turn). t.secs) given.turn_is) event_is in
        let handed_more : handed (log ++ next_entries wants buf turn) ≡ handed log ++ plain at.entry ∷ [] =
        handed_one log wants buf turn recorded ∙ ap (λ (t : PlainTurn). handed log ++ t ∷ []) plain_same in
        quiet log was old.kept keeps (log ++ next_entries wants buf turn) new.kept is (is_done turn) gives.rests.kept
        (λ done.
        ap (λ (entries : List TurnRecord). handed log ++ turns_in entries) at.is
        ∙ (sym (append_assoc (handed log) (plain at.entry ∷ []) (turns_in at.later))
        ∙ (ap (λ (turns : List PlainTurn). turns ++ turns_in at.later) (sym handed_more)
        ∙ ap (λ (entries : List TurnRecord). handed (log ++ next_entries wants buf turn) ++ turns_in entries)
        (sym given.rest_is))))
next_keeps old new was is wants buf turn log keeps are (next_broken over breaks) = by_step breaks.gives
  where
    still_so : new.kept ≡ old.kept → is_recorded turn.what ≡ false
        → StaysJournal log (log ++ next_entries wants buf turn) old.kept new.kept was is (is_done turn) keeps
    still_so same none =
        still log was old.kept keeps (log ++ next_entries wants buf turn) new.kept is (is_done turn) same
        (handed_none log wants buf turn none) breaks.records breaks.given

    asked : Turn
    asked = record { secs = last_secs was.records; what = Broken breaks.link }

    by_step : OwnStep old new asked turn
        → StaysJournal log (log ++ next_entries wants buf turn) old.kept new.kept was is (is_done turn) keeps
    by_step (own_refused why what rests) = still_so rests.kept (ap is_recorded what)
    by_step (own_full ready full turn_is rests) = still_so rests.kept (ap (λ (t : Turn). is_recorded t.what) turn_is)
    by_step (own_taken takes) =
        let after : drop is.given is.records ≡ drop was.given was.records = cc (breaks.records, breaks.given) in
        added log was old.kept keeps (log ++ next_entries wants buf turn) new.kept is (is_done turn)
        (entry_of old.sends asked []) (is_recorded turn.what)
        (none_left was over) (after ∙ none_left was over) takes.allowed (sym (ap not takes.ready.begun)) takes.records
        (goes_on log wants buf asked turn (entry_of old.sends asked []) refl refl takes.hands)
next_keeps old new was is wants buf turn log keeps are (next_inner over none step stays) = by_step step
  where
    still_so : new.kept ≡ old.kept → is_recorded turn.what ≡ false
        → StaysJournal log (log ++ next_entries wants buf turn) old.kept new.kept was is (is_done turn) keeps
    still_so same unrecorded =
        still log was old.kept keeps (log ++ next_entries wants buf turn) new.kept is (is_done turn) same
        (handed_none log wants buf turn unrecorded) stays.records stays.given

    by_step : NextStep old new wants buf turn
        → StaysJournal log (log ++ next_entries wants buf turn) old.kept new.kept was is (is_done turn) keeps
    by_step (next_refused why what rests) = still_so rests.kept (ap is_recorded what)
    by_step (next_full ready full turn_is rests) = still_so rests.kept (ap (λ (t : Turn). is_recorded t.what) turn_is)
    by_step (next_taken takes) = by_kind (is_recorded takes.asked.what) refl
      where
        by_kind : (recorded : Bool) → is_recorded takes.asked.what ≡ recorded
            → StaysJournal log (log ++ next_entries wants buf turn) old.kept new.kept was is (is_done turn) keeps
        by_kind false recorded =
            still_so (takes.other recorded)
            (hands_unrecorded takes.asked.what takes.asked turn refl recorded takes.hands)
        by_kind true recorded =
            let after : drop is.given is.records ≡ drop was.given was.records = cc (stays.records, stays.given) in
            added log was old.kept keeps (log ++ next_entries wants buf turn) new.kept is (is_done turn)
            (entry_of old.sends takes.asked (piece_of takes.asked.what buf)) (is_recorded turn.what)
            (none_left was over) (after ∙ none_left was over) (takes.allowed recorded)
            (turn_event takes.asked.what (piece_of takes.asked.what buf) ∙ sym (ap not takes.ready.begun))
            (takes.records recorded)
            (goes_on log wants buf takes.asked turn (entry_of old.sends takes.asked (piece_of takes.asked.what buf))
            recorded refl (hands_recorded takes.asked.what takes.asked turn recorded takes.hands))
