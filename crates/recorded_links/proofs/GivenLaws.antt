-- Which turn links gave last after one call more.
use Rattle.std.proofs.Common.{◌≡◌, inl, inr, ℕ, Bool, true, false, cond, List, [], ◌∷◌, ◌++◌, fold, length, refl, sym}
use Rattle.std.proofs.Common.{◌∙◌, ap, subst}
use Rattle.std.specs.Option.{ForSome}
use Rattle.std.specs.Prelude.{Option, Some, None}
use Rattle.std.proofs.lemmas.List.Sums.{fold-append}
use Rattle.std.proofs.lemmas.Option.{same_Some}
use Rattle.journal_format.specs.declared.turn_record.TurnEvent.{TurnEvent}
use Rattle.journal_format.specs.declared.turn_record.TurnRecord.{TurnRecord}
use Rattle.ports.specs.Calls.{AddsCalls, LinksReport}
use Rattle.ports.specs.Links.{grown, listen_entries, next_entries, piece_of, send_entries}
use Rattle.ports.specs.declared.entry.Entry.{Entry}
use Rattle.ports.specs.declared.entry.Entry.TheVariants.{Close}
use Rattle.ports.specs.declared.links.ListenAnswer.{ListenAnswer}
use Rattle.ports.specs.declared.links.ListenAnswer.TheVariants as listen
use Rattle.ports.specs.declared.links.SendAnswer.{SendAnswer}
use Rattle.ports.specs.declared.links.SendAnswer.TheVariants as send
use Rattle.ports.specs.declared.links.Turn.{Turn}
use Rattle.ports.specs.declared.links.Want.{Want}
use Rattle.ports.specs.declared.links.What.{What}
use Rattle.ports.specs.declared.links.What.TheVariants.{Idle, Opened, Read, Ended, Broken, Room, Stopped, Failed}
use Rattle.ports.specs.declared.links.What.TheVariants.{Memory}
use Rattle.recorded_links.specs.Keeping.{entry_of, event_of, is_recorded, listen_entry}
use Rattle.recorded_links.specs.Numbers.{inner_number, inner_wants, of_link, own_number, own_turn, own_what}
use Rattle.recorded_links.specs.Sending.{may_note}
use Rattle.recorded_links.specs.Steps.{Asks, CloseStep, Seen, SendStep, Takes, TakesListen, answered, not_asked}
use Rattle.recorded_links.specs.Giving.{IsLast, MayFollow, given_after, last_given, unsent}

-- what these calls gave, if others were made before them
abbrev GivesLast : ℕ → List Entry → TurnRecord → Type 0
GivesLast first made entry =
    (before : Option TurnRecord) → fold (given_after first) before made ≡ Some (unsent entry)

-- the calls of links that report them, with these more
by_log : (first : ℕ) (old new : LinksReport) (made : List Entry) (entry : TurnRecord) → AddsCalls old new made
    → ((calls : List Entry) → old.log ≡ Some calls → last_given first (calls ++ made) ≡ Some (unsent entry))
    → IsLast first new entry
by_log first old new made entry adds given = by_calls old.log refl
  where
    by_calls : (log : Option (List Entry)) → old.log ≡ log → IsLast first new entry
    by_calls None is =
        subst (λ (log : Option (List Entry)). ForSome log (λ calls. last_given first calls ≡ Some (unsent entry)))
        (sym (adds.log ∙ ap (λ (log : Option (List Entry)). grown log made) is)) (λ more none. absurd (cc none))
    by_calls (Some calls) is =
        subst (λ (log : Option (List Entry)). ForSome log (λ calls. last_given first calls ≡ Some (unsent entry)))
        (sym (adds.log ∙ ap (λ (log : Option (List Entry)). grown log made) is))
        (λ more same. subst (λ (calls : List Entry). last_given first calls ≡ Some (unsent entry))
        (same_Some (calls ++ made) more same) (given calls is))

-- ---- calls that give a turn

gives_last : (first : ℕ) (old new : LinksReport) (made : List Entry) (entry : TurnRecord) → AddsCalls old new made
    → GivesLast first made entry → IsLast first new entry
gives_last first old new made entry adds gives =
    by_log first old new made entry adds
    (λ calls is. fold-append (given_after first) None calls made ∙ gives (last_given first calls))

-- the bytes of a turn are the same with the numbers here
own_event : (first : ℕ) (what : What) (buf : List ℕ)
    → event_of (own_what first what) (piece_of what buf)
    ≡ event_of (own_what first what) (piece_of (own_what first what) buf)
own_event first Idle buf = refl
own_event first (Opened link) buf = by_number (own_number first link)
  where
    by_number : (number : Option ℕ) → event_of (of_link number Opened) []
        ≡ event_of (of_link number Opened) (piece_of (of_link number Opened) buf)
    by_number None = refl
    by_number (Some own) = refl
own_event first (Read link count) buf = by_number (own_number first link)
  where
    by_number : (number : Option ℕ) → event_of (of_link number (λ own. Read own count)) (piece_of (Read link count) buf)
        ≡ event_of (of_link number (λ own. Read own count)) (piece_of (of_link number (λ own. Read own count)) buf)
    by_number None = refl
    by_number (Some own) = refl
own_event first (Ended link) buf = by_number (own_number first link)
  where
    by_number : (number : Option ℕ) → event_of (of_link number Ended) []
        ≡ event_of (of_link number Ended) (piece_of (of_link number Ended) buf)
    by_number None = refl
    by_number (Some own) = refl
own_event first (Broken link) buf = by_number (own_number first link)
  where
    by_number : (number : Option ℕ) → event_of (of_link number Broken) []
        ≡ event_of (of_link number Broken) (piece_of (of_link number Broken) buf)
    by_number None = refl
    by_number (Some own) = refl
own_event first (Room link) buf = by_number (own_number first link)
  where
    by_number : (number : Option ℕ) → event_of (of_link number Room) []
        ≡ event_of (of_link number Room) (piece_of (of_link number Room) buf)
    by_number None = refl
    by_number (Some own) = refl
own_event first Stopped buf = refl
own_event first Failed buf = refl
own_event first Memory buf = refl

-- a turn that is recorded is in the log
turn_given : (first : ℕ) (before : Option TurnRecord) (wants : List Want) (buf : List ℕ) (given : Turn)
    → is_recorded (own_what first given.what) ≡ true
    → fold (given_after first) before (next_entries wants buf given)
    ≡ Some (entry_of [] (own_turn first given) (piece_of given.what buf))
turn_given first before wants buf given recorded = by_what given.what refl
  where
    said : fold (given_after first) before (next_entries wants buf given)
        ≡ cond (is_recorded (own_what first given.what))
        (Some (entry_of [] (own_turn first given) (piece_of given.what buf))) before
        → fold (given_after first) before (next_entries wants buf given)
        ≡ Some (entry_of [] (own_turn first given) (piece_of given.what buf))
    said is =
        is
        ∙ ap (λ (flag : Bool). cond flag (Some (entry_of [] (own_turn first given) (piece_of given.what buf))) before)
        recorded

    by_what : (what : What) → given.what ≡ what
        → fold (given_after first) before (next_entries wants buf given)
        ≡ Some (entry_of [] (own_turn first given) (piece_of given.what buf))
    by_what Idle is = said (rw is refl)
    by_what (Opened other) is = said (rw is refl)
    by_what (Read other count) is = said (rw is refl)
    by_what (Ended other) is = said (rw is refl)
    by_what (Broken other) is = said (rw is refl)
    by_what (Room other) is = said (rw is refl)
    by_what Stopped is = said (rw is refl)
    by_what Failed is = said (rw is refl)
    by_what Memory is =
        let none : is_recorded (own_what first given.what) ≡ false =
        ap (λ (what : What). is_recorded (own_what first what)) is in
        absurd (cc (none, recorded))

-- the record of the turn that was asked for
pub asked_last : (first : ℕ) (old new : LinksReport) (wants : List Want) (buf : List ℕ) (given asked : Turn)
    (entry : TurnRecord) → AddsCalls old new (next_entries wants buf given) → asked ≡ own_turn first given
    → is_recorded asked.what ≡ true
    → unsent entry ≡ entry_of [] asked (piece_of asked.what buf) → IsLast first new entry
asked_last first old new wants buf given asked entry adds asked_is recorded is =
    let own : is_recorded (own_what first given.what) ≡ true =
    sym (ap (λ (turn : Turn). is_recorded turn.what) asked_is) ∙ recorded in
    let with_event : TurnEvent → TurnRecord = λ event.
    record { summaries = []; secs = given.secs; event = event } in
    gives_last first old new (next_entries wants buf given) entry adds
    (λ before. turn_given first before wants buf given own
    ∙ ap Some (ap with_event (own_event first given.what buf)
    ∙ sym (is ∙ ap (λ (turn : Turn). entry_of [] turn (piece_of turn.what buf)) asked_is)))

pub listened_last : (first : ℕ) (old new : LinksReport) (address : List ℕ) (secs : ℕ) (entry : TurnRecord)
    → AddsCalls old new (listen_entries address (listen.Ready secs)) → unsent entry ≡ listen_entry [] secs
    → IsLast first new entry
listened_last first old new address secs entry adds is =
    gives_last first old new (listen_entries address (listen.Ready secs)) entry adds (λ before. ap Some (sym is))

-- ---- calls that give none

pub still_last : (first : ℕ) (old new : LinksReport) (entry : TurnRecord) → new ≡ old → IsLast first old entry
    → IsLast first new entry
still_last first old new entry same = subst (λ (report : LinksReport). IsLast first report entry) (sym same)

quiet_last : (first : ℕ) (old new : LinksReport) (made : List Entry) (entry : TurnRecord) → AddsCalls old new made
    → ((before : Option TurnRecord) → fold (given_after first) before made ≡ before) → IsLast first old entry
    → IsLast first new entry
quiet_last first old new made entry adds quiet last =
    by_log first old new made entry adds
    (λ calls is.
    fold-append (given_after first) None calls made ∙ (quiet (last_given first calls) ∙ last calls is))

pub sent_last : (first : ℕ) (old new : LinksReport) (number : ℕ) (bytes : List ℕ) (answer : SendAnswer)
    (entry : TurnRecord) → AddsCalls old new (send_entries number bytes answer) → IsLast first old entry
    → IsLast first new entry
sent_last first old new number bytes answer entry adds =
    quiet_last first old new (send_entries number bytes answer) entry adds (λ before. by_answer answer before)
  where
    by_answer : (answer : SendAnswer) (before : Option TurnRecord)
        → fold (given_after first) before (send_entries number bytes answer) ≡ before
    by_answer (send.Took count) before = refl
    by_answer send.Later before = refl
    by_answer send.Failed before = refl
    by_answer send.Memory before = refl

pub none_last : (first : ℕ) (old new : LinksReport) (entry : TurnRecord) → AddsCalls old new []
    → IsLast first old entry → IsLast first new entry
none_last first old new entry adds = quiet_last first old new [] entry adds (λ before. refl)

pub closed_last : (first : ℕ) (old new : LinksReport) (number : ℕ) (entry : TurnRecord)
    → AddsCalls old new (Close number ∷ []) → IsLast first old entry → IsLast first new entry
closed_last first old new number entry adds = quiet_last first old new (Close number ∷ []) entry adds (λ before. refl)

-- ---- or one of the others

may_map : (breaks : Option ℕ) (first : ℕ) (old new : LinksReport) (entry : TurnRecord)
    → (IsLast first old entry → IsLast first new entry) → MayFollow breaks first old entry
    → MayFollow breaks first new entry
may_map breaks first old new entry goes (inl last) = inl (goes last)
may_map breaks first old new entry goes (inr is) = inr is

pub may_still : (breaks : Option ℕ) (first : ℕ) (old new : LinksReport) → new ≡ old → (entry : TurnRecord)
    → MayFollow breaks first old entry → MayFollow breaks first new entry
may_still breaks first old new same entry = may_map breaks first old new entry (still_last first old new entry same)

pub may_sent : (breaks : Option ℕ) (first : ℕ) (old new : LinksReport) (number : ℕ) (bytes : List ℕ)
    (answer : SendAnswer) → AddsCalls old new (send_entries number bytes answer) → (entry : TurnRecord)
    → MayFollow breaks first old entry → MayFollow breaks first new entry
may_sent breaks first old new number bytes answer adds entry =
    may_map breaks first old new entry (sent_last first old new number bytes answer entry adds)

pub may_none : (breaks : Option ℕ) (first : ℕ) (old new : LinksReport) → AddsCalls old new []
    → (entry : TurnRecord) → MayFollow breaks first old entry → MayFollow breaks first new entry
may_none breaks first old new adds entry = may_map breaks first old new entry (none_last first old new entry adds)

pub may_closed : (breaks : Option ℕ) (first : ℕ) (old new : LinksReport) (number : ℕ)
    → AddsCalls old new (Close number ∷ []) → (entry : TurnRecord) → MayFollow breaks first old entry
    → MayFollow breaks first new entry
may_closed breaks first old new number adds entry =
    may_map breaks first old new entry (closed_last first old new number entry adds)

-- ---- what is known after one call of links that record

-- a send, and a close
pub may_send_step : (breaks : Option ℕ) (old new : Seen) (link : ℕ) (bytes : List ℕ) (answer : SendAnswer)
    → SendStep old new link bytes answer → (entry : TurnRecord) → MayFollow breaks old.first old.inner entry
    → MayFollow breaks old.first new.inner entry
may_send_step breaks old new link bytes answer step entry may = by_number (inner_number old.first link) refl
  where
    by_note : (number : ℕ) → inner_number old.first link ≡ Some number → (t : Bool)
        → may_note link (length bytes) old.sends ≡ t → MayFollow breaks old.first new.inner entry
    by_note number at true noted =
        may_sent breaks old.first old.inner new.inner number bytes answer (step.passed number at noted) entry may
    by_note number at false noted =
        may_still breaks old.first old.inner new.inner (let held = step.unnoted noted in held.1) entry may

    by_number : (number : Option ℕ) → inner_number old.first link ≡ number → MayFollow breaks old.first new.inner entry
    by_number None at = may_still breaks old.first old.inner new.inner (let held = step.own at in held.1) entry may
    by_number (Some number) at = by_note number at (may_note link (length bytes) old.sends) refl

pub may_close_step : (breaks : Option ℕ) (old new : Seen) (link : ℕ) → CloseStep old new link
    → (entry : TurnRecord) → MayFollow breaks old.first old.inner entry → MayFollow breaks old.first new.inner entry
may_close_step breaks old new link step entry may = by_number (inner_number old.first link) refl
  where
    by_number : (number : Option ℕ) → inner_number old.first link ≡ number → MayFollow breaks old.first new.inner entry
    by_number None at = may_still breaks old.first old.inner new.inner (step.own at) entry may
    by_number (Some number) at =
        may_closed breaks old.first old.inner new.inner number (step.passed number at) entry may

-- the turn that was asked for, which is recorded
pub may_take : (breaks : Option ℕ) (old new : Seen) (wants : List Want) (buf : List ℕ) (turn : Turn)
    (takes : Takes old new wants buf turn) → is_recorded takes.asked.what ≡ true
    → MayFollow breaks old.first new.inner (entry_of old.sends takes.asked (piece_of takes.asked.what buf))
may_take breaks old new wants buf turn takes recorded = by_asks takes.asks
  where
    by_asks : Asks old.first old.inner new.inner wants buf takes.asked
        → MayFollow breaks old.first new.inner (entry_of old.sends takes.asked (piece_of takes.asked.what buf))
    by_asks (not_asked memory same) = absurd (cc (ap is_recorded memory, recorded))
    by_asks (answered given adds cause is) =
        inl (asked_last old.first old.inner new.inner (inner_wants old.first wants) buf given takes.asked
        (entry_of old.sends takes.asked (piece_of takes.asked.what buf)) adds is recorded refl)

-- the `listen` that succeeded
pub may_listen : (breaks : Option ℕ) (old new : Seen) (address : List ℕ) (answer : ListenAnswer) (secs : ℕ)
    (takes : TakesListen old new address answer) → takes.asked ≡ listen.Ready secs
    → MayFollow breaks old.first new.inner (listen_entry old.sends secs)
may_listen breaks old new address answer secs takes is =
    inl (listened_last old.first old.inner new.inner address secs (listen_entry old.sends secs)
    (subst (λ (asked : ListenAnswer). AddsCalls old.inner new.inner (listen_entries address asked)) is takes.asks) refl)
