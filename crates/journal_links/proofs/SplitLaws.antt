-- The calls of links that resume a journal: those in which its turns are handed out again, and those after them.
use Rattle.std.proofs.Common.{◌≡◌, ◌⊎◌, inl, inr, ℕ, zero, suc, ◌+◌, ◌<◌, Bool, true, false, not, cond, List, [], ◌∷◌}
use Rattle.std.proofs.Common.{◌++◌, drop, fold, length, refl, sym, ◌∙◌, ap, subst, append-nil, append_assoc, arith}
use Rattle.std.specs.Prelude.{nat_le}
use Rattle.std.specs.List.{list_all}
use Rattle.std.proofs.lemmas.Bool.{and_parts, leb-false}
use Rattle.std.proofs.lemmas.List.{drop_all, map-append}
use Rattle.journal_format.specs.Spelling.{is_listen}
use Rattle.journal_format.specs.declared.turn_record.TurnEvent.{TurnEvent}
use Rattle.journal_format.specs.declared.turn_record.TurnEvent.TheVariants as event
use Rattle.journal_format.specs.declared.turn_record.Summary.{Summary}
use Rattle.journal_format.specs.declared.turn_record.TurnRecord.{TurnRecord}
use Rattle.journal_links.specs.Steps.{GivesAgain, ListensAgain, Progress, is_over}
use Rattle.journal_links.specs.Turns.{AreTurns, BeginsWithListen, PlainTurn, handed, is_turn, plain, turns_in}
use Rattle.journal_links.proofs.TurnLaws.{none_left, plain_is}
use Rattle.ports.specs.Links.{is_memory_turn, listen_entries, next_entries, piece_of}
use Rattle.ports.specs.declared.entry.Entry.{Entry}
use Rattle.ports.specs.declared.entry.Entry.TheVariants.{Listen, Next, Send, Close}
use Rattle.ports.specs.declared.links.ListenAnswer.{ListenAnswer}
use Rattle.ports.specs.declared.links.ListenAnswer.TheVariants as listen
use Rattle.ports.specs.declared.links.Turn.{Turn}
use Rattle.ports.specs.declared.links.Want.{Want}
use Rattle.ports.specs.declared.links.What.{What}
use Rattle.ports.specs.declared.links.What.TheVariants.{Idle, Opened, Read, Ended, Broken, Room, Stopped, Failed}
use Rattle.ports.specs.declared.links.What.TheVariants.{Memory}
use Rattle.recorded_links.specs.Keeping.{entry_of, event_of, is_ready, is_recorded, listen_entry}
use Rattle.recorded_links.specs.Noting.{Noted, after_call, after_listen, noted, with_entry}
use Rattle.recorded_links.specs.Steps.{Seen}
use Rattle.recorded_links.proofs.NoteLaws.{listen_noted, listen_quiet, noted_more, turn_added, turn_quiet}
use Rattle.journal_links.specs.Recording.{records_after}
use Rattle.journal_links.specs.Replaying.{bytes_of, what_of}

-- In these calls the turns of the journal were handed out, as far as they were given, and in the later ones others.
pub record Splits (progress : Progress) (calls later : List Entry) : Type 0 where
  -- the records of the turns that were given again
  pub again : List TurnRecord
  pub calls_are : (noted calls).records ≡ again ++ (noted later).records
  pub sends_are : is_over progress ≡ true → (noted calls).sends ≡ (noted later).sends
  pub count : length again + length (drop progress.given progress.records) ≡ length progress.records
  pub turns : BeginsWithListen progress.records → AreTurns progress.records
      → turns_in again ++ turns_in (drop progress.given progress.records) ≡ turns_in progress.records
  pub none_later : is_over progress ≡ false → later ≡ []

pub same_over : (was is : Progress) → is.records ≡ was.records → is.given ≡ was.given → is_over is ≡ is_over was
same_over was is records given =
    ap (λ (records : List TurnRecord). nat_le (length records) is.given) records
    ∙ ap (λ (given : ℕ). nat_le (length was.records) given) given

-- ---- before the first call

pub splits_begun : (progress : Progress) (calls : List Entry) → calls ≡ [] → progress.given ≡ 0
    → Splits progress calls []
splits_begun progress calls fresh ungiven =
    let all : length (drop progress.given progress.records) ≡ length progress.records =
    ap (λ (n : ℕ). length (drop n progress.records)) ungiven in
    record {
      again = [];
      calls_are = ap (λ (calls : List Entry). (noted calls).records) fresh;
      sends_are = λ _. ap (λ (calls : List Entry). (noted calls).sends) fresh;
      count = omega (arith, all);
      turns = λ begins are. ap (λ (n : ℕ). turns_in (drop n progress.records)) ungiven;
      none_later = λ _. refl;
    }

-- ---- a call in which no turn was handed out

-- as many records are given and left
abbrev Count : List TurnRecord → ℕ → List TurnRecord → Type 0
Count again given records = length again + length (drop given records) ≡ length records

-- and as turns they are these
abbrev Turns : List TurnRecord → ℕ → List TurnRecord → Type 0
Turns again given records =
    BeginsWithListen records → AreTurns records
    → turns_in again ++ turns_in (drop given records) ≡ turns_in records

moved : (P : ℕ → List TurnRecord → Type 0) (was is : Progress) → is.records ≡ was.records → is.given ≡ was.given
    → P was.given was.records → P is.given is.records
moved P was is records given here =
    subst (λ (n : ℕ). P n is.records) (sym given)
    (subst (λ (records : List TurnRecord). P was.given records) (sym records) here)

pub splits_still : (was is : Progress) (calls calls' later : List Entry) → Splits was calls later
    → (noted calls').records ≡ (noted calls).records
    → (is_over was ≡ true → (noted calls').sends ≡ (noted calls).sends) → is.records ≡ was.records
    → is.given ≡ was.given → Splits is calls' later
splits_still was is calls calls' later all records_same sends_same records given = record {
  again = all.again;
  calls_are = records_same ∙ all.calls_are;
  sends_are = λ over.
      let before = sym (same_over was is records given) ∙ over in sends_same before ∙ all.sends_are before;
  count = moved (Count all.again) was is records given all.count;
  turns = moved (Turns all.again) was is records given all.turns;
  none_later = λ left. all.none_later (sym (same_over was is records given) ∙ left);
}

-- ---- a call after the journal's turns

-- the same after these records
abbrev after : List TurnRecord → Noted → Noted
after again so_far = record { records = again ++ so_far.records; sends = so_far.sends }

after_entry : (again : List TurnRecord) (so_far : Noted) (entry : TurnRecord)
    → with_entry entry (after again so_far) ≡ after again (with_entry entry so_far)
after_entry again so_far entry =
    let noted_as : List TurnRecord → Noted = λ records. record { records = records; sends = [] } in
    ap noted_as (append_assoc again so_far.records (entry ∷ []))

after_one : (again : List TurnRecord) (so_far : Noted) (made : Entry)
    → after_call (after again so_far) made ≡ after again (after_call so_far made)
after_one again so_far (Listen address (listen.Ready secs)) = after_entry again so_far (listen_entry so_far.sends secs)
after_one again so_far (Listen address listen.Failed) = refl
after_one again so_far (Listen address listen.Memory) = refl
after_one again so_far (Next wants turn piece) = by_recorded (is_recorded turn.what)
  where
    by_recorded : (t : Bool)
        → cond t (with_entry (entry_of so_far.sends turn piece) (after again so_far)) (after again so_far)
        ≡ after again (cond t (with_entry (entry_of so_far.sends turn piece) so_far) so_far)
    by_recorded true = after_entry again so_far (entry_of so_far.sends turn piece)
    by_recorded false = refl
after_one again so_far (Send link bytes answer) = refl
after_one again so_far (Close link) = refl

after_all : (again : List TurnRecord) (so_far : Noted) (made : List Entry)
    → fold after_call (after again so_far) made ≡ after again (fold after_call so_far made)
after_all again so_far [] = refl
after_all again so_far (entry ∷ made) =
    ap (λ (so_far : Noted). fold after_call so_far made) (after_one again so_far entry)
    ∙ after_all again (after_call so_far entry) made

noted_is : (so_far : Noted) (records : List TurnRecord) (sends : List Summary) → so_far.records ≡ records
    → so_far.sends ≡ sends → ◌≡◌ {A = Noted} so_far (record { records = records; sends = sends })
noted_is so_far records sends records_are sends_are =
    let with_records : List TurnRecord → Noted = λ records. record { records = records; sends = so_far.sends } in
    let with_sends : List Summary → Noted = λ sends. record { records = records; sends = sends } in
    ap with_records records_are ∙ ap with_sends sends_are

pub splits_after : (was is : Progress) (calls calls' later made : List Entry) → Splits was calls later
    → calls' ≡ calls ++ made → is_over was ≡ true → is.records ≡ was.records → is.given ≡ was.given
    → Splits is calls' (later ++ made)
splits_after was is calls calls' later made all log over records given =
    let grown : noted calls' ≡ after all.again (noted (later ++ made)) =
    ap noted log ∙ (noted_more calls made
    ∙ (ap (λ (so_far : Noted). fold after_call so_far made)
    (noted_is (noted calls) (all.again ++ (noted later).records) (noted later).sends all.calls_are (all.sends_are over))
    ∙ (after_all all.again (noted later) made ∙ ap (after all.again) (sym (noted_more later made))))) in
    record {
      again = all.again;
      calls_are = ap (λ (so_far : Noted). so_far.records) grown;
      sends_are = λ _. ap (λ (so_far : Noted). so_far.sends) grown;
      count = moved (Count all.again) was is records given all.count;
      turns = moved (Turns all.again) was is records given all.turns;
      none_later = λ left. absurd (cc (left, same_over was is records given ∙ over));
    }

-- ---- a call in which a turn of the journal was handed out

one_more : (again : List TurnRecord) (given : TurnRecord) → length (again ++ given ∷ []) ≡ length again + 1
one_more [] given = refl
one_more (first ∷ again) given = let more = one_more again given in omega (arith, more)

given_more : (was is : Progress) (calls calls' later : List Entry) (entry given : TurnRecord) (rest : List TurnRecord)
    → Splits was calls later → later ≡ [] → is.records ≡ was.records → drop was.given was.records ≡ entry ∷ rest
    → drop is.given is.records ≡ rest → noted calls' ≡ with_entry given (noted calls)
    → (BeginsWithListen was.records → AreTurns was.records → plain given ≡ plain entry) → Splits is calls' later
given_more was is calls calls' later entry given rest all none records at left noted_as same = record {
  again = all.again ++ given ∷ [];
  calls_are =
      ap (λ (so_far : Noted). so_far.records) noted_as
      ∙ (ap (λ (records : List TurnRecord). records ++ given ∷ [])
      (all.calls_are ∙ (ap (λ (records : List TurnRecord). all.again ++ records) later_none ∙ append-nil all.again))
      ∙ sym (ap (λ (records : List TurnRecord). (all.again ++ given ∷ []) ++ records) later_none
      ∙ append-nil (all.again ++ given ∷ [])));
  sends_are = λ _. ap (λ (so_far : Noted). so_far.sends) noted_as
      ∙ sym (ap (λ (later : List Entry). (noted later).sends) none);
  count =
      let longer = one_more all.again given in
      let left_now : length (drop is.given is.records) ≡ length rest = ap length left in
      let left_then : length (drop was.given was.records) ≡ length rest + 1 = ap length at ∙ one_after in
      let total : length is.records ≡ length was.records = ap length records in
      let before = all.count in
      omega (arith, longer, left_now, left_then, total, before);
  turns = λ begins are.
      ap (λ (turns : List PlainTurn). turns ++ turns_in (drop is.given is.records))
      (map-append plain all.again (given ∷ []))
      ∙ (append_assoc (turns_in all.again) (plain given ∷ []) (turns_in (drop is.given is.records))
      ∙ (ap (λ (records : List TurnRecord). turns_in all.again ++ (plain given ∷ turns_in records)) left
      ∙ (ap (λ (turn : PlainTurn). turns_in all.again ++ (turn ∷ turns_in rest))
      (same (subst BeginsWithListen records begins) (subst AreTurns records are))
      ∙ (ap (λ (records : List TurnRecord). turns_in all.again ++ turns_in records) (sym at)
      ∙ (all.turns (subst BeginsWithListen records begins) (subst AreTurns records are)
      ∙ ap turns_in (sym records))))));
  none_later = λ _. none;
}
  where
    later_none : (noted later).records ≡ []
    later_none = ap (λ (later : List Entry). (noted later).records) none

    one_after : length (entry ∷ rest) ≡ length rest + 1
    one_after = omega arith

-- ---- the turns of the journal

again_event : (given : TurnEvent) → not (is_listen given) ≡ true → event_of (what_of given) (bytes_of given) ≡ given
again_event event.Listen is = absurd (cc is)
again_event event.Idle is = refl
again_event (event.Opened link) is = refl
again_event (event.Read link bytes) is = refl
again_event (event.Ended link) is = refl
again_event (event.Broken link) is = refl
again_event (event.Room link) is = refl

again_recorded : (given : TurnEvent) → is_recorded (what_of given) ≡ true
again_recorded event.Listen = refl
again_recorded event.Idle = refl
again_recorded (event.Opened link) = refl
again_recorded (event.Read link bytes) = refl
again_recorded (event.Ended link) = refl
again_recorded (event.Broken link) = refl
again_recorded (event.Room link) = refl

listen_event : (given : TurnEvent) → is_listen given ≡ true → event.Listen ≡ given
listen_event event.Listen is = refl
listen_event event.Idle is = absurd (cc is)
listen_event (event.Opened link) is = absurd (cc is)
listen_event (event.Read link bytes) is = absurd (cc is)
listen_event (event.Ended link) is = absurd (cc is)
listen_event (event.Broken link) is = absurd (cc is)
listen_event (event.Room link) is = absurd (cc is)

-- the record that is next
some_left : (n : ℕ) (records : List TurnRecord) → n < length records
    → (entry : TurnRecord) × (later : List TurnRecord) × (drop n records ≡ entry ∷ later)
some_left n [] less = absurd (omega (arith, less))
some_left zero (entry ∷ records) less = (entry, records, refl)
some_left (suc n) (entry ∷ records) less = some_left n records (omega (arith, less))

-- what all pass passes one of them
passes_at : (test : TurnRecord → Bool) (n : ℕ) (records : List TurnRecord) (entry : TurnRecord)
    (later : List TurnRecord) → list_all test records ≡ true → drop n records ≡ entry ∷ later → test entry ≡ true
passes_at test zero [] entry later all at = absurd (cc at)
passes_at test (suc n) [] entry later all at = absurd (cc at)
passes_at test zero (first ∷ records) entry later all at =
    let same : first ≡ entry = cc at in
    ap test (sym same) ∙ (and_parts (test first) (list_all test records) all).0
passes_at test (suc n) (first ∷ records) entry later all at =
    passes_at test n records entry later (and_parts (test first) (list_all test records) all).1 at

turn_at : (n : ℕ) (records : List TurnRecord) (entry : TurnRecord) (later : List TurnRecord) → 0 < n
    → AreTurns records → drop n records ≡ entry ∷ later → is_turn entry ≡ true
turn_at zero records entry later begun are at = absurd (omega (arith, begun))
turn_at (suc n) [] entry later begun are at = absurd (cc at)
turn_at (suc n) (first ∷ records) entry later begun are at = passes_at is_turn n records entry later are at

memory_what : (what : What) → is_memory_turn what ≡ true → what ≡ Memory
memory_what Idle is = absurd (cc is)
memory_what (Opened link) is = absurd (cc is)
memory_what (Read link count) is = absurd (cc is)
memory_what (Ended link) is = absurd (cc is)
memory_what (Broken link) is = absurd (cc is)
memory_what (Room link) is = absurd (cc is)
memory_what Stopped is = absurd (cc is)
memory_what Failed is = absurd (cc is)
memory_what Memory is = refl

memory_unrecorded : (what : What) → is_memory_turn what ≡ true → is_recorded what ≡ false
memory_unrecorded what is = ap is_recorded (memory_what what is)

-- a turn that was given again has a record, or memory ran out
pub again_turn : (old new : Seen) (was is : Progress) (buf : List ℕ) (turn : Turn) → is_over was ≡ false
    → GivesAgain old new was is buf turn → (turn.what ≡ Memory) ⊎ (is_recorded turn.what ≡ true)
again_turn old new was is buf turn left gives = by_memory (is_memory_turn turn.what) refl
  where
    recorded : is_memory_turn turn.what ≡ false → is_recorded turn.what ≡ true
    recorded memory =
        let less = leb-false (length was.records) was.given left in
        let at = some_left was.given was.records (omega (arith, less)) in
        let given = (gives.gives memory at.0 at.1 at.2).0 in
        ap (λ (turn : Turn). is_recorded turn.what) given.turn_is ∙ again_recorded at.0.event

    by_memory : (memory : Bool) → is_memory_turn turn.what ≡ memory
        → (turn.what ≡ Memory) ⊎ (is_recorded turn.what ≡ true)
    by_memory true memory = inl (memory_what turn.what memory)
    by_memory false memory = inr (recorded memory)

pub splits_again : (old new : Seen) (was is : Progress) (wants : List Want) (buf : List ℕ) (turn : Turn)
    (calls calls' later : List Entry) → Splits was calls later → calls' ≡ calls ++ next_entries wants buf turn
    → is_over was ≡ false → GivesAgain old new was is buf turn → Splits is calls' later
splits_again old new was is wants buf turn calls calls' later all log left gives =
    by_memory (is_memory_turn turn.what) refl
  where
    by_memory : (memory : Bool) → is_memory_turn turn.what ≡ memory → Splits is calls' later
    by_memory true memory =
        let same = turn_quiet calls calls' wants buf turn log (memory_unrecorded turn.what memory) in
        splits_still was is calls calls' later all (ap (λ (so_far : Noted). so_far.records) same)
        (λ _. ap (λ (so_far : Noted). so_far.sends) same) gives.records (gives.still memory)
    by_memory false memory =
        let less = leb-false (length was.records) was.given left in
        let at = some_left was.given was.records (omega (arith, less)) in
        let given = (gives.gives memory at.0 at.1 at.2).0 in
        let recorded : is_recorded turn.what ≡ true =
        ap (λ (turn : Turn). is_recorded turn.what) given.turn_is ∙ again_recorded at.0.event in
        given_more was is calls calls' later at.0 (entry_of (noted calls).sends turn (piece_of turn.what buf)) at.1 all
        (all.none_later left) gives.records at.2 given.rest_is
        (turn_added calls calls' wants buf turn log recorded)
        (λ begins are.
        let passes : not (is_listen at.0.event) ≡ true =
        turn_at was.given was.records at.0 at.1 gives.begun are at.2 in
        plain_is turn.secs at.0.secs (event_of turn.what (piece_of turn.what buf)) at.0.event
        (ap (λ (turn : Turn). turn.secs) given.turn_is)
        (ap (λ (piece : List ℕ). event_of turn.what piece) given.piece
        ∙ (ap (λ (turn : Turn). event_of turn.what (bytes_of at.0.event)) given.turn_is
        ∙ again_event at.0.event passes)))

pub splits_listen : (old new : Seen) (was is : Progress) (address : List ℕ) (answer : ListenAnswer)
    (calls calls' later : List Entry) → Splits was calls later → calls' ≡ calls ++ listen_entries address answer
    → later ≡ [] → ListensAgain old new was is address answer → Splits is calls' later
splits_listen old new was is address answer calls calls' later all log none again = by_answer answer refl
  where
    unready : is_ready answer ≡ false → Splits is calls' later
    unready none_ready =
        let gives = again.gives in
        let same = listen_quiet calls calls' address answer log none_ready in
        splits_still was is calls calls' later all (ap (λ (so_far : Noted). so_far.records) same)
        (λ _. ap (λ (so_far : Noted). so_far.sends) same) gives.records (gives.still none_ready)

    by_answer : (given : ListenAnswer) → answer ≡ given → Splits is calls' later
    by_answer (listen.Ready secs) answer_is =
        let ungiven : was.given ≡ 0 = again.unbegun in
        let less : was.given < length was.records = again.some in
        let at = some_left was.given was.records less in
        let gives = again.gives in
        let given = gives.gives secs at.0 at.1 answer_is at.2 in
        given_more was is calls calls' later at.0 (listen_entry (noted calls).sends secs) at.1 all none gives.records
        at.2 given.rest_is
        (listen_noted calls calls' address answer log ∙ ap (after_listen (noted calls)) answer_is)
        (λ begins are.
        plain_is secs at.0.secs event.Listen at.0.event given.secs_is
        (listen_event at.0.event
        (begins at.0 at.1 (sym (ap (λ (n : ℕ). drop n was.records) ungiven) ∙ at.2))))
    by_answer listen.Failed answer_is = unready (ap is_ready answer_is)
    by_answer listen.Memory answer_is = unready (ap is_ready answer_is)

-- ---- all calls

drop_before : (again more : List TurnRecord) → drop (length again) (again ++ more) ≡ more
drop_before [] more = refl
drop_before (first ∷ again) more = drop_before again more

-- the later calls handed out the turns after the journal's
pub later_is : (progress : Progress) (calls later : List Entry) → Splits progress calls later
    → (noted later).records ≡ records_after (length progress.records) calls
later_is progress calls later all = by_over (is_over progress) refl
  where
    by_over : (over : Bool) → is_over progress ≡ over
        → (noted later).records ≡ records_after (length progress.records) calls
    by_over true over =
        let none : length (drop progress.given progress.records) ≡ 0 = ap length (none_left progress over) in
        let before = all.count in
        let same : length progress.records ≡ length all.again = omega (arith, none, before) in
        sym (ap (λ (records : List TurnRecord). drop (length progress.records) records) all.calls_are
        ∙ (ap (λ (n : ℕ). drop n (all.again ++ (noted later).records)) same
        ∙ drop_before all.again (noted later).records))
    by_over false left =
        let none : (noted later).records ≡ [] =
        ap (λ (later : List Entry). (noted later).records) (all.none_later left) in
        let before = all.count in
        none ∙ sym (ap (λ (records : List TurnRecord). drop (length progress.records) records)
        (all.calls_are ∙ (ap (λ (records : List TurnRecord). all.again ++ records) none ∙ append-nil all.again))
        ∙ drop_all (length progress.records) all.again (omega (arith, before)))

-- the turns that were handed out begin with the journal's
pub begin_so : (progress : Progress) (calls later : List Entry) → Splits progress calls later
    → BeginsWithListen progress.records → AreTurns progress.records
    → ((rest : List PlainTurn) × (turns_in progress.records ≡ handed calls ++ rest))
    ⊎ ((rest : List PlainTurn) × (handed calls ≡ turns_in progress.records ++ rest))
begin_so progress calls later all begins are = by_over (is_over progress) refl
  where
    handed_are : handed calls ≡ turns_in all.again ++ turns_in (noted later).records
    handed_are = ap turns_in all.calls_are ∙ map-append plain all.again (noted later).records

    by_over : (over : Bool) → is_over progress ≡ over
        → ((rest : List PlainTurn) × (turns_in progress.records ≡ handed calls ++ rest))
        ⊎ ((rest : List PlainTurn) × (handed calls ≡ turns_in progress.records ++ rest))
    by_over true over = inr (
      turns_in (noted later).records,
      handed_are ∙ ap (λ (turns : List PlainTurn). turns ++ turns_in (noted later).records)
          (sym (ap (λ (records : List TurnRecord). turns_in all.again ++ turns_in records) (none_left progress over)
          ∙ append-nil (turns_in all.again)) ∙ all.turns begins are),
    )
    by_over false left =
        let none : turns_in (noted later).records ≡ [] =
        ap (λ (later : List Entry). turns_in (noted later).records) (all.none_later left) in
        inl (
          turns_in (drop progress.given progress.records),
          sym (all.turns begins are) ∙ ap
              (λ (turns : List PlainTurn). turns ++ turns_in (drop progress.given progress.records))
              (sym (handed_are ∙ (ap (λ (turns : List PlainTurn). turns_in all.again ++ turns) none
              ∙ append-nil (turns_in all.again)))),
        )
