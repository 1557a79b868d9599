-- What each call of links that record does to the journal.
use Rattle.std.proofs.Common.{◌≡◌, ◌≢◌, ◌⊎◌, inl, inr, ℕ, Bool, true, false, not, List, [], ◌∷◌, ◌++◌, refl, sym, ◌∙◌}
use Rattle.std.proofs.Common.{ap, subst}
use Rattle.std.specs.Prelude.{◌&&◌, Option}
use Rattle.journal_format.specs.Spelling.{IsRecord, Spells, is_listen, record_bytes}
use Rattle.journal_format.specs.declared.turn_record.Summary.{Summary}
use Rattle.journal_format.specs.declared.turn_record.TurnRecord.{TurnRecord}
use Rattle.ports.specs.Links.{is_failed_turn, listen_entries, next_entries, piece_of, send_entries}
use Rattle.ports.specs.declared.entry.Entry.{Entry}
use Rattle.ports.specs.declared.entry.Entry.TheVariants.{Close}
use Rattle.ports.specs.declared.links.ListenAnswer.{ListenAnswer}
use Rattle.ports.specs.declared.links.ListenAnswer.TheVariants as listen
use Rattle.ports.specs.declared.links.SendAnswer.{SendAnswer}
use Rattle.ports.specs.declared.links.SendAnswer.TheVariants as send
use Rattle.ports.specs.declared.links.Turn.{Turn}
use Rattle.ports.specs.declared.links.Want.{Want}
use Rattle.ports.specs.declared.links.What.{What}
use Rattle.ports.specs.declared.links.What.TheVariants.{Idle, Opened, Read, Ended, Broken, Room, Stopped, Failed}
use Rattle.ports.specs.declared.links.What.TheVariants.{Memory}
use Rattle.recorded_links.specs.Keeping.{AddsRecord, HandsListen, HandsOut, entry_of, event_of, is_lost_listen}
use Rattle.recorded_links.specs.Keeping.{is_ready, is_recorded, listen_entry}
use Rattle.recorded_links.specs.Sending.{after_send}
use Rattle.recorded_links.proofs.NoteLaws.{close_noted, listen_noted, listen_quiet, send_noted, turn_added, turn_quiet}
use Rattle.recorded_links.proofs.NoteLaws.{with_send}
use Rattle.recorded_links.specs.Steps.{CloseStep, ListenStep, NextStep, Seen, SendStep, Takes, TakesListen, Unsent}
use Rattle.recorded_links.specs.Steps.{listen_refused, listen_taken, next_full, next_refused, next_taken}
use Rattle.recorded_links.specs.Lending.{Keeps, Lent}
use Rattle.recorded_links.specs.Noting.{after_listen, noted}
use Rattle.recorded_links.specs.Giving.{MayFollow}
use Rattle.recorded_links.proofs.GivenLaws.{may_close_step, may_listen, may_none, may_send_step, may_still, may_take}
use Rattle.recorded_links.proofs.JournalLaws.{keeps_added, keeps_lost, keeps_same}

-- ---- `next`

-- what is not recorded is handed out as what is not
unrecorded_out : (asked turn : Turn) → HandsOut asked.what asked turn → is_recorded asked.what ≡ false
    → is_recorded turn.what ≡ false
unrecorded_out asked turn hands is = by_what asked.what refl hands is
  where
    by_what : (what : What) → asked.what ≡ what → HandsOut what asked turn → is_recorded what ≡ false
        → is_recorded turn.what ≡ false
    by_what Idle same hands is = absurd (cc is)
    by_what (Opened other) same hands is = absurd (cc is)
    by_what (Read other count) same hands is = absurd (cc is)
    by_what (Ended other) same hands is = absurd (cc is)
    by_what (Broken other) same hands is = absurd (cc is)
    by_what (Room other) same hands is = absurd (cc is)
    by_what Stopped same hands is = ap (λ (turn : Turn). is_recorded turn.what) hands
    by_what Failed same hands is = ap (λ (turn : Turn). is_recorded turn.what) hands ∙ ap is_recorded same
    by_what Memory same hands is = ap (λ (turn : Turn). is_recorded turn.what) hands ∙ ap is_recorded same

-- what is recorded is handed out, or lost
recorded_out : (asked turn : Turn) → HandsOut asked.what asked turn → is_recorded asked.what ≡ true
    → (turn ≡ asked) ⊎ ((turn.what ≡ Failed) ⊎ (turn.what ≡ Memory))
recorded_out asked turn hands is = by_what asked.what hands is
  where
    by_what : (what : What) → HandsOut what asked turn → is_recorded what ≡ true
        → (turn ≡ asked) ⊎ ((turn.what ≡ Failed) ⊎ (turn.what ≡ Memory))
    by_what Idle hands is = hands
    by_what (Opened other) hands is = hands
    by_what (Read other count) hands is = hands
    by_what (Ended other) hands is = hands
    by_what (Broken other) hands is = hands
    by_what (Room other) hands is = hands
    by_what Stopped hands is = absurd (cc is)
    by_what Failed hands is = absurd (cc is)
    by_what Memory hands is = absurd (cc is)

unfailed : (what : What) → is_recorded what ≡ true → is_failed_turn what ≡ false
unfailed Idle is = refl
unfailed (Opened other) is = refl
unfailed (Read other count) is = refl
unfailed (Ended other) is = refl
unfailed (Broken other) is = refl
unfailed (Room other) is = refl
unfailed Stopped is = refl
unfailed Failed is = absurd (cc is)
unfailed Memory is = refl

no_listen : (what : What) (piece : List ℕ) → is_listen (event_of what piece) ≡ false
no_listen Idle piece = refl
no_listen (Opened link) piece = refl
no_listen (Read link count) piece = refl
no_listen (Ended link) piece = refl
no_listen (Broken link) piece = refl
no_listen (Room link) piece = refl
no_listen Stopped piece = refl
no_listen Failed piece = refl
no_listen Memory piece = refl

-- the record of a turn whose bytes are in the buffer
abbrev entry_at : List ℕ → List Summary → Turn → TurnRecord
entry_at buf sends turn = entry_of sends turn (piece_of turn.what buf)

spelled : (old : Seen) (buf : List ℕ) (sends : List Summary) (turn : Turn) → old.kept.has_record ≡ true
    → IsRecord (entry_at buf sends turn)
    → Spells (not old.kept.has_record) (entry_at buf sends turn) (record_bytes (entry_at buf sends turn))
spelled old buf sends turn begun allowed =
    record { allowed = allowed; order = no_listen turn.what (piece_of turn.what buf) ∙ sym (ap not begun); text = refl }

-- a turn of the inner links that was handed out as it is
keeps_asked : (lent : Lent) (breaks : Option ℕ) (calls calls' : List Entry) (old new : Seen) (wants : List Want)
    (buf : List ℕ)
    (turn : Turn) (spent : Bool)
    → Keeps lent (MayFollow breaks old.first old.inner) calls old.kept old.sends old.spent
    → calls' ≡ calls ++ next_entries wants buf turn
    → (takes : Takes old new wants buf turn) → is_recorded takes.asked.what ≡ true → turn ≡ takes.asked
    → Keeps lent (MayFollow breaks old.first new.inner) calls' new.kept new.sends spent
keeps_asked lent breaks calls calls' old new wants buf turn spent keeps log takes is same =
    let also : is_recorded turn.what ≡ true = ap (λ (turn : Turn). is_recorded turn.what) same ∙ is in
    let entry_is : entry_at buf old.sends takes.asked ≡ entry_at buf (noted calls).sends turn =
    ap (entry_at buf old.sends) (sym same) ∙ ap (λ (sends : List Summary). entry_at buf sends turn)
    (sym keeps.sends_are) in
    let added : AddsRecord (record_bytes (entry_at buf (noted calls).sends turn)) true old.kept new.kept =
    subst (λ (flag : Bool). AddsRecord (record_bytes (entry_at buf (noted calls).sends turn)) flag old.kept new.kept)
    also
    (subst (λ (entry : TurnRecord). AddsRecord (record_bytes entry) (is_recorded turn.what) old.kept new.kept) entry_is
    (takes.records is)) in
    keeps_added lent (MayFollow breaks old.first old.inner) (MayFollow breaks old.first new.inner)
    calls calls' old.kept new.kept old.sends new.sends old.spent spent
    (entry_at buf (noted calls).sends turn)
    (record_bytes (entry_at buf (noted calls).sends turn)) keeps takes.ready.unspent
    (spelled old buf (noted calls).sends turn takes.ready.begun (subst IsRecord entry_is (takes.allowed is))) added
    (turn_added calls calls' wants buf turn log also) (takes.cleared also)

-- a turn that is recorded, whether or not the links are spent after it
pub keeps_handed : (lent : Lent) (breaks : Option ℕ) (calls calls' : List Entry) (old new : Seen) (wants : List Want)
    (buf : List ℕ)
    (turn : Turn) (spent : Bool)
    → Keeps lent (MayFollow breaks old.first old.inner) calls old.kept old.sends old.spent
    → calls' ≡ calls ++ next_entries wants buf turn
    → NextStep old new wants buf turn
    → is_recorded turn.what ≡ true → Keeps lent (MayFollow breaks old.first new.inner) calls' new.kept new.sends spent
keeps_handed lent breaks calls calls' old new wants buf turn spent keeps log (next_refused why memory rests) recorded =
    absurd (cc (ap is_recorded memory, recorded))
keeps_handed lent breaks calls calls' old new wants buf turn spent keeps log
    (next_full ready full stopped rests) recorded =
    absurd (cc (ap (λ (turn : Turn). is_recorded turn.what) stopped, recorded))
keeps_handed lent breaks calls calls' old new wants buf turn spent keeps log (next_taken takes) recorded =
    by_recorded (is_recorded takes.asked.what) refl
  where
    by_recorded : (t : Bool) → is_recorded takes.asked.what ≡ t
        → Keeps lent (MayFollow breaks old.first new.inner) calls' new.kept new.sends spent
    by_recorded false is = absurd (cc (unrecorded_out takes.asked turn takes.hands is, recorded))
    by_recorded true is = elim (recorded_out takes.asked turn takes.hands is) [
      | inl same ↦ keeps_asked lent breaks calls calls' old new wants buf turn spent keeps log takes is same
      | inr gone ↦ elim gone [
        | inl failed ↦ absurd (cc (ap is_recorded failed, recorded))
        | inr memory ↦ absurd (cc (ap is_recorded memory, recorded))
      ]
    ]

keeps_takes : (lent : Lent) (breaks : Option ℕ) (calls calls' : List Entry) (old new : Seen) (wants : List Want)
    (buf : List ℕ)
    (turn : Turn)
    → Keeps lent (MayFollow breaks old.first old.inner) calls old.kept old.sends old.spent
    → calls' ≡ calls ++ next_entries wants buf turn
    → Takes old new wants buf turn → (turn.what ≡ Memory → new.spent ≡ true)
    → Keeps lent (MayFollow breaks old.first new.inner) calls' new.kept new.sends new.spent
keeps_takes lent breaks calls calls' old new wants buf turn keeps log takes spends =
    by_recorded (is_recorded takes.asked.what) refl
  where
    lost : is_recorded takes.asked.what ≡ true → is_recorded turn.what ≡ false → new.spent ≡ true
        → Keeps lent (MayFollow breaks old.first new.inner) calls' new.kept new.sends new.spent
    lost is unrecorded spent_is =
        keeps_lost lent (MayFollow breaks old.first old.inner) (MayFollow breaks old.first new.inner)
        calls calls' old.kept new.kept old.sends new.sends old.spent new.spent (is_recorded turn.what)
        (entry_at buf old.sends takes.asked) (record_bytes (entry_at buf old.sends takes.asked)) keeps
        takes.ready.unspent
        (spelled old buf old.sends takes.asked takes.ready.begun (takes.allowed is)) (takes.records is)
        (turn_quiet calls calls' wants buf turn log unrecorded) (takes.uncleared unrecorded) spent_is
        (may_take breaks old new wants buf turn takes is)

    by_recorded : (t : Bool) → is_recorded takes.asked.what ≡ t
        → Keeps lent (MayFollow breaks old.first new.inner) calls' new.kept new.sends new.spent
    by_recorded false is =
        let unrecorded = unrecorded_out takes.asked turn takes.hands is in
        let same = turn_quiet calls calls' wants buf turn log unrecorded in
        keeps_same lent (MayFollow breaks old.first old.inner) (MayFollow breaks old.first new.inner)
        calls calls' old.kept new.kept old.sends new.sends old.spent new.spent keeps
        (ap (λ so_far. so_far.records) same)
        (ap (λ so_far. so_far.sends) same ∙ keeps.sends_are ∙ sym (takes.uncleared unrecorded)) (takes.other is)
        (λ was. absurd (cc (takes.ready.unspent, was))) (λ was. absurd (cc (takes.ready.unspent, was)))
    by_recorded true is = elim (recorded_out takes.asked turn takes.hands is) [
      | inl same ↦ keeps_asked lent breaks calls calls' old new wants buf turn new.spent keeps log takes is same
      | inr gone ↦ elim gone [
        | inl failed ↦ lost is (ap is_recorded failed)
            (takes.spent (ap (λ (asked : Bool). not asked && is_failed_turn turn.what) (unfailed takes.asked.what is)
            ∙ ap is_failed_turn failed))
        | inr memory ↦ lost is (ap is_recorded memory) (spends memory)
      ]
    ]

pub keeps_next : (lent : Lent) (breaks : Option ℕ) (calls calls' : List Entry) (old new : Seen) (wants : List Want)
    (buf : List ℕ)
    (turn : Turn) → Keeps lent (MayFollow breaks old.first old.inner) calls old.kept old.sends old.spent
    → calls' ≡ calls ++ next_entries wants buf turn
    → NextStep old new wants buf turn → (turn.what ≡ Memory → new.spent ≡ true)
    → Keeps lent (MayFollow breaks old.first new.inner) calls' new.kept new.sends new.spent
keeps_next lent breaks calls calls' old new wants buf turn keeps log (next_refused why memory rests) spends =
    let same = turn_quiet calls calls' wants buf turn log (ap is_recorded memory) in
    keeps_same lent (MayFollow breaks old.first old.inner) (MayFollow breaks old.first new.inner)
    calls calls' old.kept new.kept old.sends new.sends old.spent new.spent keeps
    (ap (λ so_far. so_far.records) same) (ap (λ so_far. so_far.sends) same ∙ keeps.sends_are ∙ sym rests.sends)
    rests.kept (λ was. spends memory) (λ was. may_still breaks old.first old.inner new.inner rests.inner)
keeps_next lent breaks calls calls' old new wants buf turn keeps log (next_full ready full stopped rests) spends =
    let same = turn_quiet calls calls' wants buf turn log (ap (λ (turn : Turn). is_recorded turn.what) stopped) in
    keeps_same lent (MayFollow breaks old.first old.inner) (MayFollow breaks old.first new.inner)
    calls calls' old.kept new.kept old.sends new.sends old.spent new.spent keeps
    (ap (λ so_far. so_far.records) same) (ap (λ so_far. so_far.sends) same ∙ keeps.sends_are ∙ sym rests.sends)
    rests.kept (λ was. absurd (cc (ready.unspent, was))) (λ was. absurd (cc (ready.unspent, was)))
keeps_next lent breaks calls calls' old new wants buf turn keeps log (next_taken takes) spends =
    keeps_takes lent breaks calls calls' old new wants buf turn keeps log takes spends

-- ---- `listen`

keeps_listens : (lent : Lent) (breaks : Option ℕ) (calls calls' : List Entry) (old new : Seen) (address : List ℕ)
    (answer : ListenAnswer)
    → Keeps lent (MayFollow breaks old.first old.inner) calls old.kept old.sends old.spent
    → calls' ≡ calls ++ listen_entries address answer
    → TakesListen old new address answer → (answer ≡ listen.Memory → new.spent ≡ true)
    → Keeps lent (MayFollow breaks old.first new.inner) calls' new.kept new.sends new.spent
keeps_listens lent breaks calls calls' old new address answer keeps log takes spends = by_asked takes.asked refl
  where
    spelled : (sends : List Summary) (secs : ℕ) → IsRecord (listen_entry sends secs)
        → Spells (not old.kept.has_record) (listen_entry sends secs) (record_bytes (listen_entry sends secs))
    spelled sends secs allowed = record { allowed = allowed; order = sym (ap not takes.unbegun); text = refl }

    quiet : is_ready answer ≡ false → new.kept ≡ old.kept
        → Keeps lent (MayFollow breaks old.first new.inner) calls' new.kept new.sends new.spent
    quiet unready kept_is =
        let same = listen_quiet calls calls' address answer log unready in
        keeps_same lent (MayFollow breaks old.first old.inner) (MayFollow breaks old.first new.inner)
        calls calls' old.kept new.kept old.sends new.sends old.spent new.spent keeps
        (ap (λ so_far. so_far.records) same)
        (ap (λ so_far. so_far.sends) same ∙ keeps.sends_are ∙ sym (takes.uncleared unready)) kept_is
        (λ was. absurd (cc (takes.unspent, was))) (λ was. absurd (cc (takes.unspent, was)))

    handed : (secs : ℕ) → takes.asked ≡ listen.Ready secs → answer ≡ listen.Ready secs
        → Keeps lent (MayFollow breaks old.first new.inner) calls' new.kept new.sends new.spent
    handed secs is same =
        let ready : is_ready answer ≡ true = ap is_ready same in
        let entry_is : listen_entry old.sends secs ≡ listen_entry (noted calls).sends secs =
        ap (λ (sends : List Summary). listen_entry sends secs) (sym keeps.sends_are) in
        let added : AddsRecord (record_bytes (listen_entry (noted calls).sends secs)) true old.kept new.kept =
        subst (λ (flag : Bool). AddsRecord (record_bytes (listen_entry (noted calls).sends secs)) flag old.kept
        new.kept) ready
        (subst (λ (entry : TurnRecord). AddsRecord (record_bytes entry) (is_ready answer) old.kept new.kept) entry_is
        (takes.records secs is)) in
        keeps_added lent (MayFollow breaks old.first old.inner) (MayFollow breaks old.first new.inner)
        calls calls' old.kept new.kept old.sends new.sends old.spent new.spent
        (listen_entry (noted calls).sends secs) (record_bytes (listen_entry (noted calls).sends secs)) keeps
        takes.unspent
        (spelled (noted calls).sends secs (subst IsRecord entry_is (takes.allowed secs is))) added
        (listen_noted calls calls' address answer log ∙ ap (after_listen (noted calls)) same) (takes.cleared ready)

    lost : (secs : ℕ) → takes.asked ≡ listen.Ready secs → is_ready answer ≡ false → new.spent ≡ true
        → Keeps lent (MayFollow breaks old.first new.inner) calls' new.kept new.sends new.spent
    lost secs is unready spent_is =
        keeps_lost lent (MayFollow breaks old.first old.inner) (MayFollow breaks old.first new.inner)
        calls calls' old.kept new.kept old.sends new.sends old.spent new.spent (is_ready answer)
        (listen_entry old.sends secs) (record_bytes (listen_entry old.sends secs)) keeps takes.unspent
        (spelled old.sends secs (takes.allowed secs is)) (takes.records secs is)
        (listen_quiet calls calls' address answer log unready) (takes.uncleared unready) spent_is
        (may_listen breaks old new address answer secs takes is)

    by_asked : (asked : ListenAnswer) → takes.asked ≡ asked
        → Keeps lent (MayFollow breaks old.first new.inner) calls' new.kept new.sends new.spent
    by_asked (listen.Ready secs) is =
        let hands : (answer ≡ listen.Ready secs) ⊎ ((answer ≡ listen.Failed) ⊎ (answer ≡ listen.Memory)) =
        subst (λ (asked : ListenAnswer). HandsListen asked answer) is takes.hands in
        elim hands [
          | inl same ↦ handed secs is same
          | inr gone ↦ elim gone [
            | inl failed ↦ lost secs is (ap is_ready failed)
                (takes.spent (ap (λ (asked : ListenAnswer). is_lost_listen asked answer) is ∙ ap
                (is_lost_listen (listen.Ready secs)) failed))
            | inr memory ↦ lost secs is (ap is_ready memory) (spends memory)
          ]
        ]
    by_asked listen.Failed is =
        let failed : answer ≡ listen.Failed =
        subst (λ (asked : ListenAnswer). HandsListen asked answer) is takes.hands in
        quiet (ap is_ready failed) (takes.other (ap is_ready is))
    by_asked listen.Memory is =
        let memory : answer ≡ listen.Memory =
        subst (λ (asked : ListenAnswer). HandsListen asked answer) is takes.hands in
        quiet (ap is_ready memory) (takes.other (ap is_ready is))

pub keeps_listen : (lent : Lent) (breaks : Option ℕ) (calls calls' : List Entry) (old new : Seen) (address : List ℕ)
    (answer : ListenAnswer)
    → Keeps lent (MayFollow breaks old.first old.inner) calls old.kept old.sends old.spent
    → calls' ≡ calls ++ listen_entries address answer
    → ListenStep old new address answer → (answer ≡ listen.Memory → new.spent ≡ true)
    → Keeps lent (MayFollow breaks old.first new.inner) calls' new.kept new.sends new.spent
keeps_listen lent breaks calls calls' old new address answer keeps log (listen_refused why memory rests) spends =
    let same = listen_quiet calls calls' address answer log (ap is_ready memory) in
    keeps_same lent (MayFollow breaks old.first old.inner) (MayFollow breaks old.first new.inner)
    calls calls' old.kept new.kept old.sends new.sends old.spent new.spent keeps
    (ap (λ so_far. so_far.records) same) (ap (λ so_far. so_far.sends) same ∙ keeps.sends_are ∙ sym rests.sends)
    rests.kept (λ was. spends memory) (λ was. may_still breaks old.first old.inner new.inner rests.inner)
keeps_listen lent breaks calls calls' old new address answer keeps log (listen_taken takes) spends =
    keeps_listens lent breaks calls calls' old new address answer keeps log takes spends

-- ---- `send` and `close`

pub keeps_send : (lent : Lent) (breaks : Option ℕ) (calls calls' : List Entry) (old new : Seen) (link : ℕ)
    (bytes : List ℕ)
    (answer : SendAnswer) → Keeps lent (MayFollow breaks old.first old.inner) calls old.kept old.sends old.spent
    → calls' ≡ calls ++ send_entries link bytes answer
    → (answer ≢ send.Memory → SendStep old new link bytes answer) → (answer ≡ send.Memory → Unsent old new)
    → (answer ≡ send.Memory → new.spent ≡ true)
    → Keeps lent (MayFollow breaks old.first new.inner) calls' new.kept new.sends new.spent
keeps_send lent breaks calls calls' old new link bytes answer keeps log step unsent spends = by_answer answer refl
  where
    noted_is : noted calls' ≡ with_send link answer (noted calls)
    noted_is = send_noted calls calls' link bytes answer log

    sent : SendStep old new link bytes answer
        → Keeps lent (MayFollow breaks old.first new.inner) calls' new.kept new.sends new.spent
    sent step =
        keeps_same lent (MayFollow breaks old.first old.inner) (MayFollow breaks old.first new.inner)
        calls calls' old.kept new.kept old.sends new.sends old.spent new.spent keeps
        (ap (λ so_far. so_far.records) noted_is)
        (ap (λ so_far. so_far.sends) noted_is ∙ ap (after_send link answer) keeps.sends_are ∙ sym step.sends) step.kept
        step.spent (λ was. may_send_step breaks old new link bytes answer step)

    by_answer : (asked : SendAnswer) → answer ≡ asked
        → Keeps lent (MayFollow breaks old.first new.inner) calls' new.kept new.sends new.spent
    by_answer (send.Took count) is = sent (step (λ memory. absurd (cc (is, memory))))
    by_answer send.Later is = sent (step (λ memory. absurd (cc (is, memory))))
    by_answer send.Failed is = sent (step (λ memory. absurd (cc (is, memory))))
    by_answer send.Memory is =
        let nothing = unsent is in
        keeps_same lent (MayFollow breaks old.first old.inner) (MayFollow breaks old.first new.inner)
        calls calls' old.kept new.kept old.sends new.sends old.spent new.spent keeps
        (ap (λ so_far. so_far.records) noted_is)
        (ap (λ so_far. so_far.sends) noted_is ∙ ap (λ (answer : SendAnswer). after_send link answer (noted calls).sends)
        is ∙ keeps.sends_are ∙ sym nothing.sends) nothing.kept (λ was. spends is)
        (λ was. may_none breaks old.first old.inner new.inner nothing.calls)

pub keeps_close : (lent : Lent) (breaks : Option ℕ) (calls calls' : List Entry) (old new : Seen) (link : ℕ)
    → Keeps lent (MayFollow breaks old.first old.inner) calls old.kept old.sends old.spent
    → calls' ≡ calls ++ Close link ∷ [] → CloseStep old new link
    → Keeps lent (MayFollow breaks old.first new.inner) calls' new.kept new.sends new.spent
keeps_close lent breaks calls calls' old new link keeps log step =
    let same = close_noted calls calls' link log in
    keeps_same lent (MayFollow breaks old.first old.inner) (MayFollow breaks old.first new.inner)
    calls calls' old.kept new.kept old.sends new.sends old.spent new.spent keeps
    (ap (λ so_far. so_far.records) same) (ap (λ so_far. so_far.sends) same ∙ keeps.sends_are ∙ sym step.sends) step.kept
    step.spent (λ was. may_close_step breaks old new link step)
