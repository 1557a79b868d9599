-- What a turn in which a link of the journal broke does to the journal.
use Rattle.std.proofs.Common.{◌≡◌, ◌⊎◌, inl, inr, ℕ, Bool, true, false, not, List, [], ◌++◌, refl, sym, ◌∙◌, ap, subst}
use Rattle.std.specs.Prelude.{Some}
use Rattle.journal_format.specs.Spelling.{IsRecord, Spells, record_bytes}
use Rattle.journal_format.specs.declared.turn_record.Summary.{Summary}
use Rattle.journal_format.specs.declared.turn_record.TurnRecord.{TurnRecord}
use Rattle.ports.specs.Links.{is_failed_turn, next_entries, piece_of}
use Rattle.ports.specs.declared.entry.Entry.{Entry}
use Rattle.ports.specs.declared.links.Turn.{Turn}
use Rattle.ports.specs.declared.links.Want.{Want}
use Rattle.ports.specs.declared.links.What.TheVariants.{Broken, Failed, Memory}
use Rattle.recorded_links.specs.Keeping.{AddsRecord, entry_of, is_recorded}
use Rattle.recorded_links.specs.Noting.{noted, with_entry}
use Rattle.recorded_links.specs.Steps.{OwnStep, Seen, TakesOwn, own_full, own_refused, own_taken}
use Rattle.recorded_links.proofs.NoteLaws.{turn_added, turn_quiet}
use Rattle.recorded_links.specs.Giving.{MayFollow}
use Rattle.recorded_links.specs.Lending.{Keeps, Lent}
use Rattle.recorded_links.proofs.GivenLaws.{may_still}
use Rattle.recorded_links.proofs.JournalLaws.{keeps_added, keeps_lost, keeps_same}

abbrev pub broken_at : ℕ → ℕ → Turn
broken_at secs link = record { secs = secs; what = Broken link }

-- a record that may come next
spelled : (old : Seen) (sends : List Summary) (secs link : ℕ) → old.kept.has_record ≡ true
    → IsRecord (entry_of sends (broken_at secs link) [])
    → Spells (not old.kept.has_record) (entry_of sends (broken_at secs link) [])
    (record_bytes (entry_of sends (broken_at secs link) []))
spelled old sends secs link begun allowed =
    record { allowed = allowed; order = sym (ap not begun); text = refl }

-- it was handed out
own_asked : (lent : Lent) (calls calls' : List Entry) (old new : Seen) (wants : List Want) (buf : List ℕ) (turn : Turn)
    (secs link : ℕ) (spent : Bool)
    → Keeps lent (MayFollow (Some secs) old.first old.inner) calls old.kept old.sends old.spent
    → calls' ≡ calls ++ next_entries wants buf turn
    → (takes : TakesOwn old new (broken_at secs link) turn) → turn ≡ broken_at secs link
    → Keeps lent (MayFollow (Some secs) old.first new.inner) calls' new.kept new.sends spent
own_asked lent calls calls' old new wants buf turn secs link spent keeps log takes same =
    let also : is_recorded turn.what ≡ true = ap (λ (turn : Turn). is_recorded turn.what) same in
    let sends_are : (noted calls).sends ≡ old.sends = keeps.sends_are in
    let entry_is : entry_of old.sends (broken_at secs link) [] ≡ entry_of (noted calls).sends (broken_at secs link) [] =
    ap (λ (sends : List Summary). entry_of sends (broken_at secs link) []) (sym sends_are) in
    let turn_is : entry_of (noted calls).sends turn (piece_of turn.what buf)
    ≡ entry_of (noted calls).sends (broken_at secs link) [] =
    ap (λ (turn : Turn). entry_of (noted calls).sends turn (piece_of turn.what buf)) same in
    let entry : TurnRecord = entry_of (noted calls).sends (broken_at secs link) [] in
    let added : AddsRecord (record_bytes entry) true old.kept new.kept =
    subst (λ (flag : Bool). AddsRecord (record_bytes entry) flag old.kept new.kept) also
    (subst (λ (entry : TurnRecord). AddsRecord (record_bytes entry) (is_recorded turn.what) old.kept new.kept) entry_is
    takes.records) in
    keeps_added lent (MayFollow (Some secs) old.first old.inner)
    (MayFollow (Some secs) old.first new.inner) calls calls' old.kept new.kept old.sends new.sends old.spent spent entry
    (record_bytes entry) keeps
    takes.ready.unspent
    (spelled old (noted calls).sends secs link takes.ready.begun (subst IsRecord entry_is takes.allowed)) added
    (turn_added calls calls' wants buf turn log also
    ∙ ap (λ (entry : TurnRecord). with_entry entry (noted calls)) turn_is) (takes.cleared also)

pub own_handed : (lent : Lent) (calls calls' : List Entry) (old new : Seen) (wants : List Want) (buf : List ℕ)
    (turn : Turn) (secs link : ℕ) (spent : Bool)
    → Keeps lent (MayFollow (Some secs) old.first old.inner) calls old.kept old.sends old.spent
    → calls' ≡ calls ++ next_entries wants buf turn
    → OwnStep old new (broken_at secs link) turn → is_recorded turn.what ≡ true
    → Keeps lent (MayFollow (Some secs) old.first new.inner) calls' new.kept new.sends spent
own_handed lent calls calls' old new wants buf turn secs link spent keeps log (own_refused why memory rests) recorded =
    absurd (cc (ap is_recorded memory, recorded))
own_handed lent calls calls' old new wants buf turn secs link spent keeps log (own_full ready full stopped rests)
    recorded =
    absurd (cc (ap (λ (turn : Turn). is_recorded turn.what) stopped, recorded))
own_handed lent calls calls' old new wants buf turn secs link spent keeps log (own_taken takes) recorded =
    by_way takes.hands
  where
    by_way : (turn ≡ broken_at secs link) ⊎ ((turn.what ≡ Failed) ⊎ (turn.what ≡ Memory))
        → Keeps lent (MayFollow (Some secs) old.first new.inner) calls' new.kept new.sends spent
    by_way (inl same) = own_asked lent calls calls' old new wants buf turn secs link spent keeps log takes same
    by_way (inr (inl failed)) = absurd (cc (ap is_recorded failed, recorded))
    by_way (inr (inr memory)) = absurd (cc (ap is_recorded memory, recorded))

pub keeps_own : (lent : Lent) (calls calls' : List Entry) (old new : Seen) (wants : List Want) (buf : List ℕ)
    (turn : Turn) (secs link : ℕ)
    → Keeps lent (MayFollow (Some secs) old.first old.inner) calls old.kept old.sends old.spent
    → calls' ≡ calls ++ next_entries wants buf turn
    → OwnStep old new (broken_at secs link) turn → (turn.what ≡ Memory → new.spent ≡ true)
    → Keeps lent (MayFollow (Some secs) old.first new.inner) calls' new.kept new.sends new.spent
keeps_own lent calls calls' old new wants buf turn secs link keeps log (own_refused why memory rests) spends =
    let same = turn_quiet calls calls' wants buf turn log (ap is_recorded memory) in
    keeps_same lent (MayFollow (Some secs) old.first old.inner)
    (MayFollow (Some secs) old.first new.inner) calls calls' old.kept new.kept old.sends new.sends old.spent
    new.spent keeps
    (ap (λ so_far. so_far.records) same) (ap (λ so_far. so_far.sends) same ∙ keeps.sends_are ∙ sym rests.sends)
    rests.kept (λ was. spends memory) (λ was. may_still (Some secs) old.first old.inner new.inner rests.inner)
keeps_own lent calls calls' old new wants buf turn secs link keeps log (own_full ready full stopped rests) spends =
    let same = turn_quiet calls calls' wants buf turn log (ap (λ (turn : Turn). is_recorded turn.what) stopped) in
    keeps_same lent (MayFollow (Some secs) old.first old.inner)
    (MayFollow (Some secs) old.first new.inner) calls calls' old.kept new.kept old.sends new.sends old.spent
    new.spent keeps
    (ap (λ so_far. so_far.records) same) (ap (λ so_far. so_far.sends) same ∙ keeps.sends_are ∙ sym rests.sends)
    rests.kept (λ was. absurd (cc (ready.unspent, was))) (λ was. absurd (cc (ready.unspent, was)))
keeps_own lent calls calls' old new wants buf turn secs link keeps log (own_taken takes) spends = by_way takes.hands
  where
    lost : is_recorded turn.what ≡ false → new.spent ≡ true
        → Keeps lent (MayFollow (Some secs) old.first new.inner) calls' new.kept new.sends new.spent
    lost unrecorded spent_is =
        keeps_lost lent (MayFollow (Some secs) old.first old.inner)
        (MayFollow (Some secs) old.first new.inner) calls calls' old.kept new.kept old.sends new.sends old.spent
        new.spent (is_recorded turn.what)
        (entry_of old.sends (broken_at secs link) []) (record_bytes (entry_of old.sends (broken_at secs link) [])) keeps
        takes.ready.unspent
        (spelled old old.sends secs link takes.ready.begun takes.allowed) takes.records
        (turn_quiet calls calls' wants buf turn log unrecorded) (takes.uncleared unrecorded) spent_is (inr (link, refl))

    by_way : (turn ≡ broken_at secs link) ⊎ ((turn.what ≡ Failed) ⊎ (turn.what ≡ Memory))
        → Keeps lent (MayFollow (Some secs) old.first new.inner) calls' new.kept new.sends new.spent
    by_way (inl same) = own_asked lent calls calls' old new wants buf turn secs link new.spent keeps log takes same
    by_way (inr (inl failed)) = lost (ap is_recorded failed) (takes.spent (ap is_failed_turn failed))
    by_way (inr (inr memory)) = lost (ap is_recorded memory) (spends memory)
