-- What is recorded in a journal by one call more.
use Rattle.std.proofs.Common.{◌≡◌, ◌⊎◌, inl, inr, ℕ, Bool, true, false, not, List, [], ◌∷◌, ◌++◌, refl, sym, ◌∙◌, ap}
use Rattle.std.proofs.Common.{subst, append-nil, append_assoc}
use Rattle.std.specs.Prelude.{Some}
use Rattle.std.proofs.lemmas.Option.{same_Some}
use Rattle.disk_port.specs.Past.{LeavesOnly, Past}
use Rattle.journal_format.specs.Journals.{HoldsAt, Journal, with_record}
use Rattle.journal_format.specs.Spelling.{Spells}
use Rattle.journal_format.specs.declared.turn_record.Summary.{Summary}
use Rattle.journal_format.specs.declared.turn_record.TurnRecord.{TurnRecord}
use Rattle.ports.specs.declared.entry.Entry.{Entry}
use Rattle.recorded_links.specs.Keeping.{AddsRecord, Kept, kept_of}
use Rattle.recorded_links.specs.Lending.{Keeps, KeepsJournal, Lent}
use Rattle.recorded_links.specs.Noting.{noted, with_entry}
use Rattle.recorded_links.specs.Recording.{IsBegun, AreKept, none_yet, one_more, with_records}
use Rattle.turn_journal.specs.Standing.{Adds, HoldsOrWith, Stands, Told}

-- a journal with no record more, and with one more
pub with_none : (journal : Journal) → journal ≡ with_records journal []
with_none journal =
    let remade : List TurnRecord → Journal = λ entries. record { config = journal.config; records = entries } in
    ap remade (sym (append-nil journal.records))

pub with_more : (journal : Journal) (entries : List TurnRecord) (entry : TurnRecord)
    → with_record (with_records journal entries) entry ≡ with_records journal (entries ++ entry ∷ [])
with_more journal entries entry =
    let remade : List TurnRecord → Journal = λ entries. record { config = journal.config; records = entries } in
    ap remade (append_assoc journal.records entries (entry ∷ []))

-- ---- before the first call

pub keeps_begun : (lent : Lent) (next : TurnRecord → Type 0) (kept : Kept) (sends : List Summary) (spent : Bool)
    → kept ≡ kept_of lent.disk.past lent.found.gate lent.found.has_record → sends ≡ []
    → Keeps lent next [] kept sends spent
keeps_begun lent next kept sends spent kept_is unsent = record { sends_are = sym unsent; journal = begun }
  where
    begun : (journal : Journal) (start : Past) → lent.disk.past ≡ Some start
        → Stands start lent.found.gate lent.found.has_record journal → KeepsJournal journal start next [] kept spent
    begun journal start reported stands =
        subst (λ (kept : Kept). KeepsJournal journal start next [] kept spent) (sym kept_is) (record {
          now = start;
          reported = reported;
          recorded = record { past = start; kept = none_yet refl refl; last = inl refl };
          unbegun = λ unspent. refl;
          stands = λ unspent. subst (Stands start lent.found.gate lent.found.has_record) (with_none journal) stands;
        })

-- ---- a call that records nothing

unspent_before : (spent spent' : Bool) → (spent ≡ true → spent' ≡ true) → spent' ≡ false → spent ≡ false
unspent_before true spent' stays unspent = absurd (cc (stays refl, unspent))
unspent_before false spent' stays unspent = refl

pub keeps_same : (lent : Lent) (next next' : TurnRecord → Type 0) (calls calls' : List Entry) (kept kept' : Kept)
    (sends sends' : List Summary)
    (spent spent' : Bool) → Keeps lent next calls kept sends spent
    → (noted calls').records ≡ (noted calls).records → (noted calls').sends ≡ sends' → kept' ≡ kept
    → (spent ≡ true → spent' ≡ true)
    → (spent ≡ true → (entry : TurnRecord) → next entry → next' entry) → Keeps lent next' calls' kept' sends' spent'
keeps_same lent next next' calls calls' kept kept' sends sends' spent spent' keeps records_are sends_are kept_is stays
    follows =
    record { sends_are = sends_are; journal = same }
  where
    last_same : (journal : Journal) (start : Past) (before : KeepsJournal journal start next calls kept spent)
        (flag : Bool) → spent ≡ flag
        → (before.now ≡ before.recorded.past)
        ⊎ IsBegun (with_records journal (noted calls).records) next before.recorded.past before.now
        → (before.now ≡ before.recorded.past)
        ⊎ IsBegun (with_records journal (noted calls).records) next' before.recorded.past before.now
    last_same journal start before false unspent last = inl (before.unbegun unspent)
    last_same journal start before true is (inl same) = inl same
    last_same journal start before true is (inr begun) = inr (record {
      entry = begun.entry;
      allowed = begun.allowed;
      is = follows is begun.entry begun.is;
      leaves = begun.leaves;
    })

    same : (journal : Journal) (start : Past) → lent.disk.past ≡ Some start
        → Stands start lent.found.gate lent.found.has_record journal
        → KeepsJournal journal start next' calls' kept' spent'
    same journal start reported stands =
        let before = keeps.journal journal start reported stands in
        subst (λ (kept : Kept). KeepsJournal journal start next' calls' kept spent') (sym kept_is) (record {
          now = before.now;
          reported = before.reported;
          recorded = record {
            past = before.recorded.past;
            kept = subst (λ (entries : List TurnRecord). AreKept journal start entries before.recorded.past)
                (sym records_are) before.recorded.kept;
            last =
                subst (λ (entries : List TurnRecord). (before.now ≡ before.recorded.past)
                ⊎ IsBegun (with_records journal entries) next' before.recorded.past before.now)
                (sym records_are) (last_same journal start before spent refl before.recorded.last);
          };
          unbegun = λ unspent. before.unbegun (unspent_before spent spent' stays unspent);
          stands =
              λ unspent. subst (λ (entries : List TurnRecord). Stands before.now kept.gate kept.has_record
              (with_records journal entries)) (sym records_are)
              (before.stands (unspent_before spent spent' stays unspent));
        })

-- ---- a call whose record was added

-- of the journal that stands there
abbrev next_adds : (journal : Journal) (start : Past) (next : TurnRecord → Type 0) (calls : List Entry) (kept : Kept)
    (spent : Bool)
    (entry : TurnRecord) (bytes : List ℕ) → KeepsJournal journal start next calls kept spent → spent ≡ false
    → Spells (not kept.has_record) entry bytes → Adds kept.past kept.gate kept.has_record bytes
next_adds journal start next calls kept spent entry bytes before unspent spells = record {
  past = before.now;
  journal = with_records journal (noted calls).records;
  entry = entry;
  is_told = before.reported;
  stands = before.stands unspent;
  spells = spells;
}

pub keeps_added : (lent : Lent) (next next' : TurnRecord → Type 0) (calls calls' : List Entry) (kept kept' : Kept)
    (sends sends' : List Summary)
    (spent spent' : Bool) (entry : TurnRecord) (bytes : List ℕ) → Keeps lent next calls kept sends spent → spent ≡ false
    → Spells (not kept.has_record) entry bytes → AddsRecord bytes true kept kept'
    → noted calls' ≡ with_entry entry (noted calls) → sends' ≡ [] → Keeps lent next' calls' kept' sends' spent'
keeps_added lent next next' calls calls' kept kept' sends sends' spent spent' entry bytes keeps unspent spells
    added noted_is
    cleared =
    record { sends_are = ap (λ so_far. so_far.sends) noted_is ∙ sym cleared; journal = more }
  where
    more_records : (noted calls').records ≡ (noted calls).records ++ entry ∷ []
    more_records = ap (λ so_far. so_far.records) noted_is

    more : (journal : Journal) (start : Past) → lent.disk.past ≡ Some start
        → Stands start lent.found.gate lent.found.has_record journal
        → KeepsJournal journal start next' calls' kept' spent'
    more journal start reported stands =
        let before = keeps.journal journal start reported stands in
        let standing : Journal = with_records journal (noted calls).records in
        let adds = next_adds journal start next calls kept spent entry bytes before unspent spells in
        let moment : Told kept'.past (λ now. LeavesOnly before.now now (HoldsOrWith standing entry)) =
        added.any_moment adds in
        let after : Told kept'.past (λ now. Stands now kept'.gate kept'.has_record (with_record standing entry)) =
        added.stands refl adds in
        let same : moment.0 ≡ after.0 = same_Some moment.0 after.0 (sym moment.1 ∙ after.1) in
        record {
          now = after.0;
          reported = after.1;
          recorded = record {
            past = after.0;
            kept =
                one_more (noted calls).records entry before.recorded.past before.recorded.kept more_records (record {
                  until =
                      subst (λ (past : Past). LeavesOnly past after.0 (HoldsOrWith standing entry))
                      (before.unbegun unspent)
                      (subst (λ (now : Past). LeavesOnly before.now now (HoldsOrWith standing entry)) same moment.2);
                  since =
                      λ image leaves. (
                        kept'.gate,
                        subst (HoldsAt (with_record standing entry) kept'.gate)
                            (sym (after.2.rests image leaves)) after.2.holds,
                      );
                });
            last = inl refl;
          };
          unbegun = λ unspent. refl;
          stands =
              λ unspent. subst (Stands after.0 kept'.gate kept'.has_record)
              (with_more journal (noted calls).records entry ∙ ap (with_records journal) (sym more_records)) after.2;
        }

-- ---- a call whose record was begun, and whose answer was lost

pub keeps_lost : (lent : Lent) (next next' : TurnRecord → Type 0) (calls calls' : List Entry) (kept kept' : Kept)
    (sends sends' : List Summary)
    (spent spent' added : Bool) (entry : TurnRecord) (bytes : List ℕ) → Keeps lent next calls kept sends spent
    → spent ≡ false
    → Spells (not kept.has_record) entry bytes → AddsRecord bytes added kept kept' → noted calls' ≡ noted calls
    → sends' ≡ sends → spent' ≡ true → next' entry → Keeps lent next' calls' kept' sends' spent'
keeps_lost lent next next' calls calls' kept kept' sends sends' spent spent' added entry bytes keeps unspent spells
    adding noted_is
    uncleared spends may =
    record { sends_are = ap (λ so_far. so_far.sends) noted_is ∙ keeps.sends_are ∙ sym uncleared; journal = begun }
  where
    same_records : (noted calls).records ≡ (noted calls').records
    same_records = ap (λ so_far. so_far.records) (sym noted_is)

    begun : (journal : Journal) (start : Past) → lent.disk.past ≡ Some start
        → Stands start lent.found.gate lent.found.has_record journal
        → KeepsJournal journal start next' calls' kept' spent'
    begun journal start reported stands =
        let before = keeps.journal journal start reported stands in
        let standing : Journal = with_records journal (noted calls).records in
        let adds = next_adds journal start next calls kept spent entry bytes before unspent spells in
        let moment : Told kept'.past (λ now. LeavesOnly before.now now (HoldsOrWith standing entry)) =
        adding.any_moment adds in
        record {
          now = moment.0;
          reported = moment.1;
          recorded = record {
            past = before.recorded.past;
            kept = subst (λ (entries : List TurnRecord). AreKept journal start entries before.recorded.past)
                same_records before.recorded.kept;
            last =
                inr (subst (λ (entries : List TurnRecord). IsBegun
                (with_records journal entries) next' before.recorded.past moment.0) same_records (record {
                  entry = entry;
                  allowed = spells.allowed;
                  is = may;
                  leaves =
                      subst (λ (past : Past). LeavesOnly past moment.0 (HoldsOrWith standing entry))
                      (before.unbegun unspent) moment.2;
                }));
          };
          unbegun = λ unspent. absurd (cc (spends, unspent));
          stands = λ unspent. absurd (cc (spends, unspent));
        }
