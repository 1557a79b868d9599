-- What a crash leaves of a run that was recorded.
use Rattle.std.proofs.Common.{◌≡◌, ◌⊎◌, inl, inr, ℕ, List, [], ◌∷◌, ◌++◌, refl, sym, ◌∙◌, ap, subst, append-nil}
use Rattle.std.proofs.Common.{append_assoc, arith}
use Rattle.disk_port.specs.Past.{Leaves, LeavesOnly, Past}
use Rattle.disk_port.proofs.PastLaws.{begins, then_more, weaker}
use Rattle.journal_format.specs.Journals.{Holds, Journal}
use Rattle.journal_format.specs.declared.turn_record.TurnRecord.{TurnRecord}
use Rattle.recorded_links.specs.Laws.{AreAll, AreFirst, HoldsMore}
use Rattle.recorded_links.specs.Recording.{AreRecorded, IsBegun, AreKept, none_yet, one_more, with_records}
use Rattle.recorded_links.proofs.JournalLaws.{with_more, with_none}
use Rattle.turn_journal.specs.Standing.{HoldsOrWith}

-- these are the first of the turns
abbrev IsFront : List TurnRecord → List TurnRecord → Type 0
IsFront turns entries = (rest : List TurnRecord) × (entries ++ rest ≡ turns)

-- the journal with the turns before, or with the one more
one_or_both : (journal : Journal) (before : List TurnRecord) (entry : TurnRecord) (P : List TurnRecord → Type 0)
    → P before → P (before ++ entry ∷ []) → (image : List ℕ) → HoldsOrWith (with_records journal before) entry image
    → HoldsMore journal P image
one_or_both journal before entry P one both image (inl holds) = (before, holds, one)
one_or_both journal before entry P one both image (inr holds) = (
  before ++ entry ∷ [],
  subst (λ (journal : Journal). Holds journal image) (with_more journal before entry) holds,
  both,
)

turns_left : (journal : Journal) (start : Past) (turns : List TurnRecord) (now : Past)
    → ((image : List ℕ) → Leaves start image → Holds journal image) → AreKept journal start turns now
    → LeavesOnly start now (HoldsMore journal (IsFront turns))
turns_left journal start turns now held (none_yet none same) =
    subst (λ (past : Past). LeavesOnly start past (HoldsMore journal (IsFront turns))) (sym same)
    (begins start (HoldsMore journal (IsFront turns))
    (λ image leaves. (
      [],
      subst (λ (journal : Journal). Holds journal image) (with_none journal) (held image leaves),
      (turns, refl),
    )))
turns_left journal start turns now held (one_more before entry past keeps turns_are kept) =
    then_more start past now (HoldsMore journal (IsFront turns))
    (weaker start past (HoldsMore journal (IsFront before)) (HoldsMore journal (IsFront turns)) longer
    (turns_left journal start before past held keeps))
    (weaker past now (HoldsOrWith (with_records journal before) entry) (HoldsMore journal (IsFront turns))
    (one_or_both journal before entry (IsFront turns) (entry ∷ [], sym turns_are)
    ([], append-nil (before ++ entry ∷ []) ∙ sym turns_are)) kept.until)
  where
    longer : (image : List ℕ) → HoldsMore journal (IsFront before) image → HoldsMore journal (IsFront turns) image
    longer image (entries, holds, (rest, are)) = (
      entries,
      holds,
      (
        rest ++ entry ∷ [],
        sym (append_assoc entries rest (entry ∷ [])) ∙ ap
            (λ (all : List TurnRecord). all ++ entry ∷ []) are ∙ sym turns_are,
      ),
    )

pub leaves_first : (journal : Journal) (start now : Past) (turns : List TurnRecord)
    (next : TurnRecord → Type 0)
    → ((image : List ℕ) → Leaves start image → Holds journal image) → AreRecorded journal start turns next now
    → LeavesOnly start now (HoldsMore journal (AreFirst turns next))
leaves_first journal start now turns next held recorded = by_last recorded.last
  where
    front : LeavesOnly start recorded.past (HoldsMore journal (AreFirst turns next))
    front =
        weaker start recorded.past (HoldsMore journal (IsFront turns))
        (HoldsMore journal (AreFirst turns next)) (λ image more. (more.0, more.1, inl more.2))
        (turns_left journal start turns recorded.past held recorded.kept)

    by_last : (now ≡ recorded.past) ⊎ IsBegun (with_records journal turns) next recorded.past now
        → LeavesOnly start now (HoldsMore journal (AreFirst turns next))
    by_last (inl same) =
        subst (λ (past : Past). LeavesOnly start past (HoldsMore journal (AreFirst turns next)))
        (sym same) front
    by_last (inr begun) =
        then_more start recorded.past now (HoldsMore journal (AreFirst turns next)) front
        (weaker recorded.past now (HoldsOrWith (with_records journal turns) begun.entry)
        (HoldsMore journal (AreFirst turns next))
        (one_or_both journal turns begun.entry (AreFirst turns next)
        (inl ([], append-nil turns)) (inr (begun.entry, begun.is, refl))) begun.leaves)

-- what a crash leaves once the last turn was handed out
turns_kept : (journal : Journal) (start : Past) (turns : List TurnRecord) (past : Past)
    → ((image : List ℕ) → Leaves start image → Holds journal image) → AreKept journal start turns past
    → (image : List ℕ) → Leaves past image
    → Holds (with_records journal turns) image
turns_kept journal start turns now held (none_yet none same) image leaves =
    subst (λ (journal : Journal). Holds journal image) (with_none journal ∙ ap (with_records journal) (sym none))
    (held image (subst (λ (past : Past). Leaves past image) same leaves))
turns_kept journal start turns now held (one_more before entry past keeps turns_are kept) image leaves =
    subst (λ (journal : Journal). Holds journal image)
    (with_more journal before entry ∙ ap (with_records journal) (sym turns_are)) (kept.since image leaves)

pub leaves_all : (journal : Journal) (start now : Past) (turns : List TurnRecord)
    (next : TurnRecord → Type 0)
    → ((image : List ℕ) → Leaves start image → Holds journal image) → AreRecorded journal start turns next now
    → (image : List ℕ) → Leaves now image
    → HoldsMore journal (AreAll turns next) image
leaves_all journal start now turns next held recorded image leaves = by_last recorded.last
  where
    by_last : (now ≡ recorded.past) ⊎ IsBegun (with_records journal turns) next recorded.past now
        → HoldsMore journal (AreAll turns next) image
    by_last (inl same) = (
      turns,
      turns_kept journal start turns recorded.past held recorded.kept image
          (subst (λ (past : Past). Leaves past image) same leaves),
      inl refl,
    )
    by_last (inr begun) =
        one_or_both journal turns begun.entry (AreAll turns next) (inl refl)
        (inr (begun.entry, begun.is, refl)) image (begun.leaves.each 0 (omega arith) image leaves)
