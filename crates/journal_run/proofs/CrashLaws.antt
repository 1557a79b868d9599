-- Journals that are loaded after crashes.
use Rattle.std.proofs.Common.{◌≡◌, ℕ, List, ◌++◌, refl, ap, ◌∙◌, append_assoc}
use Rattle.disk_port.specs.Past.{LeavesOnly, Past}
use Rattle.journal_format.specs.Journals.{Journal}
use Rattle.journal_format.specs.Laws.{JournalsAreOne}
use Rattle.journal_format.specs.declared.turn_record.TurnRecord.{TurnRecord}
use Rattle.recorded_links.specs.Giving.{MayFollow}
use Rattle.recorded_links.specs.Laws.{AreAll, AreFirst, HoldsMore}
use Rattle.recorded_links.specs.Recording.{with_records}
use Rattle.journal_run.specs.Crashes.{AreAfter, CrashesAreLoaded, LoadsMore}

abbrev journal_of : List ℕ → List TurnRecord → Journal
journal_of config records = record { config = config; records = records }

-- a file holds one journal
loads_more : JournalsAreOne → (journal : Journal) (P : List TurnRecord → Type 0) (file : List ℕ)
    → HoldsMore journal P file → LoadsMore journal P file
loads_more one journal P file holds loaded held =
    let here = holds.1 in
    let same = one loaded (with_records journal holds.0) held.0 here.0 file held.1 here.1 in
    (holds.0, same.0, holds.2)

leaves_weaken : (P Q : List ℕ → Type 0) → ((image : List ℕ) → P image → Q image) → (old new : Past)
    → LeavesOnly old new P → LeavesOnly old new Q
leaves_weaken P Q f old new leaves = record {
  steps = leaves.steps;
  began = leaves.began;
  each = λ count few image left. f image (leaves.each count few image left);
}

-- it is the other journal with these records more
loads_after : (journal loaded : Journal) (entries : List TurnRecord) (P : List TurnRecord → Type 0) (file : List ℕ)
    → loaded ≡ with_records journal entries → LoadsMore loaded P file → LoadsMore journal (AreAfter entries P) file
loads_after journal loaded entries P file same loads other held =
    let found = loads other held in
    let is =
    found.1 ∙ ap (λ (j : Journal). with_records j found.0) same
    ∙ ap (journal_of journal.config) (append_assoc journal.records entries found.0) in
    (entries ++ found.0, is, (found.0, refl, found.2))

pub crashes_loaded : JournalsAreOne → CrashesAreLoaded
crashes_loaded one = record {
  at_any_moment = λ journal loaded entries start now turns breaks first links same recorded.
      leaves_weaken (HoldsMore loaded (AreFirst turns (MayFollow breaks first links)))
      (LoadsMore journal (AreAfter entries (AreFirst turns (MayFollow breaks first links))))
      (λ image holds. loads_after journal loaded entries (AreFirst turns (MayFollow breaks first links)) image same
      (loads_more one loaded (AreFirst turns (MayFollow breaks first links)) image holds))
      start now recorded.at_any_moment;
  last = λ journal loaded entries start now turns breaks first links same recorded image leaves.
      loads_after journal loaded entries (AreAll turns (MayFollow breaks first links)) image same
      (loads_more one loaded (AreAll turns (MayFollow breaks first links)) image (recorded.last image leaves));
}
