-- The calls of links that resume a journal, one more and before the first.
use Rattle.std.proofs.Common.{◌≡◌, ℕ, List, [], ◌++◌, ap, ◌∙◌}
use Rattle.std.proofs.Math.Logic.{∥∥₁_map}
use Rattle.disk_port.specs.Calls.{DiskReport}
use Rattle.journal_format.specs.declared.finder.Found.{Found}
use Rattle.journal_format.specs.declared.turn_record.Summary.{Summary}
use Rattle.journal_format.specs.declared.turn_record.TurnRecord.{TurnRecord}
use Rattle.journal_links.specs.Steps.{Progress, progress_of}
use Rattle.ports.specs.Calls.{LinksReport}
use Rattle.ports.specs.declared.entry.Entry.{Entry}
use Rattle.recorded_links.specs.Steps.{Seen}
use Rattle.recorded_links.specs.Making.{IsCall, none_yet, one_more, uncalled}
use Rattle.journal_links.specs.Opened.{first_free}
use Rattle.journal_links.specs.Making.{Made, State, resuming}
use Rattle.journal_links.specs.Replaying.{summaries_next}

-- one call more
pub made_more : (found : Found) (records : List TurnRecord) (links : LinksReport) (disk : DiskReport)
    (calls calls' made : List Entry) (old new : State) → ∥ Made found records links disk calls old ∥₁
    → IsCall resuming old new made
    → new.seen.first ≡ old.seen.first → calls' ≡ calls ++ made → ∥ Made found records links disk calls' new ∥₁
made_more found records links disk calls calls' made old new all call same log = ∥∥₁_map all
    (λ (before : Made found records links disk calls old). one_more calls made old before call same log)

-- before the first
pub given_none : (records records' : List TurnRecord) (given : ℕ) (left : List Summary) (opened : List ℕ)
    → records ≡ records' → given ≡ 0 → left ≡ summaries_next records' → opened ≡ []
    → progress_of records given left opened ≡ progress_of records' 0 (summaries_next records') []
given_none records records' given left opened records_are ungiven left_is unopened = cc

pub made_begun : (found : Found) (records : List TurnRecord) (links : LinksReport) (disk : DiskReport)
    (calls : List Entry) (now : Seen) (progress : Progress) → calls ≡ []
    → now ≡ uncalled (first_free records) found links disk
    → progress ≡ progress_of records 0 (summaries_next records) []
    → Made found records links disk calls (record { seen = now; progress = progress })
made_begun found records links disk calls now progress fresh now_is progress_is =
    none_yet fresh (ap (λ (seen : Seen). let state : State = record { seen = seen; progress = progress } in state)
    now_is
    ∙ ap (λ (progress : Progress). let state : State = record
    { seen = uncalled (first_free records) found links disk; progress = progress } in state) progress_is)
