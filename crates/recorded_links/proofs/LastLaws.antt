-- What is on the disk when the lines and the replies of a turn go out.
use Rattle.std.proofs.Common.{◌≡◌, ℕ, false, List, [], ◌++◌, refl, sym, ap, subst, ◌∙◌}
use Rattle.std.specs.Prelude.{None}
use Rattle.journal_format.specs.Journals.{Journal}
use Rattle.journal_format.specs.declared.turn_record.TurnRecord.{TurnRecord}
use Rattle.ports.specs.declared.links.SendAnswer.{SendAnswer}
use Rattle.ports.specs.declared.links.SendAnswer.TheVariants as send
use Rattle.recorded_links.specs.Keeping.{Kept}
use Rattle.recorded_links.specs.Noting.{noted}
use Rattle.recorded_links.specs.Steps.{Seen}
use Rattle.recorded_links.proofs.NoteLaws.{close_noted, send_noted}
use Rattle.recorded_links.specs.Laws.{LastTurnIsKept}
use Rattle.recorded_links.specs.Lending.{Lent}
use Rattle.recorded_links.specs.Making.{Sends, handed_out, then_closed, then_sent}
use Rattle.recorded_links.specs.Recording.{with_records}
use Rattle.recorded_links.proofs.CallLaws.{keeps_handed}
use Rattle.recorded_links.proofs.TraceLaws.{traces_made}
use Rattle.turn_journal.specs.Standing.{Stands, Told}

-- ---- sends and closes

abbrev IsThere : Journal → List TurnRecord → Kept → Type 0
IsThere journal records kept = Told kept.past (λ past. Stands past kept.gate kept.has_record
    (with_records journal records))

still_there : (journal : Journal) (records records' : List TurnRecord) (kept kept' : Kept) → records' ≡ records
    → kept' ≡ kept
    → IsThere journal records kept → IsThere journal records' kept'
still_there journal records records' kept kept' records_are kept_is there =
    subst (λ (entries : List TurnRecord). IsThere journal entries kept') (sym records_are)
    (subst (IsThere journal records) (sym kept_is) there)

send_kept : (old new : Seen) (link : ℕ) (bytes : List ℕ) (answer : SendAnswer) → Sends old new link bytes answer
    → new.kept ≡ old.kept
send_kept old new link bytes answer step = by_answer answer refl
  where
    by_answer : (asked : SendAnswer) → answer ≡ asked → new.kept ≡ old.kept
    by_answer (send.Took count) is = (step.0 (λ memory. absurd (cc (is, memory)))).kept
    by_answer send.Later is = (step.0 (λ memory. absurd (cc (is, memory)))).kept
    by_answer send.Failed is = (step.0 (λ memory. absurd (cc (is, memory)))).kept
    by_answer send.Memory is = (step.1 is).kept

pub last_kept : LastTurnIsKept
last_kept first found links disk calls now journal start (handed_out before old wants buf turn all step recorded log)
    told stands =
    let lent : Lent = record { links_name = 0; disk_name = 0; links = links; disk = disk; found = found } in
    let keeps =
    keeps_handed lent None before calls old now wants buf turn false (traces_made first lent before old all).keeps log
    step recorded in
    let here = keeps.journal journal start told stands in
    (here.now, here.reported, here.stands refl)
last_kept first found links disk calls now journal start (then_sent before old link bytes answer since step log) told
    stands =
    still_there journal (noted before).records (noted calls).records old.kept now.kept
    (ap (λ so_far. so_far.records) (send_noted before calls link bytes answer log))
    (send_kept old now link bytes answer step)
    (last_kept first found links disk before old journal start since told stands)
last_kept first found links disk calls now journal start (then_closed before old link since step log) told stands =
    still_there journal (noted before).records (noted calls).records old.kept now.kept
    (ap (λ so_far. so_far.records) (close_noted before calls link log)) step.kept
    (last_kept first found links disk before old journal start since told stands)
