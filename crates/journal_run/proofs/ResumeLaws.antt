-- What is known of links and of a disk after a run over links that resume one.
use Rattle.std.proofs.Common.{◌≡◌, ℕ, ◌-◌, List, [], length, Err, inl, refl, sym, ◌∙◌, subst}
use Rattle.std.proofs.Math.Logic.{∥∥₁_map}
use Rattle.std.proofs.lemmas.Grind.{merely}
use Rattle.std.specs.Prelude.{Result}
use Rattle.disk_port.specs.Calls.{DiskReport}
use Rattle.disk_port.specs.Past.{synced}
use Rattle.hub_run.specs.Runs.{RunReport, RunsQuietly}
use Rattle.hub_run.specs.conn_core.declared.hub.Hub.{Hub}
use Rattle.hub_run.specs.declared.setup.Setup.{Setup}
use Rattle.journal_format.specs.declared.finder.Found.{Found}
use Rattle.journal_format.specs.declared.turn_record.TurnRecord.{TurnRecord}
use Rattle.journal_links.specs.Steps.{Progress}
use Rattle.journal_run.specs.Recorded.{run_result}
use Rattle.journal_run.specs.Resumed.{IsResumedIn, ResumesIn, RunsResumed}
use Rattle.journal_run.specs.declared.fault.JournalRunFault.{JournalRunFault}
use Rattle.journal_run.specs.declared.fault.JournalRunFault.TheVariants.{Memory}
use Rattle.journal_run.proofs.RunLaws.{recorded_in}
use Rattle.ports.specs.Calls.{LinksReport}
use Rattle.ports.specs.declared.entry.Entry.{Entry}
use Rattle.recorded_links.specs.Steps.{Seen}
use Rattle.recorded_links.specs.Making.{LeadsTo, none_yet}
use Rattle.journal_links.specs.Asking.{AsksOf}
use Rattle.journal_links.specs.Lending.{LentJournal}
use Rattle.journal_links.specs.Making.{Made, State, resuming, unresumed}
use Rattle.journal_links.specs.Recording.{MayResume, later_records}
use Rattle.journal_links.proofs.LastLaws.{calls_passed, turns_recorded}

-- the state of links of which this is seen
abbrev pub state_at : Seen → Progress → State
state_at seen progress = record { seen = seen; progress = progress }

-- ---- what follows from the calls

-- these calls led to what the links and the disk report
abbrev Leads : Found → List TurnRecord → LinksReport → LinksReport → DiskReport → DiskReport → List Entry → Type 0
Leads found records links links' disk disk' calls =
    LeadsTo resuming (unresumed found records links disk) calls links' disk'

resumed_in : (found : Found) (records : List TurnRecord) (links links' : LinksReport) (disk disk' : DiskReport)
    (calls : List Entry) → ∥ Leads found records links links' disk disk' calls ∥₁
    → ResumesIn found records links' disk disk' calls
resumed_in found records links links' disk disk' calls made = λ past config told resumes.
    ∥∥₁_map made (λ (all : Leads found records links links' disk disk' calls).
    let is = turns_recorded past config found records links disk calls all.now all.made told resumes in (
      is.0,
      sym all.past ∙ is.1,
      subst (λ (report : LinksReport). IsResumedIn resumes.journal (synced past) calls report is.0) all.inner
          (record {
            again = ((is.2).0).again;
            later =
                recorded_in resumes.journal (synced past) found.gate found.has_record
                (later_records resumes.journal calls) (MayResume resumes.journal.records all.now.seen.inner) is.0
                resumes.stands ((is.2).0).recorded;
          }),
    ))

asks_of : (found : Found) (records : List TurnRecord) (links links' : LinksReport) (disk disk' : DiskReport)
    (calls : List Entry) → ∥ Leads found records links links' disk disk' calls ∥₁
    → ∥ AsksOf records links links' calls ∥₁
asks_of found records links links' disk disk' calls made =
    ∥∥₁_map made (λ (all : Leads found records links links' disk disk' calls).
    subst (λ (report : LinksReport). AsksOf records links report calls) all.inner
    (calls_passed found records links disk calls all.now all.made))

ran : (setup : Setup) (limit quiet : ℕ) (found : Found) (records : List TurnRecord) (links links' : LinksReport)
    (disk disk' : DiskReport) (calls : List Entry) (old new : RunReport) (result : Result Hub JournalRunFault)
    → quiet ≡ length records - 2 → RunsQuietly setup limit quiet old new (run_result result) calls
    → ∥ Leads found records links links' disk disk' calls ∥₁
    → RunsResumed setup limit found records links links' disk disk' old new result
ran setup limit quiet found records links links' disk disk' calls old new result quiet_is runs made = record {
  calls = calls;
  runs = subst (λ (n : ℕ). RunsQuietly setup limit n old new (run_result result) calls) quiet_is runs;
  made = made;
  asked = asks_of found records links links' disk disk' calls made;
  journal = resumed_in found records links links' disk disk' calls made;
}

-- ---- the run

ran_lent : (setup : Setup) (limit quiet : ℕ) (lent : LentJournal) (calls : List Entry) (seen : Seen)
    (progress : Progress) (disk' : DiskReport) (old new : RunReport) (result : Result Hub JournalRunFault)
    → quiet ≡ length lent.records - 2
    → RunsQuietly setup limit quiet old new (run_result result) calls
    → seen.kept.past ≡ disk'.past → seen.faults ≡ disk'.faults
    → ∥ Made lent.lent.found lent.records lent.lent.links lent.lent.disk calls (state_at seen progress) ∥₁
    → RunsResumed setup limit lent.lent.found lent.records lent.lent.links seen.inner lent.lent.disk disk' old new
    result
ran_lent setup limit quiet lent calls seen progress disk' old new result quiet_is runs there faults made =
    ran setup limit quiet lent.lent.found lent.records lent.lent.links seen.inner lent.lent.disk disk' calls old new
    result quiet_is runs
    (∥∥₁_map made
    (λ (all : Made lent.lent.found lent.records lent.lent.links lent.lent.disk calls (state_at seen progress)).
    record { now = state_at seen progress; made = all; inner = refl; past = there; faults = faults }))

pub ran_resumed : (setup : Setup) (limit quiet : ℕ) (lent : LentJournal) (found : Found) (records : List TurnRecord)
    (links : LinksReport) (disk : DiskReport)
    (calls : List Entry) (seen : Seen) (progress : Progress) (disk' : DiskReport)
    (old new : RunReport) (result : Result Hub JournalRunFault)
    → lent.lent.found ≡ found → lent.records ≡ records → lent.lent.links ≡ links → lent.lent.disk ≡ disk
    → quiet ≡ length lent.records - 2
    → RunsQuietly setup limit quiet old new (run_result result) calls
    → seen.kept.past ≡ disk'.past → seen.faults ≡ disk'.faults
    → ∥ Made lent.lent.found lent.records lent.lent.links lent.lent.disk calls (state_at seen progress) ∥₁
    → RunsResumed setup limit found records links seen.inner disk disk' old new result
ran_resumed setup limit quiet lent found records links disk calls seen progress disk' old new result found_is
    records_are links_are disk_is quiet_is runs there faults made =
    subst (λ (end : Found). RunsResumed setup limit end records links seen.inner disk disk' old new result) found_is
    (subst
    (λ (entries : List TurnRecord).
    RunsResumed setup limit lent.lent.found entries links seen.inner disk disk' old new result)
    records_are
    (subst
    (λ (report : LinksReport).
    RunsResumed setup limit lent.lent.found lent.records report seen.inner disk disk' old new result)
    links_are
    (subst
    (λ (report : DiskReport).
    RunsResumed setup limit lent.lent.found lent.records lent.lent.links seen.inner report disk' old new result)
    disk_is
    (ran_lent setup limit quiet lent calls seen progress disk' old new result quiet_is runs there faults made))))

-- memory ran out before anything was done
pub nothing_resumed : (setup : Setup) (limit : ℕ) (found : Found) (records : List TurnRecord) (links : LinksReport)
    (disk : DiskReport) (report : RunReport)
    → RunsResumed setup limit found records links links disk disk report report (Err Memory)
nothing_resumed setup limit found records links disk report =
    ran setup limit (length records - 2) found records links links disk disk [] report report (Err Memory) refl
    (inl (record { is = refl; same = refl }))
    (merely (record {
      now = unresumed found records links disk;
      made = none_yet refl refl;
      inner = refl;
      past = refl;
      faults = refl;
    }))
