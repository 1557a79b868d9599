-- What is known of links and of a disk after a run over links that record.
use Rattle.std.proofs.Common.{◌≡◌, ◌≢◌, ℕ, ◌+◌, ◌-◌, ◌<◌, ◌≤◌, Bool, true, false, List, [], ◌++◌, Err, refl, sym, ◌∙◌, ap}
use Rattle.std.proofs.Common.{subst, arith}
use Rattle.std.proofs.Math.Logic.{∥∥₁_map}
use Rattle.std.specs.Prelude.{Result, Some, None}
use Rattle.disk_port.specs.Calls.{DiskReport}
use Rattle.disk_port.specs.Past.{Leaves, Past}
use Rattle.hub_run.specs.Runs.{AddsRun, RunReport, RunsQuietly}
use Rattle.hub_run.specs.conn_core.declared.hub.Hub.{Hub}
use Rattle.hub_run.specs.declared.fault.RunFault.{RunFault}
use Rattle.hub_run.specs.declared.fault.RunFault.TheVariants as run
use Rattle.hub_run.specs.declared.setup.Setup.{Setup}
use Rattle.journal_format.specs.Journals.{Holds, Journal}
use Rattle.journal_format.specs.declared.finder.Found.{Found}
use Rattle.journal_format.specs.declared.turn_record.TurnRecord.{TurnRecord}
use Rattle.journal_links.specs.Making.{resuming, unresumed}
use Rattle.journal_links.proofs.BlankLaws.{recorded_calls}
use Rattle.journal_run.specs.Recorded.{IsRecordedIn, RunsRecorded, run_result}
use Rattle.journal_run.specs.Resumed.{RunsResumed}
use Rattle.journal_run.specs.declared.fault.JournalRunFault.{JournalRunFault}
use Rattle.journal_run.specs.declared.fault.JournalRunFault.TheVariants.{Links, Disk}
use Rattle.list_laws.specs.Counts.{Rose}
use Rattle.ports.specs.Calls.{LinksReport}
use Rattle.ports.specs.declared.entry.Entry.{Entry}
use Rattle.recorded_links.specs.Noting.{noted}
use Rattle.recorded_links.specs.Lending.{Lent, Passed, disk_faults, traced_report}
use Rattle.recorded_links.specs.Making.{LeadsTo, recording, uncalled}
use Rattle.recorded_links.specs.Giving.{MayFollow}
use Rattle.recorded_links.specs.Recording.{AreRecorded}
use Rattle.recorded_links.proofs.CrashLaws.{leaves_all, leaves_first}
use Rattle.recorded_links.proofs.TraceLaws.{first_made, traces_made}
use Rattle.turn_journal.specs.Standing.{Stands, Told}

-- ---- what is lent is at last what a call left

pub at_last : {S R : Type 0} → (report : S → R) → (last new : S) → (P : R → Type 0) → last ≡ new → P (report new)
    → P (report last)
at_last report last new P same here = subst (λ value. P (report value)) (sym same) here

pub at_lasts : {S T Q R : Type 0} → (links : S → Q) → (disk : T → R) → (last new : S) → (last' new' : T)
    → (P : Q → R → Type 0) → last ≡ new → last' ≡ new' → P (links new) (disk new') → P (links last) (disk last')
at_lasts links disk last new last' new' P same same' here =
    subst (λ value. P (links value) (disk last')) (sym same)
    (subst (λ value. P (links new) (disk value)) (sym same') here)

-- ---- the calls of a run

-- the log of links that were not called yet is the run's calls
pub run_calls : (before calls : List Entry) (links links' : LinksReport) (failed failed' : Bool)
    (P : List Entry → Type 0) → before ≡ []
    → AddsRun (traced_report before links failed) (traced_report calls links' failed') P → P calls
run_calls before calls links links' failed failed' P fresh adds =
    let grew : calls ≡ before ++ adds.run = cc adds.grew.log in
    subst P (sym (grew ∙ ap (λ (log : List Entry). log ++ adds.run) fresh)) adds.holds

-- ---- the journal

stands_left : (journal : Journal) (start : Past) (gate : ℕ) (has : Bool) → Stands start gate has journal
    → (image : List ℕ) → Leaves start image → Holds journal image
stands_left journal start gate has stands image leaves =
    subst (Holds journal) (sym (stands.rests image leaves)) (gate, stands.holds)

pub recorded_in : (journal : Journal) (start : Past) (gate : ℕ) (has : Bool) (turns : List TurnRecord)
    (next : TurnRecord → Type 0) (now : Past)
    → Stands start gate has journal → AreRecorded journal start turns next now
    → IsRecordedIn journal start turns next now
recorded_in journal start gate has turns next now stands recorded =
    let left = stands_left journal start gate has stands in
    record {
      recorded = recorded;
      at_any_moment = leaves_first journal start now turns next left recorded;
      last = leaves_all journal start now turns next left recorded;
    }

-- ---- a run that resumes a journal with no records

-- these calls led to what the links and the disk report
abbrev Leads : Found → LinksReport → LinksReport → DiskReport → DiskReport → List Entry → Type 0
Leads found links links' disk disk' calls = LeadsTo recording (uncalled 0 found links disk) calls links' disk'

abbrev LeadsFrom : Found → LinksReport → LinksReport → DiskReport → DiskReport → List Entry → Type 0
LeadsFrom found links links' disk disk' calls = LeadsTo resuming (unresumed found [] links disk) calls links' disk'

recorded_so : (found : Found) (links links' : LinksReport) (disk disk' : DiskReport) (calls : List Entry)
    → LeadsFrom found links links' disk disk' calls → Leads found links links' disk disk' calls
recorded_so found links links' disk disk' calls all = record {
  now = (all.now).seen;
  made = (recorded_calls found links disk calls all.now all.made).made;
  inner = all.inner;
  past = all.past;
  faults = all.faults;
}

abbrev lent_so : Found → LinksReport → DiskReport → Lent
lent_so found links disk = record { links_name = 0; disk_name = 0; links = links; disk = disk; found = found }

records_in : (found : Found) (links links' : LinksReport) (disk disk' : DiskReport) (calls : List Entry)
    → Leads found links links' disk disk' calls → (journal : Journal) (start : Past) → disk.past ≡ Some start
    → Stands start found.gate found.has_record journal
    → Told disk'.past (IsRecordedIn journal start (noted calls).records (MayFollow None 0 links'))
records_in found links links' disk disk' calls all journal start told stands =
    let lent = lent_so found links disk in
    let traces = traces_made 0 lent calls all.now all.made in
    let kept = (traces.keeps).journal journal start told stands in
    let first = first_made 0 lent calls all.now all.made in
    let next : ℕ → LinksReport → Type 0 = λ n report.
    AreRecorded journal start (noted calls).records (MayFollow None n report) kept.now in (
      kept.now,
      sym all.past ∙ kept.reported,
      recorded_in journal start found.gate found.has_record (noted calls).records (MayFollow None 0 links') kept.now
          stands
          (subst (next 0) all.inner (subst (λ (n : ℕ). next n (all.now).inner) first kept.recorded)),
    )

passed_by : (found : Found) (links links' : LinksReport) (disk disk' : DiskReport) (calls : List Entry)
    → Leads found links links' disk disk' calls → Passed 0 links calls links'
passed_by found links links' disk disk' calls all =
    let lent = lent_so found links disk in
    let traces = traces_made 0 lent calls all.now all.made in
    subst (Passed 0 links calls) all.inner
    (subst (λ (n : ℕ). Passed n links calls (all.now).inner) (first_made 0 lent calls all.now all.made) traces.passed)

pub ran_recorded : (setup : Setup) (limit : ℕ) (found : Found) (records : List TurnRecord) (links links' : LinksReport)
    (disk disk' : DiskReport) (old new : RunReport) (result : Result Hub JournalRunFault) → records ≡ []
    → RunsResumed setup limit found records links links' disk disk' old new result
    → RunsRecorded setup limit found links links' disk disk' old new result
ran_recorded setup limit found records links links' disk disk' old new result none resumed =
    by_none (subst (λ (entries : List TurnRecord).
    RunsResumed setup limit found entries links links' disk disk' old new result) none resumed)
  where
    by_none : RunsResumed setup limit found [] links links' disk disk' old new result
        → RunsRecorded setup limit found links links' disk disk' old new result
    by_none ran =
        let no_less : 0 - 2 ≡ 0 = omega arith in
        let made = ∥∥₁_map ran.made (recorded_so found links links' disk disk' ran.calls) in record {
          calls = ran.calls;
          runs = subst (λ (n : ℕ). RunsQuietly setup limit n old new (run_result result) ran.calls) no_less ran.runs;
          made = made;
          passed = ∥∥₁_map made (passed_by found links links' disk disk' ran.calls);
          journal = λ journal start told stands.
              ∥∥₁_map made (λ (all : Leads found links links' disk disk' ran.calls).
              records_in found links links' disk disk' ran.calls all journal start told stands);
        }

-- ---- faults

-- if the hub's links did not fail, no call of the disk did
unfailed : (failed : Bool) (i i' : ℕ) → i ≤ i' → i' + disk_faults failed ≡ i + disk_faults false → failed ≡ false
unfailed false i i' risen same = refl
unfailed true i i' risen same = absurd (omega (arith, risen, same))

not_links : (ended : Result Hub RunFault) (failed : Bool) (ran : Result Hub JournalRunFault)
    → (ended ≡ Err run.Links → failed ≡ false → ran ≡ Err Links)
    → (ended ≡ Err run.Links → failed ≡ true → ran ≡ Err Disk) → ran ≢ Err Links → ran ≢ Err Disk
    → ended ≢ Err run.Links
not_links ended false ran links disk unlike unlike' = λ is. unlike (links is refl)
not_links ended true ran links disk unlike unlike' = λ is. unlike' (disk is refl)

-- the faults of the links, while no call of the disk failed
pub links_rose : (before failed : Bool) (i i' : ℕ) → before ≡ false → failed ≡ false
    → Rose (i + disk_faults before) (i' + disk_faults failed) → Rose i i'
links_rose false false i i' fresh quiet rose =
    λ below. let more : i + 0 < i' + 0 = rose (omega (arith, below)) in omega (arith, more)
links_rose true failed i i' fresh quiet rose = absurd (cc fresh)
links_rose false true i i' fresh quiet rose = absurd (cc quiet)

pub links_still : (before failed : Bool) (i i' : ℕ) (ended : Result Hub RunFault) (ran : Result Hub JournalRunFault)
    → before ≡ false → i ≤ i' → (ended ≡ Err run.Links → failed ≡ false → ran ≡ Err Links)
    → (ended ≡ Err run.Links → failed ≡ true → ran ≡ Err Disk)
    → (ended ≢ Err run.Links → i' + disk_faults failed ≡ i + disk_faults before) → ran ≢ Err Links → ran ≢ Err Disk
    → i' ≡ i
links_still before failed i i' ended ran fresh risen links disk quiet unlike unlike' =
    let still : i' + disk_faults failed ≡ i + disk_faults false =
    quiet (not_links ended failed ran links disk unlike unlike') ∙ ap (λ (flag : Bool). i + disk_faults flag) fresh in
    let none = unfailed failed i i' risen still in
    let same : i' + disk_faults false ≡ i + disk_faults false =
    subst (λ (flag : Bool). i' + disk_faults flag ≡ i + disk_faults false) none still in
    omega (arith, same)

-- the faults of the disk
pub disk_still : (before failed : Bool) (i i' d d' : ℕ) (ended : Result Hub RunFault) (ran : Result Hub JournalRunFault)
    → before ≡ false → i ≤ i' → (failed ≡ false → d' ≡ d) → (ended ≡ Err run.Links → failed ≡ true → ran ≡ Err Disk)
    → (ended ≢ Err run.Links → i' + disk_faults failed ≡ i + disk_faults before) → ran ≢ Err Disk → d' ≡ d
disk_still before false i i' d d' ended ran fresh risen quiet disk still unlike = quiet refl
disk_still before true i i' d d' ended ran fresh risen quiet disk still unlike =
    let same : i' + disk_faults true ≡ i + disk_faults false =
    still (λ is. unlike (disk is refl)) ∙ ap (λ (flag : Bool). i + disk_faults flag) fresh in
    absurd (omega (arith, risen, same))
