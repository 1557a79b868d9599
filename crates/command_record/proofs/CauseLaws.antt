-- What failed, as the ending says.
use Rattle.std.proofs.Common.{◌≡◌, ◌≢◌, ℕ, List, Result, Ok, Err, refl, ap, sym, subst, arith}
use Rattle.command_setup.specs.Setups.{RefusesText}
use Rattle.command_setup.specs.command_io.Accepting.{RefusesSetup}
use Rattle.command_setup.specs.command_io.Endings.{IsDoneOrMemory}
use Rattle.command_setup.specs.command_io.declared.ending.Ending.{Ending}
use Rattle.command_setup.specs.command_io.declared.ending.Ending.TheVariants.{WriteFailed, LinksFailed}
use Rattle.command_setup.specs.hub_meaning.Verdicts.{PatternsReport}
use Rattle.command_setup.specs.conn_core.declared.hub.Hub.{Hub}
use Rattle.journal_run.specs.declared.fault.JournalRunFault.{JournalRunFault}
use Rattle.journal_run.specs.declared.fault.JournalRunFault.TheVariants as run
use Rattle.ports.specs.Counts.{IsStill, Rose}
use Rattle.ports.specs.Reading.{StoreReport}
use Rattle.turn_journal.specs.Loading.{HasFaultCause}
use Rattle.turn_journal.specs.declared.fault.JournalFault.{JournalFault}
use Rattle.turn_journal.specs.declared.fault.JournalFault.TheVariants as fault
use Rattle.command_record.specs.Endings.{ending_of_fault, ending_of_run, status_of}
use Rattle.command_record.specs.Running.{HasCauses}
use Rattle.command_record.specs.declared.ending.JournalEnding.{JournalEnding}
use Rattle.command_record.specs.declared.ending.JournalEnding.TheVariants.{Shared, DiskFailed}
use Rattle.command_record.proofs.EndingLaws.{run_of_disk, run_of_links, run_of_sink}

-- ---- nothing failed but what the ending says

-- where neither links nor output nor disk failed, and the ending says so of none
pub no_causes : (links out disk : ℕ) (ending : JournalEnding) → ending ≢ Shared LinksFailed
    → ending ≢ Shared WriteFailed → ending ≢ DiskFailed
    → HasCauses links links out out disk disk ending
no_causes links out disk ending linked written stored = record {
  links_failed = λ is. absurd (linked is);
  links_work = λ no none. refl;
  out_failed = λ is. absurd (written is);
  out_works = λ no. refl;
  disk_failed = λ is. absurd (stored is);
  disk_works = λ no. refl;
}

pub refused_causes : (name : List ℕ) (store store' : StoreReport) (patterns patterns' : PatternsReport)
    (shared : Ending) (links out disk : ℕ)
    → RefusesSetup name store store' patterns patterns' shared → HasCauses links links out out disk disk (Shared shared)
refused_causes name store store' patterns patterns' shared links out disk refuses =
    no_causes links out disk (Shared shared)
    (λ is.
    let e : shared ≡ LinksFailed = cc in absurd (subst (RefusesSetup name store store' patterns patterns') e refuses))
    (λ is.
    let e : shared ≡ WriteFailed = cc in absurd (subst (RefusesSetup name store store' patterns patterns') e refuses))
    (λ is. cc)

pub text_causes : (text : List ℕ) (patterns patterns' : PatternsReport) (shared : Ending) (links out disk : ℕ)
    → RefusesText text patterns patterns' shared → HasCauses links links out out disk disk (Shared shared)
text_causes text patterns patterns' shared links out disk refuses =
    no_causes links out disk (Shared shared)
    (λ is. let e : shared ≡ LinksFailed = cc in absurd (subst (RefusesText text patterns patterns') e refuses))
    (λ is. let e : shared ≡ WriteFailed = cc in absurd (subst (RefusesText text patterns patterns') e refuses))
    (λ is. cc)

-- ---- the disk

-- where the disk failed, and nothing else
disk_causes : (links out disk disk' : ℕ) → Rose disk disk' → HasCauses links links out out disk disk' DiskFailed
disk_causes links out disk disk' rose = record {
  links_failed = λ is. absurd (cc is);
  links_work = λ no none. refl;
  out_failed = λ is. absurd (cc is);
  out_works = λ no. refl;
  disk_failed = λ is. rose;
  disk_works = λ no. absurd (no refl);
}

-- where it did not
quiet_causes : (links out disk disk' : ℕ) (ending : JournalEnding) → disk' ≡ disk → ending ≢ Shared LinksFailed
    → ending ≢ Shared WriteFailed → ending ≢ DiskFailed
    → HasCauses links links out out disk disk' ending
quiet_causes links out disk disk' ending still linked written stored =
    subst (λ (n : ℕ). HasCauses links links out out disk n ending) (sym still)
    (no_causes links out disk ending linked written stored)

pub fault_causes : (T : Type 0) (links out disk disk' : ℕ) (why : JournalFault)
    → HasFaultCause {T = T} disk disk' (Err why) → HasCauses links links out out disk disk' (ending_of_fault why)
fault_causes T links out disk disk' fault.DiskFault cause = disk_causes links out disk disk' cause.risen
fault_causes T links out disk disk' _ cause =
    quiet_causes links out disk disk' _ cause (λ is. cc) (λ is. cc) (λ is. cc)

-- what failed since the disk had this count failed since it had an equal one
pub causes_since : (links links' out out' disk earlier disk' : ℕ) (ending : JournalEnding) → disk ≡ earlier
    → HasCauses links links' out out' disk disk' ending
    → HasCauses links links' out out' earlier disk' ending
causes_since links links' out out' disk earlier disk' ending same causes =
    subst (λ (n : ℕ). HasCauses links links' out out' n disk' ending) same causes

-- ---- a run

pub run_causes : (links links' out out' disk disk' : ℕ) (ran : Result Hub JournalRunFault)
    → (ran ≡ Err run.Links → Rose links links') → (ran ≢ Err run.Links → ran ≢ Err run.Disk → links' ≡ links)
    → (ran ≡ Err run.Sink → Rose out out') → (ran ≢ Err run.Sink → out' ≡ out)
    → (ran ≡ Err run.Disk → Rose disk disk') → (ran ≢ Err run.Disk → disk' ≡ disk)
    → HasCauses links links' out out' disk disk' (ending_of_run ran)
run_causes links links' out out' disk disk' ran linked links_quiet written sink_quiet stored disk_quiet = record {
  links_failed = λ is. linked (run_of_links ran is);
  links_work = λ no none. links_quiet (λ is. no (ap ending_of_run is)) (λ is. none (ap ending_of_run is));
  out_failed = λ is. written (run_of_sink ran is);
  out_works = λ no. sink_quiet (λ is. no (ap ending_of_run is));
  disk_failed = λ is. stored (run_of_disk ran is);
  disk_works = λ no. disk_quiet (λ is. no (ap ending_of_run is));
}

-- ---- completeness

-- no count rose
pub record AreStill (links links' out out' disk disk' : ℕ) : Type 0 where
  pub links_still : IsStill links links'
  pub out_still : IsStill out out'
  pub disk_still : IsStill disk disk'

module _ (links links' out out' disk disk' : ℕ) (still : AreStill links links' out out' disk disk') where
  pub not_links : (ending : JournalEnding) → HasCauses links links' out out' disk disk' ending
      → ending ≡ Shared LinksFailed → ⊥
  not_links ending causes is =
      let rose : Rose links links' = causes.links_failed is in
      let same = still.links_still in
      omega (arith, rose, same.0, same.1)

  pub not_out : (ending : JournalEnding) → HasCauses links links' out out' disk disk' ending
      → ending ≡ Shared WriteFailed → ⊥
  not_out ending causes is =
      let rose : Rose out out' = causes.out_failed is in
      let same = still.out_still in
      omega (arith, rose, same.0, same.1)

  pub not_disk : (ending : JournalEnding) → HasCauses links links' out out' disk disk' ending → ending ≡ DiskFailed → ⊥
  not_disk ending causes is =
      let rose : Rose disk disk' = causes.disk_failed is in
      let same = still.disk_still in
      omega (arith, rose, same.0, same.1)

  pub run_complete : (ran : Result Hub JournalRunFault) → HasCauses links links' out out' disk disk' (ending_of_run ran)
      → IsDoneOrMemory (status_of (ending_of_run ran))
  run_complete (Ok hub) causes = tt
  run_complete (Err run.Disk) causes = absurd (not_disk DiskFailed causes refl)
  run_complete (Err run.Links) causes = absurd (not_links (Shared LinksFailed) causes refl)
  run_complete (Err run.Sink) causes = absurd (not_out (Shared WriteFailed) causes refl)
  run_complete (Err run.Memory) causes = tt

  pub fault_complete : (why : JournalFault) → HasCauses links links' out out' disk disk' (ending_of_fault why)
      → ((place : ℕ) → why ≡ fault.Refused place → ⊥) → IsDoneOrMemory (status_of (ending_of_fault why))
  fault_complete (fault.Refused place) causes accepted = absurd (accepted place refl)
  fault_complete fault.DiskFault causes accepted = absurd (not_disk DiskFailed causes refl)
  fault_complete fault.Memory causes accepted = tt
