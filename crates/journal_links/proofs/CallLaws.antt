-- What one call adds to the calls and faults that links with a journal report.
use Rattle.std.proofs.Common.{◌≡◌, ◌≢◌, ℕ, ◌≤◌, Bool, true, false, List, [], ◌++◌, refl, sym, subst, arith}
use Rattle.std.specs.Prelude.{Option, Some, None}
use Rattle.std.specs.Option.{option_map}
use Rattle.std.proofs.lemmas.Option.{none-some}
use Rattle.disk_port.specs.Calls.{DiskReport}
use Rattle.journal_links.specs.Steps.{Progress, SendOf, Stays, is_over, send_memory, send_passed}
use Rattle.ports.proofs.CallLemmas.{no_calls}
use Rattle.ports.specs.Calls.{AddsCalls, LinksReport}
use Rattle.ports.specs.Links.{HasNextCause, grown, is_failed_turn}
use Rattle.ports.specs.declared.entry.Entry.{Entry}
use Rattle.ports.specs.declared.links.SendAnswer.{SendAnswer}
use Rattle.ports.specs.declared.links.SendAnswer.TheVariants as send
use Rattle.ports.specs.declared.links.What.{What}
use Rattle.ports.specs.declared.links.What.TheVariants.{Idle, Opened, Read, Ended, Broken, Room, Stopped, Failed}
use Rattle.ports.specs.declared.links.What.TheVariants.{Memory}
use Rattle.recorded_links.specs.Keeping.{FailedIf}
use Rattle.recorded_links.specs.Steps.{Seen, SendStep, Unsent, own_report}
use Rattle.recorded_links.proofs.StepLaws.{own_calls}

-- the same calls, in another log
other_log : (log there there' made : List Entry) (inner inner' : Option (List Entry))
    → option_map (λ _. there') inner' ≡ grown (option_map (λ _. there) inner) made
    → option_map (λ _. log ++ made) inner' ≡ grown (option_map (λ _. log) inner) made
other_log log there there' made None None is = refl
other_log log there there' made None (Some after) is = absurd (none-some there' (sym is))
other_log log there there' made (Some before) None is = absurd (none-some (there ++ made) is)
other_log log there there' made (Some before) (Some after) is = refl

pub other_calls : (log there there' made : List Entry) (inner inner' : LinksReport) (disk disk' : DiskReport)
    → AddsCalls (own_report there inner disk) (own_report there' inner' disk') made
    → AddsCalls (own_report log inner disk) (own_report (log ++ made) inner' disk') made
other_calls log there there' made inner inner' disk disk' calls = record {
  log = other_log log there there' made inner.log inner'.log calls.log;
  script = refl;
  plays = λ plays script is. absurd (none-some script is);
  faults = calls.faults;
}

-- nothing was asked
pub own_quiet : (log made : List Entry) (inner inner' : LinksReport) (disk disk' : DiskReport) → inner' ≡ inner
    → disk.faults ≤ disk'.faults
    → AddsCalls (own_report log inner disk) (own_report (log ++ made) inner' disk') made
own_quiet log made inner inner' disk disk' same risen =
    own_calls log (log ++ made) made [] inner inner' disk disk' refl
    (subst (λ (report : LinksReport). AddsCalls inner report []) (sym same) (no_calls inner)) risen

-- the calls with the log that there is now
pub logged : (log log' made : List Entry) (inner inner' : LinksReport) (disk disk' : DiskReport) → log' ≡ log ++ made
    → AddsCalls (own_report log inner disk) (own_report (log ++ made) inner' disk') made
    → AddsCalls (own_report log inner disk) (own_report log' inner' disk') made
logged log log' made inner inner' disk disk' is calls =
    subst (λ (l : List Entry). AddsCalls (own_report log inner disk) (own_report l inner' disk') made) (sym is) calls

pub risen_if : (failed : Bool) (old new : ℕ) → FailedIf failed old new → old ≤ new
risen_if true old new fails = fails.no_less
risen_if false old new same = omega (arith, same)

pub unfailed : (failed : Bool) (old new : ℕ) → failed ≡ false → new ≡ old → FailedIf failed old new
unfailed failed old new is same = subst (λ (f : Bool). FailedIf f old new) (sym is) same

-- a turn that did not fail, with no fault
pub no_cause : (what : What) (old new : ℕ) → is_failed_turn what ≡ false → new ≡ old → HasNextCause old new what
no_cause Idle old new is same = same
no_cause (Opened link) old new is same = same
no_cause (Read link count) old new is same = same
no_cause (Ended link) old new is same = same
no_cause (Broken link) old new is same = same
no_cause (Room link) old new is same = same
no_cause Stopped old new is same = same
no_cause Failed old new is same = absurd (cc is)
no_cause Memory old new is same = same

-- a send that was passed on, or of which memory ran out
pub send_of : (old new : Seen) (was is : Progress) (link : ℕ) (bytes : List ℕ) (answer : SendAnswer)
    → is_over was ≡ true → Stays was is → (answer ≢ send.Memory → SendStep old new link bytes answer)
    → (answer ≡ send.Memory → Unsent old new) → SendOf old new was is link bytes answer
send_of old new was is link bytes (send.Took count) over stays step unsent = send_passed over (step (λ same. cc)) stays
send_of old new was is link bytes send.Later over stays step unsent = send_passed over (step (λ same. cc)) stays
send_of old new was is link bytes send.Failed over stays step unsent = send_passed over (step (λ same. cc)) stays
send_of old new was is link bytes send.Memory over stays step unsent = send_memory over refl (unsent refl) stays
