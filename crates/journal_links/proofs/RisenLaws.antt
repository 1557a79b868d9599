-- How calls of links that resume a run change the counts of faults.
use Rattle.std.proofs.Common.{◌≡◌, ℕ, ◌≤◌, List, ap, arith}
use Rattle.journal_links.specs.Steps.{CloseOf, ListenOf, NextOf, Progress, SendOf, close_again, close_passed}
use Rattle.journal_links.specs.Steps.{listen_again, listen_first, listen_unasked, next_again, next_broken, next_inner}
use Rattle.journal_links.specs.Steps.{next_unasked, send_again, send_memory, send_passed}
use Rattle.ports.specs.Calls.{LinksReport}
use Rattle.ports.specs.declared.links.ListenAnswer.{ListenAnswer}
use Rattle.ports.specs.declared.links.SendAnswer.{SendAnswer}
use Rattle.ports.specs.declared.links.Turn.{Turn}
use Rattle.ports.specs.declared.links.Want.{Want}
use Rattle.recorded_links.specs.Steps.{OwnStep, Seen, own_full, own_refused, own_taken}
use Rattle.recorded_links.proofs.FaultLaws.{listen_risen as listen_step_risen, next_risen as next_step_risen}

still : (old new : LinksReport) → new ≡ old → old.faults ≤ new.faults
still old new same = let faults = ap (λ (report : LinksReport). report.faults) same in omega (arith, faults)

own_risen : (old new : Seen) (asked turn : Turn) → OwnStep old new asked turn → old.inner.faults ≤ new.inner.faults
own_risen old new asked turn (own_refused why memory rests) = still old.inner new.inner rests.inner
own_risen old new asked turn (own_full ready full stopped rests) = still old.inner new.inner rests.inner
own_risen old new asked turn (own_taken takes) = still old.inner new.inner takes.inner

pub next_risen : (old new : Seen) (was is : Progress) (wants : List Want) (buf : List ℕ) (turn : Turn)
    → NextOf old new was is wants buf turn → old.inner.faults ≤ new.inner.faults
next_risen old new was is wants buf turn (next_unasked over why memory rests stays) =
    still old.inner new.inner rests.inner
next_risen old new was is wants buf turn (next_again over gives) = still old.inner new.inner gives.rests.inner
next_risen old new was is wants buf turn (next_broken over breaks) = own_risen old new _ turn breaks.gives
next_risen old new was is wants buf turn (next_inner over none step stays) = next_step_risen old new wants buf turn step

pub listen_risen : (old new : Seen) (was is : Progress) (address : List ℕ) (answer : ListenAnswer)
    → ListenOf old new was is address answer → old.inner.faults ≤ new.inner.faults
listen_risen old new was is address answer (listen_unasked why memory rests stays) =
    still old.inner new.inner rests.inner
listen_risen old new was is address answer (listen_again again) = again.asks.faults
listen_risen old new was is address answer (listen_first over step stays) =
    listen_step_risen old new address answer step

-- ---- calls in which the disk does not fail

pub send_still : (old new : Seen) (was is : Progress) (link : ℕ) (bytes : List ℕ) (answer : SendAnswer)
    → SendOf old new was is link bytes answer → new.faults ≡ old.faults
send_still old new was is link bytes answer (send_again over answer_is left records given opened rests spent) =
    rests.faults
send_still old new was is link bytes answer (send_passed over step stays) = step.faults
send_still old new was is link bytes answer (send_memory over memory unsent stays) = unsent.faults

pub close_still : (old new : Seen) (was is : Progress) (link : ℕ) → CloseOf old new was is link
    → new.faults ≡ old.faults
close_still old new was is link (close_again none opened records given left rests spent) = rests.faults
close_still old new was is link (close_passed number at step stays) = step.faults
