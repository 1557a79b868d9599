use Rattle.std.proofs.Common.{[], ◌∷◌, Some, ap}
use Rattle.ports.proofs.CallLemmas.{calls_counted, played_calls}
use Rattle.ports.specs.declared.entry.Entry.TheVariants.{Next}
use Rattle.ports.proofs.fault_links.FaultLinksLinks.next.Goals as goal

pub returns-then-count_call-clause-adds : goal.returns-then-count_call-clause-adds
returns-then-count_call-clause-adds c =
    let made = c.note_failed_turn in
    rw made.ensures.failed (
    calls_counted c.args.self.now.inner made.new.self c.args.self.now.faults c.count_call.new.self.faults _
    (played_calls c.args.self.now.inner made.new.self (Next c.args.wants.now made.result [] ∷ [])
    (ap Some (rw c.count_call.ensures.inner at made.ensures.log))
    (rw c.count_call.ensures.inner at made.ensures.script) made.ensures.plays) c.count_call.ensures.faults
    )
