use Rattle.std.proofs.Common.{[], ◌∷◌, Some, ap}
use Rattle.ports.proofs.CallLemmas.{calls_counted, played_calls}
use Rattle.ports.proofs.ScriptLemmas.{listen_counts}
use Rattle.ports.specs.declared.entry.Entry.TheVariants.{Listen}
use Rattle.ports.specs.declared.links.ListenAnswer.TheVariants.{Failed}
use Rattle.ports.proofs.fault_links.FaultLinksLinks.listen.Goals as goal

pub returns-then-count_call-clause-adds : goal.returns-then-count_call-clause-adds
returns-then-count_call-clause-adds c =
    let made = c.note_failed_listen in
    calls_counted c.args.self.now.inner made.new.self c.args.self.now.faults c.count_call.new.self.faults _
    (played_calls c.args.self.now.inner made.new.self (Listen c.args.address.now Failed ∷ [])
    (ap Some (rw c.count_call.ensures.inner at made.ensures.log))
    (rw c.count_call.ensures.inner at made.ensures.script) made.ensures.plays) c.count_call.ensures.faults

pub returns-clause-adds : goal.returns-clause-adds
returns-clause-adds c =
    calls_counted c.args.self.now.inner c.listen.new.self c.args.self.now.faults c.count_call.new.self.faults _
    (rw c.count_call.ensures.inner at c.listen.ensures.adds) c.count_call.ensures.faults

pub returns-clause-cause : goal.returns-clause-cause
returns-clause-cause c =
    rw c.if-count_call.ensures.cause (listen_counts c.args.self.now.faults c.listen.result c.listen.ensures.cause)
