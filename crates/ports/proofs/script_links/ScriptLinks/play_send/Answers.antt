use Rattle.std.proofs.Common.{◌≤◌, length, refl, sym, take}
use Rattle.std.proofs.lemmas.List.{length-take-le}
use Rattle.ports.specs.Tables.{rules_in, taken_in}
use Rattle.ports.proofs.ScriptLemmas.{playing_poisoned, playing_sent, plays_some}
use Rattle.ports.proofs.script_links.ScriptLinks.play_send.Goals as goal

pub slice_bounds-add_taken-end : goal.slice_bounds-add_taken-end
slice_bounds-add_taken-end c =
    sym (length-take-le _ _ (c.count_taken-count.ensures.within _ c.in_ok-answer.ensures.within))

pub invariant_of-self-2 : goal.invariant_of-self-2
invariant_of-self-2 c =
    rw (c.sent.ensures, c.in_ok-answer.ensures.script, c.in_ok-answer.ensures.next, c.in_ok-answer.ensures.secs)
    (playing_sent _ _ _ _ _ _ _ _ c.self.invariant c.if-self.false c.args.link c.args.bytes.now c.in_ok-answer.answer
    (take c.count_taken-count.result c.args.bytes.now) (rules_in c.send.new.self.rules) (taken_in c.add_taken.new.taken)
    c.in_ok-answer.ensures.answer (c.count_taken-count.ensures.bytes c.args.bytes.now) c.in_ok-answer.ensures.rules
    c.in_ok-add_taken.ensures.ok)

pub returns-clause-plays : goal.returns-clause-plays
returns-clause-plays c = plays_some _ _ (invariant_of-self-2 c).run

pub invariant_of-self : goal.invariant_of-self
invariant_of-self c =
    let within : c.send.new.self.next ≤ length c.self.inside.state.script.steps =
    rw (← c.in_err-answer.ensures.script) c.send.new.self.within in
    rw c.in_err-answer.ensures.script (
    playing_poisoned _ _ _ _ _ _ _ _ c.self.invariant c.send.new.self.next c.send.new.self.secs
    (rules_in c.send.new.self.rules) (taken_in c.self.inside.taken) within (λ link. refl)
    )
