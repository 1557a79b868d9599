use Rattle.std.proofs.Common.{ap, drop, ◌-◌, ◌∙◌}
use Rattle.hub_link.proofs.UnsentLaws.{later_after}
use Rattle.hub_link.proofs.unsent.Unsent.advance.Goals as goal

pub returns : goal.returns
returns c =
    let old = c.self.inside in
    c.give_back-2.ensures
    ∙ later_after c.args.count old.taken (c.len.result - old.taken) old.first old.later _ _
    (ap (λ n. n - old.taken) c.len.ensures) c.if-count-rest.false
    c.replace.ensures.value (c.replace.ensures.after ∙ c.fresh.ensures)
    ∙ ap (drop c.args.count) c.self.view_is
