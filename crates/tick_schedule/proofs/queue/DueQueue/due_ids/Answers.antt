use Rattle.std.proofs.Common.{ℕ, ◌∙◌, ap}
use Rattle.std.specs.BTreeSet.{BTreeSet}
use Rattle.tick_schedule.specs.Queue.{due_ids}
use Rattle.tick_schedule.proofs.ListLaws.{if_ok_both}
use Rattle.tick_schedule.proofs.ScheduleLaws.{due-set}
use Rattle.tick_schedule.proofs.queue.DueQueue.due_ids.Goals as goal

pub returns : goal.returns
returns c =
    if_ok_both c.ids_until.result
    (λ (ids : BTreeSet ℕ) are sorted. due-set c.args.now c.self.inside.places c.self.inside.lists ids c.self.invariant
    sorted are
    ∙ ap (due_ids c.args.now) c.self.view_is)
    c.ids_until.ensures.ids c.ids_until.ensures.rising
