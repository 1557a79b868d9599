use Rattle.std.proofs.Common.{sym, ◌∙◌, ap, not, filter, map, ◌∷◌, []}
use Rattle.std.specs.List.{list_any}
use Rattle.std.specs.Map.Iter.{deref}
use Rattle.std.specs.Ordering.{nat_cmp}
use Rattle.std.specs.BTreeMap.{is_at}
use Rattle.std.proofs.lemmas.List.{map-append}
use Rattle.std.proofs.lemmas.Map.Iter.{iter_end}
use Rattle.tick_schedule.specs.Queue.{without}
use Rattle.tick_schedule.proofs.QueueLaws.{without-more, without-none}
use Rattle.tick_schedule.proofs.queue.DueQueue.clear_all.Goals as goal

pub loop-id-init : goal.loop-id-init
loop-id-init c = sym (without-none c.args.self.now)

pub loop-id-preserved : goal.loop-id-preserved
loop-id-preserved c =
    c.clear.ensures.rest
    ∙ ap (without c.in-Some.id.now) c.loop-id.invariant
    ∙ without-more (map deref c.loop-id.yielded) c.in-Some.id.now c.args.self.now
    ∙ ap (λ ids. filter (λ entry. not (list_any (is_at (nat_cmp entry.0)) ids)) c.args.self.now)
    (sym (map-append deref c.loop-id.yielded (c.in-Some.id ∷ [])))

pub returns : goal.returns
returns c =
    c.loop-id.invariant
    ∙ ap (λ ids. filter (λ entry. not (list_any (is_at (nat_cmp entry.0)) ids)) c.args.self.now)
    (iter_end deref c.args.ids.now.keys c.loop-id.yielded _ _ _ _ c.into_iter-id-iterator.ensures.into_iter_gives.0
    c.loop-id.yielded_by c.in-None.is c.next.ensures.steps).0
