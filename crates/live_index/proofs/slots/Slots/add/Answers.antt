use Rattle.std.proofs.Common.{Some, sym, subst}
use Rattle.key_map.specs.Keys.{IndexKey, Sets}
use Rattle.live_index.specs.Slots.{IsStored}
use Rattle.live_index.proofs.SlotsLaws.{put-put}
use Rattle.live_index.proofs.StoredLaws.{put-stored}
use Rattle.live_index.proofs.slots.Slots.add.Goals as goal

pub returns-clause-stored : goal.returns-clause-stored
returns-clause-stored g c =
    let sets = subst (λ (k : IndexKey). Sets c.args.self.now.numbers c.insert.new.self k (Some c.in_ok-number.number))
    (sym c.requires.key) c.in_ok-insert.ensures.ok in
    subst (IsStored c.insert.new.self c.add.new.self.values c.set_due.new.queue) (sym c.in-Some.ensures.1)
    (put-stored c.args.self.now.numbers c.insert.new.self c.args.self.now.events.values c.add.new.self.values
    c.args.self.now.due c.set_due.new.queue c.args.self.now.count c.args.event c.in_ok-number.number c.args.due
    c.requires.stored c.requires.absent c.in_ok-number.ensures.vacant c.requires.current c.insert.ensures.rising sets
    c.in_ok-number.ensures.added c.in_ok-set_due.ensures.ok c.set_due.ensures.rising c.requires.timed)

pub returns-clause-puts : goal.returns-clause-puts
returns-clause-puts g c =
    let sets = subst (λ (k : IndexKey). Sets c.args.self.now.numbers c.insert.new.self k (Some c.in_ok-number.number))
    (sym c.requires.key) c.in_ok-insert.ensures.ok in
    put-put c.args.self.now.numbers c.insert.new.self c.args.self.now.events.values c.add.new.self.values
    c.args.event c.in_ok-number.number
    c.requires.stored.linked c.requires.absent c.in_ok-number.ensures.vacant sets c.in_ok-number.ensures.added
