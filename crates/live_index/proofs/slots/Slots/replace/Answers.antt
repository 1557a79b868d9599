use Rattle.live_index.specs.Slots.{key_of}
use Rattle.live_index.proofs.SlotsLaws.{live_found, replace-put}
use Rattle.live_index.proofs.StoredLaws.{replace-stored}
use Rattle.live_index.proofs.slots.Slots.replace.Goals as goal

pub write_at-requires : goal.write_at-requires
write_at-requires g c =
    live_found c.args.self.now.numbers c.args.self.now.events.values (key_of c.args.event.now) c.args.number
    c.requires.stored.linked c.requires.known

pub returns-clause-stored : goal.returns-clause-stored
returns-clause-stored g c =
    replace-stored c.args.self.now.numbers c.args.self.now.events.values c.write_at.new.events.values c.args.self.now.due
    c.set_due.new.queue c.args.self.now.count c.args.event.now c.args.number c.due_moment-due.result
    c.requires.stored c.requires.known c.requires.current c.in_ok-write_at.ensures c.in_ok-set_due.ensures.ok
    c.set_due.ensures.rising c.due_moment-due.ensures

pub returns-clause-puts : goal.returns-clause-puts
returns-clause-puts g c =
    replace-put c.args.self.now.numbers c.args.self.now.events.values c.write_at.new.events.values c.args.event.now
    c.args.number c.requires.stored.linked c.requires.known c.in_ok-write_at.ensures
