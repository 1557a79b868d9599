use Rattle.tick_schedule.specs.Numbers.{Relists}
use Rattle.std.proofs.Common.{None}
use Rattle.tick_schedule.proofs.NumberLaws.{closed-changes, closed-numbered, is-list}
use Rattle.tick_schedule.proofs.due_lists.close.Goals as goal

relists : (c : goal.After-drop-remove) → Relists c.args.lists.now.slots c.remove-2.new.self.slots c.args.list None
relists c = record { changed = c.remove-2.ensures.updates.changed; others = c.remove-2.ensures.updates.others }

pub remove-requires-2 : goal.remove-requires-2
remove-requires-2 c =
    is-list c.args.numbers.now.entries c.args.lists.now.slots c.args.lists.now.slots c.args.moment c.args.list 0
    c.requires.numbered c.requires.number

pub returns-clause-numbered : goal.returns-clause-numbered
returns-clause-numbered c =
    closed-numbered c.args.numbers.now.entries c.remove.new.self.entries c.args.lists.now.slots
    c.remove-2.new.self.slots
    c.args.moment c.args.list c.requires.numbered c.requires.number c.remove.ensures.updates.0 (relists c)

pub returns-clause-closed : goal.returns-clause-closed
returns-clause-closed c =
    closed-changes c.args.numbers.now.entries c.remove.new.self.entries c.args.lists.now.slots c.remove-2.new.self.slots
    c.args.moment c.args.list c.requires.numbered c.requires.number c.remove.ensures.updates.0 (relists c)
