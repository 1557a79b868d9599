use Rattle.std.proofs.Common.{refl}
use Rattle.fork_by.proofs.TableLaws.{kept-timed}
use Rattle.fork_by.proofs.KeptForkLaws.{touched-has, touched-table}
use Rattle.fork_by.proofs.table.ForkTable.touch.Goals as goal

pub returns-clause-touched : goal.returns-clause-touched
returns-clause-touched g c latest =
    kept-timed c.args.self.now.forks.items c.args.self.now.labels c.touch.new.self c.args.number c.args.now latest
    c.touch.ensures.touched

pub returns-clause-has : goal.returns-clause-has
returns-clause-has g c = touched-has c.args.self.now _ refl c.args.number c.args.now c.touch.ensures.touched

pub returns-clause-table : goal.returns-clause-table
returns-clause-table g c =
    touched-table c.args.self.now _ refl c.args.number c.args.now c.touch.ensures.touched c.touch.ensures.sound
