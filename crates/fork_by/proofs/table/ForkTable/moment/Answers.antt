use Rattle.fork_by.proofs.KeptForkLaws.{kept-moment}
use Rattle.fork_by.proofs.table.ForkTable.moment.Goals as goal

pub returns : goal.returns
returns g c table = kept-moment c.args.self.now table c.args.number c.moment.result c.moment.ensures
