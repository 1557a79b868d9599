use Rattle.std.proofs.Common.{refl, ◌∙◌, ap}
use Rattle.std.specs.List.{filter_map}
use Rattle.fork_by.specs.Table.{fork_with}
use Rattle.fork_by.proofs.TableLaws.{kept-dated}
use Rattle.fork_by.proofs.KeptForkLaws.{dated-has, dated-table, same-has, same-table}
use Rattle.fork_by.proofs.table.ForkTable.set_due.Goals as goal

pub returns-clause-ok : goal.returns-clause-ok
returns-clause-ok g c =
    ap (filter_map (fork_with c.args.self.now.forks.items)) c.in_ok-set_due.ensures.ok
    ∙ kept-dated c.args.self.now.forks.items c.args.number c.args.due c.args.self.now.labels

pub returns-clause-has : goal.returns-clause-has
returns-clause-has g c = dated-has c.args.self.now _ refl c.args.number c.args.due c.in_ok-set_due.ensures.ok

pub returns-in_err-set_due-clause-has : goal.returns-in_err-set_due-clause-has
returns-in_err-set_due-clause-has g c = same-has c.args.self.now _ refl c.in_err-set_due.ensures.err

pub returns-clause-table : goal.returns-clause-table
returns-clause-table g c =
    dated-table c.args.self.now _ refl c.args.number c.args.due c.in_ok-set_due.ensures.ok c.set_due.ensures.sound

pub returns-in_err-set_due-clause-table : goal.returns-in_err-set_due-clause-table
returns-in_err-set_due-clause-table g c =
    same-table c.args.self.now _ refl c.in_err-set_due.ensures.err c.set_due.ensures.sound
