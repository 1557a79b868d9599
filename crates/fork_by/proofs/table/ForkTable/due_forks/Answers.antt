use Rattle.std.proofs.Common.{refl, ◌∙◌, ap}
use Rattle.std.specs.List.{filter_map}
use Rattle.fork_by.specs.Table.{fork_with}
use Rattle.fork_by.proofs.TableLaws.{kept-cleared}
use Rattle.fork_by.proofs.KeptForkLaws.{cleared-has, cleared-table, due-kept, same-has, same-table}
use Rattle.fork_by.proofs.table.ForkTable.due_forks.Goals as goal

pub returns-clause-later : goal.returns-clause-later
returns-clause-later g c =
    ap (filter_map (fork_with c.args.self.now.forks.items)) c.in_ok-due_forks.ensures.later
    ∙ kept-cleared c.args.self.now.forks.items c.args.now c.args.self.now.labels

pub returns-clause-kept : goal.returns-clause-kept
returns-clause-kept g c table = due-kept c.args.self.now table c.args.now

pub returns-in_err-due_forks-clause-kept : goal.returns-in_err-due_forks-clause-kept
returns-in_err-due_forks-clause-kept g c table = due-kept c.args.self.now table c.args.now

pub returns-clause-has : goal.returns-clause-has
returns-clause-has g c = cleared-has c.args.self.now _ refl c.args.now c.in_ok-due_forks.ensures.later

pub returns-in_err-due_forks-clause-has : goal.returns-in_err-due_forks-clause-has
returns-in_err-due_forks-clause-has g c = same-has c.args.self.now _ refl c.in_err-due_forks.ensures.err

pub returns-clause-table : goal.returns-clause-table
returns-clause-table g c =
    cleared-table c.args.self.now _ refl c.args.now c.in_ok-due_forks.ensures.later c.due_forks.ensures.sound

pub returns-in_err-due_forks-clause-table : goal.returns-in_err-due_forks-clause-table
returns-in_err-due_forks-clause-table g c =
    same-table c.args.self.now _ refl c.in_err-due_forks.ensures.err c.due_forks.ensures.sound
