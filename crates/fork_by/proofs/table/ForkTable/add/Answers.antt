use Rattle.std.proofs.Common.{◌++◌, ◌∷◌, [], ◌∙◌, ap}
use Rattle.fork_by.proofs.TableLaws.{kept-grown}
use Rattle.fork_by.proofs.KeptForkLaws.{added-has, added-others, added-table}
use Rattle.fork_by.proofs.table.ForkTable.add.Goals as goal

pub returns-clause-ok : goal.returns-clause-ok
returns-clause-ok g c table latest =
    kept-grown c.args.self.now.forks.items c.push_reserved.new.self.items c.args.fork c.args.self.now.labels
    c.add.new.self c.args.key c.in_ok-number.number c.args.now
    table.even table.sound latest
    (c.push_reserved.ensures.items ∙ ap (λ items. items ++ c.args.fork ∷ []) c.reserve.ensures.items)
    c.in_ok-number.ensures.ok

pub returns-clause-has : goal.returns-clause-has
returns-clause-has g c table =
    added-has c.args.self.now _ c.args.fork
    (c.push_reserved.ensures.items ∙ ap (λ items. items ++ c.args.fork ∷ []) c.reserve.ensures.items) c.args.key
    c.in_ok-number.number c.args.now c.in_ok-number.ensures.ok table

pub returns-clause-others : goal.returns-clause-others
returns-clause-others g c =
    added-others c.args.self.now _ c.args.fork
    (c.push_reserved.ensures.items ∙ ap (λ items. items ++ c.args.fork ∷ []) c.reserve.ensures.items) c.args.key
    c.in_ok-number.number c.args.now c.in_ok-number.ensures.ok

pub returns-clause-table : goal.returns-clause-table
returns-clause-table g c =
    added-table c.args.self.now _ c.args.fork
    (c.push_reserved.ensures.items ∙ ap (λ items. items ++ c.args.fork ∷ []) c.reserve.ensures.items) c.args.key
    c.in_ok-number.number c.args.now c.in_ok-number.ensures.ok c.add.ensures.sound
