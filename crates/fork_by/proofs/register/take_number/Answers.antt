use Rattle.std.proofs.Common.{◌∙◌, ap}
use Rattle.linked_slots.specs.IdLists.{without}
use Rattle.fork_by.proofs.NewNumberLaws.{listed-new, without-new}
use Rattle.fork_by.proofs.register.take_number.Goals as goal

pub unlink-requires : goal.unlink-requires
unlink-requires c =
    listed-new c.insert-number.result c.reserve.new.self.lists c.args.moments.now.lists c.insert-number.new.self.lists
    c.requires c.reserve.ensures.lists c.insert-number.ensures.appended

pub returns-then-is_err-clause-err : goal.returns-then-is_err-clause-err
returns-then-is_err-clause-err c =
    c.unlink.ensures.removed ∙ ap (without c.insert-number.result) c.insert-number.ensures.appended
    ∙ without-new c.insert-number.result c.reserve.new.self.lists c.insert-number.ensures.fresh
    ∙ c.reserve.ensures.lists
