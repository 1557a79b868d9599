use Rattle.std.proofs.Common.{◌∙◌, ap, Some}
use Rattle.stream_plan.proofs.Searching.{found_whole, passed_whole}
use Rattle.stream_plan.proofs.search.place_of.Goals as goal

pub returns-then-branch : goal.returns-then-branch
returns-then-branch c =
    ap Some c.from_vec.ensures
    ∙ found_whole (record { why = c.args.why; allowed = c.allowed.result; path = c.new.result }) c.find_among.new.self
    c.args.plan.now.streams.items c.deref.result.now c.deref.ensures.value c.new.ensures.items c.allowed.ensures
    (rw c.if-branch.true at c.in_ok-find_among.ensures)

pub returns-else-branch : goal.returns-else-branch
returns-else-branch c =
    passed_whole (record { why = c.args.why; allowed = c.allowed.result; path = c.new.result }) c.find_among.new.self
    c.args.plan.now.streams.items c.deref.result.now c.deref.ensures.value c.new.ensures.items c.allowed.ensures
    (rw c.if-branch.false at c.in_ok-find_among.ensures)
