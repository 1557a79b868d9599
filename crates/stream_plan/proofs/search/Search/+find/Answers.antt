use Rattle.std.proofs.Common.{length, vec_len, arith, ◌+◌, ◌∙◌}
use Rattle.stream_plan.proofs.Searching.{ends_here, ends_below, goes_beside, ends_in, goes_on, goes_through}
use Rattle.stream_plan.proofs.Searching.{popped_again}
use Rattle.stream_plan.proofs.search.Search.+find.Goals as goal

pub find_at-returns-then-ends_at : goal.find_at-returns-then-ends_at
find_at-returns-then-ends_at t c =
    ends_here c.args.self.now c.ends_at.new.self c.args.flow c.args.stream.now c.if-ends_at.ensures

pub find_at-returns-then-branch : goal.find_at-returns-then-branch
find_at-returns-then-branch t c =
    ends_below c.args.self.now c.ends_at.new.self c.find_among.new.self c.args.flow c.passes_on-flow.result
    c.args.stream.now c.deref.result.now c.passes_on-flow.ensures c.deref.ensures.value
    c.if-ends_at.ensures (rw c.if-branch.true at c.in_ok-find_among.ensures)

pub find_at-returns : goal.find_at-returns
find_at-returns t c =
    goes_beside c.args.self.now c.ends_at.new.self c.find_among.new.self c.args.flow c.passes_on-flow.result
    c.args.stream.now c.deref.result.now c.passes_on-flow.ensures c.deref.ensures.value
    c.in_ok-found.found c.find_among-2.new.self c.deref-3.result.now c.deref-2.result.now c.deref-3.ensures.value
    c.deref-2.ensures.value
    c.if-ends_at.ensures (rw c.if-branch.false at c.in_ok-find_among.ensures) c.in_ok-found.ensures

pub find_among-returns-then-branch : goal.find_among-returns-then-branch
find_among-returns-then-branch t c =
    ends_in c.args.self.now c.loop-index.self c.find_at.new.self _ (length c.args.before.now) c.args.flow
    c.args.streams.now c.loop-index.index c.index-streams-index.result c.push.new.self
    (omega arith) c.loop-index.invariant c.in_ok-push.ensures.items c.index-streams-index.is
    (rw c.if-branch.true at c.in_ok-find_at.ensures)

pub find_among-loop-index-preserved : goal.find_among-loop-index-preserved
find_among-loop-index-preserved t c =
    let gone = rw c.if-branch.false at c.in_ok-find_at.ensures in
    let pushed = gone.path ∙ c.in_ok-push.ensures.items in
    goes_on c.args.self.now c.loop-index.self c.find_at.new.self _ (length c.args.before.now) c.args.flow
    c.args.streams.now c.loop-index.index c.index-streams-index.result c.push.new.self c.pop.new.self
    (omega arith) c.loop-index.invariant c.in_ok-push.ensures.items c.index-streams-index.is gone
    (popped_again c.loop-index.self.path.items c.find_at.new.self.path.items c.pop.new.self.items
    (length c.args.before.now + c.loop-index.index) (vec_len c.find_at.new.self.path) pushed
    c.find_at.new.self.path.ok.0 c.pop.ensures.rest)

pub find_among-returns : goal.find_among-returns
find_among-returns t c =
    goes_through c.args.self.now c.loop-index.self _ (length c.args.before.now) c.args.flow c.args.streams.now
    c.loop-index.index (omega arith) c.loop-index.invariant
