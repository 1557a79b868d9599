use Rattle.std.proofs.Common.{◌≡◌, ℕ, ◌-◌, List, length, drop, take, length-drop, arith}
use Rattle.std.proofs.lemmas.List.{take_all}
use Rattle.std.proofs.lemmas.Result.{err_from_is_err_and}
use Rattle.msg_replies.specs.Arriving.{reported}
use Rattle.hub_link.proofs.HearLaws.{so_far_end, so_far_failed, so_far_more, so_far_nothing, so_far_taken}
use Rattle.hub_link.proofs.frames.answer_frames.Goals as goal

rest_is : (bytes : List ℕ) (taken : ℕ) → take (length bytes - taken) (drop taken bytes) ≡ drop taken bytes
rest_is bytes taken = take_all (length bytes - taken) (drop taken bytes) (omega (arith, length-drop taken bytes))

pub frames-init : goal.frames-init
frames-init g c = so_far_nothing c.args.bytes.now c.args.unsent.now c.args.core.now _ _

pub frames-preserved : goal.frames-preserved
frames-preserved g c =
    so_far_more c.args.bytes.now c.frames.taken c.args.unsent.now c.frames.unsent c.answer_first.new.unsent
    c.args.core.now c.frames.core c.answer_first.new.core
    (g.P.Patterns.report c.args.patterns.now)
    (g.P.Patterns.report c.frames.patterns)
    (g.P.Patterns.report c.answer_first.new.patterns)
    (reported c.args.notices.now c.args.steps.now.forks) (reported c.frames.notices c.frames.steps.forks)
    (reported c.answer_first.new.notices c.answer_first.new.steps.forks)
    c.in-Some.size c.frames.invariant
    (rw (c.in-Some.is, rest_is c.args.bytes.now c.frames.taken) at c.in_ok-size.ensures)

pub returns-in_err-size-clause-frames : goal.returns-in_err-size-clause-frames
returns-in_err-size-clause-frames g c =
    let p = err_from_is_err_and c.from_residual.result c.from_residual.ensures.1 in
    rw p.1 (so_far_failed c.args.bytes.now c.frames.taken c.args.unsent.now c.frames.unsent c.answer_first.new.unsent
    c.args.core.now c.frames.core c.answer_first.new.core
    (g.P.Patterns.report c.args.patterns.now)
    (g.P.Patterns.report c.frames.patterns)
    (g.P.Patterns.report c.answer_first.new.patterns)
    (reported c.args.notices.now c.args.steps.now.forks) (reported c.frames.notices c.frames.steps.forks)
    (reported c.answer_first.new.notices c.answer_first.new.steps.forks)
    p.0 c.frames.invariant (rw (rest_is c.args.bytes.now c.frames.taken) at c.in_err-size.ensures))

pub returns-in-None-clause-frames : goal.returns-in-None-clause-frames
returns-in-None-clause-frames g c =
    so_far_end c.args.bytes.now c.frames.taken c.args.unsent.now c.frames.unsent c.answer_first.new.unsent
    c.args.core.now c.frames.core c.answer_first.new.core
    (g.P.Patterns.report c.args.patterns.now)
    (g.P.Patterns.report c.frames.patterns)
    (g.P.Patterns.report c.answer_first.new.patterns)
    (reported c.args.notices.now c.args.steps.now.forks) (reported c.frames.notices c.frames.steps.forks)
    (reported c.answer_first.new.notices c.answer_first.new.steps.forks)
    c.frames.invariant (rw (c.in-None.is, rest_is c.args.bytes.now c.frames.taken) at c.in_ok-size.ensures)

pub returns-in-None-clause-taken : goal.returns-in-None-clause-taken
returns-in-None-clause-taken g c =
    let none = rw (c.in-None.is, rest_is c.args.bytes.now c.frames.taken) at c.in_ok-size.ensures in
    so_far_taken c.args.bytes.now c.frames.taken c.args.unsent.now c.frames.unsent c.args.core.now c.frames.core
    (g.P.Patterns.report c.args.patterns.now)
    (g.P.Patterns.report c.frames.patterns)
    (reported c.args.notices.now c.args.steps.now.forks) (reported c.frames.notices c.frames.steps.forks)
    c.frames.invariant none.0
