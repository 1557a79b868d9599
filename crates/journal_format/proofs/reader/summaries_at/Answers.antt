use Rattle.std.proofs.Common.{◌≡◌, ◌++◌, ◌∷◌, []}
use Rattle.std.proofs.lemmas.Result.{err_from_is_err_and}
use Rattle.journal_format.specs.Reading.{summaries_at}
use Rattle.journal_format.proofs.LoopLaws.{goes_on, ends, is_done}
use Rattle.journal_format.proofs.reader.summaries_at.Goals as goal

pub returns-in_err-summary : goal.returns-in_err-summary
returns-in_err-summary c =
    let p = err_from_is_err_and c.from_residual.result c.from_residual.ensures.1 in
    rw (p.1, p.2)
    (ends c.in_err-summary.field-0.0 c.loop.summaries c.args.count c.loop.counter c.loop.rest.now
    (summaries_at c.args.count c.args.bytes.now) c.loop-test.true c.in_err-summary.ensures c.loop.invariant)

pub loop-preserved : goal.loop-preserved
loop-preserved c =
    let s = c.in_ok-summary.summary in
    let e : c.push.new.self ≡ c.loop.summaries ++ s ∷ [] = c.in_ok-push.ensures.ok in
    rw e
    (goes_on c.loop.summaries c.args.count c.loop.counter c.loop.rest.now s c.in_ok-summary.after.now
    (summaries_at c.args.count c.args.bytes.now) c.loop-test.true c.in_ok-summary.ensures c.loop.invariant)

pub returns : goal.returns
returns c =
    is_done c.loop.summaries c.args.count c.loop.counter c.loop.rest.now (summaries_at c.args.count c.args.bytes.now)
    c.loop-test.false c.loop.invariant
