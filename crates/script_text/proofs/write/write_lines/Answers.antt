use Rattle.std.proofs.lemmas.Result.{err_from_is_err_and}
use Rattle.script_text.specs.LinkLines.{line_after}
use Rattle.script_text.proofs.WrittenLaws.{prefix_line}
use Rattle.script_text.proofs.write.write_lines.Goals as goal

pub returns-in_err-write_line-clause-front : goal.returns-in_err-write_line-clause-front
returns-in_err-write_line-clause-front g c =
    let failed = err_from_is_err_and c.from_residual.result c.from_residual.ensures.1 in
    rw failed.1 (prefix_line (line_after c.args.links.now.log) c.args.numbers.now c.loop-number.number-index
    (g.O.Sink.report c.args.out.now).text (g.O.Sink.report c.loop-number.out).text
    (g.O.Sink.report c.write_line.new.out).text
    c.loop-number-test.true c.loop-number.invariant.got c.in_err-write_line.ensures.front)
