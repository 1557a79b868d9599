use Rattle.command_texts.proofs.ConvertLaws.{lines_grow}
use Rattle.graphite_lines.specs.declared.fault.LineWhy.TheVariants.{Words}
use Rattle.command_texts.proofs.text.refused_text.Goals as goal

pub loop-line-preserved : goal.loop-line-preserved
loop-line-preserved c =
    lines_grow c.args.bad.now c.loop-line.line-index (record { line = 0; why = Words }) c.loop-line.text
    c.put_refused.new.text c.loop-line-test.true c.loop-line.invariant c.in_ok-put_refused.ensures
