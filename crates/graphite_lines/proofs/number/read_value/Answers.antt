use Rattle.std.proofs.Common.{◌+◌, sym, ◌∙◌, ap}
use Rattle.std.proofs.lemmas.List.{take_rest}
use Rattle.graphite_lines.specs.Words.{are_zeros}
use Rattle.graphite_lines.proofs.NumberLaws.{no_zeros, read_alone, read_before}
use Rattle.graphite_lines.proofs.number.read_value.Goals as goal

pub returns-then-not-are_zeros : goal.returns-then-not-are_zeros
returns-then-not-are_zeros c =
    let word = c.args.word.now in let point = c.in-Some.point in
    no_zeros word point c.in-Some.ensures.0 c.in-Some.ensures.1
    (ap are_zeros (sym (take_rest word (point + 1))) ∙ sym c.are_zeros.ensures ∙ c.if-not-are_zeros.true)

pub returns-else-not-are_zeros : goal.returns-else-not-are_zeros
returns-else-not-are_zeros c =
    let word = c.args.word.now in let point = c.in-Some.point in
    read_before word point c.read_whole.result c.in-Some.ensures.0 c.in-Some.ensures.1
    (ap are_zeros (sym (take_rest word (point + 1))) ∙ sym c.are_zeros.ensures ∙ c.if-not-are_zeros.false)
    c.read_whole.ensures

pub returns-in-None : goal.returns-in-None
returns-in-None c =
    read_alone c.args.word.now c.read_whole-in-None.result c.in-None.ensures c.read_whole-in-None.ensures
