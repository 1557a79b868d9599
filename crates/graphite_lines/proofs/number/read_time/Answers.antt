use Rattle.std.proofs.lemmas.Bool.{iff_false}
use Rattle.graphite_lines.proofs.NumberLaws.{read_as_time}
use Rattle.graphite_lines.proofs.number.read_time.Goals as goal

pub returns : goal.returns
returns c =
    read_as_time c.args.word.now c.parse_number.result c.if-word-gt-TIME_DIGITS.false
    (iff_false c.starts_with.ensures c.if-starts_with.false)
    (iff_false c.starts_with-else-starts_with.ensures c.if-starts_with-2.false) c.parse_number.ensures
