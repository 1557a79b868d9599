use Rattle.graphite_lines.proofs.NumberLaws.{parsed_whole, whole_is_utf8}
use Rattle.graphite_lines.proofs.number.parse_number.Goals as goal

pub returns-in-Ok : goal.returns-in-Ok
returns-in-Ok c =
    rw c.ok.ensures.value
    (parsed_whole c.args.word.now c.parse.result (rw c.in-Ok.ensures.cases.0 at c.parse.ensures.value.0) c.requires.few
    c.requires.no_plus)

pub returns-in-Err : goal.returns-in-Err
returns-in-Err c = whole_is_utf8 c.args.word.now c.in-Err.ensures.cases.0
