use Rattle.std.proofs.Common.{sym, ◌∙◌}
use Rattle.script_text.proofs.NumberLemmas.{parsed_number, number_is_utf8}
use Rattle.script_text.proofs.word.parse_number.Goals as goal

pub returns-in-Ok : goal.returns-in-Ok
returns-in-Ok c =
    let known = rw c.in-Ok.ensures.cases.0 at c.parse.ensures.value.0 in
    c.ok.ensures.value ∙ parsed_number c.args.word.now _ known c.requires.few c.requires.no_plus

pub returns-in-Err : goal.returns-in-Err
returns-in-Err c = sym (number_is_utf8 c.args.word.now c.in-Err.ensures.cases.0)
