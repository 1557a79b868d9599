use Rattle.std.proofs.Common.{sym, ◌∙◌}
use Rattle.sexp_read.proofs.Numbers.{parsed_number, number_is_utf8}
use Rattle.sexp_read.proofs.atom.number_of.Goals as goal

pub returns-in-Ok : goal.returns-in-Ok
returns-in-Ok c =
    let known = rw c.in-Ok.ensures.cases.0 at c.parse.ensures.value.0 in
    c.ok.ensures.value ∙ parsed_number c.args.run.now _ known c.requires

pub returns-in-Err : goal.returns-in-Err
returns-in-Err c = sym (number_is_utf8 c.args.run.now c.in-Err.ensures.cases.0)
