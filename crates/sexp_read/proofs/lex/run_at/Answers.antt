use Rattle.std.proofs.Common.{arith}
use Rattle.std.proofs.lemmas.Grind.{common_steps}
use Rattle.sexp_read.proofs.Pieces.{run_is_some}
use Rattle.sexp_read.proofs.lex.run_at.Goals as goal

pub returns-clause-moves : goal.returns-clause-moves
returns-clause-moves c =
    let some = run_is_some _ c.args.place c.in_ok-atom.atom c.in_ok-atom.ensures in
    (grind (arith, common_steps, some), grind (arith, common_steps))
