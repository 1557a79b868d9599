use Rattle.std.proofs.Common.{sym, ◌∙◌}
use Rattle.graphite_lines.proofs.PathLaws.{path_of_no_text, path_of_text}
use Rattle.graphite_lines.proofs.path.read_path.Goals as goal

pub returns-in-Ok : goal.returns-in-Ok
returns-in-Ok c = (
  path_of_text c.args.word.now c.if-word-gt-PATH_LIMIT.false
      (sym c.are_path_bytes.ensures ∙ c.if-not-are_path_bytes.false) c.in-Ok.ensures.cases.1,
  c.in-Ok.ensures.cases.0,
)

pub returns-in-Err : goal.returns-in-Err
returns-in-Err c = path_of_no_text c.args.word.now c.in-Err.ensures.cases.0
