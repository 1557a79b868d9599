use Rattle.std.proofs.Common.{length, sym, ◌∙◌}
use Rattle.std.proofs.lemmas.Bool.{eqb-true}
use Rattle.graphite_lines.proofs.WordLaws.{nothing_left}
use Rattle.graphite_lines.proofs.words.next_word.Goals as goal

pub returns-then-is_empty : goal.returns-then-is_empty
returns-then-is_empty c =
    nothing_left c.args.bytes.now c.skip_blanks-word.result.now c.skip_blanks-word.ensures.words
    (eqb-true (length c.skip_blanks-word.result.now) 0 (sym c.is_empty.ensures ∙ c.if-is_empty.true))
