use Rattle.std.proofs.Common.{ℕ, ◌+◌, ◌==◌, List, ◌∷◌, take, sym, ap, ◌∙◌}
use Rattle.std.specs.List.{slice_split}
use Rattle.script_text.proofs.CutLemmas.{cut_at, take_rest}
use Rattle.script_text.proofs.cut.cut.Goals as goal

pub returns-in-Some-clause-parts : goal.returns-in-Some-clause-parts
returns-in-Some-clause-parts c =
    let bytes = c.args.bytes.now in let end = c.in-Some.end in
    cut_at _ bytes end (sym c.in-Some.ensures)
    ∙ ap (λ (rest : List ℕ). take end bytes ∷ slice_split (λ byte. byte == c.args.separator) rest)
    (sym (take_rest (end + 1) bytes))
