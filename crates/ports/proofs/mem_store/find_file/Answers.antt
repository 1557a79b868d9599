use Rattle.std.proofs.Common.{◌≡◌, ◌∙◌, sym, arith}
use Rattle.ports.proofs.FileLemmas.{held_in-drop_same, held_in-drop_other}
use Rattle.ports.proofs.mem_store.find_file.Goals as goal

pub returns-then-is : goal.returns-then-is
returns-then-is c =
    let same : c.file-item.result.0 ≡ c.args.name.now = grind arith in
    sym (c.loop-file.invariant
    ∙ held_in-drop_same c.args.files.now c.loop-file.file-index c.file-item.result c.args.name.now (omega arith)
    c.file-item.is same)

pub loop-file-preserved : goal.loop-file-preserved
loop-file-preserved c =
    let other : c.file-item.result.0 ≡ c.args.name.now → ⊥ = grind arith in
    c.loop-file.invariant
    ∙ held_in-drop_other c.args.files.now c.loop-file.file-index c.file-item.result c.args.name.now (omega arith)
    c.file-item.is other
