use Rattle.std.proofs.Common.{◌≡◌, ◌∷◌, arith, rules}
use Rattle.journal_format.proofs.FindLaws.{head_read}
use Rattle.journal_format.proofs.finder.after_head.Goals as goal

pub returns-in-Some : goal.returns-in-Some
returns-in-Some c =
    let whole : c.args.bytes.now ≡ c.in-Some.gate.now ∷ c.in-Some.head.now = search rules in
    head_read (λ rest. rest.now) c.args.bytes.now c.in-Some.gate.now c.in-Some.head.now c.after_config.result
    (omega arith) whole c.after_config.ensures
