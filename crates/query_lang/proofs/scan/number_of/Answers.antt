use Rattle.std.proofs.Common.{List, ℕ, subst, sym, ap, ◌∙◌}
use Rattle.query_lang.specs.Tokens.{IsLiteral, number_of}
use Rattle.query_lang.proofs.ScanLaws.{number_read}
use Rattle.query_lang.proofs.scan.number_of.Goals as goal

pub returns : goal.returns
returns c =
    let same = c.in-Ok.ensures.cases.0 in
    c.ok.ensures.value
    ∙ number_read c.in-Ok.literal.now c.parse.result (subst (λ (text : List ℕ). IsLiteral text) (sym same) c.requires)
    c.parse.ensures.value.0
    ∙ ap number_of same
