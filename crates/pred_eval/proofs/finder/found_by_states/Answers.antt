use Rattle.std.proofs.Common.{◌≡◌, ℕ, true, is_some, sym, ap, ◌∙◌}
use Rattle.std.proofs.lemmas.Option.{none-some, same_Some}
use Rattle.regex_hir.specs.Text.{is_boundary}
use Rattle.regex.proofs.Utf8Lemmas.{test_of_IsCharBoundary}
use Rattle.pred_eval.proofs.SearchLaws.{states_find}
use Rattle.pred_eval.proofs.finder.found_by_states.Goals as goal

pub returns-in-Ok-None : goal.returns-in-Ok-None
returns-in-Ok-None c pattern of =
    ap is_some (sym c.in-Ok-None.field-0-is)
    ∙ states_find pattern c.args.states.now of c.args.text.now (λ k. (c.type_inv.text k).fits) c.as_bytes.result.now _
    (sym c.as_bytes.ensures.value) (sym c.last_start-last.ensures) c.in-Ok-None.field-0 c.in-Ok-None.ensures.span
    (λ s some. absurd (none-some s (sym c.in-Ok-None.field-0-is ∙ some)))

pub returns-in-Ok-Some : goal.returns-in-Ok-Some
returns-in-Ok-Some c pattern of =
    let cut : is_boundary c.args.text.now c.in-Ok-Some.start ≡ true =
    test_of_IsCharBoundary c.args.text.now c.in-Ok-Some.start
    (c.is_char_boundary.ensures.test.0 c.if-is_char_boundary.true) in
    ap is_some (sym c.in-Ok-Some.field-0-is)
    ∙ states_find pattern c.args.states.now of c.args.text.now (λ k. (c.type_inv.text k).fits) c.as_bytes.result.now _
    (sym c.as_bytes.ensures.value) (sym c.last_start-last.ensures) c.in-Ok-Some.field-0 c.in-Ok-Some.ensures.span
    (λ s some. ap (λ (s : ℕ × ℕ). is_boundary c.args.text.now s.0) (same_Some _ _ (sym some ∙ c.in-Ok-Some.field-0-is))
    ∙ ap (is_boundary c.args.text.now) (sym c.in-Ok-Some.start-is) ∙ cut)
