use Rattle.std.proofs.Common.{◌≡◌, ◌+◌, ℕ, ap, drop, false, sym, ◌∙◌}
use Rattle.ports.specs.Playing.{SendRules, is_turn, rules_at_turn}
use Rattle.ports.specs.Tables.{rules_in}
use Rattle.ports.proofs.RuleLemmas.{rule_acts_at, rule_at}
use Rattle.ports.proofs.rules.apply_rules.Goals as goal

pub loop-step-preserved : goal.loop-step-preserved
loop-step-preserved c =
    let steps = c.args.steps.now in
    let i = c.loop-step.step-index in
    let step = c.step-item.result in
    let rule : is_turn step ≡ false = sym c.is_turn.ensures ∙ c.if-is_turn.false in (
      ap (λ (n : ℕ). n + 1) c.loop-step.invariant.0,
      sym (rule_at steps i step c.loop-step-test.true c.step-item.is rule) ∙ c.loop-step.invariant.1,
      ap (λ (rules : SendRules). rules_at_turn (drop (i + 1) steps) rules) c.in_ok-apply_rule.ensures
          ∙ sym (rule_acts_at steps i step (rules_in c.loop-step.rules) c.loop-step-test.true c.step-item.is rule)
          ∙ c.loop-step.invariant.2,
    )
