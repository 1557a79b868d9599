use Rattle.std.proofs.Common.{◌≡◌, drop}
use Rattle.ports.specs.Playing.{from_turn, rules_at_turn}
use Rattle.ports.specs.Tables.{rules_in}
use Rattle.ports.proofs.rules.apply_rules.Given as goal

abbrev pub invariant-loop-step : goal.invariant-loop-step
invariant-loop-step l =
    (l.count ≡ l.step-index)
    × (from_turn (drop l.step-index l.steps) ≡ from_turn l.steps)
    × (rules_at_turn (drop l.step-index l.steps) (rules_in l.rules) ≡ rules_at_turn l.steps (rules_in l.initial.rules))
