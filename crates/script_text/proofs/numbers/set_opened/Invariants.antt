use Rattle.std.proofs.Common.{◌≡◌, take}
use Rattle.script_text.specs.LinkLines.{opened_numbers}
use Rattle.script_text.proofs.numbers.set_opened.Given as goal

abbrev pub invariant-loop-step : goal.invariant-loop-step
invariant-loop-step l = l.numbers.keys ≡ opened_numbers (take l.step-index l.steps)
