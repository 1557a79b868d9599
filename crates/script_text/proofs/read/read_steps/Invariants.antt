use Rattle.std.proofs.Common.{◌≡◌, ◌+◌, length}
use Rattle.script_text.specs.Scripts.{steps_from}
use Rattle.script_text.proofs.StepLemmas.{onto}
use Rattle.script_text.proofs.read.read_steps.Given as goal

abbrev pub invariant-lines : goal.invariant-lines
invariant-lines l =
    onto l.steps (steps_from (l.lines.passed + 1) l.lines.lines) ≡ steps_from (l.fn.lines.passed + 1) l.fn.lines.lines

abbrev pub decreases-lines : goal.decreases-lines
decreases-lines l = length l.lines.lines
