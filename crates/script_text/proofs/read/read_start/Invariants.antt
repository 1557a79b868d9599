use Rattle.std.proofs.Common.{◌≡◌, ◌+◌, length}
use Rattle.script_text.specs.Scripts.{script_from}
use Rattle.script_text.proofs.read.read_start.Given as goal

abbrev pub invariant-lines : goal.invariant-lines
invariant-lines l =
    script_from (l.lines.passed + 1) l.lines.lines ≡ script_from (l.fn.lines.passed + 1) l.fn.lines.lines

abbrev pub decreases-lines : goal.decreases-lines
decreases-lines l = length l.lines.lines
