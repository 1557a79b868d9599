use Rattle.std.proofs.Common.{◌≡◌, take}
use Rattle.command_texts.specs.Converts.{refused_text}
use Rattle.command_texts.proofs.text.refused_text.Given as goal

abbrev pub invariant-loop-line : goal.invariant-loop-line
invariant-loop-line l = l.text ≡ refused_text (take l.line-index l.bad)
