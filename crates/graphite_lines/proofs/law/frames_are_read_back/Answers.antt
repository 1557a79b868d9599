use Rattle.graphite_lines.proofs.ReadAgain.{read_back}
use Rattle.graphite_lines.proofs.law.frames_are_read_back.Goals as goal

pub returns : goal.returns
returns c = read_back
