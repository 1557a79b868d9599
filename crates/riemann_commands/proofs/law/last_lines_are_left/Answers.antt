use Rattle.riemann_commands.proofs.IndexedLaws.{last_lines}
use Rattle.riemann_commands.proofs.law.last_lines_are_left.Goals as goal

pub returns : goal.returns
returns c = last_lines c.frames_are_read_back.ensures c.feeds_are_posted.ensures
