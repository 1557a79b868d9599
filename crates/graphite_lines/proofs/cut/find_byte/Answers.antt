use Rattle.graphite_lines.proofs.Finds.{first_place}
use Rattle.graphite_lines.proofs.cut.find_byte.Goals as goal

pub returns : goal.returns
returns c = first_place c.args.wanted c.args.bytes.now c.memchr.result c.memchr.ensures
