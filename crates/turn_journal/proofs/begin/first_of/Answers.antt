use Rattle.std.proofs.Common.{◌≡◌, length, rules}
use Rattle.disk_port.specs.Past.{text_of}
use Rattle.turn_journal.proofs.BeginLaws.{first_of_file}
use Rattle.turn_journal.proofs.begin.first_of.Goals as goal

pub returns-in-Ok-clause-first : goal.returns-in-Ok-clause-first
returns-in-Ok-clause-first g c =
    let two : length c.read.new.buf ≡ 2 = search rules in
    λ past is. first_of_file c.in-Ok.count c.read.new.buf (text_of past) c.first_in.result two
    (c.in-Ok.ensures.bytes past is) c.first_in.ensures
