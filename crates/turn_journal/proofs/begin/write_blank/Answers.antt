use Rattle.std.proofs.Common.{length}
use Rattle.turn_journal.specs.Beginning.{begun_past, blank_bytes, headed_past}
use Rattle.turn_journal.proofs.BeginLaws.{both_only, done_twice, head_only}
use Rattle.turn_journal.proofs.begin.write_blank.Goals as goal

pub returns-in-Ok-clause-done : goal.returns-in-Ok-clause-done
returns-in-Ok-clause-done g c =
    done_twice c.open_first.result (headed_past c.args.config.now) begun_past (g.D.Disk.report c.args.disk.now).past
    (g.D.Disk.report c.write_head.new.disk).past (g.D.Disk.report c.open_first.new.disk).past
    c.in-Ok.ensures.done c.open_first.ensures.done

pub returns-in-Ok-clause-any_moment : goal.returns-in-Ok-clause-any_moment
returns-in-Ok-clause-any_moment g c =
    both_only c.args.config.now (length (blank_bytes c.args.config.now)) (g.D.Disk.report c.args.disk.now).past
    (g.D.Disk.report c.write_head.new.disk).past (g.D.Disk.report c.open_first.new.disk).past
    c.requires.small c.in-Ok.ensures.done c.in-Ok.ensures.any_moment c.open_first.ensures.any_moment

pub returns-in-Err-clause-any_moment : goal.returns-in-Err-clause-any_moment
returns-in-Err-clause-any_moment g c =
    head_only c.args.config.now (length (blank_bytes c.args.config.now)) (g.D.Disk.report c.args.disk.now).past
    (g.D.Disk.report c.write_head.new.disk).past c.in-Err.ensures.any_moment
