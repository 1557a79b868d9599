use Rattle.std.proofs.Common.{◌≤◌, length}
use Rattle.disk_port.specs.Past.{text_of}
use Rattle.turn_journal.specs.Beginning.{blank_past, closed_past}
use Rattle.turn_journal.proofs.AppendLaws.{place_then}
use Rattle.turn_journal.proofs.BeginLaws.{always, close_only, close_then, done_twice}
use Rattle.turn_journal.proofs.begin.begin_short.Goals as goal

pub begin_closed-requires-clause-within : goal.begin_closed-requires-clause-within
begin_closed-requires-clause-within g c =
    place_then closed_past (λ _. Unit {0}) (λ past. 1 ≤ length (text_of past)) (g.D.Disk.report c.args.disk.now).past
    (g.D.Disk.report c.close_first.new.disk).past
    always c.in-Ok.ensures.done (λ past is. tt)

pub returns-in-Ok-clause-done : goal.returns-in-Ok-clause-done
returns-in-Ok-clause-done g c =
    done_twice c.begin_closed.result closed_past (blank_past c.args.config.now) (g.D.Disk.report c.args.disk.now).past
    (g.D.Disk.report c.close_first.new.disk).past (g.D.Disk.report c.begin_closed.new.disk).past
    c.in-Ok.ensures.done c.begin_closed.ensures.done

pub returns-in-Ok-clause-any_moment : goal.returns-in-Ok-clause-any_moment
returns-in-Ok-clause-any_moment g c =
    close_then c.args.config.now (g.D.Disk.report c.args.disk.now).past (g.D.Disk.report c.close_first.new.disk).past
    (g.D.Disk.report c.begin_closed.new.disk).past
    c.in-Ok.ensures.done c.in-Ok.ensures.any_moment c.begin_closed.ensures.any_moment

pub returns-in-Err-clause-any_moment : goal.returns-in-Err-clause-any_moment
returns-in-Err-clause-any_moment g c =
    close_only c.args.config.now (g.D.Disk.report c.args.disk.now).past
    (g.D.Disk.report c.close_first.new.disk).past c.in-Err.ensures.any_moment
