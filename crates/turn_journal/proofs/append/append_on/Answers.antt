use Rattle.std.proofs.Common.{length}
use Rattle.turn_journal.proofs.AppendLaws.{done_if_ok, first_torn, gate_within_put, ready_if_ok, second_torn}
use Rattle.turn_journal.proofs.AppendLaws.{within_done}
use Rattle.turn_journal.proofs.append.append_on.Goals as goal

pub returns-in-Ok-clause-ok : goal.returns-in-Ok-clause-ok
returns-in-Ok-clause-ok g c =
    done_if_ok c.open_gate.result (g.D.Disk.report c.args.disk.now).past (g.D.Disk.report c.put_after.new.disk).past
    (g.D.Disk.report c.open_gate.new.disk).past c.args.gate c.args.bytes.now
    c.requires.room c.in-Ok.ensures.done c.open_gate.ensures.done

pub returns-in-Ok-clause-any_moment : goal.returns-in-Ok-clause-any_moment
returns-in-Ok-clause-any_moment g c = λ has_record text is adds.
    second_torn (g.D.Disk.report c.args.disk.now).past (g.D.Disk.report c.put_after.new.disk).past
    (g.D.Disk.report c.open_gate.new.disk).past c.args.gate has_record c.args.bytes.now text is adds
    c.requires.room c.in-Ok.ensures.done c.in-Ok.ensures.any_moment c.open_gate.ensures.any_moment

pub returns-in-Err-clause-any_moment : goal.returns-in-Err-clause-any_moment
returns-in-Err-clause-any_moment g c = λ has_record text is adds.
    first_torn (g.D.Disk.report c.args.disk.now).past (g.D.Disk.report c.put_after.new.disk).past c.args.gate
    (length c.args.bytes.now) has_record text adds c.in-Err.ensures.any_moment

pub returns-in-Ok-clause-ready : goal.returns-in-Ok-clause-ready
returns-in-Ok-clause-ready g c =
    ready_if_ok c.open_gate.result (g.D.Disk.report c.args.disk.now).past (g.D.Disk.report c.put_after.new.disk).past
    (g.D.Disk.report c.open_gate.new.disk).past c.args.gate c.args.bytes.now
    c.requires.room c.in-Ok.ensures.done c.open_gate.ensures.done

pub open_gate-requires : goal.open_gate-requires
open_gate-requires g c =
    gate_within_put c.args.gate c.args.bytes.now (g.D.Disk.report c.args.disk.now).past
    (g.D.Disk.report c.put_after.new.disk).past c.in-Ok.ensures.done c.requires.within

pub returns-in-Ok-clause-within : goal.returns-in-Ok-clause-within
returns-in-Ok-clause-within g c =
    within_done c.open_gate.result (g.D.Disk.report c.args.disk.now).past (g.D.Disk.report c.put_after.new.disk).past
    (g.D.Disk.report c.open_gate.new.disk).past c.args.gate c.args.bytes.now
    c.requires.within c.in-Ok.ensures.done c.open_gate.ensures.done
