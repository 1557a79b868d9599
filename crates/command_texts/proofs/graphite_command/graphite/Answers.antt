use Rattle.std.proofs.Common.{refl}
use Rattle.command_io.specs.Endings.{Says, status_of}
use Rattle.command_io.specs.Fetches.{ending_of_file}
use Rattle.command_io.specs.Reports.{Reports, reports}
use Rattle.command_io.specs.declared.limits.TheConstants.{FILE_LIMIT}
use Rattle.command_texts.specs.Converts.{ConvertEnds, ConvertsText}
use Rattle.command_texts.proofs.ConvertLaws.{convert_complete, converted_ends, converted_reads, fault_ends}
use Rattle.command_texts.proofs.ConvertLaws.{fault_not_converted, fault_reads}
use Rattle.command_texts.proofs.graphite_command.graphite.Goals as goal

pub returns-in-Ok-clause-promise : goal.returns-in-Ok-clause-promise
returns-in-Ok-clause-promise g c = λ links patterns forks.
    let old : Reports =
    reports (g.S.Store.report c.args.store.now) links (g.O.Sink.report c.args.out.now) (g.E.Sink.report c.args.err.now)
    patterns forks in
    let new : Reports =
    reports (g.S.Store.report c.read_file.new.store) links (g.O.Sink.report c.convert_text.new.out)
    (g.E.Sink.report c.convert_text.new.err) patterns forks in
    let name = c.args.file.now in let host_part = c.args.host_part in let status = c.convert_text.result in
    let text : ConvertsText host_part c.in-Ok.text old.out new.out old.err new.err status =
    rw c.as_slice.ensures at c.convert_text.ensures.ends in
    let ends : ConvertEnds name host_part old new status =
    converted_ends name host_part old new c.in-Ok.text status (c.in-Ok.ensures.file, c.in-Ok.ensures.within) text in
    record {
      ends = ends;
      reads =
          converted_reads name host_part c.in-Ok.text old.out new.out old.err new.err old.store.reads new.store.reads
          status text c.in-Ok.ensures.reads;
      quiet = λ done. c.in-Ok.ensures.quiet;
      idle = (refl, refl, refl);
      complete = convert_complete name host_part old new status ends;
    }

pub returns-in-Err-clause-promise : goal.returns-in-Err-clause-promise
returns-in-Err-clause-promise g c = λ links patterns forks.
    let old : Reports =
    reports (g.S.Store.report c.args.store.now) links (g.O.Sink.report c.args.out.now) (g.E.Sink.report c.args.err.now)
    patterns forks in
    let new : Reports =
    reports (g.S.Store.report c.read_file.new.store) links (g.O.Sink.report c.args.out.now)
    (g.E.Sink.report c.report.new.err) patterns forks in
    let name = c.args.file.now in
    let shown = c.as_str.result in
    let host_part = c.args.host_part in
    let fault = c.in-Err.fault in
    let says : Says (ending_of_file shown FILE_LIMIT fault) old.err new.err =
    rw c.ending.ensures at c.report.ensures.says in
    let ends : ConvertEnds name host_part old new (status_of (ending_of_file shown FILE_LIMIT fault)) =
    fault_ends name shown host_part old new fault c.as_str.ensures c.in-Err.ensures.fault refl says in
    rw (c.report.ensures.status, c.ending.ensures) (record {
      ends = ends;
      reads = fault_reads name shown old.store.reads new.store.reads fault c.in-Err.ensures.reads;
      quiet = λ done. absurd (fault_not_converted shown fault done);
      idle = (refl, refl, refl);
      complete = convert_complete name host_part old new (status_of (ending_of_file shown FILE_LIMIT fault)) ends;
    })
