use Rattle.command_texts.proofs.CheckLaws.{check_cause, check_cause_fault, check_not_read, check_quiet, check_reads}
use Rattle.command_texts.proofs.CheckLaws.{check_rose, check_took, check_writes, check_writes_fault}
use Rattle.command_io.proofs.FileLaws.{fetch_fault_rose, fetch_fault_took, fetch_not_complete, fetch_not_written}
use Rattle.command_io.proofs.ReadLaws.{fetch_reads_once}
use Rattle.command_texts.proofs.check_command.check_file.Goals as goal

pub returns-in-Ok-clause-cause : goal.returns-in-Ok-clause-cause
returns-in-Ok-clause-cause g c =
    check_cause c.args.name.now (g.S.Store.report c.args.store.now) (g.S.Store.report c.fetch_config.new.store)
    c.in-Ok.config _ _ _ _ c.check_config.result c.in-Ok.ensures.config
    c.check_config.ensures.ends

pub returns-in-Ok-clause-reads : goal.returns-in-Ok-clause-reads
returns-in-Ok-clause-reads g c =
    check_reads _ _ c.args.name.now c.in-Ok.config _ _ _ _ c.check_config.result c.check_config.ensures.ends
    c.in-Ok.ensures.reads

pub returns-in-Ok-clause-taken : goal.returns-in-Ok-clause-taken
returns-in-Ok-clause-taken g c = check_took c.in-Ok.config _ _ _ _ c.check_config.result _ _ c.check_config.ensures.ends

pub returns-in-Ok-clause-writes : goal.returns-in-Ok-clause-writes
returns-in-Ok-clause-writes g c =
    check_writes c.args.name.now (g.S.Store.report c.args.store.now) (g.S.Store.report c.fetch_config.new.store)
    c.in-Ok.config _ _ _ _ c.check_config.result c.in-Ok.ensures.config
    c.check_config.ensures.ends

pub returns-in-Ok-clause-quiet : goal.returns-in-Ok-clause-quiet
returns-in-Ok-clause-quiet g c =
    λ complete. (
      c.in-Ok.ensures.quiet,
      check_quiet c.in-Ok.config _ _ _ _ c.check_config.result c.check_config.ensures.ends complete,
    )

pub returns-in-Ok-clause-read_fault : goal.returns-in-Ok-clause-read_fault
returns-in-Ok-clause-read_fault g c =
    λ e. absurd (check_not_read c.in-Ok.config _ _ _ _ c.check_config.result c.check_config.ensures.ends e)

pub returns-in-Ok-clause-sink_fault : goal.returns-in-Ok-clause-sink_fault
returns-in-Ok-clause-sink_fault g c =
    λ e. check_rose c.in-Ok.config _ _ _ _ c.check_config.result c.check_config.ensures.ends e

pub returns-in-Err-clause-cause : goal.returns-in-Err-clause-cause
returns-in-Err-clause-cause g c =
    rw c.ending.ensures
    (check_cause_fault c.args.name.now c.as_str.result (g.S.Store.report c.args.store.now)
    (g.S.Store.report c.fetch_config.new.store) c.in-Err.fault c.as_str.ensures c.in-Err.ensures.fault)

pub returns-in-Err-clause-reads : goal.returns-in-Err-clause-reads
returns-in-Err-clause-reads g c =
    rw c.ending.ensures (fetch_reads_once _ _ c.args.name.now c.as_str.result c.in-Err.fault c.in-Err.ensures.reads)

pub returns-in-Err-clause-taken : goal.returns-in-Err-clause-taken
returns-in-Err-clause-taken g c =
    rw c.ending.ensures (fetch_fault_took c.args.name.now c.as_str.result (g.S.Store.report c.args.store.now)
    (g.S.Store.report c.fetch_config.new.store) c.in-Err.fault c.in-Err.ensures.fault)

pub returns-in-Err-clause-writes : goal.returns-in-Err-clause-writes
returns-in-Err-clause-writes g c =
    rw c.ending.ensures (check_writes_fault c.args.name.now c.as_str.result (g.S.Store.report c.args.store.now)
    (g.S.Store.report c.fetch_config.new.store) _ _ c.in-Err.fault
    c.in-Err.ensures.fault)

pub returns-in-Err-clause-quiet : goal.returns-in-Err-clause-quiet
returns-in-Err-clause-quiet g c =
    λ complete. absurd (fetch_not_complete c.as_str.result c.in-Err.fault (rw c.ending.ensures at complete))

pub returns-in-Err-clause-read_fault : goal.returns-in-Err-clause-read_fault
returns-in-Err-clause-read_fault g c =
    λ e. fetch_fault_rose c.args.name.now c.as_str.result (g.S.Store.report c.args.store.now)
    (g.S.Store.report c.fetch_config.new.store) c.in-Err.fault c.in-Err.ensures.fault (rw c.ending.ensures at e)

pub returns-in-Err-clause-sink_fault : goal.returns-in-Err-clause-sink_fault
returns-in-Err-clause-sink_fault g c =
    λ e. absurd (fetch_not_written c.as_str.result c.in-Err.fault (rw c.ending.ensures at e))
