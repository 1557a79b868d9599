use Rattle.command_setup.proofs.CommandIoReadLaws.{fetch_reads_once}
use Rattle.command_setup.proofs.SetupLaws.{refuses_fetch}
use Rattle.command_setup.specs.command_io.declared.fetch.FetchFault.TheVariants.{File}
use Rattle.command_record.proofs.fetch.fetch_text.Goals as goal

pub returns-in-Err-clause-fault : goal.returns-in-Err-clause-fault
returns-in-Err-clause-fault g c =
    rw c.ending.ensures (refuses_fetch c.args.name.now c.as_str.result (g.S.Store.report c.args.store.now)
    (g.S.Store.report c.read_file.new.store)
    (g.P.Patterns.report c.args.patterns.now) (File c.in-Err.fault) c.as_str.ensures c.in-Err.ensures.fault)

pub returns-in-Err-clause-reads : goal.returns-in-Err-clause-reads
returns-in-Err-clause-reads g c =
    rw c.ending.ensures
    (fetch_reads_once _ _ c.args.name.now c.as_str.result (File c.in-Err.fault) c.in-Err.ensures.reads)
