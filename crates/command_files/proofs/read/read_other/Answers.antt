use Rattle.command_files.proofs.OtherLaws.{other_refused, other_unread}
use Rattle.command_files.proofs.read.read_other.Goals as goal

pub returns-in-Err-clause-refused : goal.returns-in-Err-clause-refused
returns-in-Err-clause-refused g c =
    rw c.ending.ensures (other_refused c.args.name.now c.as_str.result (g.S.Store.report c.args.store.now)
    (g.S.Store.report c.read_file.new.store)
    c.in-Err.fault c.as_str.ensures c.in-Err.ensures.fault)

pub returns-in-Err-clause-reads : goal.returns-in-Err-clause-reads
returns-in-Err-clause-reads g c =
    rw c.ending.ensures (other_unread _ _ c.args.name.now c.as_str.result c.in-Err.fault c.in-Err.ensures.reads)
