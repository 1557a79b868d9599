use Rattle.command_io.proofs.ConfigLaws.{file_of_text, text_reads}
use Rattle.command_io.proofs.fetch.fetch_config.Goals as goal

pub returns-in-Ok-clause-fault : goal.returns-in-Ok-clause-fault
returns-in-Ok-clause-fault g c =
    file_of_text c.args.name.now c.in-Ok.text _ _ c.read_text.result c.in-Ok.ensures.file c.in-Ok.ensures.within
    (rw c.as_slice.ensures at c.read_text.ensures.fault)

pub returns-in-Ok-clause-reads : goal.returns-in-Ok-clause-reads
returns-in-Ok-clause-reads g c =
    rw (text_reads c.args.name.now c.in-Ok.text c.read_text.result (rw c.as_slice.ensures at c.read_text.ensures.fault))
    c.in-Ok.ensures.reads
