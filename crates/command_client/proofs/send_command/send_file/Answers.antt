use Rattle.std.proofs.Common.{inl, inr, refl}
use Rattle.command_io.proofs.FileLaws.{file_fault_rose}
use Rattle.command_client.proofs.SendLaws.{fault_not_linked, fault_not_read, fault_reads, sent_reads, unread_as}
use Rattle.command_client.proofs.send_command.send_file.Goals as goal

pub returns-in-Ok-clause-ends : goal.returns-in-Ok-clause-ends
returns-in-Ok-clause-ends g c =
    inr (record {
      frames = c.in-Ok.frames;
      gives = c.in-Ok.ensures.file;
      within = c.in-Ok.ensures.within;
      ends = c.send_frames.ensures.ends;
    })

pub returns-in-Ok-clause-reads : goal.returns-in-Ok-clause-reads
returns-in-Ok-clause-reads g c =
    sent_reads c.args.file.now _ _ c.send_frames.result c.send_frames.ensures.accepted c.in-Ok.ensures.reads

pub returns-in-Ok-clause-read_fault : goal.returns-in-Ok-clause-read_fault
returns-in-Ok-clause-read_fault g c = λ e. absurd (c.send_frames.ensures.accepted (rw e tt))

pub returns-in-Err-clause-ends : goal.returns-in-Err-clause-ends
returns-in-Err-clause-ends g c = rw c.ending.ensures (inl (record {
  unread =
      unread_as c.args.file.now c.as_str.result (g.S.Store.report c.args.store.now)
      (g.S.Store.report c.read_file.new.store) c.in-Err.fault c.as_str.ensures c.in-Err.ensures.fault;
  uncalled = refl;
  untouched = refl;
}))

pub returns-in-Err-clause-reads : goal.returns-in-Err-clause-reads
returns-in-Err-clause-reads g c =
    rw c.ending.ensures (fault_reads c.args.file.now c.as_str.result _ _ c.in-Err.fault c.in-Err.ensures.reads)

pub returns-in-Err-clause-quiet : goal.returns-in-Err-clause-quiet
returns-in-Err-clause-quiet g c =
    rw c.ending.ensures (λ read. absurd (fault_not_read c.as_str.result c.in-Err.fault read))

pub returns-in-Err-clause-read_fault : goal.returns-in-Err-clause-read_fault
returns-in-Err-clause-read_fault g c =
    rw c.ending.ensures (file_fault_rose c.args.file.now c.as_str.result _ (g.S.Store.report c.args.store.now)
    (g.S.Store.report c.read_file.new.store) c.in-Err.fault c.in-Err.ensures.fault)

pub returns-in-Err-clause-link_fault : goal.returns-in-Err-clause-link_fault
returns-in-Err-clause-link_fault g c =
    rw c.ending.ensures (λ is. absurd (fault_not_linked c.as_str.result c.in-Err.fault is))
