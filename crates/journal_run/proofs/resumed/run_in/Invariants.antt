use Rattle.journal_run.proofs.resumed.run_in.Given as goal

abbrev pub ghosts-run_noted : goal.ghosts-run_noted
ghosts-run_noted g a = record {
  lent = record {
    lent = record {
      links_name = a.links.recorded.inner.ghost_name;
      disk_name = a.links.recorded.recorder.journal.disk.ghost_name;
      links = g.L.Links.report a.links.recorded.inner.now;
      disk = g.D.Disk.report a.links.recorded.recorder.journal.disk.now;
      found = record {
        gate = a.links.recorded.recorder.journal.gate;
        has_record = a.links.recorded.recorder.journal.has_record;
      };
    };
    records = a.links.replay.now.records;
  };
}
