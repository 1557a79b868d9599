use Rattle.std.proofs.Common.{refl}
use Rattle.std.specs.Prelude.{None}
use Rattle.command_files.proofs.ReplayLaws.{replay_complete, replay_not_linked, replay_read_rose, replay_sink_rose}
use Rattle.command_files.proofs.replay_command.replay.Goals as goal

pub returns-clause-promise : goal.returns-clause-promise
returns-clause-promise g c = λ links. record {
  ending = c.replay_files-ending.result;
  ended = c.report.ensures.status;
  says = c.report.ensures.says;
  ends = c.replay_files-ending.ensures.ends links _ _;
  untouched = refl;
  quiet = c.replay_files-ending.ensures.quiet;
  complete = λ text lines read played holds is fits holds_lines is_script lines_fit reads_still out_still still.
      rw c.report.ensures.status
      (replay_complete _ _ _ _ _ text lines read played c.replay_files-ending.result
      (c.replay_files-ending.ensures.ends links
      (record { text = None; puts = None; faults = 0 }) (record { text = None; puts = None; faults = 0 })) holds is fits
      holds_lines is_script lines_fit reads_still out_still still);
}

pub returns-clause-read_fault : goal.returns-clause-read_fault
returns-clause-read_fault g c = λ e.
    replay_read_rose _ _ _ _ _ c.replay_files-ending.result
    (c.replay_files-ending.ensures.ends (record { log = None; script = None; faults = 0 })
    (record { text = None; puts = None; faults = 0 }) (record { text = None; puts = None; faults = 0 }))
    (rw c.report.ensures.status at e)

pub returns-clause-sink_fault : goal.returns-clause-sink_fault
returns-clause-sink_fault g c = λ e.
    replay_sink_rose _ _ _ _ _ c.replay_files-ending.result
    (c.replay_files-ending.ensures.ends (record { log = None; script = None; faults = 0 })
    (record { text = None; puts = None; faults = 0 }) (record { text = None; puts = None; faults = 0 }))
    (rw c.report.ensures.status at e)

pub returns-clause-links_work : goal.returns-clause-links_work
returns-clause-links_work g c = λ e.
    replay_not_linked _ _ _ _ _ c.replay_files-ending.result
    (c.replay_files-ending.ensures.ends (record { log = None; script = None; faults = 0 })
    (record { text = None; puts = None; faults = 0 }) (record { text = None; puts = None; faults = 0 }))
    (rw c.report.ensures.status at e)
