-- What a load comes to.
use Rattle.std.specs.Prelude.{◌≡◌, ℕ, List, [], ◌∷◌, ◌++◌, codes, length, min, None, Some, Ok, Err}
use Rattle.std.specs.Fmt.{decimal}
use Rattle.command_setup.specs.conn_core.declared.hub.Hub.{Hub}
use Rattle.command_setup.specs.event_core.Core.{CoreConfig, state_by}
use Rattle.framing.specs.Frames.{frames_of}
use Rattle.command_setup.specs.hub_meaning.Runs.{Step, notices_after, state_after}
use Rattle.command_setup.specs.hub_meaning.Verdicts.{PatternsReport}
use Rattle.command_setup.specs.hub_run.Runs.{RunReport, RunsTo, config_at, run_report}
use Rattle.command_setup.specs.hub_run.Taken.{steps_of}
use Rattle.command_setup.specs.hub_run.declared.fault.RunFault.TheVariants.{Memory}
use Rattle.command_setup.specs.hub_run.declared.setup.Setup.{Setup}
use Rattle.index_log.specs.Live.{live_events}
use Rattle.load_links.specs.Load.{load_script}
use Rattle.ports.specs.Counts.{greatest}
use Rattle.ports.specs.Playing.{IsScriptedRun, bytes_taken}
use Rattle.ports.specs.declared.entry.Entry.{Entry}
use Rattle.command_serve.specs.declared.summary.Summary.{Summary}

-- the line of a summary
abbrev pub summary_line : Summary → List ℕ
summary_line summary =
    codes "events " ++ (decimal summary.events
    ++ (codes " notices " ++ (decimal summary.notices
    ++ (codes " replies " ++ (decimal summary.replies
    ++ (codes " live " ++ (decimal summary.live ++ 10 ∷ [])))))))

-- What a load of `count` events came to, from the steps of a server and the calls that it made on its links: the
-- notices that the streams gave, the replies that were taken from the client's link, and the events that are live.
abbrev pub summary_of : ℕ → CoreConfig → List Step → List Entry → Summary
summary_of count config steps run = record {
  events = count;
  notices = min (length (notices_after config steps)) greatest;
  replies = length (frames_of (bytes_taken 0 run));
  live = length (live_events (state_by config (state_after config steps).arrivals).log);
}

-- what changes in a run whose notice lines are counted, and not written
abbrev pub counted : PatternsReport → ℕ → ℕ → RunReport
counted patterns forks lines = run_report patterns forks (record { text = None; puts = Some lines; faults = 0 })

-- A server was run over the load of `count` events that are drawn from the number `start`, to its last turn, and this
-- is what the load came to.
pub record IsPlayed (setup : Setup) (count start : ℕ) (patterns patterns' : PatternsReport) (forks forks' : ℕ)
    (summary : Summary) : Type 0 where
  pub run : List Entry
  pub hub : Hub
  pub scripted : IsScriptedRun (load_script count start) run
  pub finishes : RunsTo setup greatest (counted patterns forks 0) (counted patterns' forks' summary.notices) (Ok hub) run
  pub sums : summary ≡ summary_of count (config_at setup finishes.secs) (steps_of finishes.took.turns) run

-- a server was run over the load until memory ran out
pub record IsCutOff (setup : Setup) (count start : ℕ) (patterns patterns' : PatternsReport)
    (forks forks' : ℕ) : Type 0 where
  pub run : List Entry
  pub lines : ℕ
  pub scripted : IsScriptedRun (load_script count start) run
  pub ran : RunsTo setup greatest (counted patterns forks 0) (counted patterns' forks' lines) (Err Memory) run
