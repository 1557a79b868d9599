-- Runs of a server over links that play a script.
use Rattle.std.specs.Prelude.{ℕ, ◌-◌, ◌^◌, List, Result, Ok}
use Rattle.command_setup.specs.hub_run.conn_core.declared.hub.Hub.{Hub}
use Rattle.command_setup.specs.hub_run.Runs.{RunReport, RunsTo}
use Rattle.command_setup.specs.hub_run.declared.fault.RunFault.{RunFault}
use Rattle.command_setup.specs.hub_run.declared.setup.Setup.{Setup}
use Rattle.ports.specs.Playing.{IsScriptedRun}
use Rattle.ports.specs.declared.entry.Entry.{Entry}
use Rattle.ports.specs.declared.script.Script.{Script}

-- the most turns that are taken of a script
abbrev pub most_turns : ℕ
most_turns = 2 ^ 64 - 1

-- the calls are answered as the script says, and come to this result
pub record RunsScript (setup : Setup) (script : Script) (old new : RunReport) (result : Result Hub RunFault)
    (run : List Entry) : Type 0 where
  pub scripted : IsScriptedRun script run
  pub ran : RunsTo setup most_turns old new result run

-- it came to its last turn
abbrev pub RunsWhole : Setup → Script → RunReport → RunReport → List Entry → Type 0
RunsWhole setup script old new run = (hub : Hub) × RunsScript setup script old new (Ok hub) run
