-- The calls that one run made of links that were not called before.
use Rattle.std.proofs.Common.{◌≡◌, List, [], refl, sym, subst}
use Rattle.std.specs.Prelude.{Some, Result}
use Rattle.command_setup.specs.hub_run.conn_core.declared.hub.Hub.{Hub}
use Rattle.command_setup.specs.hub_run.Runs.{AddsRun, RunReport, RunsTo}
use Rattle.command_setup.specs.hub_run.declared.fault.RunFault.{RunFault}
use Rattle.command_setup.specs.hub_run.declared.setup.Setup.{Setup}
use Rattle.ports.specs.Calls.{LinksReport}
use Rattle.ports.specs.Playing.{IsScriptedRun, Plays}
use Rattle.ports.specs.ScriptLinks.{ScriptedCalls, script_report}
use Rattle.ports.specs.declared.entry.Entry.{Entry}
use Rattle.ports.specs.declared.script.Script.{Script}
use Rattle.command_files.specs.Runs.{RunsScript, most_turns}

-- all calls are those of the run
run_of_all : (before after : LinksReport) (old new : List Entry) (P : List Entry → Type 0) → before.log ≡ Some old
    → after.log ≡ Some new → old ≡ []
    → AddsRun before after P → P new
run_of_all before after old new P old_is new_is begins adds =
    let same : new ≡ adds.run = (let grew = rw (old_is, new_is, begins) at adds.grew.log in cc) in
    subst P (sym same) adds.holds

plays_at_first : (script : Script) (log : List Entry) → log ≡ [] → Plays (Some script) (Some log)
plays_at_first script log begins = λ played is entries are. let none : entries ≡ [] = cc in rw none tt

scripted : (script : Script) (log : List Entry) → Plays (Some script) (Some log) → IsScriptedRun script log
scripted script log plays = plays script refl log refl

-- a run over links that play a script, which were not called before
pub ran_script : (setup : Setup) (before after : ScriptedCalls) (old new : RunReport) (result : Result Hub RunFault)
    → before.log ≡ []
    → AddsRun (script_report before) (script_report after) (RunsTo setup most_turns old new result)
    → RunsScript setup before.script old new result after.log
ran_script setup before after old new result begins adds = record {
  scripted =
      scripted before.script after.log
      (rw adds.grew.script at (adds.grew.plays (plays_at_first before.script before.log begins)));
  ran =
      run_of_all (script_report before) (script_report after) before.log after.log
      (RunsTo setup most_turns old new result) refl refl begins adds;
}

-- and of the same script
pub same_script : (before after : ScriptedCalls) (P : List Entry → Type 0)
    → AddsRun (script_report before) (script_report after) P → after.script ≡ before.script
same_script before after P adds = let same = adds.grew.script in cc
