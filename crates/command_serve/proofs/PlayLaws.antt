-- What a run over a load comes to, from what its parts say.
use Rattle.std.proofs.Common.{◌≡◌, ℕ, zero, suc, ◌+◌, List, [], ◌++◌, length, refl, ap, sym, ◌∙◌, subst, inl, arith}
use Rattle.std.specs.Prelude.{min, Some, Ok}
use Rattle.command_setup.specs.conn_core.Hub.{core_of}
use Rattle.command_setup.specs.conn_core.Turning.{CountedPuts, puts_after}
use Rattle.command_setup.specs.conn_core.declared.hub.Hub.{Hub}
use Rattle.command_setup.specs.event_core.Core.{Represents, config_of, state_by}
use Rattle.command_setup.specs.event_core.declared.arrivals.Core.{Core}
use Rattle.framing.specs.Frames.{frames_of}
use Rattle.command_setup.specs.hub_meaning.Runs.{state_after}
use Rattle.command_setup.specs.hub_meaning.Verdicts.{PatternsReport}
use Rattle.command_setup.specs.hub_run.Runs.{AddsRun, RunsTo, config_at}
use Rattle.command_setup.specs.hub_run.Taken.{steps_of}
use Rattle.command_setup.specs.hub_run.declared.setup.Setup.{Setup}
use Rattle.index_log.specs.Live.{live_events}
use Rattle.load_links.specs.Load.{load_script}
use Rattle.ports.specs.Calls.{AddsCalls}
use Rattle.ports.specs.Counts.{greatest}
use Rattle.ports.specs.Playing.{IsScriptedRun, Plays, bytes_taken}
use Rattle.ports.specs.ScriptLinks.{ScriptedCalls, script_report}
use Rattle.ports.specs.declared.entry.Entry.{Entry}
use Rattle.ports.specs.declared.script.Script.{Script}
use Rattle.stream_meaning.specs.Arrivals.{Arrival}
use Rattle.command_serve.specs.Summaries.{IsCutOff, IsPlayed, counted, summary_of}
use Rattle.command_serve.specs.declared.summary.Summary.{Summary}

-- ---- the lines that were counted

pub puts_from_none : (n : ℕ) → puts_after n 0 ≡ min n greatest
puts_from_none zero = omega arith
puts_from_none (suc n) =
    let step : min (min n greatest + 1) greatest ≡ min (suc n) greatest = omega arith in
    ap (λ count. min (count + 1) greatest) (puts_from_none n) ∙ step

lines_counted : (n lines : ℕ) → CountedPuts (Some 0) n (Some lines) → lines ≡ min n greatest
lines_counted n lines puts = let e : lines ≡ puts_after n 0 = cc in e ∙ puts_from_none n

-- ---- the calls that were made of the links

begun_plays : (script : Script) (log : List Entry) → log ≡ [] → Plays (Some script) (Some log)
begun_plays script log begins = λ played p calls q.
    let none : [] ≡ calls = cc in
    subst (λ entries. IsScriptedRun played entries) none tt

grown_from_none : (log log' run : List Entry) → log ≡ [] → Some log' ≡ Some (log ++ run) → log' ≡ run
grown_from_none log log' run begins grew = let e : log' ≡ log ++ run = cc in e ∙ ap (λ entries. entries ++ run) begins

scripted : (wanted : Script) (links links' : ScriptedCalls) (run : List Entry) → links.log ≡ [] → links.script ≡ wanted
    → AddsCalls (script_report links) (script_report links') run → IsScriptedRun wanted run
scripted wanted links links' run begins is calls =
    let played = calls.plays (begun_plays links.script links.log begins) links'.script refl links'.log refl in
    let same = calls.script in
    let script_is : links'.script ≡ wanted = cc in
    let run_is = grown_from_none links.log links'.log run begins calls.log in
    subst (λ entries. IsScriptedRun wanted entries) run_is (subst (λ s. IsScriptedRun s links'.log) script_is played)

-- ---- the run

abbrev pub IsLive : Core → ℕ → Type 0
IsLive core live =
    (arrivals : List Arrival) → Represents core arrivals
    → live ≡ length (live_events (state_by (config_of core) arrivals).log)

abbrev summary_with : ℕ → ℕ → ℕ → ℕ → Summary
summary_with events notices replies live = record { events = events; notices = notices; replies = replies; live = live }

same_summary : (events notices notices' replies replies' live live' : ℕ) → notices ≡ notices' → replies ≡ replies'
    → live ≡ live'
    → summary_with events notices replies live ≡ summary_with events notices' replies' live'
same_summary events notices notices' replies replies' live live' a b c = rw a (rw b (rw c refl))

finished : (setup : Setup) (count : ℕ) (patterns patterns' : PatternsReport) (forks forks' lines replies live : ℕ)
    (hub : Hub) (run : List Entry)
    → (finishes : RunsTo setup greatest (counted patterns forks 0) (counted patterns' forks' lines) (Ok hub) run)
    → replies ≡ length (frames_of (bytes_taken 0 run)) → IsLive (core_of hub) live
    → summary_with count lines replies live
    ≡ summary_of count (config_at setup finishes.secs) (steps_of finishes.took.turns) run
finished setup count patterns patterns' forks forks' lines replies live hub run finishes replied lives =
    let config = config_at setup finishes.secs in
    let arrivals = (state_after config (steps_of finishes.took.turns)).arrivals in
    let at = finishes.took.follows.state in
    let put = finishes.took.takes.lines in
    let noticed =
    lines_counted _ lines put.got.puts ∙ ap (λ notices. min (length notices) greatest) (sym put.notices) in
    let living = lives arrivals at.arrivals ∙ ap (λ c. length (live_events (state_by c arrivals).log)) at.config_is in
    same_summary count lines _ replies _ live _ noticed replied living

pub is_played : (setup : Setup) (count start : ℕ) (patterns patterns' : PatternsReport)
    (forks forks' lines replies live : ℕ) (hub : Hub) (core : Core)
    (links links' : ScriptedCalls) → links.log ≡ [] → links.script ≡ load_script count start
    → AddsRun (script_report links) (script_report links')
    (RunsTo setup greatest (counted patterns forks 0) (counted patterns' forks' lines) (Ok hub))
    → replies ≡ length (frames_of (bytes_taken 0 links'.log)) → core ≡ core_of hub → IsLive core live
    → IsPlayed setup count start patterns patterns' forks forks' (summary_with count lines replies live)
is_played setup count start patterns patterns' forks forks' lines replies live hub core links links' begins is adds
    replied of_hub lives = record {
      run = adds.run;
      hub = hub;
      scripted = scripted (load_script count start) links links' adds.run begins is adds.grew;
      finishes = adds.holds;
      sums = finished setup count patterns patterns' forks forks' lines replies live hub adds.run adds.holds
          (replied
          ∙ ap (λ entries. length (frames_of (bytes_taken 0 entries)))
          (grown_from_none links.log links'.log adds.run begins adds.grew.log))
          (subst (λ c. IsLive c live) of_hub lives);
    }

-- nothing was done
pub not_begun : (setup : Setup) (count start : ℕ) (patterns : PatternsReport) (forks : ℕ)
    → IsCutOff setup count start patterns patterns forks forks
not_begun setup count start patterns forks = record {
  run = [];
  lines = 0;
  scripted = tt;
  ran = inl (record { is = refl; same = refl });
}
