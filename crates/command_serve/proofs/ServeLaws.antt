-- What `serve` promises, from what its parts say.
use Rattle.std.proofs.Common.{◌≡◌, ◌≢◌, ℕ, ◌≤◌, List, length, refl, inr, arith}
use Rattle.std.specs.Prelude.{Result, Ok, Err}
use Rattle.command_setup.specs.conn_core.declared.hub.Hub.{Hub}
use Rattle.command_setup.specs.hub_run.declared.fault.RunFault.{RunFault}
use Rattle.command_setup.specs.hub_run.declared.fault.RunFault.TheVariants.{Links, Sink, Memory}
use Rattle.command_setup.specs.hub_run.declared.setup.Setup.{Setup}
use Rattle.ports.specs.Counts.{IsStill, Rose}
use Rattle.ports.specs.Reading.{IsHeld}
use Rattle.command_setup.specs.sexp_config.declared.config.Config.{Config}
use Rattle.command_setup.specs.sexp_config.Config.{IsConfigOf}
use Rattle.command_setup.specs.command_io.declared.ending.Ending.{Ending}
use Rattle.command_setup.specs.command_io.declared.ending.Ending.TheVariants.{Finished, ConfigRefused, Unread}
use Rattle.command_setup.specs.command_io.declared.ending.Ending.TheVariants.{OverLimit, BytesLeft, WriteFailed}
use Rattle.command_setup.specs.command_io.declared.ending.Ending.TheVariants.{LinksFailed, ScriptRefused, OutOfMemory}
use Rattle.command_setup.specs.command_io.declared.limits.TheConstants.{CONFIG_LIMIT}
use Rattle.command_setup.specs.command_io.declared.status.Status.TheVariants.{ReadFault, SinkFault, LinkFault}
use Rattle.command_setup.specs.command_io.Endings.{HasNoConfig, IsDoneOrMemory}
use Rattle.command_setup.specs.command_io.Endings.{status_of}
use Rattle.command_setup.specs.command_io.Reports.{Reports as Reporting}
use Rattle.command_setup.specs.command_io.Accepting.{RefusesSetup}
use Rattle.command_setup.specs.Setups.{SetsUp}
use Rattle.command_setup.proofs.FaultLaws.{cut_has_config}
use Rattle.command_setup.proofs.SetupLaws.{refused_for_memory, refused_rose}
use Rattle.command_serve.specs.Serves.{RanOn, ServeEnds, ending_of_run}

-- ---- after a run

pub served : (config : List ℕ) (turns : ℕ) (setup : Setup) (old new : Reporting) (ran : Result Hub RunFault)
    → SetsUp config old.store new.store setup → RanOn setup turns old new ran
    → (ran ≡ Err Links → Rose old.links.faults new.links.faults) → (ran ≡ Err Sink → Rose old.out.faults new.out.faults)
    → (ran ≢ Err Links → new.links.faults ≡ old.links.faults) → (ran ≢ Err Sink → new.out.faults ≡ old.out.faults)
    → ServeEnds config turns old new (ending_of_run ran)
served config turns setup old new (Ok hub) sets ran links_rose sink_rose links_quiet sink_quiet =
    (setup, sets, (hub, ran))
served config turns setup old new (Err Links) sets ran links_rose sink_rose links_quiet sink_quiet =
    (setup, sets, ran, links_rose refl)
served config turns setup old new (Err Sink) sets ran links_rose sink_rose links_quiet sink_quiet =
    (setup, sets, ran, sink_rose refl)
served config turns setup old new (Err Memory) sets ran links_rose sink_rose links_quiet sink_quiet =
    inr (setup, sets, ran, links_quiet (λ e. cc), sink_quiet (λ e. cc))

pub run_has_config : (ran : Result Hub RunFault) → HasNoConfig (ending_of_run ran) → ⊥
run_has_config (Ok hub) refused = refused
run_has_config (Err fault) refused = cut_has_config fault refused

-- ---- where there is no configuration

-- ---- the causes of faults

pub serve_read_rose : (config : List ℕ) (turns : ℕ) (old new : Reporting) (ending : Ending)
    → ServeEnds config turns old new ending
    → status_of ending ≡ ReadFault → Rose old.store.faults new.store.faults
serve_read_rose config turns old new (Unread unread) ends e =
    refused_rose config old.store new.store old.patterns new.patterns (Unread unread) ends.0 e
serve_read_rose config turns old new _ ends e = cc

pub serve_sink_rose : (config : List ℕ) (turns : ℕ) (old new : Reporting) (ending : Ending)
    → ServeEnds config turns old new ending
    → status_of ending ≡ SinkFault → Rose old.out.faults new.out.faults
serve_sink_rose config turns old new WriteFailed ends e = ends.3
serve_sink_rose config turns old new _ ends e = cc

pub serve_links_rose : (config : List ℕ) (turns : ℕ) (old new : Reporting) (ending : Ending)
    → ServeEnds config turns old new ending
    → status_of ending ≡ LinkFault → Rose old.links.faults new.links.faults
serve_links_rose config turns old new LinksFailed ends e = ends.3
serve_links_rose config turns old new _ ends e = cc

-- ---- completeness

-- it can't have been refused
not_refused : (config text : List ℕ) (read : Config) (old new : Reporting) (ending : Ending)
    → IsHeld (old.store.held config) text → IsConfigOf text read
    → length text ≤ CONFIG_LIMIT → IsStill old.store.faults new.store.faults
    → IsStill old.patterns.refusals new.patterns.refusals
    → RefusesSetup config old.store new.store old.patterns new.patterns ending → ending ≡ OutOfMemory
not_refused config text read old new ending holds is fits reads_still still refuses =
    refused_for_memory config text read old.store new.store old.patterns new.patterns ending holds is fits reads_still
    still refuses

pub serve_complete : (config : List ℕ) (turns : ℕ) (text : List ℕ) (read : Config) (old new : Reporting)
    (ending : Ending)
    → IsHeld (old.store.held config) text
    → IsConfigOf text read → length text ≤ CONFIG_LIMIT → IsStill old.store.faults new.store.faults
    → IsStill old.links.faults new.links.faults
    → IsStill old.out.faults new.out.faults → IsStill old.patterns.refusals new.patterns.refusals
    → ServeEnds config turns old new ending
    → IsDoneOrMemory (status_of ending)
serve_complete config turns text read old new Finished holds is fits reads_still links_still out_still still ends = tt
serve_complete config turns text read old new WriteFailed holds is fits reads_still links_still out_still still ends =
    omega (arith, ends.3, out_still.0, out_still.1)
serve_complete config turns text read old new LinksFailed holds is fits reads_still links_still out_still still ends =
    omega (arith, ends.3, links_still.0, links_still.1)
serve_complete config turns text read old new OutOfMemory holds is fits reads_still links_still out_still still ends =
    tt
serve_complete config turns text read old new ending holds is fits reads_still links_still out_still still ends =
    let e = not_refused config text read old new ending holds is fits reads_still still ends.0 in
    absurd cc
