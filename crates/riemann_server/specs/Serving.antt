-- What a server did over the files, the sockets and the streams of the machine, which report all that they were asked and
-- what they answered.
use Rattle.std.specs.Prelude.{◌≡◌, ℕ, ◌⊎◌, List, [], ◌∷◌, Some, Result, Ok, Err}
use Rattle.command_io.specs.Reports.{Reports}
use Rattle.command_io.specs.declared.status.Status.{Status}
use Rattle.command_io.specs.declared.status.Status.TheVariants.{Done, SinkFault, LinkFault, Memory}
use Rattle.command_setup.specs.Setups.{SetsUpText, run_report_of}
use Rattle.command_setup.specs.conn_core.declared.hub.Hub.{Hub}
use Rattle.command_setup.specs.hub_run.Runs.{RunsTo}
use Rattle.command_setup.specs.hub_run.declared.fault.RunFault.{RunFault}
use Rattle.command_setup.specs.hub_run.declared.fault.RunFault.TheVariants as fault
use Rattle.command_setup.specs.hub_run.declared.setup.Setup.{Setup}
use Rattle.ports.specs.Streams.{stream_report}
use Rattle.ports.specs.declared.entry.Entry.{Entry}

-- nothing was asked of the objects yet
pub record IsFresh (old : Reports) : Type 0 where
  pub gave : old.store.gave ≡ Some []
  pub log : old.links.log ≡ Some []
  pub out : old.out ≡ stream_report [] 0 0
  pub patterns : old.patterns ≡ record { refusals = 0; refused = Some [] }

-- One file was given, the configuration, with this text. All calls of the sockets are one run of a server of the
-- configuration that the text is. It came to this result, and its notice lines were written to the output.
pub record IsRunOf (config : List ℕ) (turns : ℕ) (old new : Reports) (result : Result Hub RunFault) : Type 0 where
  pub text : List ℕ
  pub gave : new.store.gave ≡ Some ((config, text) ∷ [])
  pub setup : Setup
  pub sets : SetsUpText text setup
  pub calls : List Entry
  pub log : new.links.log ≡ Some calls
  pub ran : RunsTo setup turns (run_report_of old (stream_report [] 0 0)) (run_report_of new new.out) result calls

-- no call was made of the sockets, and nothing was written to the output
pub record IsUncalled (new : Reports) : Type 0 where
  pub log : new.links.log ≡ Some []
  pub out : new.out ≡ stream_report [] 0 0

-- what a server of the file of this name did, as the status says
abbrev pub HasServed : List ℕ → ℕ → Reports → Reports → Status → Type 0
HasServed config turns old new Done = (hub : Hub) × IsRunOf config turns old new (Ok hub)
HasServed config turns old new LinkFault = IsRunOf config turns old new (Err fault.Links)
HasServed config turns old new SinkFault = IsRunOf config turns old new (Err fault.Sink)
HasServed config turns old new Memory = IsUncalled new ⊎ IsRunOf config turns old new (Err fault.Memory)
HasServed config turns old new status = IsUncalled new
