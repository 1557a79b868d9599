-- What `load CONFIG N START` promises.
use Rattle.std.specs.Prelude.{◌≡◌, ℕ, ◌≤◌, ◌⊎◌, List, [], ◌∷◌, length}
use Rattle.command_setup.specs.hub_meaning.Verdicts.{PatternsReport}
use Rattle.command_setup.specs.hub_run.declared.setup.Setup.{Setup}
use Rattle.ports.specs.Counts.{IsStill, Rose}
use Rattle.ports.specs.Reading.{IsHeld}
use Rattle.ports.specs.Writing.{Got, GotPrefix, SinkReport}
use Rattle.command_setup.specs.sexp_config.declared.config.Config.{Config}
use Rattle.command_setup.specs.sexp_config.Config.{IsConfigOf}
use Rattle.command_setup.specs.command_io.declared.ending.Ending.{Ending}
use Rattle.command_setup.specs.command_io.declared.ending.Ending.TheVariants.{Finished, WriteFailed, OutOfMemory}
use Rattle.command_setup.specs.command_io.declared.limits.TheConstants.{CONFIG_LIMIT}
use Rattle.command_setup.specs.command_io.declared.status.Status.{Status}
use Rattle.command_setup.specs.command_io.Endings.{HasNoConfig, IsComplete, IsDoneOrMemory, IsReadOnce, ReadsFiles}
use Rattle.command_setup.specs.command_io.Endings.{Says, status_of}
use Rattle.command_setup.specs.command_io.Reports.{IsIdle, Reports}
use Rattle.command_setup.specs.command_io.Accepting.{RefusesSetup}
use Rattle.command_setup.specs.Setups.{SetsUp}
use Rattle.command_serve.specs.Summaries.{IsCutOff, IsPlayed, summary_line}
use Rattle.command_serve.specs.declared.summary.Summary.{Summary}

-- the summary was written as a line, or a prefix of it, or memory ran out first
abbrev pub WritesSummary : Summary → SinkReport → SinkReport → Ending → Type 0
WritesSummary summary out out' Finished = Got out.text (summary_line summary) out'.text × (out'.faults ≡ out.faults)
WritesSummary summary out out' WriteFailed =
    GotPrefix out.text (summary_line summary) out'.text × Rose out.faults out'.faults
WritesSummary summary out out' OutOfMemory = out' ≡ out
WritesSummary summary out out' _ = ⊥

-- the run was cut off and nothing was written, or the load was played to its end
abbrev pub RunEnds : Setup → ℕ → ℕ → PatternsReport → PatternsReport → ℕ → ℕ → SinkReport → SinkReport → Ending → Type 0
RunEnds setup count start patterns patterns' forks forks' out out' ending =
    ((ending ≡ OutOfMemory) × IsCutOff setup count start patterns patterns' forks forks' × (out' ≡ out))
    ⊎ ((summary : Summary) × IsPlayed setup count start patterns patterns' forks forks' summary
    × WritesSummary summary out out' ending)

-- The configuration in the file of the name was refused and nothing was run, or its server was run over the load.
abbrev pub LoadEnds : List ℕ → ℕ → ℕ → Reports → Reports → Ending → Type 0
LoadEnds config count start old new ending =
    (RefusesSetup config old.store new.store old.patterns new.patterns ending × IsIdle old new)
    ⊎ ((setup : Setup) × SetsUp config old.store new.store setup
    × RunEnds setup count start old.patterns new.patterns old.forks new.forks old.out new.out ending)

-- with a configuration within its limit, no fault and no pattern refused, the load is played and its summary written,
-- or memory runs out
abbrev pub LoadCompletes : List ℕ → Reports → Reports → Status → Type 0
LoadCompletes config old new status = (text : List ℕ) (read : Config)
    → IsHeld (old.store.held config) text → IsConfigOf text read → length text ≤ CONFIG_LIMIT
    → IsStill old.store.faults new.store.faults → IsStill old.out.faults new.out.faults
    → IsStill old.patterns.refusals new.patterns.refusals → IsDoneOrMemory status

-- `Unasked` is that no pattern was asked for.
pub record Loads (config : List ℕ) (count start : ℕ) (old new : Reports) (Unasked : Type 0)
    (status : Status) : Type 0 where
  -- how it ended, as the status and the line on the error stream say
  pub ending : Ending
  pub ended : status ≡ status_of ending
  pub says : Says ending old.err new.err
  -- the run and what was written of it, or why there was none
  pub ends : LoadEnds config count start old new ending
  -- the links that were handed in were not called
  pub untouched : new.links ≡ old.links
  -- what it read
  pub reads : ReadsFiles (config ∷ []) (IsReadOnce ending) old.store.reads new.store.reads ending
  -- patterns are asked for once there is a configuration
  pub unasked : HasNoConfig ending → Unasked
  -- where it did all that it had to, nothing failed
  pub quiet : IsComplete ending → (new.store.faults ≡ old.store.faults) × (new.out.faults ≡ old.out.faults)
  pub complete : LoadCompletes config old new status
