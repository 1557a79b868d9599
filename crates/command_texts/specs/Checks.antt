-- What `check CONFIG` promises.
use Rattle.std.specs.Prelude.{◌≡◌, ℕ, ◌≤◌, List, [], ◌∷◌, length}
use Rattle.ports.specs.Counts.{IsStill, Rose}
use Rattle.ports.specs.Reading.{IsHeld, IsOverLimit, StoreReport}
use Rattle.ports.specs.Writing.{Got, GotPrefix, SinkReport}
use Rattle.command_io.specs.sexp_config.declared.config.Config.{Config as Configuration}
use Rattle.command_io.specs.sexp_config.Canonical.{canonical_text}
use Rattle.command_io.specs.sexp_config.Config.{IsConfigOf}
use Rattle.command_io.specs.declared.ending.Ending.{Ending}
use Rattle.command_io.specs.declared.ending.Ending.TheVariants.{Finished, ConfigRefused, Unread, OverLimit, BytesLeft}
use Rattle.command_io.specs.declared.ending.Ending.TheVariants.{WriteFailed, LinksFailed, ScriptRefused, OutOfMemory}
use Rattle.command_io.specs.declared.limits.TheConstants.{CONFIG_LIMIT}
use Rattle.command_io.specs.declared.status.Status.{Status}
use Rattle.command_io.specs.Building.{AreBuilt}
use Rattle.command_io.specs.Configs.{ForConfig, RefusesConfig}
use Rattle.command_io.specs.Endings.{HasNoConfig, IsComplete, IsDoneOrMemory, IsReadOnce, ReadsFiles, Says, TookMore}
use Rattle.command_io.specs.Endings.{status_of}
use Rattle.command_io.specs.Files.{GivesNone, MayGive}
use Rattle.command_io.specs.Reports.{Reports}
use Rattle.command_io.specs.hub_meaning.Verdicts.{PatternsReport}

-- what an ending says of the file of the name, and of what the read of it gave, from what the store reports before and
-- after
abbrev pub CheckCause : List ℕ → StoreReport → StoreReport → Ending → Type 0
CheckCause name store store' (Unread unread) = (unread.now ≡ name) × GivesNone store store'
CheckCause name store store' (OverLimit over limit) = IsOverLimit (store.held name) CONFIG_LIMIT × (over.now ≡ name)
    × (limit ≡ CONFIG_LIMIT) × GivesNone store store'
CheckCause name store store' OutOfMemory = MayGive name store store'
CheckCause name store store' (BytesLeft count) = ⊥
CheckCause name store store' LinksFailed = ⊥
CheckCause name store store' (ScriptRefused line) = ⊥
CheckCause name store store' _ = Unit {0}

-- a read of the file gave a configuration whose patterns were built, and `Wrote` holds of its canonical text
abbrev pub WritesText : List ℕ → StoreReport → StoreReport → (List ℕ → Type 0) → Type 0
WritesText name store store' Wrote =
    ForConfig name store store' (λ config. AreBuilt config.plan × Wrote (canonical_text config))

-- What was written, and which pattern was refused: the canonical text where all was done, and a prefix of it where a
-- write failed.
abbrev pub CheckWrites : List ℕ → StoreReport → StoreReport → PatternsReport → PatternsReport → SinkReport → SinkReport
    → Ending → Type 0
CheckWrites name store store' patterns patterns' out out' Finished =
    WritesText name store store' (λ text. Got out.text text out'.text) × (patterns' ≡ patterns)
CheckWrites name store store' patterns patterns' out out' WriteFailed =
    WritesText name store store' (λ text. GotPrefix out.text text out'.text) × Rose out.faults out'.faults
    × (patterns' ≡ patterns)
CheckWrites name store store' patterns patterns' out out' (ConfigRefused refusal) =
    RefusesConfig name store store' patterns patterns' refusal × (out' ≡ out)
CheckWrites name store store' patterns patterns' out out' _ = (patterns' ≡ patterns) × (out' ≡ out)

-- with a configuration within its limit, no fault and no pattern refused, its text is written, or memory runs out
abbrev pub CheckCompletes : List ℕ → Reports → Reports → Status → Type 0
CheckCompletes config old new status = (text : List ℕ) (read : Configuration)
    → IsHeld (old.store.held config) text → IsConfigOf text read → length text ≤ CONFIG_LIMIT
    → IsStill old.store.faults new.store.faults → IsStill old.out.faults new.out.faults
    → IsStill old.patterns.refusals new.patterns.refusals → IsDoneOrMemory status

-- `Unasked` is that no pattern was asked for.
pub record Checks (config : List ℕ) (old new : Reports) (Unasked : Type 0) (status : Status) : Type 0 where
  -- how it ended, as the status and the line on the error stream say
  pub ending : Ending
  pub ended : status ≡ status_of ending
  pub says : Says ending old.err new.err
  -- why it ended so
  pub cause : CheckCause config old.store new.store ending
  -- what it read, and what it wrote
  pub reads : ReadsFiles (config ∷ []) (IsReadOnce ending) old.store.reads new.store.reads ending
  pub taken : TookMore ending old.store.taken new.store.taken
  pub writes : CheckWrites config old.store new.store old.patterns new.patterns old.out new.out ending
  -- patterns are asked for once there is a configuration
  pub unasked : HasNoConfig ending → Unasked
  -- where it did all that it had to, no read and no write of the text failed
  pub quiet : IsComplete ending → (new.store.faults ≡ old.store.faults) × (new.out.faults ≡ old.out.faults)
  -- it calls no link, and enters no fork
  pub idle : (new.links ≡ old.links) × (new.forks ≡ old.forks)
  pub complete : CheckCompletes config old new status
