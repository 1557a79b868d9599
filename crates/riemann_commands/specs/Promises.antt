-- What the call of a command promises, as one fact of the words and of all that it was handed.
use Rattle.std.specs.Prelude.{◌≡◌, ◌≢◌, ◌↔◌, ◌⊎◌, ℕ, List, [], ◌∷◌, codes}
use Rattle.command_texts.specs.Checks.{Checks}
use Rattle.command_client.specs.Asks.{Asks}
use Rattle.command_client.specs.Sends.{Sends}
use Rattle.command_io.specs.Endings.{GotLineOf, HasNoLine, IsRefusal}
use Rattle.command_io.specs.Lines.{usage_line}
use Rattle.command_io.specs.Reports.{Reports}
use Rattle.command_io.specs.declared.status.Status.{Status}
use Rattle.command_io.specs.declared.status.Status.TheVariants.{Done, Usage, ReadFault, SinkFault, LinkFault, Memory}
use Rattle.command_io.specs.declared.status.Status.TheVariants.{DiskFault}
use Rattle.command_files.specs.Feeds.{Feeds}
use Rattle.command_texts.specs.Converts.{Converts}
use Rattle.command_serve.specs.Loads.{Loads}
use Rattle.disk_port.specs.Calls.{DiskReport}
use Rattle.ports.specs.Counts.{Rose}
use Rattle.ports.specs.Writing.{Got, GotPrefix, SinkReport}
use Rattle.command_record.specs.Records.{Records}
use Rattle.command_record.specs.Resumes.{Resumes}
use Rattle.command_files.specs.Replays.{Replays}
use Rattle.command_serve.specs.Serves.{Serves}
use Rattle.command_test.specs.RunsTests.{RunsTests}
use Rattle.riemann_commands.specs.Commands.{IsCommand}
use Rattle.riemann_commands.specs.Words.{IsUsage, OnCheck, OnFeed, OnGraphite, OnLoad, OnQuery, OnRecord, OnReplay}
use Rattle.riemann_commands.specs.Words.{OnResume, OnSend, OnServe, OnTest}

-- the facts that each of the objects that were handed in is as it was
pub record Sameness : Type 1 where
  pub Store : Type 0
  pub Links : Type 0
  pub Disk : Type 0
  pub Out : Type 0
  pub Err : Type 0
  pub Patterns : Type 0
  pub Steps : Type 0

abbrev pub sameness : Type 0 → Type 0 → Type 0 → Type 0 → Type 0 → Type 0 → Type 0 → Sameness
sameness Store Links Disk Out Err Patterns Steps =
    record { Store = Store; Links = Links; Disk = Disk; Out = Out; Err = Err; Patterns = Patterns; Steps = Steps }

-- What `riemann` promises: first what holds of all commands, then what each command promises by itself. `disk` and
-- `disk'` are what the disk reports, before and after.
pub record Promises (words : List (List ℕ)) (old new : Reports) (disk disk' : DiskReport) (same : Sameness)
    (status : Status) : Type 0 where
  -- the status is `Usage` exactly if no command matches the arguments
  pub usage : (status ≡ Usage) ↔ IsUsage words
  pub command : status ≢ Usage → IsCommand words
  pub idle : status ≡ Usage
      → same.Store × same.Links × same.Disk × same.Patterns × same.Steps × GotLineOf usage_line old.err new.err
  -- of the commands only `test` may have written to `out` before it refused what it was given: a pattern, after the
  -- lines of tests
  pub untouched : IsRefusal status → (OnTest words (λ config tests. ⊥) → same.Out) × same.Links
  -- if memory runs out, only commands that write to `out` while they run have written to it
  pub memory : status ≡ Memory → OnReplay words (λ config script. ⊥) → OnServe words (λ config turns. ⊥)
      → OnTest words (λ config tests. ⊥) → OnRecord words (λ config journal. ⊥) → OnResume words (λ journal. ⊥)
      → same.Out
  -- without a line of its own for the status, only `feed` writes to `err`, where its notices go, and `graphite`, if it
  -- could not write a line for each refused one
  pub no_line : HasNoLine status → OnFeed words (λ config file. ⊥)
      → OnGraphite words (λ file host_part. ⊥) → same.Err
  pub done : status ≡ Done → OnFeed words (λ config file. ⊥) → same.Err
  pub read_fault : status ≡ ReadFault → Rose old.store.faults new.store.faults
  pub sink_fault : status ≡ SinkFault → Rose old.out.faults new.out.faults ⊎ Rose old.err.faults new.err.faults
  pub link_fault : status ≡ LinkFault → Rose old.links.faults new.links.faults
  pub disk_fault : status ≡ DiskFault → Rose disk.faults disk'.faults
  -- only `record` and `resume` call the disk
  pub uncalled : OnRecord words (λ config journal. ⊥) → OnResume words (λ journal. ⊥) → same.Disk
  -- What each command promises by itself. The promise of a server has the lines of its notices, and that the notices of
  -- each host are its own (`Runs.antt` and `Apart.antt` of `hub_run`). The sameness of patterns says that none was
  -- asked for, and that of `out` that nothing was written.
  pub feed : OnFeed words (λ config file. Feeds config file old new same.Patterns status)
  pub check : OnCheck words (λ config. Checks config old new same.Patterns status)
  pub replay : OnReplay words (λ config script. Replays config script old new same.Patterns status)
  pub serve : OnServe words (λ config turns. Serves config turns old new same.Patterns status)
  pub load : OnLoad words (λ config count start. Loads config count start old new same.Patterns status)
  pub graphite : OnGraphite words (λ file host_part. Converts file host_part old new status)
  pub test : OnTest words (λ config tests. RunsTests config tests old new same.Patterns same.Out status)
  pub send : OnSend words (λ address file turns. Sends address file turns old new status)
  pub query : OnQuery words (λ address text turns. Asks address text turns old new status)
  pub records : OnRecord words (λ config journal. Records config journal old new disk disk' same.Patterns status)
  pub resumes : OnResume words (λ journal. Resumes journal old new disk disk' same.Patterns status)

-- ---- the options, which the program answers itself

abbrev pub help_words : List (List ℕ)
help_words = codes "--help" ∷ []

abbrev pub version_words : List (List ℕ)
version_words = codes "--version" ∷ []

-- no option is asked for
abbrev pub IsNoOption : List (List ℕ) → Type 0
IsNoOption words = (words ≡ help_words → ⊥) × (words ≡ version_words → ⊥)

-- the text was written, or a prefix of it, and a put failed
abbrev pub WritesText : List ℕ → SinkReport → SinkReport → Status → Type 0
WritesText text old new status =
    ((status ≡ Done) × Got old.text text new.text)
    ⊎ ((status ≡ SinkFault) × GotPrefix old.text text new.text × Rose old.faults new.faults)
