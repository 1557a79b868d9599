-- What a command that is carried out promises, whichever it is.
use Rattle.std.specs.Prelude.{◌≡◌, ◌≢◌, ◌⊎◌, ℕ, ◌≤◌, List, length, Option}
use Rattle.std.specs.Option.{ForSome}
use Rattle.command_texts.specs.Checks.{Checks}
use Rattle.command_client.specs.Asks.{Asks}
use Rattle.command_client.specs.Sends.{Sends}
use Rattle.command_io.specs.Endings.{HasNoLine, IsRefusal}
use Rattle.command_io.specs.Reports.{Reports}
use Rattle.command_io.specs.declared.status.Status.{Status}
use Rattle.command_io.specs.declared.status.Status.TheVariants.{Done, Usage, ReadFault, SinkFault, LinkFault, Memory}
use Rattle.command_io.specs.declared.status.Status.TheVariants.{DiskFault}
use Rattle.command_files.specs.Feeds.{Feeds}
use Rattle.command_texts.specs.Converts.{Converts}
use Rattle.command_serve.specs.Loads.{Loads}
use Rattle.command_serve.specs.declared.play.TheConstants.{EVENT_LIMIT}
use Rattle.disk_port.specs.Calls.{DiskReport}
use Rattle.ports.specs.Counts.{Rose}
use Rattle.query_lang.specs.declared.read.TheConstants.{MAX_BYTES}
use Rattle.command_record.specs.Records.{Records}
use Rattle.command_record.specs.Resumes.{Resumes}
use Rattle.command_files.specs.Replays.{Replays}
use Rattle.command_serve.specs.Serves.{Serves}
use Rattle.command_test.specs.RunsTests.{RunsTests}
use Rattle.riemann_commands.specs.declared.command.Command.{Command}
use Rattle.riemann_commands.specs.declared.command.Command.TheVariants.{Feed, Check, Replay, Serve, Load, Graphite}
use Rattle.riemann_commands.specs.declared.command.Command.TheVariants.{Test, Send, Query, Record, Resume}
use Rattle.riemann_commands.specs.Promises.{Sameness}
use Rattle.riemann_commands.specs.Words.{OnFeed, OnGraphite, OnRecord, OnReplay, OnResume, OnServe, OnTest}

-- the numbers and the text of the command are within their limits
abbrev pub IsWithinLimits : Command → Type 0
IsWithinLimits (Feed config file) = Unit {0}
IsWithinLimits (Check config) = Unit {0}
IsWithinLimits (Replay config script) = Unit {0}
IsWithinLimits (Serve config turns) = Unit {0}
IsWithinLimits (Load config count start) = count ≤ EVENT_LIMIT
IsWithinLimits (Graphite file host_part) = ForSome host_part (λ part. (1 ≤ part) × (part ≤ 64))
IsWithinLimits (Test config tests) = Unit {0}
IsWithinLimits (Send address file turns) = Unit {0}
IsWithinLimits (Query address text turns) = length text.now ≤ MAX_BYTES
IsWithinLimits (Record config journal) = Unit {0}
IsWithinLimits (Resume journal) = Unit {0}

-- a command with the texts and numbers that the arguments give
pub data Named : Type 0 where
  feed : List ℕ → List ℕ → Named
  check : List ℕ → Named
  replay : List ℕ → List ℕ → Named
  serve : List ℕ → ℕ → Named
  load : List ℕ → ℕ → ℕ → Named
  graphite : List ℕ → Option ℕ → Named
  test : List ℕ → List ℕ → Named
  send : List ℕ → List ℕ → ℕ → Named
  query : List ℕ → List ℕ → ℕ → Named
  recording : List ℕ → List ℕ → Named
  resume : List ℕ → Named

abbrev pub named_by : Command → Named
named_by (Feed config file) = feed config.now file.now
named_by (Check config) = check config.now
named_by (Replay config script) = replay config.now script.now
named_by (Serve config turns) = serve config.now turns
named_by (Load config count start) = load config.now count start
named_by (Graphite file host_part) = graphite file.now host_part
named_by (Test config tests) = test config.now tests.now
named_by (Send address file turns) = send address.now file.now turns
named_by (Query address text turns) = query address.now text.now turns
named_by (Record config journal) = recording config.now journal.now
named_by (Resume journal) = resume journal.now

-- what the command promises by itself
abbrev pub PromiseOf : Named → Reports → Reports → DiskReport → DiskReport → Sameness → Status → Type 0
PromiseOf (feed config file) old new disk disk' same status = Feeds config file old new same.Patterns status
PromiseOf (check config) old new disk disk' same status = Checks config old new same.Patterns status
PromiseOf (replay config script) old new disk disk' same status = Replays config script old new same.Patterns status
PromiseOf (serve config turns) old new disk disk' same status = Serves config turns old new same.Patterns status
PromiseOf (load config count start) old new disk disk' same status =
    Loads config count start old new same.Patterns status
PromiseOf (graphite file host_part) old new disk disk' same status = Converts file host_part old new status
PromiseOf (test config tests) old new disk disk' same status =
    RunsTests config tests old new same.Patterns same.Out status
PromiseOf (send address file turns) old new disk disk' same status = Sends address file turns old new status
PromiseOf (query address text turns) old new disk disk' same status = Asks address text turns old new status
PromiseOf (recording config journal) old new disk disk' same status =
    Records config journal old new disk disk' same.Patterns status
PromiseOf (resume journal) old new disk disk' same status = Resumes journal old new disk disk' same.Patterns status

-- the arguments are of no command that writes to the output while it runs
abbrev pub IsOfNoRun : List (List ℕ) → Type 0
IsOfNoRun words = OnReplay words (λ config script. ⊥) × OnServe words (λ config turns. ⊥)
    × OnTest words (λ config tests. ⊥) × OnRecord words (λ config journal. ⊥) × OnResume words (λ journal. ⊥)

-- The command of these arguments kept its promise, and those that all commands give (`Promises`).
pub record CarriesOut (words : List (List ℕ)) (command : Command) (old new : Reports) (disk disk' : DiskReport)
    (same : Sameness) (status : Status) : Type 0 where
  pub promise : PromiseOf (named_by command) old new disk disk' same status
  pub not_usage : status ≢ Usage
  pub untouched : IsRefusal status → (OnTest words (λ config tests. ⊥) → same.Out) × same.Links
  pub memory : status ≡ Memory → IsOfNoRun words → same.Out
  pub no_line : HasNoLine status → OnFeed words (λ config file. ⊥) × OnGraphite words (λ file host_part. ⊥) → same.Err
  pub done : status ≡ Done → OnFeed words (λ config file. ⊥) → same.Err
  pub read_fault : status ≡ ReadFault → Rose old.store.faults new.store.faults
  pub sink_fault : status ≡ SinkFault → Rose old.out.faults new.out.faults ⊎ Rose old.err.faults new.err.faults
  pub link_fault : status ≡ LinkFault → Rose old.links.faults new.links.faults
  pub disk_fault : status ≡ DiskFault → Rose disk.faults disk'.faults
  pub uncalled : OnRecord words (λ config journal. ⊥) × OnResume words (λ journal. ⊥) → same.Disk
