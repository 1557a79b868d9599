-- How a call ends: its status, its line, and what it read of its files.
use Rattle.std.specs.Prelude.{◌≡◌, ℕ, ◌+◌, List, [], length, take, map, Option}
use Rattle.ports.specs.Counts.{RoseBy}
use Rattle.ports.specs.Writing.{GotLine, SinkReport}
use Rattle.ports.specs.declared.store.StoreRead.{StoreRead}
use Rattle.command_io.specs.declared.ending.ConfigRefusal.TheVariants.{Refused}
use Rattle.command_io.specs.declared.ending.Ending.{Ending}
use Rattle.command_io.specs.declared.ending.Ending.TheVariants.{Finished, ConfigRefused, Unread, OverLimit, BytesLeft}
use Rattle.command_io.specs.declared.ending.Ending.TheVariants.{WriteFailed, LinksFailed, ScriptRefused, OutOfMemory}
use Rattle.command_io.specs.declared.status.Status.{Status}
use Rattle.command_io.specs.declared.status.Status.TheVariants.{Done, Usage, Config, ReadFault, SinkFault, LinkFault}
use Rattle.command_io.specs.declared.status.Status.TheVariants.{Memory, Script, Truncated, TooLong, Lines, Tests}
use Rattle.command_io.specs.declared.status.Status.TheVariants.{Verdict, Unanswered, BadReply, Journal, DiskFault}
use Rattle.command_io.specs.Files.{LastFailed, NoneFailed, ReadMore, read_name}
use Rattle.command_io.specs.Lines.{left_line, links_line, memory_line, refusal_line, script_line, too_long_line}
use Rattle.command_io.specs.Lines.{unread_line}

-- the number of each status
abbrev pub code_of : Status → ℕ
code_of Done = 0
code_of Usage = 1
code_of Config = 2
code_of ReadFault = 3
code_of SinkFault = 4
code_of LinkFault = 5
code_of Memory = 6
code_of Script = 7
code_of Truncated = 8
code_of TooLong = 9
code_of Lines = 10
code_of Tests = 11
code_of Verdict = 12
code_of Unanswered = 13
code_of BadReply = 14
code_of Journal = 15
code_of DiskFault = 16

abbrev pub status_of : Ending → Status
status_of Finished = Done
status_of (ConfigRefused refusal) = Config
status_of (Unread name) = ReadFault
status_of (OverLimit name limit) = TooLong
status_of (BytesLeft count) = Truncated
status_of WriteFailed = SinkFault
status_of LinksFailed = LinkFault
status_of (ScriptRefused line) = Script
status_of OutOfMemory = Memory

-- the line of an ending; nothing for those that have none
abbrev pub line_of : Ending → List ℕ
line_of (ConfigRefused refusal) = refusal_line refusal
line_of (Unread name) = unread_line name.now
line_of (OverLimit name limit) = too_long_line name.now limit
line_of (BytesLeft count) = left_line count
line_of LinksFailed = links_line
line_of (ScriptRefused line) = script_line line
line_of OutOfMemory = memory_line
line_of _ = []

abbrev pub GotLineOf : List ℕ → SinkReport → SinkReport → Type 0
GotLineOf line old new = GotLine old line new

-- the error stream got the line of an ending, or a prefix of it where a put failed; without a line nothing was put
abbrev pub Says : Ending → SinkReport → SinkReport → Type 0
Says Finished old new = new ≡ old
Says WriteFailed old new = new ≡ old
Says ending old new = GotLineOf (line_of ending) old new

-- the statuses of a call that refused what it was given
abbrev pub IsRefusal : Status → Type 0
IsRefusal Usage = Unit {0}
IsRefusal Config = Unit {0}
IsRefusal ReadFault = Unit {0}
IsRefusal TooLong = Unit {0}
IsRefusal Script = Unit {0}
IsRefusal Tests = Unit {0}
IsRefusal Journal = Unit {0}
IsRefusal _ = ⊥

-- the same, or memory ran out
abbrev pub IsRefusalOrMemory : Status → Type 0
IsRefusalOrMemory Memory = Unit {0}
IsRefusalOrMemory status = IsRefusal status

-- the statuses that have no line on the error stream
abbrev pub HasNoLine : Status → Type 0
HasNoLine Done = Unit {0}
HasNoLine SinkFault = Unit {0}
HasNoLine Verdict = Unit {0}
HasNoLine _ = ⊥

-- The endings of a command that has no configuration, where no other file was to be read: its file was not read, or its
-- text is not one.
abbrev pub HasNoConfig : Ending → Type 0
HasNoConfig (ConfigRefused (Refused place why)) = Unit {0}
HasNoConfig (Unread name) = Unit {0}
HasNoConfig (OverLimit name limit) = Unit {0}
HasNoConfig _ = ⊥

-- the endings of a command that did all that it had to
abbrev pub IsComplete : Ending → Type 0
IsComplete Finished = Unit {0}
IsComplete (BytesLeft count) = Unit {0}
IsComplete _ = ⊥

-- the status of a command that did all that it had to, or ran out of memory
abbrev pub IsDoneOrMemory : Status → Type 0
IsDoneOrMemory Done = Unit {0}
IsDoneOrMemory Memory = Unit {0}
IsDoneOrMemory _ = ⊥

-- the last read failed where the ending says so, and no other
abbrev pub HaveFailed : Ending → List StoreRead → Type 0
HaveFailed (Unread name) made = LastFailed made
HaveFailed _ made = NoneFailed made

-- of a file that is over its limit at least one byte more than the limit was taken
abbrev pub TookMore : Ending → ℕ → ℕ → Type 0
TookMore (OverLimit name limit) old new = RoseBy (limit + 1) old new
TookMore _ old new = Unit {0}

-- of one file: it was read, unless memory ran out
abbrev pub IsReadOnce : Ending → ℕ → Type 0
IsReadOnce OutOfMemory count = Unit {0}
IsReadOnce _ count = count ≡ 1

-- What a command read: the first of these files, in order, each once, and as many of them as its ending says.
pub record ReadsFiles (files : List (List ℕ)) (Counted : ℕ → Type 0) (old new : Option (List StoreRead))
    (ending : Ending) : Type 0 where
  pub made : List StoreRead
  pub grew : ReadMore made old new
  pub named : map read_name made ≡ take (length made) files
  pub counted : Counted (length made)
  pub failed : HaveFailed ending made
