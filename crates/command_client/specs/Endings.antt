-- How a command of a client ends: its status and its line.
use Rattle.std.specs.Prelude.{ℕ, List, [], ◌∷◌, ◌++◌, codes}
use Rattle.std.specs.Fmt.{decimal}
use Rattle.client_run.specs.declared.outcome.Outcome.{Outcome}
use Rattle.client_run.specs.declared.outcome.Outcome.TheVariants as outcome
use Rattle.client_run.specs.declared.outcome.RunFault.{RunFault}
use Rattle.client_run.specs.declared.outcome.RunFault.TheVariants as fault
use Rattle.command_io.specs.Endings as shared
use Rattle.command_io.specs.Endings.{GotLineOf}
use Rattle.command_io.specs.declared.ending.Ending.{Ending}
use Rattle.command_io.specs.declared.ending.Ending.TheVariants.{Finished, Unread, OverLimit, LinksFailed, OutOfMemory}
use Rattle.command_io.specs.declared.status.Status.{Status}
use Rattle.command_io.specs.declared.status.Status.TheVariants.{Unanswered, BadReply}
use Rattle.ports.specs.Writing.{SinkReport}
use Rattle.riemann_msg.specs.Fault.{why_name}
use Rattle.riemann_msg.specs.declared.fault.MsgWhy.{MsgWhy}
use Rattle.command_client.specs.declared.ending.ClientEnding.{ClientEnding}
use Rattle.command_client.specs.declared.ending.ClientEnding.TheVariants.{Shared, Lost, Unasked, Refused}

abbrev pub status_of : ClientEnding → Status
status_of (Shared ending) = shared.status_of ending
status_of (Lost replies requests) = Unanswered
status_of (Unasked number) = BadReply
status_of (Refused number place why) = BadReply

-- how a command ends whose exchange had this outcome, with so many replies to so many requests
abbrev pub ending_of : Outcome → ℕ → ℕ → ClientEnding
ending_of outcome.Whole replies requests = Shared Finished
ending_of (outcome.Unasked number) replies requests = Unasked number
ending_of (outcome.Refused number place why) replies requests = Refused number place why
ending_of outcome.Lost replies requests = Lost replies requests

-- whose exchange did not come to its end
abbrev pub ending_of_fault : RunFault → Ending
ending_of_fault fault.Links = LinksFailed
ending_of_fault fault.Memory = OutOfMemory

-- ---- lines

abbrev pub lost_line : ℕ → ℕ → List ℕ
lost_line replies requests =
    codes "riemann: " ++ (decimal replies ++ (codes " of " ++ (decimal requests ++ (codes " replies" ++ 10 ∷ []))))

abbrev pub unasked_line : ℕ → List ℕ
unasked_line number = codes "riemann: reply " ++ (decimal number ++ (codes " refused: unasked" ++ 10 ∷ []))

abbrev pub refused_line : ℕ → ℕ → MsgWhy → List ℕ
refused_line number place why =
    codes "riemann: reply "
    ++ (decimal number ++ (codes " refused at " ++ (decimal place ++ (codes ": " ++ (why_name why ++ 10 ∷ [])))))

-- the error stream got the line of an ending, or a prefix of it where a put failed; without a line nothing was put
abbrev pub Says : ClientEnding → SinkReport → SinkReport → Type 0
Says (Shared ending) old new = shared.Says ending old new
Says (Lost replies requests) old new = GotLineOf (lost_line replies requests) old new
Says (Unasked number) old new = GotLineOf (unasked_line number) old new
Says (Refused number place why) old new = GotLineOf (refused_line number place why) old new

-- the endings of a command that read its file
abbrev pub HasRead : ClientEnding → Type 0
HasRead (Shared (Unread name)) = ⊥
HasRead (Shared (OverLimit name limit)) = ⊥
HasRead (Shared OutOfMemory) = ⊥
HasRead _ = Unit {0}
