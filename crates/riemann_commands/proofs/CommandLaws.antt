-- A command that ran matches the arguments, and its status says so.
use Rattle.std.proofs.Common.{◌≡◌, ℕ, ◌≤◌, List, Option, Some, None, sym, ◌∙◌, subst, arith, inl, inr}
use Rattle.std.specs.Option.{ForSome}
use Rattle.command_io.specs.declared.ending.Ending.{Ending}
use Rattle.command_io.specs.declared.ending.Ending.TheVariants.{Finished, ConfigRefused, Unread, OverLimit, BytesLeft}
use Rattle.command_io.specs.declared.ending.Ending.TheVariants.{WriteFailed, LinksFailed, ScriptRefused, OutOfMemory}
use Rattle.command_io.specs.declared.status.Status.{Status}
use Rattle.command_io.specs.declared.status.Status.TheVariants.{Done, Usage, Config, ReadFault, SinkFault, LinkFault}
use Rattle.command_io.specs.declared.status.Status.TheVariants.{Memory, Script, Truncated, TooLong, Lines, Tests}
use Rattle.command_io.specs.declared.status.Status.TheVariants.{Verdict, Unanswered, BadReply, Journal, DiskFault}
use Rattle.command_io.specs.Reports.{Reports}
use Rattle.command_texts.specs.Converts.{ConvertEnds, Converts}
use Rattle.command_io.specs.Endings.{HasNoLine, IsRefusal, IsRefusalOrMemory, status_of}
use Rattle.riemann_commands.specs.declared.command.Command.{Command}
use Rattle.riemann_commands.specs.declared.command.Command.TheVariants.{Feed, Check, Replay, Serve, Load, Graphite}
use Rattle.riemann_commands.specs.declared.command.Command.TheVariants.{Test, Send, Query, Record, Resume}
use Rattle.riemann_commands.specs.Commands.{IsCommandOf}
use Rattle.riemann_commands.specs.Words.{IsGraphite, IsUsage}

no_ending : (ending : Ending) → status_of ending ≡ Usage → ⊥
no_ending Finished e = cc
no_ending _ e = cc

pub not_usage : (status : Status) (ending : Ending) → status ≡ status_of ending → status ≡ Usage → ⊥
not_usage status ending ended e = no_ending ending (rw ended at e)

-- ---- a command that calls no disk does not end with a fault of it

pub no_disk : (ending : Ending) → status_of ending ≡ DiskFault → ⊥
no_disk Finished e = cc
no_disk _ e = cc

pub not_of_disk : (status : Status) (ending : Ending) → status ≡ status_of ending → status ≡ DiskFault → ⊥
not_of_disk status ending ended e = no_disk ending (rw ended at e)

-- ---- the arguments name one command

pub not_of_none : (words : List (List ℕ)) (command : Command) → IsCommandOf words command → IsUsage words → ⊥
not_of_none words (Feed config file) is usage = usage.0 config.now file.now is
not_of_none words (Check config) is usage = usage.1 config.now is
not_of_none words (Replay config script) is usage = usage.2 config.now script.now is
not_of_none words (Serve config turns) is usage = usage.3 config.now turns is
not_of_none words (Load config count start) is usage = usage.4 config.now count start is
not_of_none words (Graphite file host_part) is usage = usage.5 file.now host_part is
not_of_none words (Test config tests) is usage = usage.6 config.now tests.now is
not_of_none words (Send address file turns) is usage = usage.7 address.now file.now turns is
not_of_none words (Query address text turns) is usage = usage.8 address.now text.now turns is
not_of_none words (Record config journal) is usage = usage.9 config.now journal.now is
not_of_none words (Resume journal) is usage = usage.10 journal.now is

-- the command that converts has an end of its own
pub not_usage_converting : (file : List ℕ) (host_part : Option ℕ) (old new : Reports) (status : Status)
    → Converts file host_part old new status → status ≡ Usage → ⊥
not_usage_converting file host_part old new status promise e =
    let P : Status → Type 0 = λ s. ConvertEnds file host_part old new s in let ends = subst P e promise.ends in ends.2

pub converting_not_of_disk : (file : List ℕ) (host_part : Option ℕ) (old new : Reports) (status : Status)
    → Converts file host_part old new status → status ≡ DiskFault → ⊥
converting_not_of_disk file host_part old new status promise e =
    let P : Status → Type 0 = λ s. ConvertEnds file host_part old new s in let ends = subst P e promise.ends in ends.2

-- the part of a path that is the host has a number from 1 to 64
pub host_part_within : (words : List (List ℕ)) (file : List ℕ) (host_part : Option ℕ) → IsGraphite words file host_part
    → ForSome host_part (λ part. (1 ≤ part) × (part ≤ 64))
host_part_within words file host_part (inl none) part e = let no : None ≡ Some part = sym none.1 ∙ e in cc
host_part_within words file host_part (inr (number, first, are, is, some)) part e =
    let least = is.least in
    let most = is.most in
    let both : Some first ≡ Some part = sym some ∙ e in
    let same : first ≡ part = cc in
    (omega arith, omega arith)

-- ---- what was not written

pub refusal_or_memory : (status : Status) → IsRefusal status → IsRefusalOrMemory status
refusal_or_memory Memory refused = tt
refusal_or_memory _ refused = refused

pub out_of_memory : (status : Status) → status ≡ Memory → IsRefusalOrMemory status
out_of_memory status e = rw e tt

pub done_has_no_line : (status : Status) → status ≡ Done → HasNoLine status
done_has_no_line status e = rw e tt
