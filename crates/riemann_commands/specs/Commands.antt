-- The command that matches the arguments.
use Rattle.std.specs.Prelude.{◌≡◌, ℕ, List}
use Rattle.riemann_commands.specs.declared.command.Command.{Command}
use Rattle.riemann_commands.specs.declared.command.Command.TheVariants.{Feed, Check, Replay, Serve, Load, Graphite}
use Rattle.riemann_commands.specs.declared.command.Command.TheVariants.{Test, Send, Query, Record, Resume}
use Rattle.riemann_commands.specs.Words.{IsGraphite, IsLoad, IsQuery, IsSend, IsServe, check_words, feed_words}
use Rattle.riemann_commands.specs.Words.{record_words, replay_words, resume_words, test_words}

-- the arguments are those of the command
abbrev pub IsCommandOf : List (List ℕ) → Command → Type 0
IsCommandOf words (Feed config file) = words ≡ feed_words config.now file.now
IsCommandOf words (Check config) = words ≡ check_words config.now
IsCommandOf words (Replay config script) = words ≡ replay_words config.now script.now
IsCommandOf words (Serve config turns) = IsServe words config.now turns
IsCommandOf words (Load config count start) = IsLoad words config.now count start
IsCommandOf words (Graphite file host_part) = IsGraphite words file.now host_part
IsCommandOf words (Test config tests) = words ≡ test_words config.now tests.now
IsCommandOf words (Send address file turns) = IsSend words address.now file.now turns
IsCommandOf words (Query address text turns) = IsQuery words address.now text.now turns
IsCommandOf words (Record config journal) = words ≡ record_words config.now journal.now
IsCommandOf words (Resume journal) = words ≡ resume_words journal.now

-- a command matches the arguments
abbrev pub IsCommand : List (List ℕ) → Type 0
IsCommand words = (command : Command) × IsCommandOf words command
