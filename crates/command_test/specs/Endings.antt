-- How the command ends: its status and its line.
use Rattle.std.specs.Prelude.{◌≡◌, ℕ, List, [], ◌∷◌, ◌++◌, codes}
use Rattle.std.specs.Fmt.{decimal}
use Rattle.command_io.specs.Endings as shared
use Rattle.command_io.specs.Endings.{GotLineOf, HasNoConfig}
use Rattle.command_io.specs.declared.ending.Ending.TheVariants.{Finished}
use Rattle.command_io.specs.declared.status.Status.{Status}
use Rattle.command_io.specs.declared.status.Status.TheVariants.{Tests, Verdict}
use Rattle.config_terms.specs.Names.{why_name}
use Rattle.config_terms.specs.declared.fault.ConfigWhy.{ConfigWhy}
use Rattle.ports.specs.Writing.{SinkReport}
use Rattle.command_test.specs.declared.ending.TestsEnding.{TestsEnding}
use Rattle.command_test.specs.declared.ending.TestsEnding.TheVariants.{Shared, Differed, TestsRefused}

abbrev pub status_of : TestsEnding → Status
status_of (Shared ending) = shared.status_of ending
status_of Differed = Verdict
status_of (TestsRefused place why) = Tests

abbrev pub tests_line : ℕ → ConfigWhy → List ℕ
tests_line place why =
    codes "riemann: tests refused at " ++ (decimal place ++ (codes ": " ++ (why_name why ++ 10 ∷ [])))

-- the error stream got the line of an ending, or a prefix of it where a put failed; without a line nothing was put
abbrev pub Says : TestsEnding → SinkReport → SinkReport → Type 0
Says (Shared ending) old new = shared.Says ending old new
Says Differed old new = new ≡ old
Says (TestsRefused place why) old new = GotLineOf (tests_line place why) old new

-- the endings of a command that had no tests to run: a file was not read, or its text is not what it has to be
abbrev pub HasNoTests : TestsEnding → Type 0
HasNoTests (Shared ending) = HasNoConfig ending
HasNoTests Differed = ⊥
HasNoTests (TestsRefused place why) = Unit {0}

-- the endings of a command that ran all tests
abbrev pub IsComplete : TestsEnding → Type 0
IsComplete (Shared Finished) = Unit {0}
IsComplete Differed = Unit {0}
IsComplete _ = ⊥
