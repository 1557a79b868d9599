-- The configuration and the tests of a command, and why there are none.
use Rattle.std.specs.Prelude.{◌≡◌, ℕ, ◌+◌, ◌≤◌, List, length}
use Rattle.command_io.specs.Configs.{ForRefused, ReadsAs}
use Rattle.command_io.specs.Files.{ForGiven, Gives, GivesNone, MayGive}
use Rattle.command_io.specs.declared.ending.ConfigRefusal.TheVariants.{Refused}
use Rattle.command_io.specs.declared.ending.Ending.{Ending}
use Rattle.command_io.specs.declared.ending.Ending.TheVariants.{ConfigRefused, Unread, OverLimit, OutOfMemory}
use Rattle.command_io.specs.declared.limits.TheConstants.{CONFIG_LIMIT}
use Rattle.config_terms.specs.declared.fault.ConfigWhy.{ConfigWhy}
use Rattle.config_tests.specs.Tests.{AreTestsOf, IsTestsFault}
use Rattle.config_tests.specs.declared.entry.Test.{Test}
use Rattle.ports.specs.Counts.{Rose, RoseBy}
use Rattle.ports.specs.Reading.{IsOverLimit, StoreReport}
use Rattle.sexp_config.specs.Config.{IsConfigOf}
use Rattle.sexp_config.specs.declared.config.Config.{Config}
use Rattle.command_test.specs.declared.ending.TestsEnding.{TestsEnding}
use Rattle.command_test.specs.declared.ending.TestsEnding.TheVariants.{Shared, Differed, TestsRefused}

-- ---- a file

-- why the file of the name was not read, from what the store reports before and after; the ending has this name and its
-- limit
abbrev pub RefusesFile : List ℕ → StoreReport → StoreReport → Ending → Type 0
RefusesFile name old new (Unread unread) =
    Rose old.faults new.faults × (unread.now ≡ name) × GivesNone old new
RefusesFile name old new (OverLimit over limit) = IsOverLimit (old.held name) CONFIG_LIMIT
    × RoseBy (CONFIG_LIMIT + 1) old.taken new.taken × (over.now ≡ name) × (limit ≡ CONFIG_LIMIT)
    × GivesNone old new
RefusesFile name old new OutOfMemory = MayGive name old new
RefusesFile name old new _ = ⊥

-- ---- the configuration

-- the text is a configuration
abbrev pub IsConfig : List ℕ → Type 0
IsConfig text = (config : Config) × IsConfigOf text config

-- the text is a configuration, no other, and no fault
abbrev pub IsReadConfig : List ℕ → Type 0
IsReadConfig text = (config : Config) × ReadsAs text config

-- a read of the file of the name gave a text within its limit that is this configuration
abbrev pub HasConfig : List ℕ → StoreReport → StoreReport → Config → Type 0
HasConfig name old new config =
    ForGiven name old new (λ text. (length text ≤ CONFIG_LIMIT) × ReadsAs text config)

-- it gave this text, which is a configuration
pub record HoldsConfig (name : List ℕ) (old new : StoreReport) (text : List ℕ) : Type 0 where
  pub config : Config
  pub is : ReadsAs text config
  pub holds : Gives name text old new × (length text ≤ CONFIG_LIMIT)

-- why there is no configuration in the file of the name, from what the store reports before and after
abbrev pub RefusesConfig : List ℕ → StoreReport → StoreReport → TestsEnding → Type 0
RefusesConfig name old new (Shared (ConfigRefused (Refused place why))) = ForRefused name old new place why
RefusesConfig name old new (Shared ending) = RefusesFile name old new ending
RefusesConfig name old new _ = ⊥

-- ---- the tests

-- the text is these tests, no others, and no fault
pub record ReadsAsTests (text : List ℕ) (tests : List Test) : Type 0 where
  pub reads : AreTestsOf text tests
  pub alone : (others : List Test) → AreTestsOf text others → others ≡ tests
  pub accepted : (place : ℕ) (why : ConfigWhy) → IsTestsFault text place why → ⊥

-- the text is not tests, for this cause at the place, and for no other cause and at no other place
pub record AreRefused (text : List ℕ) (place : ℕ) (why : ConfigWhy) : Type 0 where
  pub fault : IsTestsFault text place why
  pub only : (other : ℕ) (cause : ConfigWhy) → IsTestsFault text other cause → (place ≡ other) × (why ≡ cause)
  pub unread : (tests : List Test) → AreTestsOf text tests → ⊥

-- a read of the file of the name gave a text within its limit that is these tests
abbrev pub HasTests : List ℕ → StoreReport → StoreReport → List Test → Type 0
HasTests name old new tests =
    ForGiven name old new (λ text. (length text ≤ CONFIG_LIMIT) × ReadsAsTests text tests)

-- why a text is not tests
abbrev pub RefusesTestsText : List ℕ → TestsEnding → Type 0
RefusesTestsText text (TestsRefused place why) = AreRefused text place why
RefusesTestsText text (Shared OutOfMemory) = Unit {0}
RefusesTestsText text _ = ⊥

-- why there are no tests in the file of the name, from what the store reports before and after
abbrev pub RefusesTests : List ℕ → StoreReport → StoreReport → TestsEnding → Type 0
RefusesTests name old new (Shared ending) = RefusesFile name old new ending
RefusesTests name old new Differed = ⊥
RefusesTests name old new (TestsRefused place why) =
    ForGiven name old new (λ text. (length text ≤ CONFIG_LIMIT) × AreRefused text place why)
