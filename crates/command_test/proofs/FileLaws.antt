-- What is known of the two files of the command, and what was read of them.
use Rattle.std.proofs.Common.{◌≡◌, ℕ, ◌≤◌, inl, inr, List, [], ◌∷◌, ◌++◌, length, refl, sym, ◌∙◌, subst}
use Rattle.std.specs.Borrow.{Bor}
use Rattle.std.specs.Prelude.{IfErr, IfOk, OnOk, Option, Result, Ok, Err}
use Rattle.command_io.proofs.ConfigLaws.{file_of_text}
use Rattle.command_io.proofs.Sinks.{appended_twice}
use Rattle.command_io.specs.Configs.{ReadsAs}
use Rattle.command_io.specs.Fetches.{IsFetchFault, IsTextFault, ending_of_fetch, ending_of_file, fetch_reads}
use Rattle.command_io.specs.Files.{ForGiven, Gives, IsFileFault, ReadMore, bad_read, good_read, reads_of}
use Rattle.command_io.specs.declared.ending.ConfigRefusal.TheVariants.{Refused}
use Rattle.command_io.specs.declared.ending.Ending.TheVariants.{Finished, ConfigRefused, Unread, OverLimit, OutOfMemory}
use Rattle.command_io.specs.declared.fetch.FetchFault.{FetchFault}
use Rattle.command_io.specs.declared.fetch.FetchFault.TheVariants as fetch
use Rattle.command_io.specs.declared.limits.TheConstants.{CONFIG_LIMIT}
use Rattle.command_io.specs.declared.read.FileFault.{FileFault}
use Rattle.command_io.specs.declared.read.FileFault.TheVariants as file
use Rattle.config_terms.specs.declared.fault.ConfigFault.TheVariants as config_fault
use Rattle.config_tests.specs.declared.entry.Test.{Test}
use Rattle.ports.specs.Reading.{StoreReport}
use Rattle.ports.specs.declared.store.StoreRead.{StoreRead}
use Rattle.sexp_config.specs.declared.config.Config.{Config}
use Rattle.command_test.specs.Endings.{HasNoTests, IsComplete}
use Rattle.command_test.specs.Given.{AreRefused, HasConfig, HasTests, HoldsConfig, IsReadConfig, ReadsAsTests}
use Rattle.command_test.specs.Given.{RefusesConfig, RefusesTests, RefusesTestsText}
use Rattle.command_test.specs.Reading.{ReadsOnce}
use Rattle.command_test.specs.Running.{RunEnds, RunReport}
use Rattle.command_test.specs.declared.ending.TestsEnding.{TestsEnding}
use Rattle.command_test.specs.declared.ending.TestsEnding.TheVariants.{Shared, Differed, TestsRefused}

-- ---- the text of a file

-- a read of the file gave this text, which is within its limit
abbrev pub HasText : List ℕ → StoreReport → StoreReport → List ℕ → Type 0
HasText name old new text = Gives name text old new × (length text ≤ CONFIG_LIMIT)

-- a fact of the text that was read is one of the file
for_text : (name : List ℕ) (old new : StoreReport) (text : List ℕ) (P : List ℕ → Type 0) → HasText name old new text
    → P text
    → ForGiven name old new (λ given. (length given ≤ CONFIG_LIMIT) × P given)
for_text name old new text P has fact = (text, has.0, (has.1, fact))

pub file_read : {T E : Type 0} (name : List ℕ) (old new : Option (List StoreRead)) (read : Result T E)
    → ReadMore (good_read name ∷ []) old new
    → OnOk read (ReadMore (good_read name ∷ []) old new)
file_read name old new (Ok text) grew = grew
file_read name old new (Err fault) grew = tt

-- ---- the configuration

pub has_config : (name : List ℕ) (old new : StoreReport) (text : List ℕ) → (holds : HoldsConfig name old new text)
    → HasConfig name old new holds.config
has_config name old new text holds = for_text name old new text (λ given. ReadsAs given holds.config) holds.holds holds.is

module _ (name : List ℕ) (old new : StoreReport) (text : List ℕ) (has : HasText name old new text) where
  pub config_of_file : (read : Result (List ℕ) FetchFault) → IfOk read (λ same. (same ≡ text) × IsReadConfig text)
      → IfOk read (HoldsConfig name old new)
  config_of_file (Ok same) is =
      subst (λ (bytes : List ℕ). HoldsConfig name old new bytes) (sym is.0)
      (record { config = is.1.0; is = is.1.1; holds = has })
  config_of_file (Err fault) is = tt

  pub no_config_of_file : (read : Result (List ℕ) FetchFault) → IfErr read (IsTextFault text)
      → IfErr read (IsFetchFault name old new)
  no_config_of_file (Ok same) is = tt
  no_config_of_file (Err fault) is = file_of_text name text old new (Err fault) has.0 has.1 is

-- the file whose text is not a configuration was read
pub config_read : (name text : List ℕ) (old new : Option (List StoreRead)) (read : Result (List ℕ) FetchFault)
    → IfErr read (IsTextFault text)
    → ReadMore (good_read name ∷ []) old new → IfErr read (λ fault. ReadMore (fetch_reads name (Err fault)) old new)
config_read name text old new (Ok same) is grew = tt
config_read name text old new (Err (fetch.File fault)) is grew = absurd is
config_read name text old new (Err (fetch.Config fault)) is grew = grew

pub config_refused : (name : List ℕ) (shown : Bor (List ℕ)) (old new : StoreReport) (fault : FetchFault)
    → shown.now ≡ name
    → IsFetchFault name old new fault
    → RefusesConfig name old new (Shared (ending_of_fetch shown fault))
config_refused name shown old new (fetch.File file.Unread) is cause = (cause.0, is, cause.1)
config_refused name shown old new (fetch.File file.TooLong) is cause = (cause.0, cause.1, is, refl, cause.2)
config_refused name shown old new (fetch.File file.Memory) is cause = inl cause
config_refused name shown old new (fetch.Config (config_fault.Refused place why)) is cause = cause
config_refused name shown old new (fetch.Config config_fault.Memory) is cause = inr cause

pub config_unread : (name : List ℕ) (shown : Bor (List ℕ)) (old new : Option (List StoreRead)) (fault : FetchFault)
    → ReadMore (fetch_reads name (Err fault)) old new
    → ReadsOnce [] name old new (Shared (ending_of_fetch shown fault))
config_unread name shown old new (fetch.File file.Memory) grew = inl grew
config_unread name shown old new (fetch.Config config_fault.Memory) grew = inr grew
config_unread name shown old new _ grew = grew

pub config_not_complete : (shown : Bor (List ℕ)) (fault : FetchFault)
    → IsComplete (Shared (ending_of_fetch shown fault)) → ⊥
config_not_complete shown (fetch.File file.Unread) complete = complete
config_not_complete shown (fetch.Config config_fault.Memory) complete = complete
config_not_complete shown _ complete = complete

-- ---- the tests

tests_refused : (name text : List ℕ) (old new : StoreReport) (ending : TestsEnding) → HasText name old new text
    → RefusesTestsText text ending
    → RefusesTests name old new ending
tests_refused name text old new (TestsRefused place why) has refuses =
    for_text name old new text (λ (bytes : List ℕ). AreRefused bytes place why) has refuses
tests_refused name text old new (Shared OutOfMemory) has refuses = inr (text, has.0)
tests_refused name text old new _ has refuses = absurd refuses

tests_read : (name text : List ℕ) (old new : Option (List StoreRead)) (ending : TestsEnding)
    → RefusesTestsText text ending → ReadMore (good_read name ∷ []) old new
    → ReadsOnce [] name old new ending
tests_read name text old new (Shared (Unread unread)) refuses grew = absurd refuses
tests_read name text old new (Shared OutOfMemory) refuses grew = inr grew
tests_read name text old new _ refuses grew = grew

module _ (name text : List ℕ) (old new : StoreReport) (has : HasText name old new text) where
  pub tests_of_file : (read : Result (List Test) TestsEnding) → IfOk read (ReadsAsTests text)
      → IfOk read (HasTests name old new)
  tests_of_file (Ok tests) reads = for_text name old new text (λ given. ReadsAsTests given tests) has reads
  tests_of_file (Err ending) reads = tt

  pub no_tests_of_file : (read : Result (List Test) TestsEnding) → IfErr read (RefusesTestsText text)
      → IfErr read (RefusesTests name old new)
  no_tests_of_file (Ok tests) refuses = tt
  no_tests_of_file (Err ending) refuses = tests_refused name text old new ending has refuses

-- the file whose text is not tests was read
pub no_tests_read : (name text : List ℕ) (old new : Option (List StoreRead)) (read : Result (List Test) TestsEnding)
    → IfErr read (RefusesTestsText text)
    → ReadMore (good_read name ∷ []) old new → IfErr read (ReadsOnce [] name old new)
no_tests_read name text old new (Ok tests) refuses grew = tt
no_tests_read name text old new (Err ending) refuses grew = tests_read name text old new ending refuses grew

pub tests_file_refused : (name : List ℕ) (shown : Bor (List ℕ)) (old new : StoreReport) (fault : FileFault)
    → shown.now ≡ name
    → IsFileFault name CONFIG_LIMIT old new fault
    → RefusesTests name old new (Shared (ending_of_file shown CONFIG_LIMIT fault))
tests_file_refused name shown old new file.Unread is cause = (cause.0, is, cause.1)
tests_file_refused name shown old new file.TooLong is cause = (cause.0, cause.1, is, refl, cause.2)
tests_file_refused name shown old new file.Memory is cause = inl cause

pub tests_unread : (name : List ℕ) (shown : Bor (List ℕ)) (old new : Option (List StoreRead)) (fault : FileFault)
    → ReadMore (reads_of name (Err fault)) old new
    → ReadsOnce [] name old new (Shared (ending_of_file shown CONFIG_LIMIT fault))
tests_unread name shown old new file.Memory grew = inl grew
tests_unread name shown old new _ grew = grew

pub tests_not_complete : (name : List ℕ) (old new : StoreReport) (ending : TestsEnding)
    → RefusesTests name old new ending → IsComplete ending → ⊥
tests_not_complete name old new (Shared Finished) refuses complete = refuses
tests_not_complete name old new Differed refuses complete = refuses
tests_not_complete name old new _ refuses complete = complete

-- ---- tests that were run

pub tests_run : (name : List ℕ) (reads reads' : Option (List StoreRead)) (config : Config) (tests : List Test)
    (old new : RunReport) (ending : TestsEnding)
    → RunEnds config tests old new ending → ReadMore (good_read name ∷ []) reads reads'
    → ReadsOnce [] name reads reads' ending
tests_run name reads reads' config tests old new (Shared (Unread unread)) ends grew = absurd ends
tests_run name reads reads' config tests old new (Shared OutOfMemory) ends grew = inr grew
tests_run name reads reads' config tests old new _ ends grew = grew

-- where tests were run there were tests
pub run_has_tests : (config : Config) (tests : List Test) (old new : RunReport) (ending : TestsEnding)
    → RunEnds config tests old new ending → HasNoTests ending → ⊥
run_has_tests config tests old new (Shared (ConfigRefused (Refused place why))) ends none = ends
run_has_tests config tests old new (Shared (Unread unread)) ends none = ends
run_has_tests config tests old new (Shared (OverLimit over limit)) ends none = ends
run_has_tests config tests old new (TestsRefused place why) ends none = ends
run_has_tests config tests old new _ ends none = none

-- ---- what was read of both

read_twice : (old mid new : Option (List StoreRead)) (first second : List StoreRead) → ReadMore first old mid
    → ReadMore second mid new
    → ReadMore (first ++ second) old new
read_twice old mid new first second one two = two ∙ (rw one (appended_twice old first second))

pub both_read : (config tests : List ℕ) (old mid new : Option (List StoreRead)) (ending : TestsEnding)
    → ReadMore (good_read config ∷ []) old mid
    → ReadsOnce [] tests mid new ending → ReadsOnce (good_read config ∷ []) tests old new ending
both_read config tests old mid new (Shared (Unread unread)) first grew =
    read_twice old mid new (good_read config ∷ []) (bad_read tests ∷ []) first grew
both_read config tests old mid new (Shared OutOfMemory) first (inl none) =
    inl (read_twice old mid new (good_read config ∷ []) [] first none)
both_read config tests old mid new (Shared OutOfMemory) first (inr one) =
    inr (read_twice old mid new (good_read config ∷ []) (good_read tests ∷ []) first one)
both_read config tests old mid new _ first grew =
    read_twice old mid new (good_read config ∷ []) (good_read tests ∷ []) first grew
