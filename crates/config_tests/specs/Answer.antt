-- Each text has one answer.
use Rattle.std.specs.Prelude.{◌≡◌, ℕ, ◌⊎◌, List}
use Rattle.config_terms.specs.declared.fault.ConfigWhy.{ConfigWhy}
use Rattle.config_tests.specs.declared.entry.Test.{Test}
use Rattle.config_tests.specs.Tests.{AreTestsOf, IsTestsFault}

-- the text is tests, or is refused for a cause at a place
abbrev pub IsTests : List ℕ → Type 0
IsTests text = (tests : List Test) × AreTestsOf text tests

abbrev pub IsRefused : List ℕ → Type 0
IsRefused text = (place : ℕ) × (why : ConfigWhy) × IsTestsFault text place why

abbrev pub TextsAreAnswered : Type 0
TextsAreAnswered = (text : List ℕ) → IsTests text ⊎ IsRefused text

-- not both
abbrev pub TestsAreNotRefused : Type 0
TestsAreNotRefused =
    (text : List ℕ) (tests : List Test) (place : ℕ) (why : ConfigWhy) → AreTestsOf text tests
    → IsTestsFault text place why → ⊥

-- no other tests, and no other cause or place
abbrev pub TestsAreOne : Type 0
TestsAreOne =
    (text : List ℕ) (tests others : List Test) → AreTestsOf text tests → AreTestsOf text others → tests ≡ others

abbrev pub RefusalsAreOne : Type 0
RefusalsAreOne = (text : List ℕ) (place other : ℕ) (why cause : ConfigWhy) → IsTestsFault text place why
    → IsTestsFault text other cause → (place ≡ other) × (why ≡ cause)
