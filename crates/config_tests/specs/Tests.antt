-- How whole tests are read, and for what a text is refused that is not tests.
use Rattle.std.specs.Prelude.{◌≡◌, ◌↔◌, ℕ, ◌⊎◌, if◌then◌else◌, List, [], Some, Result, Ok, Err}
use Rattle.std.specs.Str.{bytes_eq}
use Rattle.sexp_read.specs.declared.fault.SexpFault.{SexpFault}
use Rattle.sexp_read.specs.declared.fault.SexpFault.TheVariants as sexp_fault
use Rattle.sexp_read.specs.declared.fault.SexpWhy.{SexpWhy}
use Rattle.sexp_read.specs.declared.fault.SexpWhy.TheVariants as sexp
use Rattle.sexp_read.specs.Grammar.{IsForms, text_fault}
use Rattle.sexp_read.specs.Tree.{FormTree, FormTrees}
use Rattle.sexp_read.specs.Written.{bare_trees}
use Rattle.config_terms.specs.declared.fault.ConfigFault.{ConfigFault}
use Rattle.config_terms.specs.declared.fault.ConfigFault.TheVariants as config_fault
use Rattle.config_terms.specs.declared.fault.ConfigWhy.{ConfigWhy}
use Rattle.config_terms.specs.declared.fault.ConfigWhy.TheVariants as why
use Rattle.config_terms.specs.Code.{Look, Call, look_of, later}
use Rattle.config_terms.specs.Steps.{Fault, ◌>>=◌, start_of, argument, each, onto}
use Rattle.config_terms.specs.Arguments.{text_at}
use Rattle.config_tests.specs.declared.draft.Draft.{Draft}
use Rattle.config_tests.specs.declared.entry.Test.{Test}
use Rattle.config_tests.specs.declared.fault.TestFault.{TestFault}
use Rattle.config_tests.specs.declared.fault.TestFault.TheVariants.{Refused, Memory}
use Rattle.config_tests.specs.Entries.{no_entries, with_entry}
use Rattle.config_tests.specs.Faults.{HaveTestFault}
use Rattle.config_tests.specs.Grammar.{AreTests}
use Rattle.config_tests.specs.Words.{test_text}

-- ---- tests

abbrev pub test_from : List ℕ → Draft → Test
test_from name draft = record { name = name; entries = draft.entries; expects = draft.expects }

-- a list that starts at the place, with these forms after `test`
unfoldable pub test_in : ℕ → FormTrees → Result Test Fault
test_in start forms =
    argument start 0 forms >>= λ f.
    text_at [] f >>= λ name.
    each with_entry no_entries (later 1 forms) >>= λ draft.
    Ok (test_from name draft)

abbrev pub test_by : List ℕ → ℕ → FormTrees → Result Test Fault
test_by name start forms = if bytes_eq name test_text then test_in start forms else Err (start, why.Form)

abbrev pub test_looking : ℕ → Look → Result Test Fault
test_looking start (Call name forms) = test_by name start forms
test_looking start _ = Err (start, why.Form)

abbrev pub test_at : FormTree → Result Test Fault
test_at f = test_looking (start_of f) (look_of f)

-- no names are bound in tests, so a symbol is an argument that does not fit, as any other
abbrev pub without_names : ConfigWhy → ConfigWhy
without_names why.Name = why.Arguments
without_names cause = cause

abbrev pub read_without_names : {A : Type 0} → Result A Fault → Result A Fault
read_without_names (Ok a) = Ok a
read_without_names (Err fault) = Err (fault.0, without_names fault.1)

-- What the forms of a text are read as, step by step. Which forms represent tests is said by the grammar, and which
-- fault of the others is the first by a relation; that the steps keep to both are laws.
unfoldable pub tests_of : FormTrees → Result (List Test) Fault
tests_of forms = read_without_names (each (onto test_at) [] forms)

-- forms are read as tests exactly where they represent these
abbrev pub TestsAreRead : Type 0
TestsAreRead = (forms : FormTrees) (tests : List Test) → AreTests (bare_trees forms) tests ↔ (tests_of forms ≡ Ok tests)

-- and are refused exactly for the first fault that they have
abbrev pub FaultsAreFirst : Type 0
FaultsAreFirst = (forms : FormTrees) (place : ℕ) (why : ConfigWhy)
    → HaveTestFault forms (place, why) ↔ (tests_of forms ≡ Err (place, why))

-- ---- texts

abbrev pub why_of : SexpWhy → ConfigWhy
why_of sexp.Long = why.Long
why_of sexp.Utf8 = why.Utf8
why_of sexp.Open = why.Open
why_of sexp.Close = why.Close
why_of sexp.Token = why.Token
why_of sexp.Number = why.Number
why_of sexp.Escape = why.Escape
why_of sexp.Deep = why.Deep

-- the text is forms that represent these tests
pub record AreTestsOf (text : List ℕ) (tests : List Test) : Type 0 where
  pub forms : FormTrees
  pub read : IsForms text forms
  pub holds : AreTests (bare_trees forms) tests

-- the text is not forms, for this cause at the place
pub record IsFormsFault (text : List ℕ) (place : ℕ) (why : ConfigWhy) : Type 0 where
  pub cause : SexpWhy
  pub fault : text_fault text ≡ Some (place, cause)
  pub is : why_of cause ≡ why

-- the text is forms that are not tests, and this is the first fault that they have
pub record IsReadingFault (text : List ℕ) (place : ℕ) (why : ConfigWhy) : Type 0 where
  pub forms : FormTrees
  pub read : IsForms text forms
  pub fault : HaveTestFault forms (place, why)

abbrev pub IsTestsFault : List ℕ → ℕ → ConfigWhy → Type 0
IsTestsFault text place why = IsFormsFault text place why ⊎ IsReadingFault text place why

-- ---- what a call answers

abbrev pub IsRefusedFor : List ℕ → TestFault → Type 0
IsRefusedFor text (Refused place why) = IsTestsFault text place why
IsRefusedFor text Memory = Unit {0}

-- these very tests are read, or the call is out of memory
abbrev pub AreReadAs : List Test → Result (List Test) TestFault → Type 0
AreReadAs tests (Ok read) = read ≡ tests
AreReadAs tests (Err fault) = fault ≡ Memory

-- the text is refused for this very cause at the place, or the call is out of memory
abbrev pub IsRefusedAs : ℕ → ConfigWhy → Result (List Test) TestFault → Type 0
IsRefusedAs place why (Ok read) = ⊥
IsRefusedAs place why (Err (Refused at cause)) = (at ≡ place) × (cause ≡ why)
IsRefusedAs place why (Err Memory) = Unit {0}

-- the call answers what is read, or is out of memory
abbrev pub Fails : TestFault → Result (List Test) Fault → Type 0
Fails (Refused place why) read = read ≡ Err (place, why)
Fails Memory read = Unit {0}

abbrev pub TestsGive : Result (List Test) TestFault → Result (List Test) Fault → Type 0
TestsGive (Ok tests) read = read ≡ Ok tests
TestsGive (Err fault) read = Fails fault read

-- a refusal of forms as one of tests
abbrev pub fault_by : ConfigFault → TestFault
fault_by (config_fault.Refused place why) = Refused place (without_names why)
fault_by config_fault.Memory = Memory

-- the refusal of a text that is not forms as one of tests
abbrev pub fault_in : SexpFault → TestFault
fault_in (sexp_fault.Refused place cause) = Refused place (why_of cause)
fault_in sexp_fault.Memory = Memory
