-- What a text is read as, by its forms.
use Rattle.std.proofs.Common.{◌≡◌, ℕ, List, Option, Some, None, Result, Ok, Err, IfOk, IfErr, inl, inr, refl, ap, sym}
use Rattle.std.proofs.Common.{◌∙◌, subst}
use Rattle.std.specs.List.{AllByRecursion}
use Rattle.sexp_read.specs.declared.fault.SexpFault.{SexpFault}
use Rattle.sexp_read.specs.declared.fault.SexpFault.TheVariants as sexp
use Rattle.sexp_read.specs.declared.fault.SexpWhy.{SexpWhy}
use Rattle.sexp_read.specs.declared.fault.SexpWhy.TheVariants as reported
use Rattle.sexp_read.specs.Gives.{IsFault}
use Rattle.sexp_read.specs.Tokens as forms
use Rattle.sexp_read.specs.Grammar.{IsForms, text_fault}
use Rattle.sexp_read.specs.Tree.{FormTrees}
use Rattle.config_terms.specs.declared.fault.ConfigWhy.{ConfigWhy}
use Rattle.config_terms.specs.declared.fault.ConfigWhy.TheVariants as cause
use Rattle.config_terms.specs.Steps.{Fault}
use Rattle.config_tests.specs.declared.entry.Test.{Test}
use Rattle.config_tests.specs.declared.fault.TestFault.{TestFault}
use Rattle.config_tests.specs.declared.fault.TestFault.TheVariants.{Refused, Memory}
use Rattle.config_tests.specs.Tests.{tests_of, AreTestsOf, IsReadingFault, IsTestsFault}
use Rattle.config_tests.specs.Tests.{IsRefusedFor, AreReadAs, IsRefusedAs, TestsGive, fault_in, why_of}
use Rattle.config_tests.specs.Events.{IsShort}
use Rattle.config_tests.proofs.ShortLaws.{tests_short}
use Rattle.config_tests.proofs.TestsRead.{tests_are_read, faults_are_first}

-- ---- what the forms of a text are read as

-- the forms of tests are read as these
pub tests_read_of : (text : List ℕ) (tests : List Test) → (are : AreTestsOf text tests) → tests_of are.forms ≡ Ok tests
tests_read_of text tests are = (tests_are_read are.forms tests).0 are.holds

-- and those with a fault are refused for it
pub fault_read_of : (text : List ℕ) (place : ℕ) (why : ConfigWhy) → (is : IsReadingFault text place why)
    → tests_of is.forms ≡ Err (place, why)
fault_read_of text place why is = (faults_are_first is.forms place why).0 is.fault

-- no more seconds pass in them than in any test
pub read_short : (text : List ℕ) (tests : List Test) → AreTestsOf text tests → AllByRecursion IsShort tests
read_short text tests are = tests_short are.forms tests (tests_read_of text tests are)

-- ---- forms that are refused

-- ---- the text is forms

module _ (text : List ℕ) (trees : FormTrees) (read : IsForms text trees) where
  pub tests_read : (result : Result (List Test) TestFault) → TestsGive result (tests_of trees)
      → IfOk result (λ tests. AreTestsOf text tests)
  tests_read (Ok tests) gives = record { forms = trees; read = read; holds = (tests_are_read trees tests).1 gives }
  tests_read (Err fault) gives = tt

  pub refused_read : (result : Result (List Test) TestFault) → TestsGive result (tests_of trees)
      → IfErr result (λ fault. IsRefusedFor text fault)
  refused_read (Ok tests) gives = tt
  refused_read (Err (Refused place why)) gives =
      inr (record { forms = trees; read = read; fault = (faults_are_first trees place why).1 gives })
  refused_read (Err Memory) gives = tt

same_tests : (trees : FormTrees) (tests : List Test) (result : Result (List Test) TestFault)
    → TestsGive result (tests_of trees) → tests_of trees ≡ Ok tests → AreReadAs tests result
same_tests trees tests (Ok read) gives holds = cc
same_tests trees tests (Err (Refused place why)) gives holds = cc
same_tests trees tests (Err Memory) gives holds = refl

-- the same forms were read, whose reading the result gives
pub only_tests : (text : List ℕ) (trees : FormTrees) (result : Result (List Test) TestFault) →
    ((others : FormTrees) → IsForms text others → trees ≡ others) →
    TestsGive result (tests_of trees) → (tests : List Test) → AreTestsOf text tests → AreReadAs tests result
only_tests text trees result same gives tests are =
    same_tests trees tests result gives (ap tests_of (same are.forms are.read) ∙ tests_read_of text tests are)

abbrev pub place_in : Result (List Test) Fault → ℕ
place_in (Ok tests) = 0
place_in (Err fault) = fault.0

abbrev pub why_in : Result (List Test) Fault → ConfigWhy
why_in (Ok tests) = cause.Long
why_in (Err fault) = fault.1

same_fault : (trees : FormTrees) (place : ℕ) (why : ConfigWhy) (result : Result (List Test) TestFault)
    → TestsGive result (tests_of trees) → tests_of trees ≡ Err (place, why) → IsRefusedAs place why result
same_fault trees place why (Ok read) gives fails = cc
same_fault trees place why (Err (Refused at reason)) gives fails =
    let both = sym gives ∙ fails in (
      ap (λ (read : Result (List Test) Fault). place_in read) both,
      ap (λ (read : Result (List Test) Fault). why_in read) both,
    )
same_fault trees place why (Err Memory) gives fails = tt

pub none_some : {A : Type 0} (a : A) (found : Option A) → found ≡ None → found ≡ Some a → ⊥
none_some a found e f = cc

pub only_fault : (text : List ℕ) (trees : FormTrees) (result : Result (List Test) TestFault) →
    ((others : FormTrees) → IsForms text others → trees ≡ others) → text_fault text ≡ None →
    TestsGive result (tests_of trees) → (place : ℕ) (why : ConfigWhy) → IsTestsFault text place why →
    IsRefusedAs place why result
only_fault text trees result same faultless gives place why (inl is) =
    absurd (none_some (place, is.cause) (text_fault text) faultless is.fault)
only_fault text trees result same faultless gives place why (inr is) =
    same_fault trees place why result gives (ap tests_of (same is.forms is.read) ∙ fault_read_of text place why is)

-- ---- the text is no forms

pub refused_forms : (text : List ℕ) (fault : SexpFault) (made : TestFault) → IsFault fault (text_fault text)
    → made ≡ fault_in fault → IsRefusedFor text made
refused_forms text (sexp.Refused place why) made is e =
    subst (λ (f : TestFault). IsRefusedFor text f) (sym e) (inl (record { cause = why; fault = is; is = refl }))
refused_forms text sexp.Memory made is e = subst (λ (f : TestFault). IsRefusedFor text f) (sym e) tt

pub no_tests : (text : List ℕ) (fault : SexpFault) (made : TestFault) →
    ((others : FormTrees) → IsForms text others → fault ≡ sexp.Memory) → made ≡ fault_in fault →
    (tests : List Test) → AreTestsOf text tests → made ≡ Memory
no_tests text fault made same e tests are = e ∙ ap fault_in (same are.forms are.read)

abbrev place_reported : Option forms.Fault → ℕ
place_reported None = 0
place_reported (Some fault) = fault.0

abbrev cause_reported : Option forms.Fault → SexpWhy
cause_reported None = reported.Long
cause_reported (Some fault) = fault.1

pub same_places : (text : List ℕ) (place : ℕ) (why : ConfigWhy) (at : ℕ) (reason known : SexpWhy)
    → text_fault text ≡ Some (at, reason) → text_fault text ≡ Some (place, known) → why_of known ≡ why
    → (at ≡ place) × (why_of reason ≡ why)
same_places text place why at reason known d e f =
    let both = sym d ∙ e in
    (ap place_reported both, ap why_of (ap cause_reported both) ∙ f)

pub same_refusal : (text : List ℕ) (fault : SexpFault) (made : TestFault) →
    ((others : FormTrees) → IsForms text others → fault ≡ sexp.Memory) → IsFault fault (text_fault text) →
    made ≡ fault_in fault →
    (place : ℕ) (why : ConfigWhy) → IsTestsFault text place why → IsRefusedAs place why (Err made)
same_refusal text fault made same is e place why (inr known) =
    subst (λ (f : TestFault). IsRefusedAs place why (Err f)) (sym (e ∙ ap fault_in (same known.forms known.read))) tt
same_refusal text (sexp.Refused at reason) made same is e place why (inl known) =
    subst (λ (f : TestFault). IsRefusedAs place why (Err f)) (sym e)
    (same_places text place why at reason known.cause is known.fault known.is)
same_refusal text sexp.Memory made same is e place why (inl known) =
    subst (λ (f : TestFault). IsRefusedAs place why (Err f)) (sym e) tt
