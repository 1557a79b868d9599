-- Forms are read as tests exactly where they represent these, and refused exactly for their first fault.
use Rattle.std.proofs.Common.{◌≡◌, ℕ, Bool, true, false, codes, List, [], Result, Ok, Err, refl, ap, sym, subst, ◌∙◌}
use Rattle.std.proofs.lemmas.Bool.{false_from_ne_true}
use Rattle.std.proofs.lemmas.Slice.Eq.{bytes_eq-Decides}
use Rattle.std.specs.Str.{bytes_eq}
use Rattle.sexp_read.specs.Tree.{FormTree, FormTrees, none, also}
use Rattle.sexp_read.specs.Written.{BareTree, BareTrees, and_trees, bare_tree, bare_trees}
use Rattle.config_terms.specs.declared.fault.ConfigWhy.TheVariants as why
use Rattle.config_terms.specs.Code.{Look, Symbol, Call, Lookup, Other, look_of}
use Rattle.config_terms.specs.Steps.{Fault, ◌>>=◌, start_of, argument, each, onto}
use Rattle.config_terms.specs.Arguments.{text_at}
use Rattle.config_terms.specs.Grammar.{worded}
use Rattle.config_terms.proofs.BareForms.{also_of}
use Rattle.config_terms.proofs.TermLaws.{texts_are_read}
use Rattle.config_tests.specs.declared.draft.Draft.{Draft}
use Rattle.config_tests.specs.declared.entry.Test.{Test}
use Rattle.config_tests.specs.Entries.{no_entries as no_draft, with_entry}
use Rattle.config_tests.specs.Faults.{IsListOf, IsMisfit, HaveEntryFault, HasTestFault, no_test, no_name, test_name}
use Rattle.config_tests.specs.Faults.{test_entry, HaveTestFault}
use Rattle.config_tests.specs.Grammar.{IsText, AreEntries, IsTest, a_test, AreTests}
use Rattle.config_tests.specs.Tests.{test_from, test_in, test_by, test_looking, test_at, read_without_names}
use Rattle.config_tests.specs.Tests.{tests_of, TestsAreRead, FaultsAreFirst}
use Rattle.config_tests.specs.Words.{test_text}
use Rattle.config_tests.proofs.EntriesRead.{HeadIs, heads, looks, same_name, named_so, bare_list, list_of, draft_of}
use Rattle.config_tests.proofs.EntriesRead.{Holds, entries_both, entries_read, entries_refuse}
use Rattle.config_tests.proofs.Refusals.{Refuses, Both, both_then, both_ok, both_err, refuses_first, refuses_next}
use Rattle.config_tests.proofs.Refusals.{refuses_as, text_both, text_refuses}
use Rattle.config_terms.proofs.RowLaws.{all_read}
use Rattle.config_tests.proofs.Rows.{all_both, all_refuses}

-- ---- what follows `test`

test_of : (f x : FormTree) (forms : FormTrees) (name : List ℕ) (draft : Draft) → IsListOf test_text (also x forms) f
    → IsText (bare_tree x) name → Holds (bare_trees forms) draft → IsTest (bare_tree f) (test_from name draft)
test_of f x forms name draft call is held =
    subst (λ (t : BareTree). IsTest t (test_from name draft)) (sym (bare_list (codes "test") (also x forms) f call))
    (subst (λ (d : Draft). IsTest (worded (codes "test") (bare_trees (also x forms))) (test_from name d)) (sym held.is)
    (a_test is held.are))

in_both : (f : FormTree) (forms : FormTrees) → IsListOf test_text forms f
    → Both (IsTest (bare_tree f)) (HasTestFault f) (test_in (start_of f) forms)
unfolding test_in argument
in_both f none call = no_name call
in_both f (also x forms) call =
    let P = IsTest (bare_tree f) in
    let E = HasTestFault f in
    both_then (IsText (bare_tree x)) (IsMisfit IsText x) E P (text_at [] x)
    (λ name. each with_entry no_draft forms >>= λ draft. Ok (test_from name draft)) (text_both x)
    (λ fault misfit. test_name call misfit)
    (λ name is. both_then (Holds (bare_trees forms)) (HaveEntryFault forms) E P (each with_entry no_draft forms)
    (λ draft. Ok (test_from name draft)) (entries_both forms) (λ fault has. test_entry call is has)
    (λ draft held. test_of f x forms name draft call is held))

in_read : (start : ℕ) (x : FormTree) (forms : FormTrees) (name : List ℕ) (draft : Draft) → text_at [] x ≡ Ok name
    → each with_entry no_draft forms ≡ Ok draft → test_in start (also x forms) ≡ Ok (test_from name draft)
unfolding test_in argument
in_read start x forms name draft is are = rw (is, are) refl

nameless_refuses : (start : ℕ) → Refuses (test_in start none) (start, why.Arguments)
unfolding test_in argument
nameless_refuses start = refl

name_refuses : (start : ℕ) (x : FormTree) (forms : FormTrees) (fault : Fault) → Refuses (text_at [] x) fault
    → Refuses (test_in start (also x forms)) fault
unfolding test_in argument
name_refuses start x forms fault refused =
    refuses_first (text_at [] x) (λ name. each with_entry no_draft forms >>= λ draft. Ok (test_from name draft)) fault
    refused

entry_refuses : (start : ℕ) (x : FormTree) (forms : FormTrees) (name : List ℕ) (fault : Fault) → text_at [] x ≡ Ok name
    → Refuses (each with_entry no_draft forms) fault → Refuses (test_in start (also x forms)) fault
unfolding test_in argument
entry_refuses start x forms name fault is refused =
    refuses_next (text_at [] x) name (λ given. each with_entry no_draft forms >>= λ draft. Ok (test_from given draft))
    fault is
    (refuses_first (each with_entry no_draft forms) (λ draft. Ok (test_from name draft)) fault refused)

-- ---- tests

test_looks : (forms : FormTrees) (f : FormTree) → IsListOf test_text forms f → test_at f ≡ test_in (start_of f) forms
test_looks forms f call = ap (test_looking (start_of f)) (looks test_text forms f call)

not_named : (name : List ℕ) → (name ≡ test_text → ⊥) → bytes_eq name test_text ≡ false
not_named name other =
    false_from_ne_true (bytes_eq name test_text) (λ is. other ((bytes_eq-Decides name test_text).0 is))

by_name : (f : FormTree) (name : List ℕ) (forms : FormTrees) → IsListOf name forms f → (same : Bool)
    → bytes_eq name test_text ≡ same → Both (IsTest (bare_tree f)) (HasTestFault f) (test_by name (start_of f) forms)
by_name f name forms call true is =
    rw is (in_both f forms (named_so name test_text forms f ((bytes_eq-Decides name test_text).0 is) call))
by_name f name forms call false is =
    rw is (no_test (λ more other. differs is (same_name name test_text forms more f call other)))
  where
    differs : bytes_eq name test_text ≡ false → name ≡ test_text → ⊥
    differs not same = let both : true ≡ false = sym ((bytes_eq-Decides name test_text).1 same) ∙ not in cc

by_look : (f : FormTree) (look : Look) → HeadIs f look
    → Both (IsTest (bare_tree f)) (HasTestFault f) (test_looking (start_of f) look)
by_look f (Call name forms) head = by_name f name forms head (bytes_eq name test_text) refl
by_look f (Symbol name) head = no_test (λ forms call. head test_text forms call)
by_look f (Lookup name forms) head = no_test (λ more call. head test_text more call)
by_look f Other head = no_test (λ forms call. head test_text forms call)

test_both : (f : FormTree) → Both (IsTest (bare_tree f)) (HasTestFault f) (test_at f)
test_both f = by_look f (look_of f) (heads f)

test_given : (form : BareTree) (test : Test) → IsTest form test → (f : FormTree) → bare_tree f ≡ form
    → test_at f ≡ Ok test
test_given _ _ (a_test {x = x} {forms = row} {name = name} {told = told} is are) f h =
    let known = list_of (codes "test") (and_trees x row) f h in
    let parts = also_of known.forms x row known.forms_are in
    test_looks known.forms f known.call ∙ ap (test_in (start_of f)) parts.are
    ∙ in_read (start_of f) parts.first parts.rest name (draft_of told)
    ((texts_are_read [] parts.first name).0 (subst (λ (t : BareTree). IsText t name) (sym parts.first_is) is))
    (entries_read parts.rest told (subst (λ (r : BareTrees). AreEntries r told) (sym parts.rest_are) are))

test_read : (f : FormTree) (test : Test) → IsTest (bare_tree f) test → test_at f ≡ Ok test
test_read f test is = test_given (bare_tree f) test is f refl

no_test_refuses : (f : FormTree) → ((forms : FormTrees) → IsListOf test_text forms f → ⊥)
    → Refuses (test_at f) (start_of f, why.Form)
no_test_refuses f other = by (look_of f) (heads f)
  where
    by : (look : Look) → HeadIs f look → Refuses (test_looking (start_of f) look) (start_of f, why.Form)
    by (Call name forms) head =
        rw (not_named name (λ same. other forms (named_so name test_text forms f same head))) refl
    by (Symbol name) head = refl
    by (Lookup name forms) head = refl
    by Other head = refl

test_refuses : (f : FormTree) (fault : Fault) → HasTestFault f fault → Refuses (test_at f) fault
test_refuses _ _ (no_test {f = f} other) = no_test_refuses f other
test_refuses _ _ (no_name {f = f} call) =
    refuses_as (test_at f) (test_in (start_of f) none) (start_of f, why.Arguments) (test_looks none f call)
    (nameless_refuses (start_of f))
test_refuses f fault (test_name {x = x} {forms = forms} call misfit) =
    refuses_as (test_at f) (test_in (start_of f) (also x forms)) fault (test_looks (also x forms) f call)
    (name_refuses (start_of f) x forms fault (text_refuses x fault misfit))
test_refuses f fault (test_entry {x = x} {forms = forms} {name = name} call is has) =
    refuses_as (test_at f) (test_in (start_of f) (also x forms)) fault (test_looks (also x forms) f call)
    (entry_refuses (start_of f) x forms name fault ((texts_are_read [] x name).0 is) (entries_refuse forms fault has))

-- ---- all tests

tests_both : (forms : FormTrees) → Both (AreTests (bare_trees forms)) (HaveTestFault forms)
    (each (onto test_at) [] forms)
tests_both forms = all_both IsTest HasTestFault test_at test_both forms

tests_given : (forms : FormTrees) (tests : List Test) → AreTests (bare_trees forms) tests
    → each (onto test_at) [] forms ≡ Ok tests
tests_given forms tests are = all_read IsTest test_at test_read forms tests are

read_ok : (read : Result (List Test) Fault) (tests : List Test) → read_without_names read ≡ Ok tests → read ≡ Ok tests
read_ok (Ok found) tests is = is
read_ok (Err fault) tests is = cc

pub tests_are_read : TestsAreRead
unfolding tests_of
tests_are_read forms tests = (
  (λ are. ap read_without_names (tests_given forms tests are)),
  (λ is. both_ok (AreTests (bare_trees forms)) (HaveTestFault forms) (each (onto test_at) [] forms) tests
      (read_ok (each (onto test_at) [] forms) tests is) (tests_both forms)),
)

pub faults_are_first : FaultsAreFirst
unfolding tests_of
faults_are_first forms place why = (
  (λ known. all_refuses IsTest HasTestFault test_at test_read test_refuses forms (place, why) known),
  (λ is. both_err (AreTests (bare_trees forms)) (HaveTestFault forms) (each (onto test_at) [] forms) (place, why) is
      (tests_both forms)),
)
