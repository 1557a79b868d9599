-- Each text has one answer.
use Rattle.std.proofs.Common.{◌≡◌, ℕ, ◌≤◌, ◌⊎◌, Bool, true, false, nat_lt, List, [], ◌∷◌, length, Option, Some, None}
use Rattle.std.proofs.Common.{Result, Ok, Err, inl, inr, refl, ap, sym, ◌∙◌}
use Rattle.std.proofs.lemmas.Bool.{ltb-false}
use Rattle.std.proofs.lemmas.Str.{IsUtf8-from_is_utf8}
use Rattle.std.specs.Str.{is_utf8}
use Rattle.std.specs.Str.Lossy.{utf8_valid_len}
use Rattle.sexp_read.specs.declared.fault.SexpWhy.TheVariants.{Long, Utf8}
use Rattle.sexp_read.specs.Tokens.{lexed}
use Rattle.sexp_read.specs.Tokens as forms
use Rattle.sexp_read.specs.Grammar.{IsForms, longest, bracket_fault, fault_after, forms_fault, text_fault, or_else}
use Rattle.sexp_read.specs.Grammar.{unclosed, open_after, Brackets}
use Rattle.sexp_read.specs.Tree.{FormTrees}
use Rattle.sexp_read.proofs.FrontLaws.{closed_forms}
use Rattle.sexp_read.proofs.Spellings.{no_bracket_fault, none_open, one_reading}
use Rattle.sexp_read.proofs.Whole.{are_forms, fault_of_forms}
use Rattle.config_tests.specs.declared.entry.Test.{Test}
use Rattle.config_terms.specs.Steps.{Fault}
use Rattle.config_tests.specs.Answer.{IsTests, IsRefused, TextsAreAnswered, TestsAreNotRefused, TestsAreOne}
use Rattle.config_tests.specs.Answer.{RefusalsAreOne}
use Rattle.config_tests.specs.Tests.{tests_of, why_of}
use Rattle.config_tests.proofs.ReadLaws.{tests_read_of, fault_read_of, place_in, why_in, none_some, same_places}
use Rattle.config_tests.proofs.TestsRead.{tests_are_read, faults_are_first}

-- ---- forms

abbrev FoundFault : Type 0
FoundFault = Option forms.Fault

no_fault : (text : List ℕ) (trees : FormTrees) → IsForms text trees → text_fault text ≡ None
unfolding forms_fault fault_after
no_fault text trees h =
    fault_of_forms text h.short h.utf8
    ∙ ap
    (λ (fault : FoundFault). or_else fault (or_else (lexed text).fault (unclosed (open_after [] (lexed text).tokens))))
    (ap (bracket_fault []) h.read.spelled ∙ no_bracket_fault trees h.shallow)
    ∙ ap (λ (fault : FoundFault). or_else fault (unclosed (open_after [] (lexed text).tokens))) h.read.faultless
    ∙ ap unclosed (ap (open_after []) h.read.spelled ∙ none_open trees)

same_forms : (text : List ℕ) (trees others : FormTrees) → IsForms text trees → IsForms text others → trees ≡ others
same_forms text trees others h k = one_reading trees others (sym h.read.spelled ∙ k.read.spelled)

-- ---- one answer

pub tests_are_one : TestsAreOne
tests_are_one text tests others are also_are =
    let both : Ok tests ≡ Ok others =
    sym (tests_read_of text tests are) ∙ ap tests_of (same_forms text are.forms also_are.forms are.read also_are.read)
    ∙ tests_read_of text others also_are in
    cc

ok_err : (read : Result (List Test) Fault) (tests : List Test) (fault : Fault) → read ≡ Ok tests → read ≡ Err fault → ⊥
ok_err read tests fault is fails = cc

pub not_refused : TestsAreNotRefused
not_refused text tests place why are (inl fault) =
    none_some (place, fault.cause) (text_fault text) (no_fault text are.forms are.read) fault.fault
not_refused text tests place why are (inr fault) =
    ok_err (tests_of are.forms) tests (place, why) (tests_read_of text tests are)
    (ap tests_of (same_forms text are.forms fault.forms are.read fault.read) ∙ fault_read_of text place why fault)

pub refusals_are_one : RefusalsAreOne
refusals_are_one text place other why cause (inl is) (inl fault) =
    let same = same_places text other cause place is.cause fault.cause is.fault fault.fault fault.is in
    (same.0, sym is.is ∙ same.1)
refusals_are_one text place other why cause (inl is) (inr fault) =
    absurd (none_some (place, is.cause) (text_fault text) (no_fault text fault.forms fault.read) is.fault)
refusals_are_one text place other why cause (inr is) (inl fault) =
    absurd (none_some (other, fault.cause) (text_fault text) (no_fault text is.forms is.read) fault.fault)
refusals_are_one text place other why cause (inr is) (inr fault) =
    let both =
    sym (fault_read_of text place why is) ∙ ap tests_of (same_forms text is.forms fault.forms is.read fault.read)
    ∙ fault_read_of text other cause fault in (
      ap (λ (read : Result (List Test) Fault). place_in read) both,
      ap (λ (read : Result (List Test) Fault). why_in read) both,
    )

-- ---- an answer

or_none : (a b : FoundFault) → or_else a b ≡ None → (a ≡ None) × (b ≡ None)
or_none None b is = (refl, is)
or_none (Some fault) b is = cc

none_unclosed : (stack : Brackets) → unclosed stack ≡ None → stack ≡ []
none_unclosed [] is = refl
none_unclosed (innermost ∷ stack) is = cc

forms_of : (text : List ℕ) → length text ≤ longest → is_utf8 text ≡ true → forms_fault text ≡ None
    → (trees : FormTrees) × IsForms text trees
unfolding forms_fault fault_after
forms_of text short utf8 none =
    let tokens = (lexed text).tokens in
    let outer = or_none (bracket_fault [] tokens) (or_else (lexed text).fault (unclosed (open_after [] tokens))) none in
    let inner = or_none (lexed text).fault (unclosed (open_after [] tokens)) outer.1 in
    let (trees, spelled) = closed_forms tokens outer.0 (none_unclosed (open_after [] tokens) inner.1) in (
      trees,
      are_forms text trees short (IsUtf8-from_is_utf8 text utf8) (record { spelled = spelled; faultless = inner.0 })
          none,
    )

holds_by : (text : List ℕ) (trees : FormTrees) → IsForms text trees → (read : Result (List Test) Fault)
    → tests_of trees ≡ read → IsTests text ⊎ IsRefused text
holds_by text trees h (Ok tests) is =
    inl (tests, record { forms = trees; read = h; holds = (tests_are_read trees tests).1 is })
holds_by text trees h (Err (place, why)) is =
    inr (place, why, inr (record { forms = trees; read = h; fault = (faults_are_first trees place why).1 is }))

refused_by : (text : List ℕ) (fault : forms.Fault) → text_fault text ≡ Some fault → IsTests text ⊎ IsRefused text
refused_by text (place, cause) is = inr (place, why_of cause, inl (record { cause = cause; fault = is; is = refl }))

answered_by : (text : List ℕ) (long utf8 : Bool) (fault : FoundFault) → nat_lt longest (length text) ≡ long
    → is_utf8 text ≡ utf8 → forms_fault text ≡ fault → IsTests text ⊎ IsRefused text
unfolding text_fault
answered_by text true utf8 fault is valid reported = refused_by text (longest, Long) (rw is refl)
answered_by text false false fault is valid reported = refused_by text (utf8_valid_len text, Utf8) (rw (is, valid) refl)
answered_by text false true (Some fault) is valid reported = refused_by text fault (rw (is, valid) reported)
answered_by text false true None is valid reported =
    let (trees, read) = forms_of text (ltb-false longest (length text) is) valid reported in
    holds_by text trees read (tests_of trees) refl

pub texts_are_answered : TextsAreAnswered
texts_are_answered text =
    answered_by text (nat_lt longest (length text)) (is_utf8 text) (forms_fault text) refl refl refl
