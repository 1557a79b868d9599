-- Each text has one answer.
use Rattle.std.proofs.Common.{◌≡◌, ℕ, ◌≤◌, ◌⊎◌, Bool, true, false, nat_lt, List, [], ◌∷◌, length, Option, Some, None}
use Rattle.std.proofs.Common.{Result, Ok, Err, inl, inr, refl, ap, sym, ◌∙◌}
use Rattle.std.proofs.lemmas.Bool.{ltb-false}
use Rattle.std.proofs.lemmas.Str.{IsUtf8-from_is_utf8}
use Rattle.std.specs.Str.{is_utf8}
use Rattle.std.specs.Str.Lossy.{utf8_valid_len}
use Rattle.sexp_read.specs.declared.fault.SexpWhy.TheVariants.{Long, Utf8}
use Rattle.sexp_read.specs.Tokens.{lexed}
use Rattle.sexp_read.specs.Tokens as forms
use Rattle.sexp_read.specs.Grammar.{IsForms, longest, bracket_fault, fault_after, forms_fault, text_fault, or_else}
use Rattle.sexp_read.specs.Grammar.{unclosed, open_after, Brackets}
use Rattle.sexp_read.specs.Tree.{FormTrees}
use Rattle.sexp_read.proofs.FrontLaws.{closed_forms}
use Rattle.sexp_read.proofs.Spellings.{no_bracket_fault, none_open, one_reading}
use Rattle.sexp_read.proofs.Whole.{are_forms, fault_of_forms}
use Rattle.sexp_config.specs.declared.config.Config.{Config}
use Rattle.config_terms.specs.Steps.{Fault}
use Rattle.sexp_config.specs.Config.{config_of, why_of}
use Rattle.sexp_config.specs.Answer.{IsConfig, IsRefused, TextsAreAnswered, ConfigsAreNotRefused, ConfigsAreOne}
use Rattle.sexp_config.specs.Answer.{RefusalsAreOne}
use Rattle.sexp_config.proofs.GrammarLaws.{configs_are_read, config_read_of}
use Rattle.sexp_config.proofs.ReadLaws.{place_in, why_in, none_some, same_places}

-- ---- forms

abbrev FoundFault : Type 0
FoundFault = Option forms.Fault

no_fault : (text : List ℕ) (trees : FormTrees) → IsForms text trees → text_fault text ≡ None
unfolding forms_fault fault_after
no_fault text trees h =
    fault_of_forms text h.short h.utf8
    ∙ ap
    (λ (fault : FoundFault). or_else fault (or_else (lexed text).fault (unclosed (open_after [] (lexed text).tokens))))
    (ap (bracket_fault []) h.read.spelled ∙ no_bracket_fault trees h.shallow)
    ∙ ap (λ (fault : FoundFault). or_else fault (unclosed (open_after [] (lexed text).tokens))) h.read.faultless
    ∙ ap unclosed (ap (open_after []) h.read.spelled ∙ none_open trees)

same_forms : (text : List ℕ) (trees others : FormTrees) → IsForms text trees → IsForms text others → trees ≡ others
same_forms text trees others h k = one_reading trees others (sym h.read.spelled ∙ k.read.spelled)

-- ---- one answer

pub configs_are_one : ConfigsAreOne
configs_are_one text config other is also_is =
    let both : Ok config ≡ Ok other =
    sym (config_read_of text config is) ∙ ap config_of (same_forms text is.forms also_is.forms is.read also_is.read)
    ∙ config_read_of text other also_is in
    cc

ok_err : (read : Result Config Fault) (config : Config) (fault : Fault) → read ≡ Ok config → read ≡ Err fault → ⊥
ok_err read config fault is fails = cc

pub not_refused : ConfigsAreNotRefused
not_refused text config place why is (inl fault) =
    none_some (place, fault.cause) (text_fault text) (no_fault text is.forms is.read) fault.fault
not_refused text config place why is (inr fault) =
    ok_err (config_of is.forms) config (place, why) (config_read_of text config is)
    (ap config_of (same_forms text is.forms fault.forms is.read fault.read) ∙ fault.fault)

pub refusals_are_one : RefusalsAreOne
refusals_are_one text place other why cause (inl is) (inl fault) =
    let same = same_places text other cause place is.cause fault.cause is.fault fault.fault fault.is in
    (same.0, sym is.is ∙ same.1)
refusals_are_one text place other why cause (inl is) (inr fault) =
    absurd (none_some (place, is.cause) (text_fault text) (no_fault text fault.forms fault.read) is.fault)
refusals_are_one text place other why cause (inr is) (inl fault) =
    absurd (none_some (other, fault.cause) (text_fault text) (no_fault text is.forms is.read) fault.fault)
refusals_are_one text place other why cause (inr is) (inr fault) =
    let both = sym is.fault ∙ ap config_of (same_forms text is.forms fault.forms is.read fault.read) ∙ fault.fault in
    (ap (λ (read : Result Config Fault). place_in read) both, ap (λ (read : Result Config Fault). why_in read) both)

-- ---- an answer

or_none : (a b : FoundFault) → or_else a b ≡ None → (a ≡ None) × (b ≡ None)
or_none None b is = (refl, is)
or_none (Some fault) b is = cc

none_unclosed : (stack : Brackets) → unclosed stack ≡ None → stack ≡ []
none_unclosed [] is = refl
none_unclosed (innermost ∷ stack) is = cc

forms_of : (text : List ℕ) → length text ≤ longest → is_utf8 text ≡ true → forms_fault text ≡ None
    → (trees : FormTrees) × IsForms text trees
unfolding forms_fault fault_after
forms_of text short utf8 none =
    let tokens = (lexed text).tokens in
    let outer = or_none (bracket_fault [] tokens) (or_else (lexed text).fault (unclosed (open_after [] tokens))) none in
    let inner = or_none (lexed text).fault (unclosed (open_after [] tokens)) outer.1 in
    let (trees, spelled) = closed_forms tokens outer.0 (none_unclosed (open_after [] tokens) inner.1) in (
      trees,
      are_forms text trees short (IsUtf8-from_is_utf8 text utf8) (record { spelled = spelled; faultless = inner.0 })
          none,
    )

holds_by : (text : List ℕ) (trees : FormTrees) → IsForms text trees → (read : Result Config Fault)
    → config_of trees ≡ read → IsConfig text ⊎ IsRefused text
holds_by text trees h (Ok config) is =
    inl (config, record { forms = trees; read = h; holds = (configs_are_read trees config).1 is })
holds_by text trees h (Err (place, why)) is = inr (place, why, inr (record { forms = trees; read = h; fault = is }))

refused_by : (text : List ℕ) (fault : forms.Fault) → text_fault text ≡ Some fault → IsConfig text ⊎ IsRefused text
refused_by text (place, cause) is = inr (place, why_of cause, inl (record { cause = cause; fault = is; is = refl }))

answered_by : (text : List ℕ) (long utf8 : Bool) (fault : FoundFault) → nat_lt longest (length text) ≡ long
    → is_utf8 text ≡ utf8 → forms_fault text ≡ fault → IsConfig text ⊎ IsRefused text
unfolding text_fault
answered_by text true utf8 fault is valid reported = refused_by text (longest, Long) (rw is refl)
answered_by text false false fault is valid reported = refused_by text (utf8_valid_len text, Utf8) (rw (is, valid) refl)
answered_by text false true (Some fault) is valid reported = refused_by text fault (rw (is, valid) reported)
answered_by text false true None is valid reported =
    let (trees, read) = forms_of text (ltb-false longest (length text) is) valid reported in
    holds_by text trees read (config_of trees) refl

pub texts_are_answered : TextsAreAnswered
texts_are_answered text =
    answered_by text (nat_lt longest (length text)) (is_utf8 text) (forms_fault text) refl refl refl
