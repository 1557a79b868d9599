-- Keys that expired events keep are read exactly as the grammar says.
use Rattle.std.proofs.Common.{◌≡◌, ◌↔◌, ℕ, Bool, true, false, codes, List, [], Option, Some, None, Ok, refl, ap}
use Rattle.std.proofs.Common.{sym, ◌∙◌, subst}
use Rattle.std.proofs.lemmas.Slice.Eq.{bytes_eq-Decides}
use Rattle.std.specs.Str.{bytes_eq}
use Rattle.ev_types.specs.declared.field.Field.{Field}
use Rattle.ev_types.specs.declared.settings.KeepKey.{KeepKey}
use Rattle.ev_types.specs.declared.settings.KeepKey.TheVariants as keep
use Rattle.ev_types.specs.Names.{named_field, protocol_field}
use Rattle.sexp_read.specs.declared.piece.Bracket.TheVariants.{Square}
use Rattle.sexp_read.specs.Tree.{FormTree, FormTrees, Group}
use Rattle.sexp_read.specs.Written.{BareTree, BareTrees, bare_tree, bare_trees}
use Rattle.config_terms.specs.declared.binding.Bound.TheVariants as bound
use Rattle.config_terms.specs.Steps.{each, onto}
use Rattle.config_terms.specs.Words.{tags_text, keep_text}
use Rattle.config_terms.specs.Arguments.{Env, Argument, Keyword, argument_of, vector_at, one_entry}
use Rattle.config_terms.specs.Grammar.{IsLiteral}
use Rattle.config_terms.specs.Terms.{a_field, IsOnly}
use Rattle.config_terms.proofs.BareForms.{group_of}
use Rattle.config_terms.proofs.GrammarRead.{literal_read}
use Rattle.config_terms.proofs.GrammarOnly.{Meaning, taken_means}
use Rattle.config_terms.proofs.Outcomes.{OkGood, SomeGood, bind_good, weaker, some_if, ok_read}
use Rattle.config_terms.proofs.RowLaws.{all_read, all_mean}
use Rattle.config_terms.proofs.SetLaws.{KeyIs, only_are_read}
use Rattle.config_terms.proofs.VectorLaws.{VectorIs, vector_means}
use Rattle.sexp_config.specs.Grammar.{IsKey, field_key, tags_key, AreKeys, IsKeys, key_vector}
use Rattle.sexp_config.specs.Tops.{keep_field, keep_in, keep_at, keys_at}

-- ---- one key

no_tags_at : (name : List ℕ) (field : Field) (same : Bool) → bytes_eq name tags_text ≡ same
    → named_field name ≡ Some field → same ≡ false
unfolding named_field protocol_field
no_tags_at name field false is means = refl
no_tags_at name field true is means =
    let tags : named_field tags_text ≡ Some field =
    ap named_field (sym ((bytes_eq-Decides name tags_text).0 is)) ∙ means in
    cc

pub no_tags : (name : List ℕ) (field : Field) → named_field name ≡ Some field → bytes_eq name tags_text ≡ false
no_tags name field means = no_tags_at name field (bytes_eq name tags_text) refl means

keep_field_read : (env : Env) (f : FormTree) (name : List ℕ) (field : Field) → argument_of env f ≡ Keyword name
    → named_field name ≡ Some field → keep_at env f ≡ Ok (keep.Field field)
unfolding keep_at
keep_field_read env f name field is means = rw (is, no_tags name field means, means) refl

keep_tags_read : (env : Env) (f : FormTree) → argument_of env f ≡ Keyword (codes "tags") → keep_at env f ≡ Ok keep.Tags
unfolding keep_at
keep_tags_read env f is = rw is refl

key_read : (env : Env) (form : BareTree) (key : KeepKey) → IsKey env form key → (f : FormTree) → bare_tree f ≡ form
    → keep_at env f ≡ Ok key
key_read env form _ (field_key {field = field} (a_field {name = name} literal means)) f h =
    keep_field_read env f name field (literal_read env form (bound.Keyword name) literal f h) means
key_read env form _ (tags_key is) f h =
    keep_tags_read env f (literal_read env form (bound.Keyword (codes "tags")) is f h)

named_key : (env : Env) (form : BareTree) (name : List ℕ) (found : Option Field)
    → IsLiteral env form (bound.Keyword name) → named_field name ≡ found → SomeGood (IsKey env form) (keep_field found)
named_key env form name None is means = tt
named_key env form name (Some field) is means = field_key (a_field is means)

keep_in_means : (env : Env) (form : BareTree) (given : Argument) → Meaning env form given
    → SomeGood (IsKey env form) (keep_in given)
keep_in_means env form (Keyword name) means =
    some_if (IsKey env form) (bytes_eq name tags_text) (Some keep.Tags) (keep_field (named_field name))
    (λ is. tags_key (subst (KeyIs env form) ((bytes_eq-Decides name tags_text).0 is) means))
    (λ _. named_key env form name (named_field name) means refl)
keep_in_means env form given means = tt

keep_means : (env : Env) (f : FormTree) → OkGood (IsKey env (bare_tree f)) (keep_at env f)
unfolding keep_at
keep_means env f = taken_means (IsKey env (bare_tree f)) keep_in env f (keep_in_means env (bare_tree f))

-- ---- a vector of keys, and the map of it

keys_group : (env : Env) (forms : FormTrees) (start last : ℕ)
    → keys_at env (Group Square forms start last) ≡ each (onto (keep_at env)) [] forms
unfolding keys_at vector_at argument_of
keys_group env forms start last = refl

keys_read : (env : Env) (form : BareTree) (keys : List KeepKey) → IsKeys env form keys → (f : FormTree)
    → bare_tree f ≡ form → keys_at env f ≡ Ok keys
keys_read env _ keys (key_vector {forms = row} are) f h =
    let group = group_of f Square row h in
    ap (keys_at env) group.is ∙ keys_group env group.forms group.start group.last
    ∙ all_read (IsKey env) (keep_at env) (λ g key is. key_read env (bare_tree g) key is g refl) group.forms keys
    (subst (λ (ts : BareTrees). AreKeys env ts keys) (sym group.forms_are) are)

keys_mean : (env : Env) (f : FormTree) → OkGood (IsKeys env (bare_tree f)) (keys_at env f)
unfolding keys_at
keys_mean env f =
    bind_good (VectorIs (bare_tree f)) (IsKeys env (bare_tree f)) (vector_at env f) (each (onto (keep_at env)) [])
    (vector_means env f) (λ forms is.
    weaker (AreKeys env (bare_trees forms)) (IsKeys env (bare_tree f)) (each (onto (keep_at env)) [] forms)
    (λ keys are. subst (λ (t : BareTree). IsKeys env t keys) (sym is) (key_vector are))
    (all_mean (IsKey env) (keep_at env) (keep_means env) forms))

keys_are_read : (env : Env) (f : FormTree) (keys : List KeepKey)
    → IsKeys env (bare_tree f) keys ↔ (keys_at env f ≡ Ok keys)
keys_are_read env f keys = (
  λ is. keys_read env (bare_tree f) keys is f refl,
  λ is. ok_read (IsKeys env (bare_tree f)) (keys_at env f) keys is (keys_mean env f),
)

pub keep_maps_are_read : (env : Env) (place : ℕ) (forms : FormTrees) (keys : List KeepKey)
    → IsOnly keep_text IsKeys env (bare_trees forms) keys
    ↔ (one_entry keep_text keys_at place env None forms ≡ Ok keys)
keep_maps_are_read = only_are_read keep_text IsKeys keys_at keys_are_read
