-- A form is read as a value of a sort exactly where it represents this value.
use Rattle.std.proofs.Common.{◌≡◌, ◌↔◌, ℕ, List, [], ◌∷◌, Option, Some, None, Result, Ok, refl, ap, sym, subst}
use Rattle.std.proofs.Common.{◌∙◌}
use Rattle.ev_types.specs.declared.settings.Fold.{Fold}
use Rattle.sexp_read.specs.declared.piece.Atom.TheVariants as atom
use Rattle.sexp_read.specs.declared.piece.Bracket.TheVariants.{Curly}
use Rattle.sexp_read.specs.Tree.{FormTree, FormTrees, Single, Group}
use Rattle.sexp_read.specs.Written.{BareTree, BareTrees, bare_tree, bare_trees}
use Rattle.stream_plan.specs.declared.kinds.TheConstants.{MAX_COUNT, MAX_SECS}
use Rattle.config_terms.specs.Steps.{Fault, ◌>>=◌, start_of}
use Rattle.config_terms.specs.Words.{fold_text, fold_word}
use Rattle.config_terms.specs.Arguments.{Env, argument_of, map_at, texts_at, some_of}
use Rattle.config_terms.specs.Grammar.{symbol}
use Rattle.config_terms.specs.Terms.{IsTexts}
use Rattle.config_terms.proofs.BareForms.{single_of, group_of}
use Rattle.config_terms.proofs.GrammarLaws.{predicates_are_those}
use Rattle.config_terms.proofs.NameLaws.{fold_named as fold_named_so, fold_found}
use Rattle.config_terms.proofs.Outcomes.{OkGood, SomeGood, bind_good, ok_from, ok_read, some_as}
use Rattle.config_terms.proofs.TermLaws.{texts_are_read, numbers_are_read, fields_are_read}
use Rattle.config_terms.proofs.VectorLaws.{MapIs, map_means, ranges_are_read, text_vectors_are_read}
use Rattle.config_terms.proofs.VectorLaws.{field_vectors_are_read}
use Rattle.config_terms.proofs.SetLaws.{sets_are_read, set_maps_are_read, inits_are_read}
use Rattle.config_terms.proofs.IdleLaws.{idles_are_read}
use Rattle.config_streams.specs.Sorts.{Sort, ValueOf, IsFold, IsSomeTexts, some_texts}
use Rattle.config_streams.specs.Sorts.{IsMapOf, a_map, IsA, fold_by, fold_named, fold_at, some_texts_at, map_as}
use Rattle.config_streams.specs.Sorts.{sets_in, init_in, read_as}
use Rattle.config_streams.specs.Sorts as a

-- ---- maps

map_read : (env : Env) (forms : FormTrees) (start last : ℕ) → map_at env (Group Curly forms start last) ≡ Ok forms
unfolding map_at argument_of
map_read env forms start last = refl

map_of_read : {A : Type 0} (Are : Env → BareTrees → A → Type 0) (read : ℕ → Env → FormTrees → Result A Fault)
    → ((env : Env) (place : ℕ) (forms : FormTrees) (a : A) → Are env (bare_trees forms) a ↔
    (read place env forms ≡ Ok a))
    → (env : Env) (x : BareTree) (a : A) → IsMapOf Are env x a → (f : FormTree) → bare_tree f ≡ x → map_as read env f
    ≡ Ok a
unfolding map_as
map_of_read Are read are_read env _ a (a_map {entries = entries} are) f h =
    let group = group_of f Curly entries h in
    ap (λ (g : FormTree). map_at env g >>= read (start_of g) env) group.is
    ∙ ap (λ (found : Result FormTrees Fault). found >>= read group.start env)
    (map_read env group.forms group.start group.last)
    ∙ (are_read env group.start group.forms a).0 (subst (λ (ts : BareTrees). Are env ts a) (sym group.forms_are) are)

maps_are_read : {A : Type 0} (Are : Env → BareTrees → A → Type 0) (read : ℕ → Env → FormTrees → Result A Fault)
    → ((env : Env) (place : ℕ) (forms : FormTrees) (a : A) → Are env (bare_trees forms) a ↔
    (read place env forms ≡ Ok a))
    → (env : Env) (f : FormTree) (a : A) → IsMapOf Are env (bare_tree f) a ↔ (map_as read env f ≡ Ok a)
unfolding map_as
maps_are_read {A} Are read are_read env f a = (
  λ is. map_of_read Are read are_read env (bare_tree f) a is f refl,
  λ is. ok_read (IsMapOf Are env (bare_tree f)) (map_as read env f) a is
      (bind_good (MapIs (bare_tree f)) (IsMapOf Are env (bare_tree f)) (map_at env f)
      (read (start_of f) env) (map_means env f)
      (λ forms at. ok_from (IsMapOf Are env (bare_tree f)) (read (start_of f) env forms)
      (λ b read_is. subst (λ (t : BareTree). IsMapOf Are env t b) (sym at)
      (a_map ((are_read env (start_of f) forms b).1 read_is))))),
)

-- ---- folds

fold_read : (env : Env) (f : FormTree) (one : Fold) → IsFold (bare_tree f) one → fold_at env f ≡ Ok one
unfolding fold_at
fold_read env f one is =
    let single = single_of f (atom.Symbol (fold_text one)) is in
    ap (fold_by env f) (ap fold_named single.is ∙ fold_found one)

fold_by_means : (P : Fold → Type 0) (env : Env) (f : FormTree) (found : Option Fold) → SomeGood P found
    → OkGood P (fold_by env f found)
fold_by_means P env f None good = tt
fold_by_means P env f (Some one) good = good

fold_means : (env : Env) (f : FormTree) → OkGood (IsFold (bare_tree f)) (fold_at env f)
unfolding fold_at
fold_means env (Single (atom.Symbol name) start last) =
    fold_by_means (IsFold (symbol name)) env (Single (atom.Symbol name) start last) (fold_word name)
    (some_as (λ one. name ≡ fold_text one) (IsFold (symbol name)) (fold_word name) (λ one is. ap symbol is)
    (fold_named_so name))
fold_means env f = tt

-- ---- one text at least

some_read : (env : Env) (x : BareTree) (texts : List (List ℕ)) → IsSomeTexts env x texts → (f : FormTree)
    → bare_tree f ≡ x
    → some_texts_at env f ≡ Ok texts
unfolding some_texts_at
some_read env x _ (some_texts {text = text} {texts = texts} are) f h =
    rw ((text_vectors_are_read env f (text ∷ texts)).0
    (subst (λ (t : BareTree). IsTexts env t (text ∷ texts)) (sym h) are)) refl

some_means : (env : Env) (f : FormTree) (texts : List (List ℕ)) → IsTexts env (bare_tree f) texts
    → OkGood (IsSomeTexts env (bare_tree f)) (some_of (start_of f) texts)
some_means env f [] are = tt
some_means env f (text ∷ texts) are = some_texts are

some_texts_mean : (env : Env) (f : FormTree) → OkGood (IsSomeTexts env (bare_tree f)) (some_texts_at env f)
unfolding some_texts_at
some_texts_mean env f =
    bind_good (IsTexts env (bare_tree f)) (IsSomeTexts env (bare_tree f)) (texts_at env f) (some_of (start_of f))
    (ok_from (IsTexts env (bare_tree f)) (texts_at env f) (λ texts is. (text_vectors_are_read env f texts).1 is))
    (some_means env f)

-- ---- all sorts

pub sorts_are_read : (sort : Sort) (env : Env) (f : FormTree) (value : ValueOf sort)
    → IsA sort env (bare_tree f) value ↔ (read_as sort env f ≡ Ok value)
sorts_are_read a.Count env f value = ranges_are_read 1 MAX_COUNT env f value
sorts_are_read a.Secs env f value = ranges_are_read 1 MAX_SECS env f value
sorts_are_read a.Number env f value = numbers_are_read env f value
sorts_are_read a.Text env f value = texts_are_read env f value
sorts_are_read a.Texts env f value = text_vectors_are_read env f value
sorts_are_read a.SomeTexts env f value = (
  λ is. some_read env (bare_tree f) value is f refl,
  λ is. ok_read (IsSomeTexts env (bare_tree f)) (some_texts_at env f) value is (some_texts_mean env f),
)
sorts_are_read a.OneField env f value = fields_are_read env f value
sorts_are_read a.Fields env f value = field_vectors_are_read env f value
sorts_are_read a.Rule env f value = predicates_are_those env f value
sorts_are_read (a.SetTo field) env f value = sets_are_read env field f value
sorts_are_read a.Sets env f value = maps_are_read _ sets_in
    (λ env place forms sets. set_maps_are_read env place forms sets) env f value
sorts_are_read a.Init env f value = maps_are_read _ init_in
    (λ env place forms held. inits_are_read env place forms held) env f value
sorts_are_read (a.Idle most) env f value = maps_are_read _ _
    (λ env place forms secs. idles_are_read most env place forms secs) env f value
sorts_are_read a.FoldWord env f value = (
  λ is. fold_read env f value is,
  λ is. ok_read (IsFold (bare_tree f)) (fold_at env f) value is (fold_means env f),
)
