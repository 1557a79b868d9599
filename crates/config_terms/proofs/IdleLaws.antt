-- Forms are read as the seconds in the map of a `by` exactly where they represent these.
use Rattle.std.proofs.Common.{◌≡◌, ◌≤◌, ℕ, pos, codes, true, Ok, refl, ap}
use Rattle.std.proofs.Common.{subst, ◌∙◌}
use Rattle.std.proofs.lemmas.Slice.Eq.{bytes_eq-Decides}
use Rattle.sexp_read.specs.Tree.{FormTree, FormTrees, none, also}
use Rattle.sexp_read.specs.Written.{BareTree, BareTrees, bare_tree, bare_trees}
use Rattle.config_terms.specs.declared.binding.Bound.TheVariants as bound
use Rattle.config_terms.specs.Steps.{start_of}
use Rattle.config_terms.specs.Words.{idle_text}
use Rattle.config_terms.specs.Arguments.{Env, Argument, Number, Keyword}
use Rattle.config_terms.specs.Arguments.{argument_of, is_idle_key, idle_number, idle_in}
use Rattle.config_terms.specs.Terms.{IsRanged, a_ranged, IsIdle, only, IdlesAreRead}
use Rattle.config_terms.proofs.Outcomes.{OkGood, weaker, ok_if, ok_read}
use Rattle.config_terms.proofs.GrammarRead.{literal_read, two_of}
use Rattle.config_terms.proofs.GrammarOnly.{Meaning, meaning}
use Rattle.config_terms.proofs.SetLaws.{KeyIs}
use Rattle.config_terms.proofs.VectorLaws.{ranged_is, ranged_means}

-- ---- what the grammar says is read

pair_read : (most place secs : ℕ) (env : Env) (key f : FormTree) → argument_of env key ≡ Keyword (codes "idle")
    → argument_of env f ≡ Number (pos secs) → 1 ≤ secs → secs ≤ most
    → idle_in most place env (also key (also f none)) ≡ Ok secs
unfolding idle_in
pair_read most place secs env key f named given low high =
    rw (named, given) (ranged_is 1 most (start_of f) secs low high)

idle_read : (most : ℕ) (env : Env) (row : BareTrees) (secs : ℕ) → IsIdle most env row secs → (place : ℕ)
    → (forms : FormTrees) → bare_trees forms ≡ row → idle_in most place env forms ≡ Ok secs
idle_read most env _ secs (only {key = key} {v = n} named (a_ranged literal low high)) place forms h =
    let two = two_of forms key n h in
    ap (idle_in most place env) two.are
    ∙ pair_read most place secs env two.a two.b
    (literal_read env key (bound.Keyword (codes "idle")) named two.a two.a_is)
    (literal_read env n (bound.Number (pos secs)) literal two.b two.b_is) low high

-- ---- what is read the grammar says

key_means : (env : Env) (form : BareTree) (given : Argument) → Meaning env form given → is_idle_key given ≡ true
    → KeyIs env form (codes "idle")
key_means env form (Keyword key) means is = subst (KeyIs env form) ((bytes_eq-Decides key idle_text).0 is) means
key_means env form given means is = cc

number_means : (most place start : ℕ) (env : Env) (form : BareTree) (given : Argument) → Meaning env form given
    → OkGood (IsRanged 1 most env form) (idle_number most place start given)
number_means most place start env form (Number number) means = ranged_means 1 most start env form number means
number_means most place start env form given means = tt

idle_means : (most : ℕ) (env : Env) (place : ℕ) (forms : FormTrees)
    → OkGood (IsIdle most env (bare_trees forms)) (idle_in most place env forms)
unfolding idle_in
idle_means most env place none = tt
idle_means most env place (also key none) = tt
idle_means most env place (also key (also f none)) =
    let Q = IsIdle most env (bare_trees (also key (also f none))) in
    ok_if Q (is_idle_key (argument_of env key)) _ _
    (λ is. weaker (IsRanged 1 most env (bare_tree f)) Q (idle_number most place (start_of f) (argument_of env f))
    (λ secs ranged. only (key_means env (bare_tree key) (argument_of env key) (meaning env key) is) ranged)
    (number_means most place (start_of f) env (bare_tree f) (argument_of env f) (meaning env f)))
    (λ _. tt)
idle_means most env place (also key (also f (also other forms))) = tt

pub idles_are_read : IdlesAreRead
idles_are_read most env place forms secs = (
  (λ is. idle_read most env (bare_trees forms) secs is place forms refl),
  (λ is. ok_read (IsIdle most env (bare_trees forms)) (idle_in most place env forms) secs is
      (idle_means most env place forms)),
)
