-- The forms of a configuration, by what they look like, and one more of them.
use Rattle.std.proofs.Common.{◌≡◌, ℕ, zero, suc, ◌≤◌, length-append, Bool, List, [], ◌∷◌, ◌++◌, take, drop, length}
use Rattle.std.proofs.Common.{Option, Some, None, Result, Ok, Err, refl, ap, sym, ◌∙◌, arith}
use Rattle.std.proofs.lemmas.List.{take-append-le}
use Rattle.sexp_read.specs.declared.piece.Atom.TheVariants as atom
use Rattle.sexp_read.specs.declared.piece.Bracket.TheVariants.{Round, Square, Curly}
use Rattle.sexp_read.specs.Tree.{FormTree, FormTrees, Single, Group, none, also}
use Rattle.config_terms.specs.declared.binding.Bound.{Bound}
use Rattle.config_terms.specs.declared.binding.Bound.TheVariants as bound
use Rattle.config_terms.specs.declared.fault.ConfigWhy.TheVariants as why
use Rattle.config_terms.specs.Steps.{Fault, ◌>>=◌, start_of, argument}
use Rattle.config_terms.specs.Words.{top_word}
use Rattle.config_terms.specs.Arguments.{Env, bound_value, argument_of, misfit, vector_at}
use Rattle.config_terms.specs.Rules.{no_form}
use Rattle.sexp_config.specs.Tops.{Draft, Listens, listen_key_at, with_entry, listens_from, name_at, bound_by, index_by}
use Rattle.sexp_config.specs.Tops.{bound_at, names_from, names_at, let_by, run, top_by, top_at, tops_in}
use Rattle.config_terms.specs.Code.{Look, Symbol, Call, Lookup, Other, look_of, later, vector_in_form}

-- ---- by what a form looks like

abbrev pub top_by_look_at : Env → Draft → ℕ → Look → Result Draft Fault
top_by_look_at env draft start (Symbol name) = Err (no_form start (bound_value name env))
top_by_look_at env draft start (Call name forms) = top_by (top_word name) env start forms (tops_in forms) draft
top_by_look_at env draft start (Lookup name forms) = Err (start, why.Form)
top_by_look_at env draft start Other = Err (start, why.Form)

top_looks : (env : Env) (draft : Draft) (form : FormTree)
    → top_at form env draft ≡ top_by_look_at env draft (start_of form) (look_of form)
unfolding top_at look_of
top_looks env d (Single (atom.Symbol name) start last) = refl
top_looks env d (Group Round (also (Single (atom.Symbol name) begin end) forms) start last) = refl
top_looks env d form = refl

pub top_by_look : (env : Env) (draft : Draft) (form : FormTree) (look : Look) → look ≡ look_of form
    → top_at form env draft ≡ top_by_look_at env draft (start_of form) look
top_by_look env d form look e = top_looks env d form ∙ ap (top_by_look_at env d (start_of form)) (sym e)

abbrev pub bound_by_look_at : Env → FormTree → Look → Result Bound Fault
bound_by_look_at env form (Call name forms) = index_by name (start_of form) forms
bound_by_look_at env form _ = bound_by form (argument_of env form)

bound_looks : (env : Env) (form : FormTree) → bound_at env form ≡ bound_by_look_at env form (look_of form)
unfolding bound_at look_of
bound_looks env (Single (atom.Symbol name) start last) = refl
bound_looks env (Single (atom.Text name) start last) = refl
bound_looks env (Single (atom.Pattern name) start last) = refl
bound_looks env (Single (atom.Number name) start last) = refl
bound_looks env (Single (atom.Keyword name) start last) = refl
bound_looks env (Group Round (also (Single (atom.Symbol name) begin end) forms) start last) = refl
bound_looks env (Group Round (also (Single (atom.Keyword name) begin end) forms) start last) = refl
bound_looks env (Group Round (also (Single (atom.Text name) begin end) forms) start last) = refl
bound_looks env (Group Round (also (Single (atom.Pattern name) begin end) forms) start last) = refl
bound_looks env (Group Round (also (Single (atom.Number name) begin end) forms) start last) = refl
bound_looks env (Group Round (also (Group bracket more begin end) forms) start last) = refl
bound_looks env (Group Round none start last) = refl
bound_looks env (Group Square forms start last) = refl
bound_looks env (Group Curly forms start last) = refl

pub bound_by_look : (env : Env) (form : FormTree) (look : Look) → look ≡ look_of form
    → bound_at env form ≡ bound_by_look_at env form look
bound_by_look env form look e = bound_looks env form ∙ ap (bound_by_look_at env form) (sym e)

-- ---- vectors of names

-- a name is bound to no vector
no_vector : (name : List ℕ) (start last : ℕ) (env : Env) (found : Option Bound) → bound_value name env ≡ found
    → vector_at env (Single (atom.Symbol name) start last)
    ≡ Err (start, misfit (argument_of env (Single (atom.Symbol name) start last)))
unfolding vector_at argument_of
no_vector name start last env None e = rw e refl
no_vector name start last env (Some (bound.Text text)) e = rw e refl
no_vector name start last env (Some (bound.Pattern text)) e = rw e refl
no_vector name start last env (Some (bound.Number number)) e = rw e refl
no_vector name start last env (Some (bound.Keyword key)) e = rw e refl
no_vector name start last env (Some bound.Index) e = rw e refl

pub vector_of_names : (env : Env) (form : FormTree) (entries : FormTrees) → Some entries ≡ vector_in_form form
    → names_at env form ≡ names_from (start_of form) env entries
unfolding vector_at argument_of
vector_of_names env (Group Square more start last) entries e =
    ap (λ (found : Option FormTrees). found_names found) (sym e)
  where
    found_names : Option FormTrees → Result Env Fault
    found_names None = Ok env
    found_names (Some held) = names_from start env held
vector_of_names env (Group Round more start last) entries e = cc
vector_of_names env (Group Curly more start last) entries e = cc
vector_of_names env (Single a start last) entries e = cc

names_fail : (env : Env) (form : FormTree) → vector_at env form ≡ Err (start_of form, misfit (argument_of env form))
    → names_at env form ≡ Err (start_of form, misfit (argument_of env form))
names_fail env form e = ap (λ (found : Result FormTrees Fault). found >>= names_from (start_of form) env) e

pub no_vector_of_names : (env : Env) (form : FormTree) → None ≡ vector_in_form form
    → names_at env form ≡ Err (start_of form, misfit (argument_of env form))
unfolding vector_at argument_of
no_vector_of_names env (Group Square more start last) e = cc
no_vector_of_names env (Group Round more start last) e = refl
no_vector_of_names env (Group Curly more start last) e = refl
no_vector_of_names env (Single (atom.Text text) start last) e = refl
no_vector_of_names env (Single (atom.Pattern text) start last) e = refl
no_vector_of_names env (Single (atom.Number number) start last) e = refl
no_vector_of_names env (Single (atom.Keyword key) start last) e = refl
no_vector_of_names env (Single (atom.Symbol name) start last) e =
    names_fail env (Single (atom.Symbol name) start last) (no_vector name start last env (bound_value name env) refl)

-- ---- two forms further on

pub names_more : (place : ℕ) (env more : Env) (left rest forms : FormTrees) (key form : FormTree) (name : List ℕ)
    (value : Bound) →
    left ≡ also key rest → rest ≡ also form forms → name_at key ≡ Ok name → bound_at env form ≡ Ok value →
    more ≡ env ++ record { name = name; value = value } ∷ [] →
    names_from place env left ≡ names_from place more forms
unfolding names_from
names_more place env more left rest forms key form name value at later named read pushed =
    rw (at, later, named, read, pushed) refl

pub listens_more : (place : ℕ) (env : Env) (listens more : Listens) (left rest forms : FormTrees) (key form : FormTree)
    (is_host : Bool) →
    left ≡ also key rest → rest ≡ also form forms → listen_key_at env listens key ≡ Ok is_host →
    with_entry env listens is_host form ≡ Ok more →
    listens_from place env listens left ≡ listens_from place env more forms
unfolding listens_from
listens_more place env listens more left rest forms key form is_host at later known read =
    rw (at, later, known, read) refl

-- ---- one more form at the top

pub steps-later : (n : ℕ) (forms : FormTrees) → tops_in (later n forms) ≡ drop n (tops_in forms)
unfolding tops_in
steps-later zero forms = refl
steps-later (suc n) none = refl
steps-later (suc n) (also form forms) = steps-later n forms

pub steps_later : (n : ℕ) (forms rest : FormTrees) → rest ≡ later n forms → tops_in rest ≡ drop n (tops_in forms)
steps_later n forms rest e = ap tops_in e ∙ steps-later n forms

pub run_more : (env : Env) (draft more : Draft) (left forms : FormTrees) (form : FormTree) → left ≡ also form forms →
    top_at form env draft ≡ Ok more →
    run env draft (tops_in left) ≡ run env more (tops_in forms)
unfolding run tops_in
run_more env draft more left forms form at read = rw (at, read) refl

pub let_is : (env inner : Env) (start : ℕ) (forms rest : FormTrees) (first : FormTree) (draft : Draft) →
    argument start 0 forms ≡ Ok first → names_at env first ≡ Ok inner → rest ≡ later 1 forms →
    let_by env start forms (tops_in forms) draft ≡ run inner draft (tops_in rest)
let_is env inner start forms rest first draft at named e =
    ap (λ (found : Result FormTree Fault). found >>= names_at env >>= (λ more. run more draft (drop 1 (tops_in forms))))
    at
    ∙ ap (λ (found : Result Env Fault). found >>= (λ more. run more draft (drop 1 (tops_in forms)))) named
    ∙ ap (run inner draft) (sym (steps_later 1 forms rest e))

-- ---- names that are added

pub kept_more : (old before pushed added : Env) → take (length old) before ≡ old → length old ≤ length before
    → pushed ≡ before ++ added → take (length old) pushed ≡ old
kept_more old before pushed added kept grown e =
    ap (take (length old)) e ∙ take-append-le (length old) before added grown ∙ kept

pub pushed_longer : (old before pushed added : Env) → length old ≤ length before → pushed ≡ before ++ added
    → length old ≤ length pushed
pushed_longer old before pushed added grown e = omega (arith, ap length e, length-append before added)
