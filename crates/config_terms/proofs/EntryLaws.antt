-- Maps and vectors, two forms further on.
use Rattle.std.proofs.Common.{◌≡◌, ℕ, Bool, List, [], ◌∷◌, ◌++◌, Option, Some, Result, Ok, refl}
use Rattle.ev_types.specs.declared.field.Field.{Field}
use Rattle.ev_types.specs.declared.settings.Set.{Set}
use Rattle.sexp_read.specs.Tree.{FormTree, FormTrees, also}
use Rattle.config_terms.specs.Steps.{Fault}
use Rattle.config_terms.specs.Arguments.{Env, new_field_at, set_at, sets_from, only_key_at, one_entry}
use Rattle.std.specs.Option.{is_some}

pub sets_more : (place : ℕ) (env : Env) (sets more : List Set) (left rest forms : FormTrees) (key form : FormTree)
    (one : Field) (set : Set) →
    left ≡ also key rest → rest ≡ also form forms → new_field_at env sets key ≡ Ok one → set_at env one form ≡ Ok set →
    more ≡ sets ++ set ∷ [] →
    sets_from place env sets left ≡ sets_from place env more forms
unfolding sets_from
sets_more place env sets more left rest forms key form one set at later fresh read pushed =
    rw (at, later, fresh, read, pushed) refl

pub entry_more : {A : Type 0} (wanted : List ℕ) (read : Env → FormTree → Result A Fault) (place : ℕ) (env : Env)
    (found : Option A) (left rest forms : FormTrees) (key form : FormTree) (a : A) (twice : Bool) →
    left ≡ also key rest → rest ≡ also form forms → twice ≡ is_some found → only_key_at wanted twice env key ≡ Ok tt →
    read env form ≡ Ok a →
    one_entry wanted read place env found left ≡ one_entry wanted read place env (Some a) forms
unfolding one_entry
entry_more wanted read place env found left rest forms key form a twice at later is known taken =
    let reported = rw is at known in rw (at, later, reported, taken) refl
