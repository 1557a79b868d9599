-- Forms in a row are read as values exactly where each of them represents the value in its place.
use Rattle.std.proofs.Common.{◌≡◌, List, [], ◌∷◌, ◌++◌, Result, Ok, refl, ap, sym, subst, ◌∙◌, append_assoc}
use Rattle.std.proofs.lemmas.List.{append-nil}
use Rattle.sexp_read.specs.Tree.{FormTree, FormTrees, none, also}
use Rattle.sexp_read.specs.Written.{BareTree, BareTrees, and_trees, bare_tree, bare_trees}
use Rattle.config_terms.specs.Steps.{Fault, each, onto}
use Rattle.config_terms.specs.Terms.{AreEach, no_more, one_more}
use Rattle.config_terms.proofs.BareForms.{also_of, none_of}
use Rattle.config_terms.proofs.Outcomes.{OkGood, bind_good, weaker}

pub each_none : {A : Type 0} (step : A → FormTree → Result A Fault) (a : A) → each step a none ≡ Ok a
unfolding each
each_none step a = refl

pub each_more : {A : Type 0} (step : A → FormTree → Result A Fault) (a b : A) (f : FormTree) (forms : FormTrees)
    → step a f ≡ Ok b → each step a (also f forms) ≡ each step b forms
unfolding each
each_more step a b f forms is = rw is refl

-- ---- what each form represents is read

onto_is : {A : Type 0} (read : FormTree → Result A Fault) (before : List A) (a : A) (f : FormTree) → read f ≡ Ok a
    → onto read before f ≡ Ok (before ++ a ∷ [])
onto_is read before a f is = rw is refl

pub all_onto : {A : Type 0} (Is : BareTree → A → Type 0) (read : FormTree → Result A Fault)
    → ((f : FormTree) (a : A) → Is (bare_tree f) a → read f ≡ Ok a)
    → (row : BareTrees) (all : List A) → AreEach Is row all → (forms : FormTrees) (before : List A)
    → bare_trees forms ≡ row → each (onto read) before forms ≡ Ok (before ++ all)
all_onto {A} Is read one _ _ no_more forms before h =
    ap (each (onto read) before) (none_of forms h) ∙ each_none (onto read) before
    ∙ ap (λ (all : List A). Ok all) (sym (append-nil before))
all_onto {A} Is read one _ _ (one_more {form = form} {forms = row} {a = a} {all = all} is others) forms before h =
    let parts = also_of forms form row h in
    ap (each (onto read) before) parts.are
    ∙ each_more (onto read) before (before ++ a ∷ []) parts.first parts.rest
    (onto_is read before a parts.first (one parts.first a (subst (λ (t : BareTree). Is t a) (sym parts.first_is) is)))
    ∙ all_onto Is read one row all others parts.rest (before ++ a ∷ []) parts.rest_are
    ∙ ap (λ (more : List A). Ok more) (append_assoc before (a ∷ []) all)

pub all_read : {A : Type 0} (Is : BareTree → A → Type 0) (read : FormTree → Result A Fault)
    → ((f : FormTree) (a : A) → Is (bare_tree f) a → read f ≡ Ok a)
    → (forms : FormTrees) (all : List A) → AreEach Is (bare_trees forms) all → each (onto read) [] forms ≡ Ok all
all_read Is read one forms all are = all_onto Is read one (bare_trees forms) all are forms [] refl

-- ---- what is read each form represents

record Onto {A : Type 0} (Is : BareTree → A → Type 0) (row : BareTrees) (before all : List A) : Type 0 where
  later : List A
  is : all ≡ before ++ later
  are : AreEach Is row later

record OneOnto {A : Type 0} (Is : BareTree → A → Type 0) (form : BareTree) (before all : List A) : Type 0 where
  a : A
  is : all ≡ before ++ a ∷ []
  one : Is form a

onto_more : {A : Type 0} (Is : BareTree → A → Type 0) (form : BareTree) (row : BareTrees) (before more : List A)
    → OneOnto Is form before more → (all : List A) → Onto Is row more all → Onto Is (and_trees form row) before all
onto_more {A} Is form row before more first all known =
    record {
      later = first.a ∷ known.later;
      is =
          known.is ∙ ap (λ (front : List A). front ++ known.later) first.is
          ∙ append_assoc before (first.a ∷ []) known.later;
      are = one_more first.one known.are;
    }

all_from : {A : Type 0} (Is : BareTree → A → Type 0) (read : FormTree → Result A Fault)
    → ((f : FormTree) → OkGood (Is (bare_tree f)) (read f)) → (forms : FormTrees) (before : List A)
    → OkGood (Onto Is (bare_trees forms) before) (each (onto read) before forms)
unfolding each
all_from Is read one none before = record { later = []; is = sym (append-nil before); are = no_more }
all_from Is read one (also f forms) before =
    bind_good (OneOnto Is (bare_tree f) before) (Onto Is (bare_trees (also f forms)) before) (onto read before f)
    (λ more. each (onto read) more forms)
    (bind_good (Is (bare_tree f)) (OneOnto Is (bare_tree f) before) (read f) (λ a. Ok (before ++ a ∷ [])) (one f)
    (λ a is. record { a = a; is = refl; one = is }))
    (λ more first. weaker (Onto Is (bare_trees forms) more) (Onto Is (bare_trees (also f forms)) before)
    (each (onto read) more forms) (onto_more Is (bare_tree f) (bare_trees forms) before more first)
    (all_from Is read one forms more))

pub all_mean : {A : Type 0} (Is : BareTree → A → Type 0) (read : FormTree → Result A Fault)
    → ((f : FormTree) → OkGood (Is (bare_tree f)) (read f)) → (forms : FormTrees)
    → OkGood (AreEach Is (bare_trees forms)) (each (onto read) [] forms)
all_mean {A} Is read one forms =
    weaker (Onto Is (bare_trees forms) []) (AreEach Is (bare_trees forms)) (each (onto read) [] forms)
    (λ all known. subst (λ (later : List A). AreEach Is (bare_trees forms) later) (sym known.is) known.are)
    (all_from Is read one forms [])
