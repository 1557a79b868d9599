-- Forms in a row that are read from left to right, each onto what the ones before it gave.
use Rattle.std.proofs.Common.{◌≡◌, List, [], ◌∷◌, ◌++◌, Result, Ok, Err, refl, ap, sym, subst, ◌∙◌}
use Rattle.sexp_read.specs.Tree.{FormTree, FormTrees, none, also}
use Rattle.sexp_read.specs.Written.{BareTree, BareTrees, no_trees, and_trees, bare_tree, bare_trees}
use Rattle.config_terms.specs.Steps.{Fault, ◌>>=◌, each, onto}
use Rattle.config_terms.proofs.BareForms.{none_of}
use Rattle.config_tests.specs.Faults.{and_forms, IsFirstFault}
use Rattle.config_terms.specs.Terms.{AreEach, no_more, one_more}
use Rattle.config_tests.specs.Grammar.{then_one}
use Rattle.config_terms.proofs.RowLaws.{each_none, each_more, all_read}
use Rattle.config_tests.proofs.Refusals.{Refuses, Both, both_then, refuses_first, refuses_as}

-- ---- forms after others

pub none_after : (forms : FormTrees) → and_forms forms none ≡ forms
none_after none = refl
none_after (also f forms) = ap (also f) (none_after forms)

pub forms_after : (a b c : FormTrees) → and_forms (and_forms a b) c ≡ and_forms a (and_forms b c)
forms_after none b c = refl
forms_after (also f a) b c = ap (also f) (forms_after a b c)

abbrev pub and_form : FormTrees → FormTree → FormTrees
and_form forms f = and_forms forms (also f none)

pub bare_after : (forms : FormTrees) (f : FormTree)
    → bare_trees (and_form forms f) ≡ then_one (bare_trees forms) (bare_tree f)
bare_after none f = refl
bare_after (also first forms) f = ap (and_trees (bare_tree first)) (bare_after forms f)

-- the last of some forms, and those before it
pub record HasLast (forms : FormTrees) (row : BareTrees) (one : BareTree) : Type 0 where
  pub before : FormTrees
  pub form : FormTree
  pub are : forms ≡ and_form before form
  pub before_are : bare_trees before ≡ row
  pub form_is : bare_tree form ≡ one

pub last_of : (forms : FormTrees) (row : BareTrees) (one : BareTree) → bare_trees forms ≡ then_one row one
    → HasLast forms row one
last_of none no_trees one h = cc
last_of none (and_trees first row) one h = cc
last_of (also f rest) no_trees one h =
    let tail : bare_trees rest ≡ no_trees = cc in
    record { before = none; form = f; are = ap (also f) (none_of rest tail); before_are = refl; form_is = cc }
last_of (also f rest) (and_trees first row) one h =
    let head : bare_tree f ≡ first = cc in
    let tail : bare_trees rest ≡ then_one row one = cc in
    let last = last_of rest row one tail in
    record {
      before = also f last.before;
      form = last.form;
      are = ap (also f) last.are;
      before_are =
          ap (λ (t : BareTree). and_trees t (bare_trees last.before)) head ∙ ap (and_trees first) last.before_are;
      form_is = last.form_is;
    }

-- ---- readings one after the other

pub same_next : {A B C : Type 0} (read : Result A Fault) (b : C) (first : A → Result C Fault)
    (second : A → Result B Fault) (target : Result B Fault)
    → (read >>= first) ≡ Ok b
    → ((a : A) → first a ≡ Ok b → second a ≡ target) → (read >>= second) ≡ target
same_next (Ok a) b first second target is goes_on = goes_on a is
same_next (Err fault) b first second target is goes_on = cc

abbrev pub ok : {A : Type 0} → A → Result A Fault
ok a = Ok a

pub same_ok : {A : Type 0} (a b : A) → ok a ≡ ok b → a ≡ b
same_ok a b e = cc

pub each_split : {A : Type 0} (step : A → FormTree → Result A Fault) (a b : A) (before after : FormTrees)
    → each step a before ≡ Ok b → each step a (and_forms before after) ≡ each step b after
unfolding each
each_split {A} step a b none after is = ap (λ (x : A). each step x after) (same_ok a b is)
each_split {A} step a b (also f before) after is =
    same_next (step a f) b (λ c. each step c before) (λ c. each step c (and_forms before after)) (each step b after) is
    (λ c more. each_split step c b before after more)

pub each_last : {A : Type 0} (step : A → FormTree → Result A Fault) (a b c : A) (before : FormTrees) (f : FormTree)
    → each step a before ≡ Ok b → step b f ≡ Ok c → each step a (and_form before f) ≡ Ok c
each_last step a b c before f are is =
    each_split step a b before (also f none) are ∙ each_more step b c f none is ∙ each_none step c

each_refuses : {A : Type 0} (step : A → FormTree → Result A Fault) (a : A) (f : FormTree) (forms : FormTrees)
    (fault : Fault)
    → Refuses (step a f) fault → Refuses (each step a (also f forms)) fault
unfolding each
each_refuses step a f forms fault refused = refuses_first (step a f) (λ b. each step b forms) fault refused

-- ---- what is read of a row, or its first fault

each_from : {A : Type 0} (step : A → FormTree → Result A Fault) (Are : BareTrees → A → Type 0)
    (Has : A → FormTree → Fault → Type 0)
    → ((row : BareTrees) (a : A) (f : FormTree) → Are row a
    → Both (λ b. Are (then_one row (bare_tree f)) b) (Has a f) (step a f))
    → (before : FormTrees) (a : A) → Are (bare_trees before) a → (forms : FormTrees)
    → Both (Are (bare_trees (and_forms before forms))) (IsFirstFault Are Has (and_forms before forms))
    (each step a forms)
unfolding each
each_from step Are Has more before a are none =
    subst (λ (fs : FormTrees). Are (bare_trees fs) a) (sym (none_after before)) are
each_from step Are Has more before a are (also f forms) =
    both_then (λ b. Are (then_one (bare_trees before) (bare_tree f)) b) (Has a f)
    (IsFirstFault Are Has (and_forms before (also f forms))) (Are (bare_trees (and_forms before (also f forms))))
    (step a f) (λ b. each step b forms) (more (bare_trees before) a f are)
    (λ fault has. record { before = before; form = f; after = forms; whole = refl; read = a; are = are; faulty = has })
    (λ b next. subst (λ (fs : FormTrees). Both (Are (bare_trees fs)) (IsFirstFault Are Has fs) (each step b forms))
    (forms_after before (also f none) forms)
    (each_from step Are Has more (and_form before f) b
    (subst (λ (row : BareTrees). Are row b) (sym (bare_after before f)) next) forms))

pub each_both : {A : Type 0} (step : A → FormTree → Result A Fault) (first : A) (Are : BareTrees → A → Type 0)
    (Has : A → FormTree → Fault → Type 0)
    → Are no_trees first
    → ((row : BareTrees) (a : A) (f : FormTree) → Are row a
    → Both (λ b. Are (then_one row (bare_tree f)) b) (Has a f) (step a f))
    → (forms : FormTrees) → Both (Are (bare_trees forms)) (IsFirstFault Are Has forms) (each step first forms)
each_both step first Are Has none_yet more forms = each_from step Are Has more none first none_yet forms

-- a row with a fault is refused for it
pub row_refuses : {A B : Type 0} (step : A → FormTree → Result A Fault) (first : A) (made : B → A)
    (Are : BareTrees → B → Type 0) (Has : B → FormTree → Fault → Type 0)
    → ((forms : FormTrees) (b : B) → Are (bare_trees forms) b → each step first forms ≡ Ok (made b))
    → ((b : B) (f : FormTree) (fault : Fault) → Has b f fault → Refuses (step (made b) f) fault)
    → (forms : FormTrees) (fault : Fault) → IsFirstFault Are Has forms fault → Refuses (each step first forms) fault
row_refuses step first made Are Has reads refused forms fault known =
    refuses_as (each step first forms) (each step (made known.read) (also known.form known.after)) fault
    (ap (each step first) known.whole
    ∙ each_split step first (made known.read) known.before (also known.form known.after)
    (reads known.before known.read known.are))
    (each_refuses step (made known.read) known.form known.after fault
    (refused known.read known.form fault known.faulty))

-- ---- forms that are each read by themselves

pub each_snoc : {A : Type 0} (Is : BareTree → A → Type 0) (row : BareTrees) (all : List A) (form : BareTree) (a : A)
    → AreEach Is row all → Is form a → AreEach Is (then_one row form) (all ++ a ∷ [])
each_snoc Is _ _ form a no_more is = one_more is no_more
each_snoc Is _ _ form a (one_more {forms = row} {all = all} first others) is =
    one_more first (each_snoc Is row all form a others is)

pub all_both : {A : Type 0} (Is : BareTree → A → Type 0) (Has : FormTree → Fault → Type 0)
    (read : FormTree → Result A Fault)
    → ((f : FormTree) → Both (Is (bare_tree f)) (Has f) (read f))
    → (forms : FormTrees)
    → Both (AreEach Is (bare_trees forms)) (IsFirstFault (AreEach Is) (λ all. Has) forms) (each (onto read) [] forms)
all_both Is Has read one forms =
    each_both (onto read) [] (AreEach Is) (λ all. Has) no_more
    (λ row all f are. both_then (Is (bare_tree f)) (Has f) (Has f) (AreEach Is (then_one row (bare_tree f))) (read f)
    (λ a. Ok (all ++ a ∷ [])) (one f) (λ fault has. has)
    (λ a is. each_snoc Is row all (bare_tree f) a are is)) forms

pub all_refuses : {A : Type 0} (Is : BareTree → A → Type 0) (Has : FormTree → Fault → Type 0)
    (read : FormTree → Result A Fault)
    → ((f : FormTree) (a : A) → Is (bare_tree f) a → read f ≡ Ok a)
    → ((f : FormTree) (fault : Fault) → Has f fault → Refuses (read f) fault) → (forms : FormTrees) (fault : Fault)
    → IsFirstFault (AreEach Is) (λ all. Has) forms fault → Refuses (each (onto read) [] forms) fault
all_refuses {A} Is Has read one refused forms fault known =
    row_refuses (onto read) [] (λ (all : List A). all) (AreEach Is) (λ all. Has) (all_read Is read one)
    (λ all f why has. refuses_first (read f) (λ a. Ok (all ++ a ∷ [])) why (refused f why has)) forms fault known
