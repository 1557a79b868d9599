-- What is read, or for what it is refused, where a symbol is an argument that does not fit as any other.
use Rattle.std.proofs.Common.{◌≡◌, ◌↔◌, Bool, true, false, cond, [], Option, Some, None, Result, Ok, Err, refl, ap, sym}
use Rattle.std.proofs.Common.{subst}
use Rattle.sexp_read.specs.declared.piece.Atom.TheVariants as atom
use Rattle.sexp_read.specs.declared.piece.Bracket.TheVariants.{Round, Square, Curly}
use Rattle.sexp_read.specs.Tree.{FormTree, Single, Group}
use Rattle.sexp_read.specs.Written.{BareTree, bare_tree}
use Rattle.config_terms.specs.declared.fault.ConfigWhy.{ConfigWhy}
use Rattle.config_terms.specs.Steps.{Fault, ◌>>=◌, start_of}
use Rattle.config_terms.specs.Arguments.{Argument, argument_of, misfit, fitting, taken, text_in, number_in, value_in}
use Rattle.config_terms.specs.Arguments.{text_at, number_at, value_at}
use Rattle.config_terms.specs.Grammar.{IsValue}
use Rattle.config_terms.proofs.TermLaws.{texts_are_read, numbers_are_read, values_are_read}
use Rattle.config_tests.specs.Faults.{misfit_why, IsMisfit, a_misfit, IsNumber}
use Rattle.config_tests.specs.Grammar.{IsText}
use Rattle.config_tests.specs.Tests.{without_names, read_without_names}

-- ---- readings

abbrev pub plain : Fault → Fault
plain fault = (fault.0, without_names fault.1)

-- the reading is refused for this fault
abbrev pub Refuses : {A : Type 0} → Result A Fault → Fault → Type 0
Refuses read fault = read_without_names read ≡ Err fault

-- what holds of what is read, or of the fault for which it is refused
abbrev pub Both : {A : Type 0} → (A → Type 0) → (Fault → Type 0) → Result A Fault → Type 0
Both P E (Ok a) = P a
Both P E (Err fault) = E (plain fault)

pub both_then : {A B : Type 0} (P : A → Type 0) (E F : Fault → Type 0) (Q : B → Type 0) (read : Result A Fault)
    (next : A → Result B Fault)
    → Both P E read
    → ((fault : Fault) → E fault → F fault) → ((a : A) → P a → Both Q F (next a)) → Both Q F (read >>= next)
both_then P E F Q (Ok a) next both refused goes_on = goes_on a both
both_then P E F Q (Err fault) next both refused goes_on = refused (plain fault) both

pub both_if : {A : Type 0} (P : A → Type 0) (E : Fault → Type 0) (test : Bool) (x y : Result A Fault)
    → (test ≡ true → Both P E x) → (test ≡ false → Both P E y) → Both P E (cond test x y)
both_if P E true x y first second = first refl
both_if P E false x y first second = second refl

pub both_weaker : {A : Type 0} (P Q : A → Type 0) (E F : Fault → Type 0) (read : Result A Fault) → Both P E read
    → ((a : A) → P a → Q a) → ((fault : Fault) → E fault → F fault) → Both Q F read
both_weaker P Q E F (Ok a) both turned refused = turned a both
both_weaker P Q E F (Err fault) both turned refused = refused (plain fault) both

pub both_ok : {A : Type 0} (P : A → Type 0) (E : Fault → Type 0) (read : Result A Fault) (a : A) → read ≡ Ok a
    → Both P E read → P a
both_ok {A} P E read a is both = subst (λ (r : Result A Fault). Both P E r) is both

pub both_err : {A : Type 0} (P : A → Type 0) (E : Fault → Type 0) (read : Result A Fault) (fault : Fault)
    → Refuses read fault → Both P E read → E fault
both_err P E (Ok a) fault refused both = cc
both_err P E (Err raw) fault refused both = let same : plain raw ≡ fault = cc in subst E same both

pub refuses_first : {A B : Type 0} (read : Result A Fault) (next : A → Result B Fault) (fault : Fault)
    → Refuses read fault → Refuses (read >>= next) fault
refuses_first (Ok a) next fault refused = cc
refuses_first (Err raw) next fault refused = let same : plain raw ≡ fault = cc in ap (λ (f : Fault). Err f) same

pub refuses_next : {A B : Type 0} (read : Result A Fault) (a : A) (next : A → Result B Fault) (fault : Fault)
    → read ≡ Ok a → Refuses (next a) fault → Refuses (read >>= next) fault
refuses_next read a next fault is refused = rw is refused

-- one reading is refused as another that is the same
pub refuses_as : {A : Type 0} (read other : Result A Fault) (fault : Fault) → read ≡ other → Refuses other fault
    → Refuses read fault
refuses_as read other fault same refused = rw same refused

pub ok_err : {A : Type 0} (read : Result A Fault) (a : A) (fault : Fault) → read ≡ Ok a → read ≡ Err fault → ⊥
ok_err read a fault is fails = cc

-- ---- arguments that do not fit

misfit_plain : (f : FormTree) → without_names (misfit (argument_of [] f)) ≡ misfit_why f
unfolding argument_of
misfit_plain (Single (atom.Text text) start last) = refl
misfit_plain (Single (atom.Pattern text) start last) = refl
misfit_plain (Single (atom.Number number) start last) = refl
misfit_plain (Single (atom.Keyword name) start last) = refl
misfit_plain (Single (atom.Symbol name) start last) = refl
misfit_plain (Group Round forms start last) = refl
misfit_plain (Group Square forms start last) = refl
misfit_plain (Group Curly forms start last) = refl

-- a test of arguments finds exactly what forms represent
abbrev pub Finds : {A : Type 0} → (BareTree → A → Type 0) → (Argument → Option A) → Type 0
Finds {A} Is test = (f : FormTree) (a : A) → Is (bare_tree f) a ↔ (taken test [] f ≡ Ok a)

pub taken_both : {A : Type 0} (Is : BareTree → A → Type 0) (test : Argument → Option A) → Finds Is test → (f : FormTree)
    → Both (Is (bare_tree f)) (IsMisfit Is f) (taken test [] f)
taken_both {A} Is test finds f = by (test (argument_of [] f)) refl
  where
    by : (found : Option A) → test (argument_of [] f) ≡ found
        → Both (Is (bare_tree f)) (IsMisfit Is f) (fitting (start_of f) (argument_of [] f) found)
    by (Some a) is = (finds f a).1 (ap (fitting (start_of f) (argument_of [] f)) is)
    by None is =
        subst (λ (w : ConfigWhy). IsMisfit Is f (start_of f, w)) (sym (misfit_plain f))
        (a_misfit (λ a has. ok_err (taken test [] f) a (start_of f, misfit (argument_of [] f)) ((finds f a).0 has)
        (ap (fitting (start_of f) (argument_of [] f)) is)))

pub taken_refuses : {A : Type 0} (Is : BareTree → A → Type 0) (test : Argument → Option A) → Finds Is test
    → (f : FormTree) (fault : Fault) → IsMisfit Is f fault → Refuses (taken test [] f) fault
taken_refuses {A} Is test finds _ _ (a_misfit {f = f} none) = by (test (argument_of [] f)) refl
  where
    by : (found : Option A) → test (argument_of [] f) ≡ found
        → Refuses (fitting (start_of f) (argument_of [] f) found) (start_of f, misfit_why f)
    by (Some a) is = absurd (none a ((finds f a).1 (ap (fitting (start_of f) (argument_of [] f)) is)))
    by None is = ap (λ (w : ConfigWhy). Err (start_of f, w)) (misfit_plain f)

pub text_both : (f : FormTree) → Both (IsText (bare_tree f)) (IsMisfit IsText f) (text_at [] f)
unfolding text_at
text_both f = taken_both IsText text_in (λ g text. texts_are_read [] g text) f

pub text_refuses : (f : FormTree) (fault : Fault) → IsMisfit IsText f fault → Refuses (text_at [] f) fault
unfolding text_at
text_refuses f fault misfit = taken_refuses IsText text_in (λ g text. texts_are_read [] g text) f fault misfit

pub number_both : (f : FormTree) → Both (IsNumber (bare_tree f)) (IsMisfit IsNumber f) (number_at [] f)
unfolding number_at
number_both f = taken_both IsNumber number_in (λ g number. numbers_are_read [] g number) f

pub number_refuses : (f : FormTree) (fault : Fault) → IsMisfit IsNumber f fault → Refuses (number_at [] f) fault
unfolding number_at
number_refuses f fault misfit =
    taken_refuses IsNumber number_in (λ g number. numbers_are_read [] g number) f fault misfit

pub value_both : (f : FormTree) → Both (IsValue [] (bare_tree f)) (IsMisfit (IsValue []) f) (value_at [] f)
unfolding value_at
value_both f = taken_both (IsValue []) value_in (λ g held. values_are_read [] g held) f

pub value_refuses : (f : FormTree) (fault : Fault) → IsMisfit (IsValue []) f fault → Refuses (value_at [] f) fault
unfolding value_at
value_refuses f fault misfit = taken_refuses (IsValue []) value_in (λ g held. values_are_read [] g held) f fault misfit
