-- What holds of what is read, where it is not refused.
use Rattle.std.proofs.Common.{◌≡◌, ℕ, Bool, true, false, cond, Option, Some, None, Result, Ok, Err, refl, subst}
use Rattle.config_terms.specs.Steps.{Fault, ◌>>=◌}
use Rattle.config_terms.specs.Arguments.{Argument, fitting}

abbrev pub OkGood : {A : Type 0} → (A → Type 0) → Result A Fault → Type 0
OkGood P (Ok a) = P a
OkGood P (Err fault) = Unit {0}

abbrev pub SomeGood : {A : Type 0} → (A → Type 0) → Option A → Type 0
SomeGood P (Some a) = P a
SomeGood P None = Unit {0}

abbrev pub Any_ : {A : Type 0} → A → Type 0
Any_ a = Unit {0}

pub bind_good : {A B : Type 0} (P : A → Type 0) (Q : B → Type 0) (read : Result A Fault) (next : A → Result B Fault)
    → OkGood P read → ((a : A) → P a → OkGood Q (next a)) → OkGood Q (read >>= next)
bind_good P Q (Ok a) next good then_good = then_good a good
bind_good P Q (Err fault) next good then_good = tt

pub any_good : {A : Type 0} (read : Result A Fault) → OkGood {A = A} Any_ read
any_good (Ok a) = tt
any_good (Err fault) = tt

pub weaker : {A : Type 0} (P Q : A → Type 0) (read : Result A Fault) → ((a : A) → P a → Q a) → OkGood P read
    → OkGood Q read
weaker P Q (Ok a) turned good = turned a good
weaker P Q (Err fault) turned good = tt

pub ok_if : {A : Type 0} (P : A → Type 0) (test : Bool) (x y : Result A Fault) → (test ≡ true → OkGood P x)
    → (test ≡ false → OkGood P y) → OkGood P (cond test x y)
ok_if P true x y first second = first refl
ok_if P false x y first second = second refl

pub some_if : {A : Type 0} (P : A → Type 0) (test : Bool) (x y : Option A) → (test ≡ true → SomeGood P x)
    → (test ≡ false → SomeGood P y) → SomeGood P (cond test x y)
some_if P true x y first second = first refl
some_if P false x y first second = second refl

pub some_as : {A : Type 0} (P Q : A → Type 0) (x : Option A) → ((a : A) → P a → Q a) → SomeGood P x → SomeGood Q x
some_as P Q (Some a) turned good = turned a good
some_as P Q None turned good = tt

pub some_from : {A : Type 0} (P : A → Type 0) (x : Option A) → ((a : A) → x ≡ Some a → P a) → SomeGood P x
some_from P (Some a) h = h a refl
some_from P None h = tt

pub ok_from : {A : Type 0} (P : A → Type 0) (x : Result A Fault) → ((a : A) → x ≡ Ok a → P a) → OkGood P x
ok_from P (Ok a) h = h a refl
ok_from P (Err fault) h = tt

pub fitting_good : {A : Type 0} (P : A → Type 0) (place : ℕ) (given : Argument) (found : Option A) → SomeGood P found
    → OkGood P (fitting place given found)
fitting_good P place given (Some a) good = good
fitting_good P place given None good = tt

-- what holds of what was found
pub some_found : {A : Type 0} (P : A → Type 0) (x : Option A) (a : A) → x ≡ Some a → SomeGood P x → P a
some_found {A} P x a is good = subst (λ (found : Option A). SomeGood P found) is good

-- what holds of what was read
pub ok_read : {A : Type 0} (P : A → Type 0) (x : Result A Fault) (a : A) → x ≡ Ok a → OkGood P x → P a
ok_read {A} P x a is good = subst (λ (read : Result A Fault). OkGood P read) is good
