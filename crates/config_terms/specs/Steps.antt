-- Readings that may be refused, one after the other.
use Rattle.std.specs.Prelude.{◌≡◌, ℕ, zero, suc, List, [], ◌∷◌, ◌++◌, Result, Ok, Err, Option, Some, None}
use Rattle.config_terms.specs.declared.fault.ConfigFault.{ConfigFault}
use Rattle.config_terms.specs.declared.fault.ConfigFault.TheVariants.{Refused, Memory}
use Rattle.config_terms.specs.declared.fault.ConfigWhy.{ConfigWhy}
use Rattle.config_terms.specs.declared.fault.ConfigWhy.TheVariants.{Arguments}
use Rattle.sexp_read.specs.declared.piece.Atom.TheVariants as atom
use Rattle.sexp_read.specs.Tree.{FormTree, FormTrees, Single, Group, none, also}

-- a place and the cause for which a text is refused there
abbrev pub Fault : Type 0
Fault = ℕ × ConfigWhy

-- the first refusal counts
infixl 10 ◌>>=◌
abbrev pub ◌>>=◌ : {A B : Type 0} → Result A Fault → (A → Result B Fault) → Result B Fault
Ok a >>= next = next a
Err fault >>= next = Err fault

-- ---- what a call answers, beside what is read

-- the call failed for this fault, or is out of memory
abbrev pub Fails : {A : Type 0} → ConfigFault → Result A Fault → Type 0
Fails Memory read = Unit {0}
Fails (Refused place why) read = read ≡ Err (place, why)

-- the call answers what is read, or the call is out of memory
abbrev pub Gives : {A : Type 0} → Result A ConfigFault → Result A Fault → Type 0
Gives (Ok a) read = read ≡ Ok a
Gives (Err fault) read = Fails fault read

-- the same of what a value of the code represents
abbrev pub GivesAs : {A B : Type 0} → (A → B) → Result A ConfigFault → Result B Fault → Type 0
GivesAs plain (Ok a) read = read ≡ Ok (plain a)
GivesAs plain (Err fault) read = Fails fault read

-- ---- the arguments of a form

abbrev pub start_of : FormTree → ℕ
start_of (Single atom start last) = start
start_of (Group bracket forms start last) = start

-- the name of the symbol that a form is
abbrev pub name_in : FormTree → Option (List ℕ)
name_in (Single (atom.Symbol name) start last) = Some name
name_in _ = None

-- the form of a number, from 0
abbrev pub nth : ℕ → FormTrees → Option FormTree
nth n none = None
nth zero (also form forms) = Some form
nth (suc n) (also form forms) = nth n forms

-- two forms, where there are exactly two
abbrev pub pair_in : FormTrees → Option (FormTree × FormTree)
pair_in (also one (also two none)) = Some (one, two)
pair_in forms = None

-- a form that has to be there: where it is not, the form that lacks it is refused at its start
abbrev pub present : {A : Type 0} → ℕ → Option A → Result A Fault
present start None = Err (start, Arguments)
present start (Some form) = Ok form

unfoldable pub argument : ℕ → ℕ → FormTrees → Result FormTree Fault
argument start n forms = present start (nth n forms)

-- a form that may not be there is refused at itself
abbrev pub absent : Option FormTree → Result (Unit {0}) Fault
absent None = Ok tt
absent (Some form) = Err (start_of form, Arguments)

-- no more arguments than these
unfoldable pub at_most : ℕ → FormTrees → Result (Unit {0}) Fault
at_most n forms = absent (nth n forms)

-- forms are read from left to right, each onto what the ones before it gave
unfoldable pub each : {A : Type 0} → (A → FormTree → Result A Fault) → A → FormTrees → Result A Fault
each step a none = Ok a
each step a (also form forms) = step a form >>= λ b. each step b forms

-- what the form is read as comes after what was read before it
abbrev pub onto : {A : Type 0} → (FormTree → Result A Fault) → List A → FormTree → Result (List A) Fault
onto read all form = read form >>= λ a. Ok (all ++ a ∷ [])
