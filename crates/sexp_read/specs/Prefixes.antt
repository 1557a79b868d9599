-- How the tokens of forms begin.
use Rattle.std.specs.Prelude.{◌≡◌, ◌-◌, List, [], ◌∷◌, ◌++◌, length, Option, Some, None}
use Rattle.sexp_read.specs.declared.fault.SexpWhy.TheVariants.{Close, Deep}
use Rattle.sexp_read.specs.Tree.{FormTrees}
use Rattle.sexp_read.specs.Tokens.{Token, Opened, Closed, Stood, Fault}
use Rattle.sexp_read.specs.Grammar.{spelling, deepest, bracket_fault, open_after}

-- with more tokens after them they are those of forms
pub record IsPrefixOfForms (tokens : List Token) : Type 0 where
  pub more : List Token
  pub forms : FormTrees
  pub whole : tokens ++ more ≡ spelling forms

-- a closing bracket after which no more tokens make forms of them, or an opening bracket where the most are open
abbrev pub IsFaulty : List Token → Token → Fault → Type 0
IsFaulty before (Closed bracket last) fault =
    (fault ≡ (last - 1, Close)) × (IsPrefixOfForms (before ++ Closed bracket last ∷ []) → ⊥)
IsFaulty before (Opened bracket place) fault = (fault ≡ (place, Deep)) × (length (open_after [] before) ≡ deepest)
IsFaulty before (Stood atom start last) fault = ⊥

-- the tokens before the faulty one are a prefix of forms
pub record Breaks (tokens : List Token) (fault : Fault) : Type 0 where
  pub before : List Token
  pub faulty : Token
  pub after : List Token
  pub whole : tokens ≡ before ++ faulty ∷ after
  pub front : IsPrefixOfForms before
  pub is : IsFaulty before faulty fault

abbrev pub IsFirstFault : List Token → Option Fault → Type 0
IsFirstFault tokens (Some fault) = Breaks tokens fault
IsFirstFault tokens None = IsPrefixOfForms tokens

-- the fault of the brackets is at the first token that cannot be there in forms, or that opens one bracket too many
abbrev pub FaultsAreFirst : Type 0
FaultsAreFirst = (tokens : List Token) → IsFirstFault tokens (bracket_fault [] tokens)

-- tokens without one are those of forms where they leave no bracket open
abbrev pub ClosedAreForms : Type 0
ClosedAreForms = (tokens : List Token) → bracket_fault [] tokens ≡ None → open_after [] tokens ≡ []
    → (forms : FormTrees) × (tokens ≡ spelling forms)

-- and forms leave none open
abbrev pub FormsAreClosed : Type 0
FormsAreClosed = (forms : FormTrees) → open_after [] (spelling forms) ≡ []

-- no two lists of forms have the same tokens
abbrev pub FormsAreOne : Type 0
FormsAreOne = (fs gs : FormTrees) → spelling fs ≡ spelling gs → fs ≡ gs
