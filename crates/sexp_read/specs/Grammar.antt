-- The texts that are forms, and for what the others are refused.
use Rattle.std.specs.Prelude.{◌≡◌, ℕ, ◌+◌, ◌-◌, ◌≤◌, nat_le, nat_lt, max, if◌then◌else◌, Bool, true, false, List, []}
use Rattle.std.specs.Prelude.{◌∷◌, ◌++◌, length, Option, Some, None, Result, Ok, Err}
use Rattle.std.specs.Str.{IsUtf8, is_utf8}
use Rattle.std.specs.Str.Lossy.{utf8_valid_len}
use Rattle.sexp_read.specs.declared.fault.SexpFault.{SexpFault}
use Rattle.sexp_read.specs.declared.fault.SexpFault.TheVariants.{Memory}
use Rattle.sexp_read.specs.declared.fault.SexpWhy.TheVariants.{Long, Utf8, Open, Close, Deep}
use Rattle.std.specs.declared.alloc.Global.{Global}
use Rattle.std.specs.declared.vec.Vec.{Vec}
use Rattle.sexp_read.specs.declared.form.Form.{Form}
use Rattle.sexp_read.specs.declared.read.TheConstants.{LONGEST, DEEPEST}
use Rattle.sexp_read.specs.Tree.{form_trees, Bracket, Round, Square, Curly, FormTree, FormTrees, Single, Group, none}
use Rattle.sexp_read.specs.Tree.{also}
use Rattle.sexp_read.specs.Tokens.{Token, Opened, Closed, Stood, Fault, Lexed, lexed}

-- the tokens of forms
abbrev mutual
  pub form_spelling : FormTree → List Token
  form_spelling (Single atom start last) = Stood atom start last ∷ []
  form_spelling (Group bracket forms start last) = Opened bracket start ∷ (spelling forms ++ Closed bracket last ∷ [])

  pub spelling : FormTrees → List Token
  spelling none = []
  spelling (also form forms) = form_spelling form ++ spelling forms

-- how many brackets are open at once at most
abbrev mutual
  pub form_depth : FormTree → ℕ
  form_depth (Single atom start last) = 0
  form_depth (Group bracket forms start last) = 1 + depth forms

  pub depth : FormTrees → ℕ
  depth none = 0
  depth (also form forms) = max (form_depth form) (depth forms)

abbrev pub longest : ℕ
longest = LONGEST

abbrev pub deepest : ℕ
deepest = DEEPEST

-- the tokens are those of the forms, and there is no faulty one after them
pub record AreRead (text : Lexed) (forms : FormTrees) : Type 0 where
  pub spelled : text.tokens ≡ spelling forms
  pub faultless : text.fault ≡ None

-- the text is these forms
pub record IsForms (text : List ℕ) (forms : FormTrees) : Type 0 where
  pub short : length text ≤ longest
  pub utf8 : IsUtf8 text
  pub read : AreRead (lexed text) forms
  pub shallow : depth forms ≤ deepest

-- these very forms are read, or the call is out of memory
abbrev pub IsReadAs : FormTrees → Result (Vec Form Global) SexpFault → Type 0
IsReadAs trees (Ok forms) = form_trees forms.items ≡ trees
IsReadAs trees (Err fault) = fault ≡ Memory

abbrev pub same_bracket : Bracket → Bracket → Bool
same_bracket Round Round = true
same_bracket Square Square = true
same_bracket Curly Curly = true
same_bracket _ _ = false

-- brackets that are open, the innermost first, each with its place
abbrev pub Brackets : Type 0
Brackets = List (Bracket × ℕ)

-- those that are open after the tokens, where each closing bracket of these closes one
abbrev pub open_after : Brackets → List Token → Brackets
open_after stack [] = stack
open_after stack (Opened bracket place ∷ tokens) = open_after ((bracket, place) ∷ stack) tokens
open_after [] (Closed bracket last ∷ tokens) = []
open_after (innermost ∷ stack) (Closed bracket last ∷ tokens) = open_after stack tokens
open_after stack (Stood atom start last ∷ tokens) = open_after stack tokens

-- the first closing bracket where no bracket is open or the innermost open one is of another kind, or the first
-- opening one with which more than `deepest` are open
abbrev pub bracket_fault : Brackets → List Token → Option Fault
bracket_fault stack [] = None
bracket_fault stack (Opened bracket place ∷ tokens) =
    if nat_le deepest (length stack) then Some (place, Deep) else bracket_fault ((bracket, place) ∷ stack) tokens
bracket_fault [] (Closed bracket last ∷ tokens) = Some (last - 1, Close)
bracket_fault (innermost ∷ stack) (Closed bracket last ∷ tokens) =
    if same_bracket innermost.0 bracket then bracket_fault stack tokens else Some (last - 1, Close)
bracket_fault stack (Stood atom start last ∷ tokens) = bracket_fault stack tokens

-- the innermost bracket that is open at the end
abbrev pub unclosed : Brackets → Option Fault
unclosed [] = None
unclosed (innermost ∷ stack) = Some (innermost.1, Open)

abbrev pub or_else : Option Fault → Option Fault → Option Fault
or_else (Some fault) other = Some fault
or_else None other = other

-- a bracket's fault comes before the faulty token after it, and a bracket that stays open last
unfoldable pub fault_after : Brackets → Lexed → Option Fault
fault_after stack rest =
    or_else (bracket_fault stack rest.tokens) (or_else rest.fault (unclosed (open_after stack rest.tokens)))

unfoldable pub forms_fault : List ℕ → Option Fault
forms_fault text = fault_after [] (lexed text)

-- for what a text is refused: it is too long, or not UTF-8 after its longest prefix that is, or its forms have a fault
unfoldable pub text_fault : List ℕ → Option Fault
text_fault text =
    if nat_lt longest (length text) then Some (longest, Long)
    else (if is_utf8 text then forms_fault text else Some (utf8_valid_len text, Utf8))
