-- A text that is forms, and no other.
use Rattle.std.proofs.Common.{◌≡◌, ℕ, ◌≤◌, ◌<◌, List, [], length, Option, Some, None, Result, Ok, Err, Vec, Global}
use Rattle.std.proofs.Common.{IfOk, IfErr, refl, ap, sym, ◌∙◌}
use Rattle.std.proofs.lemmas.Bool.{le-ltb, lt-ltb, false_from_ne_true}
use Rattle.std.proofs.lemmas.Str.{is_utf8-from_IsUtf8, IsUtf8-from_is_utf8}
use Rattle.std.specs.Str.{IsUtf8, is_utf8}
use Rattle.std.specs.Str.Lossy.{utf8_valid_len}
use Rattle.sexp_read.specs.declared.form.Form.{Form}
use Rattle.sexp_read.specs.declared.fault.SexpFault.{SexpFault}
use Rattle.sexp_read.specs.declared.fault.SexpFault.TheVariants.{Refused, Memory}
use Rattle.sexp_read.specs.declared.fault.SexpWhy.TheVariants.{Long, Utf8}
use Rattle.sexp_read.specs.Tree.{FormTrees, form_trees}
use Rattle.sexp_read.specs.Tokens.{Fault, lexed}
use Rattle.sexp_read.specs.Grammar.{AreRead, IsForms, IsReadAs, longest, bracket_fault, fault_after, forms_fault}
use Rattle.sexp_read.specs.Grammar.{text_fault, or_else, unclosed, open_after}
use Rattle.sexp_read.specs.Gives.{IsFault}
use Rattle.sexp_read.proofs.Spellings.{no_bracket_fault, shallow_forms, none_open, one_reading}

first_none : (a b : Option Fault) → or_else a b ≡ None → a ≡ None
first_none (Some fault) b h = cc
first_none None b h = refl

pub are_forms : (text : List ℕ) (forms : FormTrees) → length text ≤ longest → IsUtf8 text → AreRead (lexed text) forms
    → forms_fault text ≡ None → IsForms text forms
unfolding forms_fault fault_after
are_forms text forms short utf8 read e = record {
  short = short;
  utf8 = utf8;
  read = read;
  shallow = shallow_forms forms (ap (bracket_fault []) (sym read.spelled) ∙ first_none _ _ e);
}

forms_no_fault : (text : List ℕ) (forms : FormTrees) → IsForms text forms → forms_fault text ≡ None
unfolding forms_fault fault_after
forms_no_fault text forms h =
    ap (λ fault. or_else fault (or_else (lexed text).fault (unclosed (open_after [] (lexed text).tokens))))
    (ap (bracket_fault []) h.read.spelled ∙ no_bracket_fault forms h.shallow)
    ∙ ap (λ fault. or_else fault (unclosed (open_after [] (lexed text).tokens))) h.read.faultless
    ∙ ap unclosed (ap (open_after []) h.read.spelled ∙ none_open forms)

pub read_as : (text : List ℕ) (trees : FormTrees) (result : Result (Vec Form Global) SexpFault) → IsForms text trees
    → IfOk result (λ forms. AreRead (lexed text) (form_trees forms.items))
    → IfErr result (λ fault. IsFault fault (forms_fault text)) → IsReadAs trees result
read_as text trees (Ok forms) h ok err = one_reading (form_trees forms.items) trees (sym ok.spelled ∙ h.read.spelled)
read_as text trees (Err Memory) h ok err = refl
read_as text trees (Err (Refused place why)) h ok err = let none = forms_no_fault text trees h in cc

pub fault_of_forms : (text : List ℕ) → length text ≤ longest → IsUtf8 text → text_fault text ≡ forms_fault text
unfolding text_fault
fault_of_forms text short utf8 = rw (le-ltb longest (length text) short, is_utf8-from_IsUtf8 text utf8) refl

pub fault_of_length : (text : List ℕ) → longest < length text → text_fault text ≡ Some (longest, Long)
unfolding text_fault
fault_of_length text long = rw (lt-ltb longest (length text) long) refl

pub fault_of_utf8 : (text : List ℕ) → length text ≤ longest → (IsUtf8 text → ⊥)
    → text_fault text ≡ Some (utf8_valid_len text, Utf8)
unfolding text_fault
fault_of_utf8 text short never =
    rw (le-ltb longest (length text) short, false_from_ne_true (is_utf8 text) (λ e. never (IsUtf8-from_is_utf8 text e)))
    refl
