use Rattle.std.proofs.Common.{◌∙◌, ap, sym, Some}
use Rattle.std.proofs.lemmas.Result.{IfOk-weaker}
use Rattle.sexp_read.specs.declared.fault.SexpWhy.TheVariants.{Utf8}
use Rattle.sexp_read.proofs.Answering.{same_fault}
use Rattle.sexp_read.proofs.Whole.{are_forms, read_as, fault_of_forms, fault_of_length, fault_of_utf8}
use Rattle.sexp_read.proofs.read.read_forms.Goals as goal

pub returns-then-text-gt-LONGEST-clause-refused : goal.returns-then-text-gt-LONGEST-clause-refused
returns-then-text-gt-LONGEST-clause-refused c = fault_of_length c.args.text.now c.if-text-gt-LONGEST.true

pub returns-in-Err-clause-refused : goal.returns-in-Err-clause-refused
returns-in-Err-clause-refused c = fault_of_utf8 c.args.text.now c.if-text-gt-LONGEST.false c.in-Err.ensures.cases.0
    ∙ ap (λ place. Some (place, Utf8)) (sym (c.valid_up_to.ensures ∙ c.in-Err.ensures.valid_len))

pub returns-clause-forms : goal.returns-clause-forms
returns-clause-forms c = IfOk-weaker c.read_pieces.result _ _
    (λ forms known. are_forms c.args.text.now _ c.if-text-gt-LONGEST.false c.in_default.ensures.cases.1 known.0 known.1)
    c.read_pieces.ensures.forms

pub returns-clause-only : goal.returns-clause-only
returns-clause-only c trees h = read_as c.args.text.now trees c.read_pieces.result h
    (IfOk-weaker c.read_pieces.result _ _ (λ forms known. known.0) c.read_pieces.ensures.forms)
    c.read_pieces.ensures.refused

pub returns-clause-faultless : goal.returns-clause-faultless
returns-clause-faultless c = IfOk-weaker c.read_pieces.result _ _
    (λ forms known. fault_of_forms c.args.text.now c.if-text-gt-LONGEST.false c.in_default.ensures.cases.1 ∙ known.1)
    c.read_pieces.ensures.forms

pub returns-clause-refused : goal.returns-clause-refused
returns-clause-refused c = same_fault c.read_pieces.result _ _
    (fault_of_forms c.args.text.now c.if-text-gt-LONGEST.false c.in_default.ensures.cases.1)
    c.read_pieces.ensures.refused
