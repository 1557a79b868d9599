use Rattle.std.proofs.Common.{subst, List}
use Rattle.std.proofs.lemmas.Result.{IfOk-weaker}
use Rattle.sexp_read.specs.declared.form.Form.{Form}
use Rattle.sexp_read.specs.Tree.{form_trees}
use Rattle.config_tests.specs.Tests.{TestsGive, tests_of}
use Rattle.config_tests.proofs.ReadLaws.{read_short, tests_read, refused_read, only_tests, only_fault, refused_forms}
use Rattle.config_tests.proofs.ReadLaws.{no_tests, same_refusal}
use Rattle.config_tests.proofs.read.read_tests.Goals as goal

pub returns-in-Ok-clause-tests : goal.returns-in-Ok-clause-tests
returns-in-Ok-clause-tests c =
    tests_read c.args.text.now (form_trees c.in-Ok.forms.items) c.in-Ok.ensures.forms c.tests_of.result
    (subst (λ (forms : List Form). TestsGive c.tests_of.result (tests_of (form_trees forms))) c.as_slice.ensures.value
    c.tests_of.ensures)

pub returns-in-Ok-clause-refused : goal.returns-in-Ok-clause-refused
returns-in-Ok-clause-refused c =
    refused_read c.args.text.now (form_trees c.in-Ok.forms.items) c.in-Ok.ensures.forms c.tests_of.result
    (subst (λ (forms : List Form). TestsGive c.tests_of.result (tests_of (form_trees forms))) c.as_slice.ensures.value
    c.tests_of.ensures)

pub returns-in-Ok-clause-only : goal.returns-in-Ok-clause-only
returns-in-Ok-clause-only c =
    only_tests c.args.text.now (form_trees c.in-Ok.forms.items) c.tests_of.result c.in-Ok.ensures.only
    (subst (λ (forms : List Form). TestsGive c.tests_of.result (tests_of (form_trees forms))) c.as_slice.ensures.value
    c.tests_of.ensures)

pub returns-in-Ok-clause-only_refused : goal.returns-in-Ok-clause-only_refused
returns-in-Ok-clause-only_refused c =
    only_fault c.args.text.now (form_trees c.in-Ok.forms.items) c.tests_of.result c.in-Ok.ensures.only
    c.in-Ok.ensures.faultless
    (subst (λ (forms : List Form). TestsGive c.tests_of.result (tests_of (form_trees forms))) c.as_slice.ensures.value
    c.tests_of.ensures)

pub returns-in-Err-clause-refused : goal.returns-in-Err-clause-refused
returns-in-Err-clause-refused c =
    refused_forms c.args.text.now c.in-Err.fault c.forms_fault.result c.in-Err.ensures.refused c.forms_fault.ensures

pub returns-in-Err-clause-only : goal.returns-in-Err-clause-only
returns-in-Err-clause-only c =
    no_tests c.args.text.now c.in-Err.fault c.forms_fault.result c.in-Err.ensures.only c.forms_fault.ensures

pub returns-in-Err-clause-only_refused : goal.returns-in-Err-clause-only_refused
returns-in-Err-clause-only_refused c =
    same_refusal c.args.text.now c.in-Err.fault c.forms_fault.result c.in-Err.ensures.only c.in-Err.ensures.refused
    c.forms_fault.ensures

pub returns-in-Ok-clause-short : goal.returns-in-Ok-clause-short
returns-in-Ok-clause-short c =
    IfOk-weaker c.tests_of.result _ _ (read_short c.args.text.now) (returns-in-Ok-clause-tests c)
