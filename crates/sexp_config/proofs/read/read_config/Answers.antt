use Rattle.std.proofs.Common.{subst, List}
use Rattle.std.proofs.lemmas.Result.{IfOk-weaker}
use Rattle.sexp_read.specs.declared.form.Form.{Form}
use Rattle.sexp_read.specs.Tree.{form_trees}
use Rattle.config_terms.specs.Steps.{Gives}
use Rattle.sexp_config.specs.Config.{config_of}
use Rattle.sexp_config.proofs.PatternsFew.{patterns_few}
use Rattle.sexp_config.proofs.ReadLaws.{config_read, refused_read, only_config, only_fault, refused_forms, no_config}
use Rattle.sexp_config.proofs.ReadLaws.{same_refusal}
use Rattle.sexp_config.proofs.read.read_config.Goals as goal

pub returns-in-Ok-clause-config : goal.returns-in-Ok-clause-config
returns-in-Ok-clause-config c =
    config_read c.args.text.now (form_trees c.in-Ok.forms.items) c.in-Ok.ensures.forms c.config_of.result
    (subst (λ (forms : List Form). Gives c.config_of.result (config_of (form_trees forms))) c.as_slice.ensures.value
    c.config_of.ensures.gives)

pub returns-in-Ok-clause-refused : goal.returns-in-Ok-clause-refused
returns-in-Ok-clause-refused c =
    refused_read c.args.text.now (form_trees c.in-Ok.forms.items) c.in-Ok.ensures.forms c.config_of.result
    (subst (λ (forms : List Form). Gives c.config_of.result (config_of (form_trees forms))) c.as_slice.ensures.value
    c.config_of.ensures.gives)

pub returns-in-Ok-clause-only : goal.returns-in-Ok-clause-only
returns-in-Ok-clause-only c =
    only_config c.args.text.now (form_trees c.in-Ok.forms.items) c.config_of.result c.in-Ok.ensures.only
    (subst (λ (forms : List Form). Gives c.config_of.result (config_of (form_trees forms))) c.as_slice.ensures.value
    c.config_of.ensures.gives)

pub returns-in-Ok-clause-only_refused : goal.returns-in-Ok-clause-only_refused
returns-in-Ok-clause-only_refused c =
    only_fault c.args.text.now (form_trees c.in-Ok.forms.items) c.config_of.result c.in-Ok.ensures.only
    c.in-Ok.ensures.faultless
    (subst (λ (forms : List Form). Gives c.config_of.result (config_of (form_trees forms))) c.as_slice.ensures.value
    c.config_of.ensures.gives)

pub returns-in-Err-clause-refused : goal.returns-in-Err-clause-refused
returns-in-Err-clause-refused c =
    refused_forms c.args.text.now c.in-Err.fault c.forms_fault.result c.in-Err.ensures.refused c.forms_fault.ensures

pub returns-in-Err-clause-only : goal.returns-in-Err-clause-only
returns-in-Err-clause-only c =
    no_config c.args.text.now c.in-Err.fault c.forms_fault.result c.in-Err.ensures.only c.forms_fault.ensures

pub returns-in-Err-clause-only_refused : goal.returns-in-Err-clause-only_refused
returns-in-Err-clause-only_refused c =
    same_refusal c.args.text.now c.in-Err.fault c.forms_fault.result c.in-Err.ensures.only c.in-Err.ensures.refused
    c.forms_fault.ensures

pub returns-in-Ok-clause-few : goal.returns-in-Ok-clause-few
returns-in-Ok-clause-few c =
    IfOk-weaker c.config_of.result _ _ (patterns_few c.args.text.now) (returns-in-Ok-clause-config c)
