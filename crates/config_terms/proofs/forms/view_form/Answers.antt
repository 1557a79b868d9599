use Rattle.std.proofs.Common.{◌∙◌}
use Rattle.config_terms.proofs.FormLaws.{list_tree, look_of_list}
use Rattle.config_terms.proofs.forms.view_form.Goals as goal

pub returns-in-List : goal.returns-in-List
returns-in-List c =
    rw (list_tree c.args.form.now c.in-List.forms c.in-List.is)
    (c.view_list.ensures
    ∙ look_of_list c.deref.result.now c.in-List.forms.items c.args.form.now.start c.args.form.now.end
    c.deref.ensures.value)
