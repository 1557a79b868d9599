use Rattle.sexp_read.specs.Tree.{form_trees}
use Rattle.sexp_config.specs.Drafts.{draft_in}
use Rattle.sexp_config.proofs.PlansBuilt.{read_is_built}
use Rattle.sexp_config.proofs.finish.config_of.Goals as goal

pub finish-requires : goal.finish-requires
finish-requires c =
    let read = rw (c.new-env.ensures.items, c.fresh.ensures) at c.in_ok-draft.ensures.gives in
    read_is_built (form_trees c.args.forms.now) (draft_in c.in_ok-draft.draft) c.requires read
