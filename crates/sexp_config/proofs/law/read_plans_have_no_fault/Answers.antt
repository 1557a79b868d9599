use Rattle.sexp_config.proofs.PlansBuilt.{read_plans}
use Rattle.sexp_config.proofs.law.read_plans_have_no_fault.Goals as goal

pub returns : goal.returns
returns c = read_plans
