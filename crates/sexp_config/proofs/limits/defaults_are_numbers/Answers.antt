use Rattle.std.proofs.Common.{refl}
use Rattle.sexp_config.proofs.limits.defaults_are_numbers.Goals as goal

pub returns : goal.returns
returns c = record { port = refl; greatest = refl; interval = refl }
