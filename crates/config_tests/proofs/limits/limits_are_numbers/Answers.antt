use Rattle.std.proofs.Common.{refl}
use Rattle.config_tests.proofs.limits.limits_are_numbers.Goals as goal

pub returns : goal.returns
returns c = record { tick = refl; test = refl }
