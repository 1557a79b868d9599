use Rattle.std.proofs.Common.{◌<◌, arith, rules, refl}
use Rattle.std.proofs.lemmas.Bool.Decides.{nat_tests}
use Rattle.window_streams.proofs.FixedEventLaws.{fixed_event-fresh}
use Rattle.window_streams.proofs.fixed_event.FixedEventState.fresh.Goals as goal

pub returns-clause-represents : goal.returns-clause-represents
returns-clause-represents c =
    λ h alone start.
    fixed_event-fresh _ h alone (let p : 0 < c.args.params.count = grind (arith, nat_tests) in p) refl (search rules)
