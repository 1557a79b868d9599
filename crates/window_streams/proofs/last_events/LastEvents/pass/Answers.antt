use Rattle.std.proofs.Common.{not, rules}
use Rattle.std.proofs.lemmas.Fn.{filter_same}
use Rattle.ev_types.specs.Expiry.{is_expired}
use Rattle.window_streams.proofs.last_events.LastEvents.pass.Goals as goal

pub returns-clause-kept : goal.returns-clause-kept
returns-clause-kept c =
    rw (← c.self.view_is)
    (filter_same _ (λ event. not (is_expired c.args.now event)) _ (λ x b f' k. search rules) _ _
    c.retain.ensures.filtered)
