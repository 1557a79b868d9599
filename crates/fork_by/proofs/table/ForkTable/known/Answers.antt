use Rattle.std.proofs.Common.{◌≡◌, ℕ, Option, Some, IfSome, subst}
use Rattle.ev_types.specs.Key.{event_key}
use Rattle.fork_by.specs.Labels.{IsLive, number_of}
use Rattle.fork_by.specs.Table.{HasFork, kept_forks, kept_number}
use Rattle.fork_by.proofs.KeptForkLaws.{found-has, number-kept, number-live}
use Rattle.fork_by.proofs.KnownLaws.{if_found}
use Rattle.fork_by.proofs.table.ForkTable.known.Goals as goal

pub returns-clause-live : goal.returns-clause-live
returns-clause-live g c =
    let key = event_key c.args.event.now c.args.fields.now in
    if_found (λ number. IsLive number c.args.self.now.labels) (number_of key c.args.self.now.labels) c.known.result
    c.known.ensures (number-live key c.args.self.now.labels)

pub returns-clause-found : goal.returns-clause-found
returns-clause-found g c table =
    subst (λ (found : Option ℕ). IfSome c.known.result (λ number. found ≡ Some number))
    (number-kept c.args.self.now table (event_key c.args.event.now c.args.fields.now)) c.known.ensures

pub returns-clause-has : goal.returns-clause-has
returns-clause-has g c table =
    let key = event_key c.args.event.now c.args.fields.now in
    if_found (λ number. HasFork number c.args.self.now) (kept_number key (kept_forks c.args.self.now)) c.known.result
    (returns-clause-found g c table) (found-has c.args.self.now table key)
