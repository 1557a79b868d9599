use Rattle.std.proofs.Common.{◌<◌, ℕ, set, Ok, Err, refl, sym, ◌∙◌, subst}
use Rattle.std.proofs.lemmas.List.{get_or_read, length-set}
use Rattle.std.proofs.lemmas.Result.{err_from_is_err_and}
use Rattle.hub_link.specs.declared.link.HubLink.{HubLink}
use Rattle.hub_link.proofs.AddedLaws.{added_nothing, added_weaken}
use Rattle.conn_core.specs.Kept.{Kept}
use Rattle.hub_link.specs.msg_replies.Arriving.{reported}
use Rattle.ports.specs.declared.links.What.TheVariants.{Read}
use Rattle.conn_core.specs.Occurring.{OccursFrom}
use Rattle.conn_core.specs.Reaching.{Settles}
use Rattle.conn_core.specs.declared.hub.Hub.{Hub}
use Rattle.conn_core.proofs.OccurLaws.{occurs_absent, occurs_heard, occurs_unheard}
use Rattle.conn_core.proofs.hub.Hub.read.Goals as goal

pub settle-requires-clause-at : goal.settle-requires-clause-at
settle-requires-clause-at g c =
    let values = c.args.self.now.table.values in
    let at = c.in-Some.ensures in
    let same = length-set values c.in-Some.place c.hear.new.self in
    record {
      within = subst (λ (n : ℕ). c.in-Some.place < n) (sym same) at.within;
      beside = at.beside ∙ sym same;
      is = at.is;
      only = at.only;
    }

pub returns-in_default-clause-occurs : goal.returns-in_default-clause-occurs
returns-in_default-clause-occurs g c count =
    let hub = c.args.self.now in
    let patterns = g.P.Patterns.report c.args.patterns.now in
    let before = reported c.args.notices.now c.args.steps.now.forks in
    added_nothing (g.L.Links.report c.args.links.now)
    (OccursFrom (Read c.args.number count) c.args.piece.now hub hub patterns patterns before before (Ok tt))
    (occurs_absent c.args.number count c.args.piece.now hub patterns before c.in_default.ensures)

pub returns-in_err-hear-clause-occurs : goal.returns-in_err-hear-clause-occurs
returns-in_err-hear-clause-occurs g c count =
    let p = err_from_is_err_and c.from_residual.result c.from_residual.ensures.1 in
    let hub = c.args.self.now in
    let place = c.in-Some.place in
    let value = c.value_mut.result.now in
    let value' = c.hear.new.self in
    let table' : Kept HubLink = record hub.table { values = set hub.table.values place value' } in
    let hub' : Hub = record hub { core = c.hear.new.core; table = table'; spare = c.hear.new.spare } in
    let patterns = g.P.Patterns.report c.args.patterns.now in
    let patterns' = g.P.Patterns.report c.hear.new.patterns in
    let before = reported c.args.notices.now c.args.steps.now.forks in
    let after = reported c.hear.new.notices c.hear.new.steps.forks in
    rw p.1 (added_nothing (g.L.Links.report c.args.links.now)
    (OccursFrom (Read c.args.number count) c.args.piece.now hub hub' patterns patterns' before after (Err p.0))
    (occurs_unheard c.args.number count place c.args.piece.now hub c.hear.new.core value value' patterns patterns'
    before after c.in-Some.ensures
    (λ other. sym (get_or_read hub.table.values place value c.in-Some.ensures.within c.value_mut.ensures.value other))
    hub' (Err c.in_err-hear.field-0.0) (Err p.0) refl c.in_err-hear.ensures.hears))

pub returns-in_err-settle-clause-occurs : goal.returns-in_err-settle-clause-occurs
returns-in_err-settle-clause-occurs g c count =
    let p = err_from_is_err_and c.from_residual-in_err-settle.result c.from_residual-in_err-settle.ensures.1 in
    let hub = c.args.self.now in
    let place = c.in-Some.place in
    let value = c.value_mut.result.now in
    let value' = c.hear.new.self in
    let table' : Kept HubLink = record hub.table { values = set hub.table.values place value' } in
    let hub' : Hub = record hub { core = c.hear.new.core; table = c.settle.new.table; spare = c.hear.new.spare } in
    let patterns = g.P.Patterns.report c.args.patterns.now in
    let patterns' = g.P.Patterns.report c.hear.new.patterns in
    let before = reported c.args.notices.now c.args.steps.now.forks in
    let after = reported c.hear.new.notices c.hear.new.steps.forks in
    rw p.1 (added_weaken (g.L.Links.report c.args.links.now) (g.L.Links.report c.settle.new.links)
    (Settles table' c.settle.new.table c.args.number place (Err p.0))
    (OccursFrom (Read c.args.number count) c.args.piece.now hub hub' patterns patterns' before after (Err p.0))
    (λ run settles. occurs_heard c.args.number count place c.args.piece.now hub c.hear.new.core value value' patterns
    patterns' before after c.in-Some.ensures
    (λ other. sym (get_or_read hub.table.values place value c.in-Some.ensures.within c.value_mut.ensures.value other))
    c.settle.new.table c.hear.new.spare (Err p.0) run c.in_ok-hear.ensures.hears settles)
    c.in_err-settle.ensures.settles)

pub returns-clause-occurs : goal.returns-clause-occurs
returns-clause-occurs g c count =
    let hub = c.args.self.now in
    let place = c.in-Some.place in
    let value = c.value_mut.result.now in
    let value' = c.hear.new.self in
    let table' : Kept HubLink = record hub.table { values = set hub.table.values place value' } in
    let hub' : Hub = record hub { core = c.hear.new.core; table = c.settle.new.table; spare = c.hear.new.spare } in
    let patterns = g.P.Patterns.report c.args.patterns.now in
    let patterns' = g.P.Patterns.report c.hear.new.patterns in
    let before = reported c.args.notices.now c.args.steps.now.forks in
    let after = reported c.hear.new.notices c.hear.new.steps.forks in
    added_weaken (g.L.Links.report c.args.links.now) (g.L.Links.report c.settle.new.links)
    (Settles table' c.settle.new.table c.args.number place (Ok tt))
    (OccursFrom (Read c.args.number count) c.args.piece.now hub hub' patterns patterns' before after (Ok tt))
    (λ run settles. occurs_heard c.args.number count place c.args.piece.now hub c.hear.new.core value value' patterns
    patterns' before after c.in-Some.ensures
    (λ other. sym (get_or_read hub.table.values place value c.in-Some.ensures.within c.value_mut.ensures.value other))
    c.settle.new.table c.hear.new.spare (Ok tt) run c.in_ok-hear.ensures.hears settles)
    c.in_ok-settle.ensures.settles
