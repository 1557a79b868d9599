use Rattle.std.proofs.Common.{◌<◌, ℕ, set, Ok, Err, sym, ◌∙◌, subst}
use Rattle.std.proofs.lemmas.List.{get_or_read, length-set}
use Rattle.std.proofs.lemmas.Result.{err_from_is_err_and}
use Rattle.hub_link.specs.declared.link.HubLink.{HubLink}
use Rattle.hub_link.proofs.AddedLaws.{added_nothing, added_weaken}
use Rattle.hub_link.specs.hub_meaning.Links.{changed, broken}
use Rattle.hub_link.proofs.HubMeaningLinkLaws.{broken_number}
use Rattle.conn_core.specs.Reaching.{Changes, Settles}
use Rattle.conn_core.proofs.ReachLaws.{changes_absent, changes_found, broken_fixed, broken_unclosed}
use Rattle.conn_core.proofs.links.fail.Goals as goal

pub settle-requires-clause-at : goal.settle-requires-clause-at
settle-requires-clause-at g c =
    let values = c.args.table.now.values in
    let at = c.in-Some.ensures in
    let same = length-set values c.in-Some.place c.fail.new.self in
    record {
      within = subst (λ (n : ℕ). c.in-Some.place < n) (sym same) at.within;
      beside = at.beside ∙ sym same;
      is = at.is;
      only = at.only;
    }

pub returns-in_default-clause-changes : goal.returns-in_default-clause-changes
returns-in_default-clause-changes g c =
    added_nothing (g.L.Links.report c.args.links.now)
    (Changes (changed c.args.number broken) c.args.table.now c.args.table.now (Ok tt))
    (changes_absent broken c.args.table.now c.args.number broken_fixed c.in_default.ensures)

pub returns-in_err-settle-clause-changes : goal.returns-in_err-settle-clause-changes
returns-in_err-settle-clause-changes g c =
    let p = err_from_is_err_and c.from_residual.result c.from_residual.ensures.1 in
    let table = c.args.table.now in
    let place = c.in-Some.place in
    let value = c.value_mut.result.now in
    let value' = c.fail.new.self in
    let at =
    λ (other : HubLink).
    sym (get_or_read table.values place value c.in-Some.ensures.within c.value_mut.ensures.value other) in
    rw p.1 (added_weaken (g.L.Links.report c.args.links.now) (g.L.Links.report c.settle.new.links)
    (Settles (record table { values = set table.values place value' }) c.settle.new.table c.args.number place (Err p.0))
    (Changes (changed c.args.number broken) table c.settle.new.table (Err p.0))
    (λ run settles. changes_found broken table c.settle.new.table c.args.number place value value' (Err p.0) run
    broken_number broken_unclosed c.in-Some.ensures at c.fail.ensures.represents settles)
    c.in_err-settle.ensures.settles)

pub returns-clause-changes : goal.returns-clause-changes
returns-clause-changes g c =
    let table = c.args.table.now in
    let place = c.in-Some.place in
    let value = c.value_mut.result.now in
    let value' = c.fail.new.self in
    let at =
    λ (other : HubLink).
    sym (get_or_read table.values place value c.in-Some.ensures.within c.value_mut.ensures.value other) in
    added_weaken (g.L.Links.report c.args.links.now) (g.L.Links.report c.settle.new.links)
    (Settles (record table { values = set table.values place value' }) c.settle.new.table c.args.number place (Ok tt))
    (Changes (changed c.args.number broken) table c.settle.new.table (Ok tt))
    (λ run settles. changes_found broken table c.settle.new.table c.args.number place value value' (Ok tt) run
    broken_number broken_unclosed c.in-Some.ensures at c.fail.ensures.represents settles)
    c.in_ok-settle.ensures.settles
