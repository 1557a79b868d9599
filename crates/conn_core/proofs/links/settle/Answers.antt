use Rattle.std.proofs.Common.{◌<◌, ℕ, List, set, Ok, Err, refl, sym, ◌∙◌, subst}
use Rattle.std.specs.Prelude.{Option}
use Rattle.std.proofs.lemmas.List.{get_or_read, length-set}
use Rattle.std.proofs.lemmas.Result.{err_from_is_err_and}
use Rattle.hub_link.specs.HubLink.{number_of}
use Rattle.hub_link.specs.Sending.{Sends}
use Rattle.hub_link.specs.declared.link.HubLink.{HubLink}
use Rattle.hub_link.proofs.AddedLaws.{added_then, added_weaken}
use Rattle.ports.specs.declared.entry.Entry.{Entry}
use Rattle.conn_core.specs.Known.{AreUnclosed}
use Rattle.conn_core.specs.Reaching.{Finishes, Settles}
use Rattle.conn_core.proofs.KnownLaws.{known_sends}
use Rattle.conn_core.proofs.ReachLaws.{settles_failed, settles_sent}
use Rattle.conn_core.proofs.links.settle.Goals as goal

pub finish-requires-clause-at : goal.finish-requires-clause-at
finish-requires-clause-at g c =
    let values = c.args.table.now.values in
    let same = length-set values c.args.place c.send_all.new.self in
    record {
      within = subst (λ (n : ℕ). c.args.place < n) (sym same) c.requires.at.within;
      beside = c.requires.at.beside ∙ sym same;
      is = c.requires.at.is;
      only = c.requires.at.only;
    }

pub finish-requires-clause-known : goal.finish-requires-clause-known
finish-requires-clause-known g c =
    let wants = c.args.table.now.wants in
    let sends = c.in_ok-send_all.ensures.sends in
    subst (λ (log : Option (List Entry)). AreUnclosed log wants) (sym sends.grew.log)
    (known_sends (g.L.Links.report c.args.links.now).log wants (number_of c.value_mut.result.now) sends.run
    sends.holds.only c.requires.known)

pub returns-in_err-send_all-clause-settles : goal.returns-in_err-send_all-clause-settles
returns-in_err-send_all-clause-settles g c =
    let p = err_from_is_err_and c.from_residual.result c.from_residual.ensures.1 in
    let table = c.args.table.now in
    let at =
    λ (other : HubLink). sym
    (get_or_read table.values c.args.place c.value_mut.result.now c.requires.at.within c.value_mut.ensures.value
    other) in
    rw p.1 (added_weaken (g.L.Links.report c.args.links.now) (g.L.Links.report c.send_all.new.links)
    (Sends c.value_mut.result.now c.send_all.new.self)
    (Settles table (record table { values = set table.values c.args.place c.send_all.new.self }) c.args.number
    c.args.place (Err p.0))
    (λ run sends. settles_failed table (record table { values = set table.values c.args.place c.send_all.new.self })
    c.args.number c.args.place c.value_mut.result.now c.send_all.new.self at
    (record table { values = set table.values c.args.place c.send_all.new.self }) (Err p.0) run refl sends)
    c.in_err-send_all.ensures.sends)

pub returns-clause-settles : goal.returns-clause-settles
returns-clause-settles g c =
    let table = c.args.table.now in
    let value = c.value_mut.result.now in
    let value' = c.send_all.new.self in
    let middle = record table { values = set table.values c.args.place value' } in
    let at =
    λ (other : HubLink).
    sym (get_or_read table.values c.args.place value c.requires.at.within c.value_mut.ensures.value other) in
    added_then (g.L.Links.report c.args.links.now) (g.L.Links.report c.send_all.new.links)
    (g.L.Links.report c.finish.new.links)
    (Sends value value') (Finishes middle c.finish.new.table c.args.number c.args.place (Ok tt))
    (Settles table c.finish.new.table c.args.number c.args.place (Ok tt))
    c.in_ok-send_all.ensures.sends c.finish.ensures.finishes
    (λ first second sends finishes. settles_sent table c.finish.new.table c.args.number c.args.place value value' at
    first second sends c.in_ok-send_all.ensures.sent finishes)
