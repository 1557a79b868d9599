use Rattle.std.proofs.Common.{sym, ◌∙◌, ap}
use Rattle.std.specs.List.{slice_get, filter}
use Rattle.list_laws.proofs.KeepLaws.{filter-at}
use Rattle.list_laws.proofs.keep.keep_where.Goals as goal

pub returns-then-before-nth-clause-kept : goal.returns-then-before-nth-clause-kept
returns-then-before-nth-clause-kept g c p answers =
    let item = c.index-items-place in
    let nth = sym (c.loop-place.invariant.counted p answers) ∙ c.if-before-nth.true in
    let said = answers _ c.test.result (c.loop-place.place, c.loop-place-test.true, sym item.is) c.test.ensures in
    ap (slice_get (filter p c.args.items.now)) (sym nth)
    ∙ filter-at p _ c.loop-place.place item.result c.loop-place-test.true item.is (sym said ∙ c.if-test.true)
