use Rattle.std.proofs.Common.{◌≡◌, ◌∷◌, length, rules}
use Rattle.journal_format.proofs.FindLaws.{cut_short, goes_on}
use Rattle.journal_format.proofs.finder.find_closed.Goals as goal

pub records-preserved : goal.records-preserved
records-preserved c =
    let is : c.records.rest.now ≡ c.in-Some.gate.now ∷ c.in-Some.after.now = search rules in
    goes_on c.records.first c.args.bytes.now c.records.rest.now c.in-Some.gate.now c.in-Some.after.now c.in-Ok.rest.now
    c.records.invariant is c.if-gate-eq0.false c.in-Ok.ensures

pub returns : goal.returns
returns c =
    let empty : length c.records.rest.now ≡ 0 = search rules in
    cut_short c.records.first c.args.bytes.now c.records.rest.now c.records.invariant empty
