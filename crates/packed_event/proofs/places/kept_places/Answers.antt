use Rattle.std.proofs.Common.{arith}
use Rattle.packed_event.proofs.Recognised.{kept_by, recognised_by}
use Rattle.packed_event.proofs.places.kept_places.Goals as goal

pub returns-clause-kept : goal.returns-clause-kept
returns-clause-kept c =
    kept_by c.args.bytes.now c.places_in.result (λ i. omega (arith, c.type_inv.bytes i)) (omega arith)
    c.places_in.ensures

pub returns-clause-found : goal.returns-clause-found
returns-clause-found c =
    recognised_by c.args.bytes.now c.places_in.result (omega arith) c.places_in.ensures
