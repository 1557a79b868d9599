use Rattle.packed_event.proofs.Recognised.{clean_by, few_by, packed_by}
use Rattle.packed_event.proofs.places.places_of.Goals as goal

pub returns-clause-clean : goal.returns-clause-clean
returns-clause-clean c = clean_by c.args.bytes.now c.kept_places.result c.kept_places.ensures.kept

pub returns-clause-packed : goal.returns-clause-packed
returns-clause-packed c = packed_by c.args.bytes.now c.kept_places.result c.kept_places.ensures.kept

pub returns-clause-few : goal.returns-clause-few
returns-clause-few c = few_by c.args.bytes.now c.kept_places.result c.kept_places.ensures.kept
