use Rattle.std.proofs.Common.{rules}
use Rattle.std.proofs.lemmas.List.Sorted.{answers_always}
use Rattle.ports.specs.declared.links.Want.{Want}
use Rattle.conn_core.proofs.Numbers.{searched}
use Rattle.conn_core.proofs.table.place_of.Goals as goal

-- the closure gives a want's number
pub returns : goal.returns
returns c =
    let facts = c.binary_search_by_key.ensures in
    let by_number =
    facts.position (λ (want : Want). want.link) (answers_always _ _ _ (λ f a r g called. search rules)) in
    searched _ c.requires c.args.number _ facts.bound by_number
