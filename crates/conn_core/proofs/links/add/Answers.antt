use Rattle.std.proofs.Common.{◌++◌, [], ◌∷◌, length, refl, ap, ◌∙◌}
use Rattle.std.specs.Prelude.{Some}
use Rattle.std.proofs.lemmas.Bool.{lt-ltb}
use Rattle.hub_link.specs.hub_meaning.Links.{connected, connected_limit, new_link}
use Rattle.ports.specs.declared.links.Want.{Want}
use Rattle.conn_core.proofs.links.add.Goals as goal

pub returns : goal.returns
returns c = record {
  value = c.open-link.result;
  represents =
      λ links few. c.open-link.ensures.represents links (lt-ltb (length (connected links)) connected_limit few);
  wants = c.in_ok-add.ensures.wants
      ∙ ap (λ (want : Want). c.args.table.now.wants ++ want ∷ [])
      (c.want.ensures.represents (new_link c.args.number []) (c.open-link.ensures.represents [] refl));
  values = c.in_ok-add.ensures.values;
  newest = c.in_ok-add.ensures.newest ∙ ap Some (c.want.ensures.number ∙ c.open-link.ensures.number);
}
