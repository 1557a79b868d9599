use Rattle.std.proofs.Common.{refl}
use Rattle.config_terms.specs.Arguments.{argument_of}
use Rattle.config_terms.proofs.FormLaws.{list_tree, vector_tree, map_tree}
use Rattle.config_terms.proofs.arguments.argument_of.Goals as goal

pub returns-in-List : goal.returns-in-List
unfolding argument_of
returns-in-List c = rw (list_tree c.args.form.now c.in-List.forms c.in-List.is, c.deref.ensures.value) refl

pub returns-in-Vector : goal.returns-in-Vector
unfolding argument_of
returns-in-Vector c =
    rw (vector_tree c.args.form.now c.in-Vector.forms c.in-Vector.is, c.deref-in-Vector.ensures.value) refl

pub returns-in-Map : goal.returns-in-Map
unfolding argument_of
returns-in-Map c = rw (map_tree c.args.form.now c.in-Map.forms c.in-Map.is, c.deref-in-Map.ensures.value) refl
