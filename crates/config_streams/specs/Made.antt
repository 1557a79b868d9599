-- What streams of the code, with their places, represent.
use Rattle.std.specs.Prelude.{List, [], ◌∷◌}
use Rattle.stream_plan.specs.Tree.{stream_tree, list_trees}
use Rattle.config_streams.specs.declared.source.Source.{Source, Source', Row_of-Source, end_of-Source, more_of-Source}
use Rattle.config_streams.specs.declared.streams.Located as code_located
use Rattle.config_streams.specs.declared.streams.Below as code_below
use Rattle.config_streams.specs.declared.streams.Part as code_part
use Rattle.config_streams.specs.declared.streams.Part.TheVariants as part
use Rattle.config_streams.specs.Sources.{SourceTree, SourceTrees, source, none, also}
use Rattle.config_streams.specs.Streams.{Located, Below, Part, One, Rest}

abbrev mutual
  pub source_tree : Source → SourceTree
  source_tree (Source' place shape children shape' otherwise) =
      source place (source_trees children) (source_trees otherwise)

  pub source_trees : {m : _} → Row_of-Source m → SourceTrees
  source_trees end_of-Source = none
  source_trees (more_of-Source s sources) = also (source_tree s) (source_trees sources)

abbrev pub source_list : List Source → SourceTrees
source_list [] = none
source_list (s ∷ sources) = also (source_tree s) (source_list sources)

abbrev pub located_in : code_located.Located → Located
located_in located = record { streams = list_trees located.streams.items; places = source_list located.places.items }

abbrev pub below_in : code_below.Below → Below
below_in below = record { children = located_in below.children; otherwise = located_in below.otherwise }

abbrev pub part_in : code_part.Part → Part
part_in (part.One one place) = One (stream_tree one) (source_tree place)
part_in (part.Rest located) = Rest (located_in located)
