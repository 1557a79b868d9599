use Rattle.std.proofs.Common.{◌≡◌, drop}
use Rattle.config_streams.specs.Sources.{place_along, with_sources}
use Rattle.config_streams.specs.Made.{source_list}
use Rattle.sexp_config.proofs.finish.place_along.Given as goal

abbrev pub invariant-path : goal.invariant-path
invariant-path l =
    place_along l.place (with_sources (source_list l.children) (source_list l.otherwise)) (drop l.number-index l.path)
    ≡ place_along 0 (source_list l.sources) l.path
