use Rattle.std.proofs.Common.{sym, ap}
use Rattle.config_streams.specs.Sources.{SourceTrees, with_sources, place_along}
use Rattle.config_streams.specs.Made.{source_list}
use Rattle.sexp_config.proofs.SourceLaws.{with_none, path_ends, path_goes}
use Rattle.sexp_config.proofs.finish.place_along.Goals as goal

pub path-init : goal.path-init
path-init c =
    ap (λ (sources : SourceTrees). place_along 0 sources c.args.path.now) (with_none (source_list c.args.sources.now))

pub returns-in_default : goal.returns-in_default
returns-in_default c =
    path_ends (with_sources (source_list c.path.children.now) (source_list c.path.otherwise.now)) c.path.place
    c.args.path.now c.path.number-index _ c.path-test.true (sym c.in_default.ensures) c.path.invariant

pub path-preserved : goal.path-preserved
path-preserved c =
    path_goes (with_sources (source_list c.path.children.now) (source_list c.path.otherwise.now)) c.path.place
    c.args.path.now c.path.number-index _ c.in-Some.source.now c.deref-children.result.now c.deref-otherwise.result.now
    c.path-test.true (sym c.in-Some.ensures) c.deref-children.ensures.value c.deref-otherwise.ensures.value
    c.path.invariant
