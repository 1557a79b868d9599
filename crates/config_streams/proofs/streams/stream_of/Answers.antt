use Rattle.std.proofs.Common.{ap₂, refl}
use Rattle.stream_plan.specs.declared.plan.Stream.{out-roll-Stream}
use Rattle.config_streams.specs.declared.source.Source.{out-roll-Source}
use Rattle.config_streams.specs.Streams.{One}
use Rattle.config_streams.proofs.StreamLaws.{stream_is, source_is}
use Rattle.config_streams.proofs.streams.stream_of.Goals as goal

pub returns : goal.returns
returns c =
    let below = c.args.below in
    ap₂ One
    (stream_is _ c.args.kind below.children.streams below.otherwise.streams (rw out-roll-Stream refl)
    (rw out-roll-Stream refl) (rw out-roll-Stream refl))
    (source_is _ c.args.start below.children.places below.otherwise.places (rw out-roll-Source refl)
    (rw out-roll-Source refl) (rw out-roll-Source refl))
