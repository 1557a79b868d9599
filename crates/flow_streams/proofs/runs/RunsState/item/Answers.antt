use Rattle.std.proofs.Common.{◌++◌, ◌==◌, cond, [], ◌∷◌, ap, ◌∙◌}
use Rattle.stream_meaning.specs.Came.{each}
use Rattle.stream_meaning.specs.Emitted.{emitted}
use Rattle.flow_streams.proofs.KeptLaws.{full-passes}
use Rattle.flow_streams.proofs.runs.RunsState.item.Goals as goal

pub returns-clause-emits : goal.returns-clause-emits
returns-clause-emits c h rep now =
    let s = c.args.self.now in
    let n = c.follow.new.self.length in
    c.in_ok-emit_if.ensures.ok
    ∙ ap (λ p. c.args.out.now ++ emitted (cond (n == p.count) (each (c.args.event ∷ [])) []))
    c.in_ok-follow.ensures.params
    ∙ ap (λ items. c.args.out.now ++ emitted items)
    (full-passes s.params.count s.params.field h c.args.event s.last s.length n rep.last rep.length
    c.in_ok-follow.ensures.length)
