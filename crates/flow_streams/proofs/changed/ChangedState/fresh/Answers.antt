use Rattle.std.proofs.Common.{ap, refl, sym, ◌∙◌}
use Rattle.stream_meaning.specs.Runs.{last_value}
use Rattle.flow_streams.proofs.KeptLaws.{last_value-ticks}
use Rattle.flow_streams.proofs.changed.ChangedState.fresh.Goals as goal

pub returns-clause-represents : goal.returns-clause-represents
returns-clause-represents c h alone begins =
    record {
      sound = refl;
      last =
          sym (last_value-ticks c.args.params.field c.args.params.init h alone)
          ∙ ap (λ init. last_value c.args.params.field init h) (sym c.of.ensures);
    }
