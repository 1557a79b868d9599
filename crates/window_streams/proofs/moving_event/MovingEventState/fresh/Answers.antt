use Rattle.std.proofs.Common.{◌-◌, refl, sym, ap, ◌∙◌}
use Rattle.std.proofs.Math.Seq.{drop-nil}
use Rattle.stream_meaning.specs.Came.{last_of}
use Rattle.window_streams.proofs.TickedLaws.{events-ticks}
use Rattle.window_streams.proofs.moving_event.MovingEventState.fresh.Goals as goal

pub returns-clause-represents : goal.returns-clause-represents
returns-clause-represents c = λ h alone start. record {
  sound = refl;
  latest =
      c.fresh.ensures
      ∙ sym (ap (last_of c.args.params.count) (events-ticks h alone) ∙ drop-nil (0 - c.args.params.count));
}
