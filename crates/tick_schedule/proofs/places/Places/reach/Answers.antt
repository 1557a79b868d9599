use Rattle.std.proofs.Common.{◌∙◌, ap}
use Rattle.tick_schedule.specs.Moments.{moments_from, place_at}
use Rattle.tick_schedule.proofs.MomentLaws.{grown, grown_place}
use Rattle.tick_schedule.proofs.places.Places.reach.Goals as goal

pub loop-self-preserved : goal.loop-self-preserved
loop-self-preserved c = record {
  places =
      λ other. ap (place_at other) c.in_ok-push.ensures.items ∙ grown_place other c.loop-self.self-inside.by_id.items
      ∙ c.loop-self.invariant.places other;
  moments =
      ap (moments_from 0) c.in_ok-push.ensures.items ∙ grown c.loop-self.self-inside.by_id.items
      ∙ c.loop-self.invariant.moments;
}
