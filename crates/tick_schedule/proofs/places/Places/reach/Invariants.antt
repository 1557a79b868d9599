use Rattle.std.proofs.Common.{◌≡◌, ℕ, ◌-◌, ◌+◌, length}
use Rattle.tick_schedule.specs.Moments.{moments_from, place_at}
use Rattle.tick_schedule.proofs.places.Places.reach.Given as goal

abbrev pub invariant-loop-self : goal.invariant-loop-self
invariant-loop-self l = record {
  places : (other : ℕ) → place_at other l.self-inside.by_id.items ≡ place_at other l.initial.self-inside.by_id.items;
  moments : moments_from 0 l.self-inside.by_id.items ≡ moments_from 0 l.initial.self-inside.by_id.items;
}

abbrev pub decreases-loop-self : goal.decreases-loop-self
decreases-loop-self l = l.id + 1 - length l.self-inside.by_id.items
