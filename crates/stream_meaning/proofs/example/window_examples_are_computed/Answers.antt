use Rattle.std.proofs.Common.{refl}
use Rattle.index_log.specs.IndexKey.{index_key_cmp}
use Rattle.stream_meaning.proofs.example.window_examples_are_computed.Goals as goal

pub returns-clause-expired_on_arrival : goal.returns-clause-expired_on_arrival
unfolding index_key_cmp
returns-clause-expired_on_arrival c = refl

pub returns-clause-expired_at_the_start : goal.returns-clause-expired_at_the_start
unfolding index_key_cmp
returns-clause-expired_at_the_start c = refl

pub returns-clause-coalesce_order : goal.returns-clause-coalesce_order
unfolding index_key_cmp
returns-clause-coalesce_order c = refl

pub returns-clause-moving_time_end : goal.returns-clause-moving_time_end
unfolding index_key_cmp
returns-clause-moving_time_end c = refl

pub returns-clause-stable_end : goal.returns-clause-stable_end
unfolding index_key_cmp
returns-clause-stable_end c = refl

pub returns-clause-stable_change : goal.returns-clause-stable_change
unfolding index_key_cmp
returns-clause-stable_change c = refl

pub returns-clause-stable_too_short : goal.returns-clause-stable_too_short
unfolding index_key_cmp
returns-clause-stable_too_short c = refl

pub returns-clause-negative_stretch : goal.returns-clause-negative_stretch
unfolding index_key_cmp
returns-clause-negative_stretch c = refl

pub returns-clause-stretch_numbers : goal.returns-clause-stretch_numbers
unfolding index_key_cmp
returns-clause-stretch_numbers c = record {
  last_of_second_before = refl;
  first_before = refl;
  last_before = refl;
  first = refl;
  last = refl;
  next = refl;
}
