use Rattle.std.proofs.Common.{refl}
use Rattle.index_log.specs.IndexKey.{index_key_cmp}
use Rattle.index_log.specs.Live.{live_events}
use Rattle.stream_meaning.proofs.example.examples_are_computed.Goals as goal

pub returns-clause-notice : goal.returns-clause-notice
unfolding index_key_cmp live_events
returns-clause-notice c = refl

pub returns-clause-tag : goal.returns-clause-tag
unfolding index_key_cmp live_events
returns-clause-tag c = refl

pub returns-clause-changed : goal.returns-clause-changed
unfolding index_key_cmp live_events
returns-clause-changed c = refl

pub returns-clause-changed_from : goal.returns-clause-changed_from
unfolding index_key_cmp live_events
returns-clause-changed_from c = refl

pub returns-clause-runs : goal.returns-clause-runs
unfolding index_key_cmp live_events
returns-clause-runs c = refl

pub returns-clause-throttle : goal.returns-clause-throttle
unfolding index_key_cmp live_events
returns-clause-throttle c = refl

pub returns-clause-rollup : goal.returns-clause-rollup
unfolding index_key_cmp live_events
returns-clause-rollup c = refl

pub returns-clause-rollup_of_one : goal.returns-clause-rollup_of_one
unfolding index_key_cmp live_events
returns-clause-rollup_of_one c = refl

pub returns-clause-batch : goal.returns-clause-batch
unfolding index_key_cmp live_events
returns-clause-batch c = refl

pub returns-clause-stable : goal.returns-clause-stable
unfolding index_key_cmp live_events
returns-clause-stable c = refl

pub returns-clause-delivery : goal.returns-clause-delivery
unfolding index_key_cmp live_events
returns-clause-delivery c = refl

pub returns-clause-tick_first : goal.returns-clause-tick_first
unfolding index_key_cmp live_events
returns-clause-tick_first c = refl

pub returns-clause-both_come : goal.returns-clause-both_come
unfolding index_key_cmp live_events
returns-clause-both_come c = refl

pub returns-clause-fixed_event : goal.returns-clause-fixed_event
unfolding index_key_cmp live_events
returns-clause-fixed_event c = refl

pub returns-clause-fixed_time : goal.returns-clause-fixed_time
unfolding index_key_cmp live_events
returns-clause-fixed_time c = refl

pub returns-clause-moving_time : goal.returns-clause-moving_time
unfolding index_key_cmp live_events
returns-clause-moving_time c = refl

pub returns-clause-coalesce : goal.returns-clause-coalesce
unfolding index_key_cmp live_events
returns-clause-coalesce c = refl

pub returns-clause-forks : goal.returns-clause-forks
unfolding index_key_cmp live_events
returns-clause-forks c = refl

pub returns-clause-sum : goal.returns-clause-sum
unfolding index_key_cmp live_events
returns-clause-sum c = refl

pub returns-clause-least : goal.returns-clause-least
unfolding index_key_cmp live_events
returns-clause-least c = refl

pub returns-clause-greatest : goal.returns-clause-greatest
unfolding index_key_cmp live_events
returns-clause-greatest c = refl

pub returns-clause-count : goal.returns-clause-count
unfolding index_key_cmp live_events
returns-clause-count c = refl

pub returns-clause-great_sum : goal.returns-clause-great_sum
unfolding index_key_cmp live_events
returns-clause-great_sum c = refl

pub returns-clause-no_sum : goal.returns-clause-no_sum
unfolding index_key_cmp live_events
returns-clause-no_sum c = refl

pub returns-clause-routed : goal.returns-clause-routed
unfolding index_key_cmp live_events
returns-clause-routed c = refl

pub returns-clause-vector : goal.returns-clause-vector
unfolding index_key_cmp live_events
returns-clause-vector c = refl

pub returns-clause-due : goal.returns-clause-due
unfolding index_key_cmp live_events
returns-clause-due c = refl

pub returns-clause-not_due : goal.returns-clause-not_due
unfolding index_key_cmp live_events
returns-clause-not_due c = refl

pub returns-clause-given : goal.returns-clause-given
unfolding index_key_cmp live_events
returns-clause-given c = refl

pub returns-clause-deadline : goal.returns-clause-deadline
unfolding index_key_cmp live_events
returns-clause-deadline c = refl
