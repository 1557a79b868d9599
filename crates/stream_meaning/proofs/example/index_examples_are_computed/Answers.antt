use Rattle.std.proofs.Common.{refl}
use Rattle.index_log.specs.IndexKey.{index_key_cmp}
use Rattle.index_log.specs.Live.{live_events}
use Rattle.stream_meaning.proofs.example.index_examples_are_computed.Goals as goal

pub returns-clause-reap : goal.returns-clause-reap
unfolding index_key_cmp live_events
returns-clause-reap c = refl

pub returns-clause-live_before_reap : goal.returns-clause-live_before_reap
unfolding index_key_cmp live_events
returns-clause-live_before_reap c = refl

pub returns-clause-live_after_reap : goal.returns-clause-live_after_reap
unfolding index_key_cmp live_events
returns-clause-live_after_reap c = refl

pub returns-clause-reaped_once : goal.returns-clause-reaped_once
unfolding index_key_cmp live_events
returns-clause-reaped_once c = refl

pub returns-clause-revived : goal.returns-clause-revived
unfolding index_key_cmp live_events
returns-clause-revived c = refl

pub returns-clause-defaulted : goal.returns-clause-defaulted
unfolding index_key_cmp live_events
returns-clause-defaulted c = refl
