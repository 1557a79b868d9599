use Rattle.std.proofs.Common.{refl}
use Rattle.index_log.specs.IndexKey.{index_key_cmp}
use Rattle.index_log.specs.Live.{live_events}
use Rattle.key_laws.proofs.example.key_examples_are_computed.Goals as goal

pub returns-clause-tests : goal.returns-clause-tests
returns-clause-tests c = record {
  by_host = refl;
  by_both = refl;
  host_by_both = refl;
  both_by_host = refl;
  without_by = refl;
  below_another = refl;
  sets_another = refl;
  by_state = refl;
  of_state = refl;
  sets_host = refl;
  sets_host_outside = refl;
  forgets_host = refl;
  forgets_host_of_services = refl;
  kept_above = refl;
  kept_beside = refl;
}

pub returns-clause-set_host : goal.returns-clause-set_host
unfolding index_key_cmp live_events
returns-clause-set_host c = record { all = refl; alone = refl }

pub returns-clause-forgotten_host : goal.returns-clause-forgotten_host
unfolding index_key_cmp live_events
returns-clause-forgotten_host c = record { all = refl; alone = refl }

pub returns-clause-shared_stream : goal.returns-clause-shared_stream
unfolding index_key_cmp live_events
returns-clause-shared_stream c = record { all = refl; alone = refl }
