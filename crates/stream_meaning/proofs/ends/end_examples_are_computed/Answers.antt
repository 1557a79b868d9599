use Rattle.std.proofs.Common.{refl}
use Rattle.index_log.specs.IndexKey.{index_key_cmp}
use Rattle.stream_meaning.proofs.ends.end_examples_are_computed.Goals as goal

pub returns-clause-end_of_key : goal.returns-clause-end_of_key
returns-clause-end_of_key c =
    record { moment = refl; before = refl; at = refl; after = refl; other = refl; unseen = refl }

pub returns-clause-end_of_fork : goal.returns-clause-end_of_fork
returns-clause-end_of_fork c = record { before = refl; at = refl; without = refl }

pub returns-clause-put_off : goal.returns-clause-put_off
returns-clause-put_off c = record { before = refl; at = refl }

pub returns-clause-second_end : goal.returns-clause-second_end
returns-clause-second_end c = record { again = refl; ended = refl; count = refl }

pub returns-clause-two_keys : goal.returns-clause-two_keys
returns-clause-two_keys c = record { apart = refl; tie = refl; both = refl }

pub returns-clause-live_order : goal.returns-clause-live_order
returns-clause-live_order c = record { kept = refl; last = refl }

pub returns-clause-new_fork : goal.returns-clause-new_fork
unfolding index_key_cmp
returns-clause-new_fork c = record { new = refl; same = refl; counted = refl }

pub returns-clause-last_tick : goal.returns-clause-last_tick
unfolding index_key_cmp
returns-clause-last_tick c = record {
  batch = refl;
  no_batch = refl;
  rollup = refl;
  no_rollup = refl;
  stable = refl;
  no_stable = refl;
  coalesce = refl;
  no_coalesce = refl;
}

pub returns-clause-last_deadline : goal.returns-clause-last_deadline
unfolding index_key_cmp
returns-clause-last_deadline c = record { within = refl; after = refl; other = refl; due = refl; ended = refl }

pub returns-clause-new_fork_window : goal.returns-clause-new_fork_window
unfolding index_key_cmp
returns-clause-new_fork_window c = refl

pub returns-clause-nested_end : goal.returns-clause-nested_end
unfolding index_key_cmp
returns-clause-nested_end c = record {
  kept = refl;
  gone = refl;
  last_tick = refl;
  no_last_tick = refl;
  due = refl;
  ended = refl;
  deadline = refl;
  no_deadline = refl;
}
