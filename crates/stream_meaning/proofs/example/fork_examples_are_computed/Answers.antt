use Rattle.std.proofs.Common.{refl}
use Rattle.index_log.specs.IndexKey.{index_key_cmp}
use Rattle.stream_meaning.proofs.example.fork_examples_are_computed.Goals as goal

pub returns-clause-fork_order : goal.returns-clause-fork_order
unfolding index_key_cmp
returns-clause-fork_order c = refl

pub returns-clause-two_fields : goal.returns-clause-two_fields
unfolding index_key_cmp
returns-clause-two_fields c = refl

pub returns-clause-apart_fields : goal.returns-clause-apart_fields
unfolding index_key_cmp
returns-clause-apart_fields c = refl

pub returns-clause-nested_due : goal.returns-clause-nested_due
unfolding index_key_cmp
returns-clause-nested_due c = refl

pub returns-clause-nested_one_due : goal.returns-clause-nested_one_due
unfolding index_key_cmp
returns-clause-nested_one_due c = refl

pub returns-clause-nested_given : goal.returns-clause-nested_given
unfolding index_key_cmp
returns-clause-nested_given c = refl

pub returns-clause-nested_deadline : goal.returns-clause-nested_deadline
unfolding index_key_cmp
returns-clause-nested_deadline c = refl
