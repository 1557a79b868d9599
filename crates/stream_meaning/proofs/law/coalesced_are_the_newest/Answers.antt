use Rattle.stream_meaning.proofs.NewestLaws.{coalesced-permutes, coalesced-rising}
use Rattle.stream_meaning.proofs.law.coalesced_are_the_newest.Goals as goal

pub returns-clause-kept : goal.returns-clause-kept
returns-clause-kept c = coalesced-permutes

pub returns-clause-order : goal.returns-clause-order
returns-clause-order c = coalesced-rising
