use Rattle.std.proofs.Common.{refl}
use Rattle.stream_meaning.specs.History.{since}
use Rattle.event_core.proofs.streams.IndexedStreams.fresh.Goals as goal

pub returns-clause-holds : goal.returns-clause-holds
returns-clause-holds c = record {
  history = c.in_ok-fresh.ensures.represents (since c.args.start) tt refl;
  log = c.fresh-2.ensures;
  outputs = c.fresh-3.ensures;
}
