use Rattle.std.proofs.Common.{rules}
use Rattle.mio_links.proofs.SilenceLemmas.{all_of, one_more}
use Rattle.mio_links.proofs.sockets.Sockets.longest_silent.Goals as goal

pub loop-want-preserved : goal.loop-want-preserved
loop-want-preserved c = record {
  heard = search rules;
  longest =
      one_more c.args.self.now c.args.wants.now c.loop-want.want-index _ c.loop-want.found c.longer_silent-found.result
      c.loop-want-test.true c.loop-want.invariant.longest c.longer_silent-found.ensures.others
      c.longer_silent-found.ensures.no_longer;
}

pub returns-clause-longest : goal.returns-clause-longest
returns-clause-longest c =
    all_of c.args.self.now c.args.wants.now c.loop-want.want-index c.loop-want.found c.loop-want-test.false
    c.loop-want.invariant.longest
