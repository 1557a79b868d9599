use Rattle.std.proofs.Common.{◌<◌, sym, ◌∙◌, ap}
use Rattle.std.specs.List.{filter_map}
use Rattle.std.proofs.lemmas.List.Elements.{recursion_from_All}
use Rattle.fork_by.specs.Table.{fork_with}
use Rattle.fork_by.specs.Labels.{Label}
use Rattle.fork_by.proofs.TableLaws.{dropped-even, dropped-later, drops-fewer, later-all}
use Rattle.fork_by.proofs.table.ForkTable.drop_idle.Goals as goal

pub loop-index-smaller : goal.loop-index-smaller
loop-index-smaller g c =
    drops-fewer c.loop-index.self.labels c.take_idle.new.self c.args.upto c.in-Some.index c.in-Some.ensures.dropped

pub loop-index-preserved : goal.loop-index-preserved
loop-index-preserved g c = record {
  table = λ first. (let table = c.loop-index.invariant.table first in record {
    even =
        dropped-even c.loop-index.self.forks.items c.take_fork.new.forks.items c.loop-index.self.labels
        c.take_idle.new.self c.args.upto c.in-Some.index table.sound table.even c.in-Some.ensures.dropped
        c.take_fork.ensures;
    sound = c.take_idle.ensures.sound;
  });
  same = λ first. (let table = c.loop-index.invariant.table first in
      dropped-later c.loop-index.self.forks.items c.take_fork.new.forks.items c.loop-index.self.labels
      c.take_idle.new.self c.args.upto c.in-Some.index table.sound table.even c.in-Some.ensures.dropped
      c.take_fork.ensures
      ∙ c.loop-index.invariant.same first);
}

pub returns-clause-dropped : goal.returns-clause-dropped
returns-clause-dropped g c first =
    ap (filter_map (fork_with c.loop-index.self.forks.items)) c.in_default.ensures.none
    ∙ sym (later-all c.args.upto c.loop-index.self.forks.items c.loop-index.self.labels
    (recursion_from_All (λ (l : Label). c.args.upto < l.moment) c.loop-index.self.labels c.in_default.ensures.later))
    ∙ c.loop-index.invariant.same first
