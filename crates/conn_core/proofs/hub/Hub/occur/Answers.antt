use Rattle.std.proofs.Common.{refl}
use Rattle.hub_link.proofs.AddedLaws.{added_weaken}
use Rattle.hub_link.specs.msg_replies.Arriving.{reported}
use Rattle.conn_core.specs.Occurring.{OccursFrom}
use Rattle.conn_core.specs.Reaching.{Changes, links_after}
use Rattle.conn_core.specs.declared.hub.Hub.{Hub}
use Rattle.conn_core.proofs.OccurLaws.{occurs_changed, readless}
use Rattle.conn_core.proofs.hub.Hub.occur.Goals as goal

pub returns-in_default : goal.returns-in_default
returns-in_default g c =
    let hub = c.args.self.now in
    let hub' : Hub = record hub { table = c.change.new.table } in
    let patterns = g.P.Patterns.report c.args.patterns.now in
    let before = reported c.args.notices.now c.args.steps.now.forks in
    record {
      stopped = refl;
      known = c.change.ensures.known;
      occurs =
          added_weaken (g.L.Links.report c.args.links.now) (g.L.Links.report c.change.new.links)
          (Changes (links_after c.args.what) hub.table c.change.new.table c.change.result)
          (OccursFrom c.args.what c.args.piece.now hub hub' patterns patterns before before c.change.result)
          (λ run changes. occurs_changed c.args.what c.args.piece.now hub c.change.new.table patterns before
          c.change.result run (readless c.args.what c.in_default.not-Read) changes)
          c.change.ensures.changes;
    }
