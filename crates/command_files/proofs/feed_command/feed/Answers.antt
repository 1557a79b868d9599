use Rattle.std.proofs.Common.{refl}
use Rattle.std.specs.Prelude.{None}
use Rattle.command_setup.specs.command_io.Reports.{reports}
use Rattle.ports.specs.Calls.{LinksReport}
use Rattle.command_files.proofs.FeedLaws.{feed_completes, feed_not_linked, feed_read_rose, feed_write_rose}
use Rattle.command_files.proofs.feed_command.feed.Goals as goal

pub returns-clause-promise : goal.returns-clause-promise
returns-clause-promise g c = λ links.
    let old = reports (g.S.Store.report c.args.store.now) links
    (g.O.Sink.report c.args.out.now) (g.E.Sink.report c.args.err.now)
    (g.P.Patterns.report c.args.patterns.now) c.args.steps.now.forks in
    let new = reports (g.S.Store.report c.feed_files-ending.new.store) links
    (g.O.Sink.report c.feed_files-ending.new.out) (g.E.Sink.report c.feed_files-ending.new.err)
    (g.P.Patterns.report c.feed_files-ending.new.patterns) c.feed_files-ending.new.steps.forks in
    let after = (g.E.Sink.report c.report.new.err) in
    let config = c.args.config.now in
    let file = c.args.file.now in
    let ending = c.feed_files-ending.result in
    let ends = c.feed_files-ending.ensures.ends links in
    record {
      ending = ending;
      ended = c.report.ensures.status;
      before = new.err;
      says = c.report.ensures.says;
      ends = ends;
      untouched = refl {a = links};
      quiet = c.feed_files-ending.ensures.quiet;
      complete = λ text bytes read holds is fits holds_bytes bytes_fit reads_still out_still err_still still.
          rw c.report.ensures.status (feed_completes config file old new _ after text bytes read ending ends
          c.report.ensures.says holds is fits holds_bytes bytes_fit reads_still out_still err_still still);
    }

pub returns-clause-read_fault : goal.returns-clause-read_fault
returns-clause-read_fault g c =
    let links : LinksReport = record { log = None; script = None; faults = 0 } in
    let old = reports (g.S.Store.report c.args.store.now) links
    (g.O.Sink.report c.args.out.now) (g.E.Sink.report c.args.err.now)
    (g.P.Patterns.report c.args.patterns.now) c.args.steps.now.forks in
    let new = reports (g.S.Store.report c.feed_files-ending.new.store) links
    (g.O.Sink.report c.feed_files-ending.new.out) (g.E.Sink.report c.feed_files-ending.new.err)
    (g.P.Patterns.report c.feed_files-ending.new.patterns) c.feed_files-ending.new.steps.forks in
    let config = c.args.config.now in
    let file = c.args.file.now in
    let ending = c.feed_files-ending.result in
    let ends = c.feed_files-ending.ensures.ends links in
    λ e. feed_read_rose config file old new _ ending ends (rw c.report.ensures.status at e)

pub returns-clause-sink_fault : goal.returns-clause-sink_fault
returns-clause-sink_fault g c =
    let links : LinksReport = record { log = None; script = None; faults = 0 } in
    let old = reports (g.S.Store.report c.args.store.now) links
    (g.O.Sink.report c.args.out.now) (g.E.Sink.report c.args.err.now)
    (g.P.Patterns.report c.args.patterns.now) c.args.steps.now.forks in
    let new = reports (g.S.Store.report c.feed_files-ending.new.store) links
    (g.O.Sink.report c.feed_files-ending.new.out) (g.E.Sink.report c.feed_files-ending.new.err)
    (g.P.Patterns.report c.feed_files-ending.new.patterns) c.feed_files-ending.new.steps.forks in
    let after = (g.E.Sink.report c.report.new.err) in
    let config = c.args.config.now in
    let file = c.args.file.now in
    let ending = c.feed_files-ending.result in
    let ends = c.feed_files-ending.ensures.ends links in
    λ e. feed_write_rose config file old new _ after ending ends c.report.ensures.says (rw c.report.ensures.status at e)

pub returns-clause-links_work : goal.returns-clause-links_work
returns-clause-links_work g c =
    let links : LinksReport = record { log = None; script = None; faults = 0 } in
    let old = reports (g.S.Store.report c.args.store.now) links
    (g.O.Sink.report c.args.out.now) (g.E.Sink.report c.args.err.now)
    (g.P.Patterns.report c.args.patterns.now) c.args.steps.now.forks in
    let new = reports (g.S.Store.report c.feed_files-ending.new.store) links
    (g.O.Sink.report c.feed_files-ending.new.out) (g.E.Sink.report c.feed_files-ending.new.err)
    (g.P.Patterns.report c.feed_files-ending.new.patterns) c.feed_files-ending.new.steps.forks in
    let config = c.args.config.now in
    let file = c.args.file.now in
    let ending = c.feed_files-ending.result in
    let ends = c.feed_files-ending.ensures.ends links in
    λ e. feed_not_linked config file old new _ ending ends (rw c.report.ensures.status at e)
