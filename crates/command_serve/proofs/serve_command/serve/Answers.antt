use Rattle.command_setup.specs.command_io.Reports.{reports}
use Rattle.command_serve.proofs.ServeLaws.{serve_complete, serve_links_rose, serve_read_rose, serve_sink_rose}
use Rattle.command_serve.proofs.serve_command.serve.Goals as goal

pub returns-clause-promise : goal.returns-clause-promise
returns-clause-promise g c =
    let old = reports (g.S.Store.report c.args.store.now)
    (g.L.Links.report c.args.links.now) (g.O.Sink.report c.args.out.now)
    (g.E.Sink.report c.args.err.now) (g.P.Patterns.report c.args.patterns.now) c.args.steps.now.forks in
    let new = reports (g.S.Store.report c.serve_links-ending.new.store)
    (g.L.Links.report c.serve_links-ending.new.links) (g.O.Sink.report c.serve_links-ending.new.out)
    (g.E.Sink.report c.report.new.err) (g.P.Patterns.report c.serve_links-ending.new.patterns)
    c.serve_links-ending.new.steps.forks in
    let config = c.args.config.now in
    let turns = c.args.turns in
    let ending = c.serve_links-ending.result in
    let ends = c.serve_links-ending.ensures.ends (g.E.Sink.report c.args.err.now) (g.E.Sink.report c.report.new.err) in
    record {
      ending = ending;
      ended = c.report.ensures.status;
      says = c.report.ensures.says;
      ends = ends;
      reads = c.serve_links-ending.ensures.reads;
      unasked = c.serve_links-ending.ensures.unasked;
      quiet = c.serve_links-ending.ensures.quiet;
      complete = λ text read holds is fits reads_still links_still out_still still.
          rw c.report.ensures.status
          (serve_complete config turns text read old new ending holds is fits reads_still links_still out_still still
          ends);
    }

pub returns-clause-read_fault : goal.returns-clause-read_fault
returns-clause-read_fault g c =
    let old = reports (g.S.Store.report c.args.store.now)
    (g.L.Links.report c.args.links.now) (g.O.Sink.report c.args.out.now)
    (g.E.Sink.report c.args.err.now) (g.P.Patterns.report c.args.patterns.now) c.args.steps.now.forks in
    let new = reports (g.S.Store.report c.serve_links-ending.new.store)
    (g.L.Links.report c.serve_links-ending.new.links) (g.O.Sink.report c.serve_links-ending.new.out)
    (g.E.Sink.report c.report.new.err) (g.P.Patterns.report c.serve_links-ending.new.patterns)
    c.serve_links-ending.new.steps.forks in
    let config = c.args.config.now in
    let turns = c.args.turns in
    let ending = c.serve_links-ending.result in
    let ends = c.serve_links-ending.ensures.ends (g.E.Sink.report c.args.err.now) (g.E.Sink.report c.report.new.err) in
    λ e. serve_read_rose config turns old new ending ends (rw c.report.ensures.status at e)

pub returns-clause-sink_fault : goal.returns-clause-sink_fault
returns-clause-sink_fault g c =
    let old = reports (g.S.Store.report c.args.store.now)
    (g.L.Links.report c.args.links.now) (g.O.Sink.report c.args.out.now)
    (g.E.Sink.report c.args.err.now) (g.P.Patterns.report c.args.patterns.now) c.args.steps.now.forks in
    let new = reports (g.S.Store.report c.serve_links-ending.new.store)
    (g.L.Links.report c.serve_links-ending.new.links) (g.O.Sink.report c.serve_links-ending.new.out)
    (g.E.Sink.report c.report.new.err) (g.P.Patterns.report c.serve_links-ending.new.patterns)
    c.serve_links-ending.new.steps.forks in
    let config = c.args.config.now in
    let turns = c.args.turns in
    let ending = c.serve_links-ending.result in
    let ends = c.serve_links-ending.ensures.ends (g.E.Sink.report c.args.err.now) (g.E.Sink.report c.report.new.err) in
    λ e. serve_sink_rose config turns old new ending ends (rw c.report.ensures.status at e)

pub returns-clause-link_fault : goal.returns-clause-link_fault
returns-clause-link_fault g c =
    let old = reports (g.S.Store.report c.args.store.now)
    (g.L.Links.report c.args.links.now) (g.O.Sink.report c.args.out.now)
    (g.E.Sink.report c.args.err.now) (g.P.Patterns.report c.args.patterns.now) c.args.steps.now.forks in
    let new = reports (g.S.Store.report c.serve_links-ending.new.store)
    (g.L.Links.report c.serve_links-ending.new.links) (g.O.Sink.report c.serve_links-ending.new.out)
    (g.E.Sink.report c.report.new.err) (g.P.Patterns.report c.serve_links-ending.new.patterns)
    c.serve_links-ending.new.steps.forks in
    let config = c.args.config.now in
    let turns = c.args.turns in
    let ending = c.serve_links-ending.result in
    let ends = c.serve_links-ending.ensures.ends (g.E.Sink.report c.args.err.now) (g.E.Sink.report c.report.new.err) in
    λ e. serve_links_rose config turns old new ending ends (rw c.report.ensures.status at e)
