use Rattle.std.proofs.Common.{refl}
use Rattle.std.specs.Prelude.{None}
use Rattle.command_setup.specs.command_io.Reports.{reports}
use Rattle.command_serve.proofs.LoadLaws.{load_complete, load_not_linked, load_read_rose, load_sink_rose}
use Rattle.command_serve.proofs.load_command.load.Goals as goal

pub returns-clause-promise : goal.returns-clause-promise
returns-clause-promise g c = λ links.
    let old = reports (g.S.Store.report c.args.store.now) links
    (g.O.Sink.report c.args.out.now) (g.E.Sink.report c.args.err.now)
    (g.P.Patterns.report c.args.patterns.now) c.args.steps.now.forks in
    let new = reports (g.S.Store.report c.load_config-ending.new.store) links
    (g.O.Sink.report c.load_config-ending.new.out) (g.E.Sink.report c.report.new.err)
    (g.P.Patterns.report c.load_config-ending.new.patterns) c.load_config-ending.new.steps.forks in
    let config = c.args.config.now in
    let ending = c.load_config-ending.result in
    let ends = c.load_config-ending.ensures.ends links old.err new.err in
    record {
      ending = ending;
      ended = c.report.ensures.status;
      says = c.report.ensures.says;
      ends = ends;
      untouched = refl;
      reads = c.load_config-ending.ensures.reads;
      unasked = c.load_config-ending.ensures.unasked;
      quiet = c.load_config-ending.ensures.quiet;
      complete = λ text read holds is fits reads_still out_still still.
          rw c.report.ensures.status
          (load_complete config c.args.count c.args.start text read old new ending holds is fits reads_still out_still
          still ends);
    }

pub returns-clause-read_fault : goal.returns-clause-read_fault
returns-clause-read_fault g c =
    let old = reports (g.S.Store.report c.args.store.now) (record { log = None; script = None; faults = 0 })
    (g.O.Sink.report c.args.out.now) (g.E.Sink.report c.args.err.now)
    (g.P.Patterns.report c.args.patterns.now) c.args.steps.now.forks in
    let new =
    reports (g.S.Store.report c.load_config-ending.new.store) (record { log = None; script = None; faults = 0 })
    (g.O.Sink.report c.load_config-ending.new.out) (g.E.Sink.report c.report.new.err)
    (g.P.Patterns.report c.load_config-ending.new.patterns) c.load_config-ending.new.steps.forks in
    let config = c.args.config.now in
    let ending = c.load_config-ending.result in
    let ends = c.load_config-ending.ensures.ends (record { log = None; script = None; faults = 0 }) old.err new.err in
    λ e. load_read_rose config c.args.count c.args.start old new ending ends (rw c.report.ensures.status at e)

pub returns-clause-sink_fault : goal.returns-clause-sink_fault
returns-clause-sink_fault g c =
    let old = reports (g.S.Store.report c.args.store.now) (record { log = None; script = None; faults = 0 })
    (g.O.Sink.report c.args.out.now) (g.E.Sink.report c.args.err.now)
    (g.P.Patterns.report c.args.patterns.now) c.args.steps.now.forks in
    let new =
    reports (g.S.Store.report c.load_config-ending.new.store) (record { log = None; script = None; faults = 0 })
    (g.O.Sink.report c.load_config-ending.new.out) (g.E.Sink.report c.report.new.err)
    (g.P.Patterns.report c.load_config-ending.new.patterns) c.load_config-ending.new.steps.forks in
    let config = c.args.config.now in
    let ending = c.load_config-ending.result in
    let ends = c.load_config-ending.ensures.ends (record { log = None; script = None; faults = 0 }) old.err new.err in
    λ e. load_sink_rose config c.args.count c.args.start old new ending ends (rw c.report.ensures.status at e)

pub returns-clause-links_work : goal.returns-clause-links_work
returns-clause-links_work g c =
    let old = reports (g.S.Store.report c.args.store.now) (record { log = None; script = None; faults = 0 })
    (g.O.Sink.report c.args.out.now) (g.E.Sink.report c.args.err.now)
    (g.P.Patterns.report c.args.patterns.now) c.args.steps.now.forks in
    let new =
    reports (g.S.Store.report c.load_config-ending.new.store) (record { log = None; script = None; faults = 0 })
    (g.O.Sink.report c.load_config-ending.new.out) (g.E.Sink.report c.report.new.err)
    (g.P.Patterns.report c.load_config-ending.new.patterns) c.load_config-ending.new.steps.forks in
    let config = c.args.config.now in
    let ending = c.load_config-ending.result in
    let ends = c.load_config-ending.ensures.ends (record { log = None; script = None; faults = 0 }) old.err new.err in
    λ e. load_not_linked config c.args.count c.args.start old new ending ends (rw c.report.ensures.status at e)
