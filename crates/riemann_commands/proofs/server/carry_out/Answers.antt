use Rattle.std.proofs.Common.{refl, inl}
use Rattle.command_client.proofs.EndingLaws as client
use Rattle.command_test.proofs.EndingLaws as tests
use Rattle.riemann_commands.proofs.CommandLaws.{converting_not_of_disk, done_has_no_line, no_disk, not_of_disk}
use Rattle.riemann_commands.proofs.CommandLaws.{not_usage, not_usage_converting, out_of_memory, refusal_or_memory}
use Rattle.riemann_commands.proofs.server.carry_out.Goals as goal

pub returns-in-Feed : goal.returns-in-Feed
returns-in-Feed g c =
    let promise = c.feed.ensures.promise (g.L.Links.report c.args.links.now) in
    rw c.in-Feed.is (λ words is. record {
      promise = promise;
      not_usage = not_usage _ promise.ending promise.ended;
      untouched = λ refused. (λ none. c.feed.ensures.untouched (refusal_or_memory c.feed.result refused), refl);
      memory = λ e none. c.feed.ensures.untouched (out_of_memory c.feed.result e);
      no_line = λ quiet none. absurd (none.0 _ _ is);
      done = λ e none. absurd (none _ _ is);
      read_fault = c.feed.ensures.read_fault;
      sink_fault = c.feed.ensures.sink_fault;
      link_fault = λ e. absurd (c.feed.ensures.links_work e);
      disk_fault = λ e. absurd (not_of_disk _ promise.ending promise.ended e);
      uncalled = λ none. refl;
    })

pub returns-in-Check : goal.returns-in-Check
returns-in-Check g c =
    let promise = c.check.ensures.promise (g.L.Links.report c.args.links.now) c.args.steps.now.forks in
    rw c.in-Check.is (λ words is. record {
      promise = promise;
      not_usage = not_usage _ promise.ending promise.ended;
      untouched = λ refused. (λ none. c.check.ensures.untouched (refusal_or_memory c.check.result refused), refl);
      memory = λ e none. c.check.ensures.untouched (out_of_memory c.check.result e);
      no_line = λ quiet none. c.check.ensures.no_line quiet;
      done = λ e none. c.check.ensures.no_line (done_has_no_line c.check.result e);
      read_fault = c.check.ensures.read_fault;
      sink_fault = λ e. inl (c.check.ensures.sink_fault e);
      link_fault = λ e. absurd (c.check.ensures.links_work e);
      disk_fault = λ e. absurd (not_of_disk _ promise.ending promise.ended e);
      uncalled = λ none. refl;
    })

pub returns-in-Replay : goal.returns-in-Replay
returns-in-Replay g c =
    let promise = c.replay.ensures.promise (g.L.Links.report c.args.links.now) in
    rw c.in-Replay.is (λ words is. record {
      promise = promise;
      not_usage = not_usage _ promise.ending promise.ended;
      untouched = λ refused. (λ none. c.replay.ensures.untouched refused, refl);
      memory = λ e none. absurd (none.0 _ _ is);
      no_line = λ quiet none. c.replay.ensures.no_line quiet;
      done = λ e none. c.replay.ensures.no_line (done_has_no_line c.replay.result e);
      read_fault = c.replay.ensures.read_fault;
      sink_fault = λ e. inl (c.replay.ensures.sink_fault e);
      link_fault = λ e. absurd (c.replay.ensures.links_work e);
      disk_fault = λ e. absurd (not_of_disk _ promise.ending promise.ended e);
      uncalled = λ none. refl;
    })

pub returns-in-Serve : goal.returns-in-Serve
returns-in-Serve g c =
    let promise = c.serve.ensures.promise in
    rw c.in-Serve.is (λ words is. record {
      promise = promise;
      not_usage = not_usage _ promise.ending promise.ended;
      untouched = λ refused. let kept = c.serve.ensures.untouched refused in (λ none. kept.0, kept.1);
      memory = λ e none. absurd (none.1 _ _ is);
      no_line = λ quiet none. c.serve.ensures.no_line quiet;
      done = λ e none. c.serve.ensures.no_line (done_has_no_line c.serve.result e);
      read_fault = c.serve.ensures.read_fault;
      sink_fault = λ e. inl (c.serve.ensures.sink_fault e);
      link_fault = c.serve.ensures.link_fault;
      disk_fault = λ e. absurd (not_of_disk _ promise.ending promise.ended e);
      uncalled = λ none. refl;
    })

pub returns-in-Load : goal.returns-in-Load
returns-in-Load g c =
    let promise = c.load.ensures.promise (g.L.Links.report c.args.links.now) in
    rw c.in-Load.is (λ words is. record {
      promise = promise;
      not_usage = not_usage _ promise.ending promise.ended;
      untouched = λ refused. (λ none. c.load.ensures.untouched (refusal_or_memory c.load.result refused), refl);
      memory = λ e none. c.load.ensures.untouched (out_of_memory c.load.result e);
      no_line = λ quiet none. c.load.ensures.no_line quiet;
      done = λ e none. c.load.ensures.no_line (done_has_no_line c.load.result e);
      read_fault = c.load.ensures.read_fault;
      sink_fault = λ e. inl (c.load.ensures.sink_fault e);
      link_fault = λ e. absurd (c.load.ensures.links_work e);
      disk_fault = λ e. absurd (not_of_disk _ promise.ending promise.ended e);
      uncalled = λ none. refl;
    })

pub returns-in-Graphite : goal.returns-in-Graphite
returns-in-Graphite g c =
    let promise =
    c.graphite.ensures.promise (g.L.Links.report c.args.links.now) (g.P.Patterns.report c.args.patterns.now)
    c.args.steps.now.forks in
    rw c.in-Graphite.is (λ words is. record {
      promise = promise;
      not_usage = not_usage_converting _ _ _ _ _ promise;
      untouched = λ refused. (λ none. c.graphite.ensures.untouched (refusal_or_memory c.graphite.result refused), refl);
      memory = λ e none. c.graphite.ensures.untouched (out_of_memory c.graphite.result e);
      no_line = λ quiet none. absurd (none.1 _ _ is);
      done = λ e none. c.graphite.ensures.no_line e;
      read_fault = c.graphite.ensures.read_fault;
      sink_fault = c.graphite.ensures.sink_fault;
      link_fault = λ e. absurd (c.graphite.ensures.links_work e);
      disk_fault = λ e. absurd (converting_not_of_disk _ _ _ _ _ promise e);
      uncalled = λ none. refl;
    })

pub returns-in-Test : goal.returns-in-Test
returns-in-Test g c =
    let promise = c.run_tests.ensures.promise (g.L.Links.report c.args.links.now) in
    rw c.in-Test.is (λ words is. record {
      promise = promise;
      not_usage = c.run_tests.ensures.not_usage;
      untouched = λ refused. (λ none. absurd (none _ _ is), refl);
      memory = λ e none. absurd (none.2 _ _ is);
      no_line = λ quiet none. c.run_tests.ensures.no_line quiet;
      done = λ e none. c.run_tests.ensures.no_line (done_has_no_line c.run_tests.result e);
      read_fault = c.run_tests.ensures.read_fault;
      sink_fault = λ e. inl (c.run_tests.ensures.sink_fault e);
      link_fault = λ e. absurd (c.run_tests.ensures.links_work e);
      disk_fault = λ e. absurd (tests.not_of_disk no_disk _ promise.ending promise.ended e);
      uncalled = λ none. refl;
    })

pub returns-in-Send : goal.returns-in-Send
returns-in-Send g c =
    let promise = c.send.ensures.promise (g.P.Patterns.report c.args.patterns.now) c.args.steps.now.forks in
    rw c.in-Send.is (λ words is. record {
      promise = promise;
      not_usage = c.send.ensures.not_usage;
      untouched =
          λ refused. (
            λ none. c.send.ensures.untouched (refusal_or_memory c.send.result refused),
            c.send.ensures.uncalled refused,
          );
      memory = λ e none. c.send.ensures.untouched (out_of_memory c.send.result e);
      no_line = λ quiet none. c.send.ensures.no_line quiet;
      done = λ e none. c.send.ensures.no_line (done_has_no_line c.send.result e);
      read_fault = c.send.ensures.read_fault;
      sink_fault = λ e. inl (c.send.ensures.sink_fault e);
      link_fault = c.send.ensures.link_fault;
      disk_fault = λ e. absurd (client.not_of_disk no_disk _ promise.ending promise.ended e);
      uncalled = λ none. refl;
    })

pub returns-in-Query : goal.returns-in-Query
returns-in-Query g c =
    let promise =
    c.query.ensures.promise (g.S.Store.report c.args.store.now) (g.P.Patterns.report c.args.patterns.now)
    c.args.steps.now.forks in
    rw c.in-Query.is (λ words is. record {
      promise = promise;
      not_usage = c.query.ensures.not_usage;
      untouched =
          λ refused. (
            λ none. c.query.ensures.untouched (refusal_or_memory c.query.result refused),
            c.query.ensures.uncalled refused,
          );
      memory = λ e none. c.query.ensures.untouched (out_of_memory c.query.result e);
      no_line = λ quiet none. c.query.ensures.no_line quiet;
      done = λ e none. c.query.ensures.no_line (done_has_no_line c.query.result e);
      read_fault = λ e. absurd (c.query.ensures.no_file e);
      sink_fault = λ e. inl (c.query.ensures.sink_fault e);
      link_fault = c.query.ensures.link_fault;
      disk_fault = λ e. absurd (client.not_of_disk no_disk _ promise.ending promise.ended e);
      uncalled = λ none. refl;
    })

pub returns-in-Record : goal.returns-in-Record
returns-in-Record g c =
    let promise = c.«record».ensures.promise in
    rw c.in-Record.is (λ words is. record {
      promise = promise;
      not_usage = c.«record».ensures.not_usage;
      untouched = λ refused. let kept = c.«record».ensures.untouched refused in (λ none. kept.0, kept.1);
      memory = λ e none. absurd (none.3 _ _ is);
      no_line = λ quiet none. c.«record».ensures.no_line quiet;
      done = λ e none. c.«record».ensures.no_line (done_has_no_line c.«record».result e);
      read_fault = c.«record».ensures.read_fault;
      sink_fault = λ e. inl (c.«record».ensures.sink_fault e);
      link_fault = c.«record».ensures.link_fault;
      disk_fault = c.«record».ensures.disk_fault;
      uncalled = λ none. absurd (none.0 _ _ is);
    })

pub returns-in-Resume : goal.returns-in-Resume
returns-in-Resume g c =
    let promise = c.resume.ensures.promise (g.S.Store.report c.args.store.now) in
    rw c.in-Resume.is (λ words is. record {
      promise = promise;
      not_usage = c.resume.ensures.not_usage;
      untouched = λ refused. let kept = c.resume.ensures.untouched refused in (λ none. kept.0, kept.1);
      memory = λ e none. absurd (none.4 _ is);
      no_line = λ quiet none. c.resume.ensures.no_line quiet;
      done = λ e none. c.resume.ensures.no_line (done_has_no_line c.resume.result e);
      read_fault = λ e. absurd (c.resume.ensures.no_file e);
      sink_fault = λ e. inl (c.resume.ensures.sink_fault e);
      link_fault = c.resume.ensures.link_fault;
      disk_fault = c.resume.ensures.disk_fault;
      uncalled = λ none. absurd (none.1 _ is);
    })
