use Rattle.std.proofs.Common.{[], ◌∷◌, ◌++◌, subst, sym, ◌∙◌, ap, ℕ, filter}
use Rattle.ev_types.specs.Expiry.{is_expired}
use Rattle.index_log.specs.Live.{Reap}
use Rattle.live_index.specs.Index.{Represents}
use Rattle.stream_meaning.specs.Arrivals.{with_reap}
use Rattle.event_core.specs.Streams.{plan_of}
use Rattle.event_core.proofs.Arriving.{fed_back-moved}
use Rattle.event_core.proofs.Visits.{fed_back-part, fed_back-visited}
use Rattle.event_core.proofs.streams.IndexedStreams.reap.Goals as goal

pub returns-clause-moved : goal.returns-clause-moved
returns-clause-moved g c = λ state holds at.
    let held = c.args.self.now.index.events in
    let log =
    subst (λ (t : ℕ). Represents c.reap.new.self (state.log ++ Reap t ∷ [])) (sym at)
    (c.in_ok-reap.ensures.ok state.log holds.log) in
    fed_back-moved (plan_of c.args.self.now) c.stream_again.new.self c.args.keep.now c.args.now state held
    c.reap.new.out
    c.args.out.now c.args.steps.now.forks c.reap.new.steps.forks c.stream_again.new.out c.stream_again.new.steps.forks
    at holds.log.live
    (c.in_ok-reap.ensures.expired ∙ ap (λ es. es ++ filter (is_expired c.args.now) held) c.fresh-expired.ensures)
    c.in_ok-reap.ensures.forks
    (c.in_ok-stream_again.ensures.moved (with_reap state)
    (record { history = holds.history; log = log; outputs = holds.outputs }) at)

pub returns-clause-visited : goal.returns-clause-visited
returns-clause-visited g c = λ state holds at.
    let held = c.args.self.now.index.events in
    let log =
    subst (λ (t : ℕ). Represents c.reap.new.self (state.log ++ Reap t ∷ [])) (sym at)
    (c.in_ok-reap.ensures.ok state.log holds.log) in
    fed_back-visited (plan_of c.args.self.now) c.args.keep.now c.args.now state held c.reap.new.out
    c.args.steps.now.entries c.reap.new.steps.entries c.stream_again.new.steps.entries
    at holds.log.live
    (c.in_ok-reap.ensures.expired ∙ ap (λ es. es ++ filter (is_expired c.args.now) held) c.fresh-expired.ensures)
    c.reap.ensures.entries
    (c.stream_again.ensures.visited (with_reap state)
    (record { history = holds.history; log = log; outputs = holds.outputs }) at)

pub returns-in_err-stream_again-clause-visited : goal.returns-in_err-stream_again-clause-visited
returns-in_err-stream_again-clause-visited g c = λ state holds at.
    let held = c.args.self.now.index.events in
    let log =
    subst (λ (t : ℕ). Represents c.reap.new.self (state.log ++ Reap t ∷ [])) (sym at)
    (c.in_ok-reap.ensures.ok state.log holds.log) in
    fed_back-visited (plan_of c.args.self.now) c.args.keep.now c.args.now state held c.reap.new.out
    c.args.steps.now.entries c.reap.new.steps.entries c.stream_again.new.steps.entries
    at holds.log.live
    (c.in_ok-reap.ensures.expired ∙ ap (λ es. es ++ filter (is_expired c.args.now) held) c.fresh-expired.ensures)
    c.reap.ensures.entries
    (c.stream_again.ensures.visited (with_reap state)
    (record { history = holds.history; log = log; outputs = holds.outputs }) at)

pub returns-in_err-reap-clause-visited : goal.returns-in_err-reap-clause-visited
returns-in_err-reap-clause-visited g c = λ state holds at.
    fed_back-part (plan_of c.args.self.now) c.args.keep.now c.args.now state c.args.self.now.index.events
    c.args.steps.now.entries c.reap.new.steps.entries at holds.log.live c.reap.ensures.entries

pub returns-clause-began : goal.returns-clause-began
returns-clause-began g c = λ state holds at.
    let log =
    subst (λ (t : ℕ). Represents c.reap.new.self (state.log ++ Reap t ∷ [])) (sym at)
    (c.in_ok-reap.ensures.ok state.log holds.log) in
    c.stream_again.ensures.began (with_reap state)
    (record { history = holds.history; log = log; outputs = holds.outputs }) at
    ∙ c.reap.ensures.began

pub returns-in_err-stream_again-clause-began : goal.returns-in_err-stream_again-clause-began
returns-in_err-stream_again-clause-began g c = λ state holds at.
    let log =
    subst (λ (t : ℕ). Represents c.reap.new.self (state.log ++ Reap t ∷ [])) (sym at)
    (c.in_ok-reap.ensures.ok state.log holds.log) in
    c.stream_again.ensures.began (with_reap state)
    (record { history = holds.history; log = log; outputs = holds.outputs }) at
    ∙ c.reap.ensures.began
