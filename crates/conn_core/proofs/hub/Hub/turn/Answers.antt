use Rattle.std.proofs.Common.{◌∙◌, ◌-◌, true, false, List, [], replicate, Ok, Err, refl, subst}
use Rattle.std.proofs.lemmas.Result.{err_from_is_err_and}
use Rattle.ev_types.specs.declared.item.Notice.{Notice}
use Rattle.hub_link.specs.event_core.Core.{Represents, now_of}
use Rattle.hub_link.proofs.AddedLaws.{added_nothing, added_weaken}
use Rattle.ev_types.specs.Clock.{next_moment}
use Rattle.hub_link.specs.msg_replies.Arriving.{Arrives, reported}
use Rattle.notice_sink.specs.Lines.{lines_of}
use Rattle.ports.specs.Writing.{GotPrefix}
use Rattle.stream_meaning.specs.Arrivals.{Arrival, Elapsed}
use Rattle.conn_core.specs.Occurring.{OccursFrom}
use Rattle.conn_core.specs.Turning.{GotFirstLines, GotLines, TurnsFrom}
use Rattle.conn_core.specs.declared.hub.Hub.{Hub}
use Rattle.conn_core.proofs.KnownLaws.{opened_by}
use Rattle.conn_core.proofs.TurnLaws.{no_sink, passed_at, stopped_or_not, turn_is, turns_reported, turns_unfinished}
use Rattle.conn_core.proofs.TurnLaws.{turns_unpassed}
use Rattle.conn_core.proofs.hub.Hub.turn.Goals as goal

pub occur-requires-clause-opened : goal.occur-requires-clause-opened
occur-requires-clause-opened g c = opened_by (g.L.Links.report c.args.links.now).log c.args.turn c.requires.answered

pub returns-in_err-pass-clause-turns : goal.returns-in_err-pass-clause-turns
returns-in_err-pass-clause-turns g c =
    let p = err_from_is_err_and c.from_residual.result c.from_residual.ensures.1 in
    let hub = c.args.self.now in
    let hub' : Hub = record hub { core = c.pass.new.core; stopped = true } in
    let patterns = g.P.Patterns.report c.args.patterns.now in
    let text = g.O.Sink.report c.args.sink.now in
    rw p.1 (added_nothing (g.L.Links.report c.args.links.now)
    (TurnsFrom c.args.turn c.args.piece.now hub hub' patterns patterns c.args.steps.now.forks c.pass.new.steps.forks
    text text (Err p.0))
    (λ config steps follows. turns_unpassed c.args.turn c.args.piece.now hub config steps
    (turn_is c.args.turn.what c.requires.failed c.requires.memory) follows
    hub' patterns c.args.steps.now.forks c.pass.new.steps.forks text (Err p.0) refl (no_sink p.0 (Err p.0) refl p.2)))

pub returns-in_err-occur-clause-turns : goal.returns-in_err-occur-clause-turns
returns-in_err-occur-clause-turns g c =
    let p = err_from_is_err_and c.from_residual-in_err-occur.result c.from_residual-in_err-occur.ensures.1 in
    let hub = c.args.self.now in
    let one : Hub = record hub { core = c.pass.new.core; stopped = true } in
    let hub' = c.occur.new.self in
    let patterns = g.P.Patterns.report c.args.patterns.now in
    let patterns' = g.P.Patterns.report c.occur.new.patterns in
    let text = g.O.Sink.report c.args.sink.now in
    let forks = c.args.steps.now.forks in
    let forks' = c.occur.new.steps.forks in
    let middle = reported c.pass.new.notices c.pass.new.steps.forks in
    let after = reported c.occur.new.notices forks' in
    let failure = c.occur.result in
    rw p.1 (added_weaken (g.L.Links.report c.args.links.now) (g.L.Links.report c.occur.new.links)
    (OccursFrom c.args.turn.what c.args.piece.now one hub' patterns patterns' middle after
    (Err c.in_err-occur.field-0.0))
    (TurnsFrom c.args.turn c.args.piece.now hub hub' patterns patterns' forks forks' text text (Err p.0))
    (λ run occurs config steps follows.
    let is = turn_is c.args.turn.what c.requires.failed c.requires.memory in
    turns_unfinished c.args.turn c.args.piece.now hub config steps is follows one hub' patterns patterns' middle after
    forks forks' text (Err p.0) (Err c.in_err-occur.field-0.0) run refl (no_sink p.0 (Err p.0) refl p.2)
    (passed_at c.args.turn c.args.piece.now hub config steps is follows c.pass.new.core
    (reported c.fresh-notices.result forks) middle c.in_ok-pass.ensures.now c.in_ok-pass.ensures.arrives)
    occurs)
    c.in_err-occur.ensures.occurs)

pub returns-in_err-write_lines-clause-turns : goal.returns-in_err-write_lines-clause-turns
returns-in_err-write_lines-clause-turns g c =
    let p =
    err_from_is_err_and c.from_residual-in_err-write_lines.result c.from_residual-in_err-write_lines.ensures.1 in
    let hub = c.args.self.now in
    let one : Hub = record hub { core = c.pass.new.core; stopped = true } in
    let hub' = c.occur.new.self in
    let patterns = g.P.Patterns.report c.args.patterns.now in
    let patterns' = g.P.Patterns.report c.occur.new.patterns in
    let text = g.O.Sink.report c.args.sink.now in
    let text' = g.O.Sink.report c.write_lines.new.sink in
    let forks = c.args.steps.now.forks in
    let forks' = c.occur.new.steps.forks in
    let middle = reported c.pass.new.notices c.pass.new.steps.forks in
    let notices = c.occur.new.notices in
    let front =
    subst (λ (ns : List Notice). GotPrefix text.text (lines_of ns) text'.text) c.as_slice.ensures
    c.in_err-write_lines.ensures.prefix in
    let first_lines =
    subst (λ (ns : List Notice). GotFirstLines text ns text') c.as_slice.ensures
    c.in_err-write_lines.ensures.first_lines in
    let arrives = subst (λ (ns : List Notice). (arrivals : List Arrival) → Represents hub.core arrivals
    → Arrives hub.core c.pass.new.core arrivals
    (replicate (next_moment (now_of hub.core) c.args.turn.secs - now_of hub.core) Elapsed) (reported ns forks) middle)
    c.fresh-notices.ensures c.in_ok-pass.ensures.arrives in
    rw p.1 (added_weaken (g.L.Links.report c.args.links.now) (g.L.Links.report c.occur.new.links)
    (OccursFrom c.args.turn.what c.args.piece.now one hub' patterns patterns' middle (reported notices forks') (Ok tt))
    (TurnsFrom c.args.turn c.args.piece.now hub hub' patterns patterns' forks forks' text text' (Err p.0))
    (λ run occurs config steps follows.
    let is = turn_is c.args.turn.what c.requires.failed c.requires.memory in
    turns_reported c.args.turn c.args.piece.now hub config steps is follows one hub' hub' patterns patterns' middle
    notices forks forks' text text' (Err p.0) run arrives
    (passed_at c.args.turn c.args.piece.now hub config steps is follows c.pass.new.core (reported [] forks) middle
    c.in_ok-pass.ensures.now arrives)
    occurs (λ after at. at) tt front first_lines
    (λ is none. let same = p.2 in c.in_err-write_lines.ensures.some (cc) (c.as_slice.ensures ∙ none)))
    c.in_ok-occur.ensures.occurs)

pub returns-clause-turns : goal.returns-clause-turns
returns-clause-turns g c =
    let hub = c.args.self.now in
    let one : Hub = record hub { core = c.pass.new.core; stopped = true } in
    let two = c.occur.new.self in
    let hub' : Hub = record two { stopped = false } in
    let patterns = g.P.Patterns.report c.args.patterns.now in
    let patterns' = g.P.Patterns.report c.occur.new.patterns in
    let text = g.O.Sink.report c.args.sink.now in
    let text' = g.O.Sink.report c.write_lines.new.sink in
    let forks = c.args.steps.now.forks in
    let forks' = c.occur.new.steps.forks in
    let middle = reported c.pass.new.notices c.pass.new.steps.forks in
    let notices = c.occur.new.notices in
    let lines =
    subst (λ (ns : List Notice). GotLines text ns text') c.as_slice.ensures c.in_ok-write_lines.ensures.all in
    let arrives = subst (λ (ns : List Notice). (arrivals : List Arrival) → Represents hub.core arrivals
    → Arrives hub.core c.pass.new.core arrivals
    (replicate (next_moment (now_of hub.core) c.args.turn.secs - now_of hub.core) Elapsed) (reported ns forks) middle)
    c.fresh-notices.ensures c.in_ok-pass.ensures.arrives in
    added_weaken (g.L.Links.report c.args.links.now) (g.L.Links.report c.occur.new.links)
    (OccursFrom c.args.turn.what c.args.piece.now one two patterns patterns' middle (reported notices forks') (Ok tt))
    (TurnsFrom c.args.turn c.args.piece.now hub hub' patterns patterns' forks forks' text text' (Ok tt))
    (λ run occurs config steps follows.
    let is = turn_is c.args.turn.what c.requires.failed c.requires.memory in
    turns_reported c.args.turn c.args.piece.now hub config steps is follows one two hub' patterns patterns' middle
    notices forks forks' text text' (Ok tt) run arrives
    (passed_at c.args.turn c.args.piece.now hub config steps is follows c.pass.new.core (reported [] forks) middle
    c.in_ok-pass.ensures.now arrives)
    occurs (stopped_or_not two false config) lines tt tt (λ bad. absurd (cc bad)))
    c.in_ok-occur.ensures.occurs
