use Rattle.std.proofs.Common.{List, take, Ok, subst, sym, ◌∙◌}
use Rattle.std.proofs.lemmas.Result.{err_from_is_err_and}
use Rattle.std.specs.Prelude.{Option, Result}
use Rattle.ports.specs.declared.links.Want.{Want}
use Rattle.client_run.specs.Runs.{AddsRun}
use Rattle.client_run.specs.Taking.{AsksFor, DoesTurn, TakesTurn}
use Rattle.client_run.specs.declared.outcome.Outcome.{Outcome}
use Rattle.client_run.specs.declared.outcome.RunFault.{RunFault}
use Rattle.client_run.proofs.AskLaws.{done_as, turn_done}
use Rattle.client_run.proofs.turn.take_turn.Goals as goal

pub returns-in_err-outcome-clause-takes : goal.returns-in_err-outcome-clause-takes
returns-in_err-outcome-clause-takes g c =
    let before = g.L.Links.report c.args.links.now in
    let asked = g.L.Links.report c.ask.new.links in
    let after = g.L.Links.report c.turn-progress.new.links in
    let turn = c.in_ok-turn.turn in
    let buf = c.ask.new.buf in
    let came = c.turn-progress.result in
    let client = c.args.client.now in
    let client' = c.turn-progress.new.self in
    let p = err_from_is_err_and c.from_residual-in_err-outcome.result c.from_residual-in_err-outcome.ensures.1 in
    let asks =
    subst (λ (wants : List Want). AddsRun before asked (AsksFor wants buf (Ok turn))) c.wants.ensures
    c.in_ok-turn.ensures.asks in
    let does : AddsRun before after (DoesTurn client client' came) =
    turn_done before asked after client client' buf (take c.piece_len-count.result buf) turn came asks
    c.in_ok-turn.ensures.not_failed c.in_ok-turn.ensures.not_memory
    (c.piece_len-count.ensures.piece buf) c.turn-progress.ensures.turns in
    rw (p.1, p.2) (subst (λ (r : Result (Option Outcome) RunFault). AddsRun before after (TakesTurn client client' r))
    (sym c.answer_of.ensures ∙ c.in_err-outcome.was)
    (done_as before after client client' came does))

pub returns-clause-takes : goal.returns-clause-takes
returns-clause-takes g c =
    let before = g.L.Links.report c.args.links.now in
    let asked = g.L.Links.report c.ask.new.links in
    let after = g.L.Links.report c.turn-progress.new.links in
    let turn = c.in_ok-turn.turn in
    let buf = c.ask.new.buf in
    let came = c.turn-progress.result in
    let client = c.args.client.now in
    let client' = c.turn-progress.new.self in
    let asks =
    subst (λ (wants : List Want). AddsRun before asked (AsksFor wants buf (Ok turn))) c.wants.ensures
    c.in_ok-turn.ensures.asks in
    let does : AddsRun before after (DoesTurn client client' came) =
    turn_done before asked after client client' buf (take c.piece_len-count.result buf) turn came asks
    c.in_ok-turn.ensures.not_failed c.in_ok-turn.ensures.not_memory
    (c.piece_len-count.ensures.piece buf) c.turn-progress.ensures.turns in
    subst (λ (r : Result (Option Outcome) RunFault). AddsRun before after (TakesTurn client client' r))
    (sym c.answer_of.ensures ∙ c.in_ok-outcome.was)
    (done_as before after client client' came does)
