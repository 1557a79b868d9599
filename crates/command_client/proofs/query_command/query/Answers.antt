use Rattle.std.proofs.Common.{refl}
use Rattle.command_client.proofs.ExchangeLaws.{asked_put_rose, asked_shown, is_links_failed, is_write_failed, not_usage}
use Rattle.command_client.proofs.query_command.query.Goals as goal

pub returns-clause-promise : goal.returns-clause-promise
returns-clause-promise g c = λ store patterns forks. record {
  ending = c.ask-ending.result;
  ended = c.report_ending.ensures.status;
  says = c.report_ending.ensures.says;
  one = c.queries_are_requests.ensures c.args.text.now c.requires;
  ends = c.ask-ending.ensures.ends;
  works = c.ask-ending.ensures.links_quiet;
  idle = (refl, refl, refl);
  complete = λ links_still out_still.
      rw c.report_ending.ensures.status
      (asked_shown c.args.address.now c.args.text.now c.args.turns (g.L.Links.report c.args.links.now)
      (g.L.Links.report c.ask-ending.new.links) (g.O.Sink.report c.args.out.now) (g.O.Sink.report c.ask-ending.new.out)
      c.ask-ending.result c.ask-ending.ensures.ends c.ask-ending.ensures.link_fault links_still out_still);
}

pub returns-clause-link_fault : goal.returns-clause-link_fault
returns-clause-link_fault g c =
    λ e. c.ask-ending.ensures.link_fault (is_links_failed c.ask-ending.result (rw c.report_ending.ensures.status at e))

pub returns-clause-sink_fault : goal.returns-clause-sink_fault
returns-clause-sink_fault g c = λ e.
    asked_put_rose c.args.address.now c.args.text.now c.args.turns (g.L.Links.report c.args.links.now)
    (g.L.Links.report c.ask-ending.new.links) (g.O.Sink.report c.args.out.now)
    (g.O.Sink.report c.ask-ending.new.out) c.ask-ending.result c.ask-ending.ensures.ends
    (is_write_failed c.ask-ending.result (rw c.report_ending.ensures.status at e))

pub returns-clause-not_usage : goal.returns-clause-not_usage
returns-clause-not_usage g c = λ e. not_usage c.ask-ending.result (rw c.report_ending.ensures.status at e)
