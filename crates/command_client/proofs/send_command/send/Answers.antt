use Rattle.std.proofs.Common.{refl}
use Rattle.command_client.proofs.ExchangeLaws.{is_links_failed, is_write_failed, not_usage}
use Rattle.command_client.proofs.SendLaws.{file_put_rose, file_shown}
use Rattle.command_client.proofs.send_command.send.Goals as goal

pub returns-clause-promise : goal.returns-clause-promise
returns-clause-promise g c = λ patterns forks. record {
  ending = c.send_file-ending.result;
  ended = c.report_ending.ensures.status;
  says = c.report_ending.ensures.says;
  ends = c.send_file-ending.ensures.ends;
  reads = c.send_file-ending.ensures.reads;
  quiet = c.send_file-ending.ensures.quiet;
  works = c.send_file-ending.ensures.links_quiet;
  idle = (refl, refl);
  complete = λ frames holds fits read_still links_still out_still.
      rw c.report_ending.ensures.status
      (file_shown c.args.address.now c.args.file.now c.args.turns (g.S.Store.report c.args.store.now)
      (g.S.Store.report c.send_file-ending.new.store) (g.L.Links.report c.args.links.now)
      (g.L.Links.report c.send_file-ending.new.links) (g.O.Sink.report c.args.out.now)
      (g.O.Sink.report c.send_file-ending.new.out) c.send_file-ending.result c.send_file-ending.ensures.ends
      c.send_file-ending.ensures.link_fault frames holds fits read_still links_still out_still);
}

pub returns-clause-link_fault : goal.returns-clause-link_fault
returns-clause-link_fault g c =
    λ e. c.send_file-ending.ensures.link_fault
    (is_links_failed c.send_file-ending.result (rw c.report_ending.ensures.status at e))

pub returns-clause-read_fault : goal.returns-clause-read_fault
returns-clause-read_fault g c = λ e. c.send_file-ending.ensures.read_fault (rw c.report_ending.ensures.status at e)

pub returns-clause-sink_fault : goal.returns-clause-sink_fault
returns-clause-sink_fault g c = λ e.
    file_put_rose c.args.address.now c.args.file.now c.args.turns (g.S.Store.report c.args.store.now)
    (g.S.Store.report c.send_file-ending.new.store) (g.L.Links.report c.args.links.now)
    (g.L.Links.report c.send_file-ending.new.links) (g.O.Sink.report c.args.out.now)
    (g.O.Sink.report c.send_file-ending.new.out) c.send_file-ending.result c.send_file-ending.ensures.ends
    (is_write_failed c.send_file-ending.result (rw c.report_ending.ensures.status at e))

pub returns-clause-not_usage : goal.returns-clause-not_usage
returns-clause-not_usage g c = λ e. not_usage c.send_file-ending.result (rw c.report_ending.ensures.status at e)
