use Rattle.client_run.specs.declared.outcome.RunFault.TheVariants as fault
use Rattle.command_client.proofs.ExchangeLaws.{exchange_cut, exchange_had}
use Rattle.command_client.proofs.exchange.have_exchange.Goals as goal

pub returns-in-Ok-clause-ends : goal.returns-in-Ok-clause-ends
returns-in-Ok-clause-ends g c =
    exchange_had c.args.address.now c.args.frames c.args.turns c.args.requests (g.L.Links.report c.args.links.now)
    (g.L.Links.report c.exchange.new.links) (g.O.Sink.report c.args.out.now)
    (g.O.Sink.report c.write_replies.new.out) c.write_replies.result c.in-Ok.exchanged c.requires c.in-Ok.ensures.runs
    c.write_replies.ensures.writes

pub returns-in-Err-Links-clause-ends : goal.returns-in-Err-Links-clause-ends
returns-in-Err-Links-clause-ends g c =
    exchange_cut c.args.address.now c.args.frames c.args.turns _ _ _ fault.Links
    (rw c.in-Err-Links.field-0-is at c.in-Err-Links.ensures.runs)

pub returns-in-Err-Memory-clause-ends : goal.returns-in-Err-Memory-clause-ends
returns-in-Err-Memory-clause-ends g c =
    exchange_cut c.args.address.now c.args.frames c.args.turns _ _ _ fault.Memory
    (rw c.in-Err-Memory.field-0-is at c.in-Err-Memory.ensures.runs)
