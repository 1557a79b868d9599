use Rattle.std.proofs.Common.{ℕ, List, length, subst}
use Rattle.ports.specs.Links.{IsWithin, send_entries}
use Rattle.riemann_client.proofs.SendLaws.{sends_answered}
use Rattle.riemann_client.proofs.client.Client.send.Goals as goal

pub returns-clause-sends : goal.returns-clause-sends
returns-clause-sends g c = record {
  run = send_entries c.args.link c.unsent.result.now c.send-answer.result;
  grew = c.send-answer.ensures.adds;
  no_fault = c.send-answer.ensures.no_fault;
  holds =
      sends_answered c.args.self.now c.note.new.self c.args.link c.send-answer.result c.unsent.result.now
      c.unsent.ensures c.requires.may
      (subst (λ (bytes : List ℕ). IsWithin (length bytes) c.send-answer.result) c.unsent.ensures
      c.send-answer.ensures.within)
      c.note.ensures;
}
