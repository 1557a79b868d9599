use Rattle.ports.specs.Links.{send_entries}
use Rattle.msg_replies.proofs.AnswerLaws.{on_ok}
use Rattle.hub_link.specs.HubLink.{number_of}
use Rattle.hub_link.proofs.AddedLaws.{send_calls}
use Rattle.hub_link.proofs.SendLaws.{sends_answered, some_left, within_all}
use Rattle.hub_link.proofs.link.HubLink.send.Goals as goal

pub note-requires : goal.note-requires
note-requires g c =
    within_all c.front.result.now c.args.self.now.unsent c.send-answer.result c.front.ensures.prefix
    c.send-answer.ensures.within

pub returns-clause-sends : goal.returns-clause-sends
returns-clause-sends g c = record {
  run = send_entries (number_of c.args.self.now) c.front.result.now c.send-answer.result;
  grew = c.send-answer.ensures.adds;
  no_fault = c.send-answer.ensures.no_fault;
  calls = send_calls (number_of c.args.self.now) c.front.result.now c.send-answer.result;
  holds =
      sends_answered c.args.self.now c.note.new.self c.front.result.now c.send-answer.result c.requires
      c.front.ensures.prefix
      (c.front.ensures.some (some_left c.args.self.now c.requires)) c.send-answer.ensures.within
      c.note.ensures.represents;
}

pub returns-clause-less : goal.returns-clause-less
returns-clause-less g c =
    on_ok c.memory_left.result (λ other. c.note.ensures.less c.requires other) c.memory_left.ensures
