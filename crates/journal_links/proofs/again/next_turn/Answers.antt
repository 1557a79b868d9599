use Rattle.std.proofs.Common.{ap}
use Rattle.ports.specs.declared.links.Turn.{Turn}
use Rattle.journal_links.specs.Reading.{has_event}
use Rattle.journal_links.proofs.GiveLaws.{gives_turn}
use Rattle.journal_links.proofs.again.next_turn.Goals as goal

pub returns-in-Ok-clause-still : goal.returns-in-Ok-clause-still
returns-in-Ok-clause-still c = λ memory.
    let kind = gives_turn has_event c.args.replay.now.given c.args.replay.now.records c.in-Ok.turn.what c.requires.some
    c.args.replay.now.events
    (λ entry later is. ap (λ (turn : Turn). turn.what) (let gives = (c.in-Ok.ensures.gives entry later is).0 in
    gives.turn_is)) in
    absurd (cc (memory, kind.0))

pub returns-in-Ok-clause-unfailed : goal.returns-in-Ok-clause-unfailed
returns-in-Ok-clause-unfailed c =
    let kind = gives_turn has_event c.args.replay.now.given c.args.replay.now.records c.in-Ok.turn.what c.requires.some
    c.args.replay.now.events
    (λ entry later is. ap (λ (turn : Turn). turn.what) (let gives = (c.in-Ok.ensures.gives entry later is).0 in
    gives.turn_is)) in
    kind.1
