use Rattle.std.proofs.Common.{refl, true, false}
use Rattle.hub_run.proofs.TurnLaws.{done_into, never_rose}
use Rattle.hub_run.proofs.turn.do_turn.Goals as goal

pub returns-then-quiet-clause-does : goal.returns-then-quiet-clause-does
returns-then-quiet-clause-does g c =
    rw c.if-quiet.true (done_into _ _ _ _ _ _ _ _ _ _ _ _ _ _ _ true refl c.turn.ensures.turns)

pub returns-then-quiet-clause-fault : goal.returns-then-quiet-clause-fault
returns-then-quiet-clause-fault g c = λ is. absurd (never_rose (c.turn.ensures.fault is))

pub returns-clause-does : goal.returns-clause-does
returns-clause-does g c =
    rw c.if-quiet.false (done_into _ _ _ _ _ _ _ _ _ _ _ _ _ _ _ false (refl, refl) c.turn-2.ensures.turns)
