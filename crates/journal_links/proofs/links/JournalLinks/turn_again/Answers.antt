use Rattle.std.proofs.Common.{refl, ap, rules}
use Rattle.journal_links.specs.Steps.{next_again}
use Rattle.journal_links.proofs.GiveLaws.{gives_before}
use Rattle.ports.specs.declared.links.Turn.{Turn}
use Rattle.recorded_links.specs.Numbers.{first_after}
use Rattle.journal_links.proofs.links.JournalLinks.turn_again.Goals as goal

pub returns-clause-before : goal.returns-clause-before
returns-clause-before g c =
    gives_before (first_after c.args.self.now.recorded.last) c.args.self.now.replay.now.given
    c.args.self.now.replay.now.records c.next_turn-turn.result.what c.requires.some c.args.self.now.before
    (λ some entry later is. ap (λ (turn : Turn). turn.what)
    (let gives = (c.next_turn-turn.ensures.gives some entry later is).0 in gives.turn_is))

pub returns-clause-step : goal.returns-clause-step
returns-clause-step g c = λ wants. next_again (search rules) (record {
  unspent = search rules;
  begun = search rules;
  gives = c.next_turn-turn.ensures.gives;
  still = c.next_turn-turn.ensures.still;
  records = c.next_turn-turn.ensures.records;
  rests = record { inner = refl; kept = refl; faults = refl; sends = refl };
})
