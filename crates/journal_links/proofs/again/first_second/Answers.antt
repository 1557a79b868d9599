use Rattle.std.proofs.Common.{◌≡◌, ℕ, drop, subst}
use Rattle.journal_links.specs.Replaying.{GivesListen}
use Rattle.journal_links.proofs.again.first_second.Goals as goal

pub returns-in-Ok-clause-gives : goal.returns-in-Ok-clause-gives
returns-in-Ok-clause-gives c = λ secs entry later is at.
    let same : c.in-Ok.secs ≡ secs = cc in
    subst (λ (second : ℕ). GivesListen entry later second c.give_listen.new.self.left.items
    (drop c.give_listen.new.self.given c.give_listen.new.self.records)) same
    (c.in-Ok.ensures.gives entry later at)
