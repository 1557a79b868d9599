use Rattle.std.proofs.Common.{sym, rules}
use Rattle.riemann_commands.proofs.program.run.Goals as goal

pub returns-in-Ok-clause-command : goal.returns-in-Ok-clause-command
returns-in-Ok-clause-command g c = rw c.in-Ok.is (λ none. rw (sym c.as_slice.ensures.value) c.riemann.ensures)

pub returns-in-Ok-clause-help_alone : goal.returns-in-Ok-clause-help_alone
returns-in-Ok-clause-help_alone g c =
    rw c.in-Ok.is (λ is. (search rules, search rules, search rules, search rules, search rules, search rules))

pub returns-in-Ok-clause-version_alone : goal.returns-in-Ok-clause-version_alone
returns-in-Ok-clause-version_alone g c =
    rw c.in-Ok.is (λ is. (search rules, search rules, search rules, search rules, search rules, search rules))
