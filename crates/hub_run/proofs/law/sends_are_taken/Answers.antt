use Rattle.std.proofs.Common.{List, sym, ◌∙◌, ap, subst}
use Rattle.conn_core.specs.hub_meaning.Runs.{first_state, state_after}
use Rattle.hub_run.specs.Taken.{steps_of}
use Rattle.list_laws.specs.Prefix.{IsPrefix}
use Rattle.ports.specs.Playing.{bytes_taken}
use Rattle.ports.specs.declared.entry.Entry.{Entry}
use Rattle.hub_run.specs.TakenBytes.{replies_on}
use Rattle.hub_run.proofs.EntryLaws.{steps_entries}
use Rattle.hub_run.proofs.FeedLaws.{prefix_from}
use Rattle.hub_run.proofs.PrefixLaws.{taken_from}
use Rattle.hub_run.proofs.law.sends_are_taken.Goals as goal

pub returns-clause-sent : goal.returns-clause-sent
returns-clause-sent c config turns number legal =
    ap (bytes_taken number) (sym (steps_entries turns))
    ∙ sym (taken_from config number (steps_of turns) (first_state config) legal)

pub returns-clause-prefix : goal.returns-clause-prefix
returns-clause-prefix c config turns number legal =
    subst
    (λ (entries : List Entry).
    IsPrefix (bytes_taken number entries) (replies_on number (state_after config (steps_of turns)).links))
    (steps_entries turns)
    (prefix_from config number (steps_of turns) legal)
