use Rattle.std.proofs.Common.{sym, ◌∙◌}
use Rattle.config_terms.specs.Words.{init_text}
use Rattle.config_terms.proofs.EntryLaws.{entry_more}
use Rattle.config_terms.proofs.lists.init_from.Goals as goal

pub entries-preserved : goal.entries-preserved
entries-preserved c =
    sym (entry_more init_text _ _ _ _ _ _ _ _ _ _ _ c.in-Some.ensures.split c.in-Some-first.ensures.split
    c.is_some.ensures c.in_ok-only_key_at.ensures c.in_ok-value_at.ensures)
    ∙ c.entries.invariant
