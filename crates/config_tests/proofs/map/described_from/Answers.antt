use Rattle.std.proofs.Common.{sym, ◌∙◌}
use Rattle.config_tests.proofs.MapLaws.{described_more}
use Rattle.config_tests.proofs.map.described_from.Goals as goal

pub entries-preserved : goal.entries-preserved
entries-preserved c =
    sym (described_more _ _ _ _ _ _ _ _ _ c.in-Some.ensures.split c.in-Some-first.ensures.split c.in_ok-key.ensures
    c.in_ok-read_part.ensures)
    ∙ c.entries.invariant
