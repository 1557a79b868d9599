use Rattle.std.proofs.Common.{List, length, sym, ◌∙◌, ap, subst}
use Rattle.fork_by.specs.Labels.{AreSound, Label}
use Rattle.fork_by.proofs.LabelLaws.{sound_nothing}
use Rattle.fork_by.proofs.table.ForkTable.fresh.Goals as goal

pub returns-clause-table : goal.returns-clause-table
returns-clause-table g c = record {
  even = ap length c.new.ensures.items ∙ sym (ap (λ (ls : List Label). length ls) c.fresh.ensures);
  sound = subst AreSound (sym c.fresh.ensures) sound_nothing;
}
