use Rattle.std.proofs.Common.{◌≡◌, ◌≤◌, Bool, take, count_by}
use Rattle.list_laws.specs.Asking.{AnswersBy}
use Rattle.list_laws.proofs.keep.count_where.Given as goal

abbrev pub invariant-loop-item : goal.invariant-loop-item
invariant-loop-item g l = record {
  bounded : l.count ≤ l.item-index;
  counted : (p : g.row.T.Denot → Bool) → AnswersBy g.F.Fn l.test p l.items
      → l.count ≡ count_by p (take l.item-index l.items);
}
