use Rattle.std.proofs.Common.{◌≡◌, ◌≤◌, Bool, take, count_by}
use Rattle.list_laws.specs.Asking.{AnswersBy}
use Rattle.list_laws.proofs.keep.keep_where.Given as goal

abbrev pub invariant-loop-place : goal.invariant-loop-place
invariant-loop-place g l = record {
  bounded : l.before ≤ l.nth;
  counted : (p : g.row.T.Denot → Bool) → AnswersBy g.F.Fn l.test p l.items
      → l.before ≡ count_by p (take l.place l.items);
}
