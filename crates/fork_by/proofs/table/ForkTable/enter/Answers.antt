use Rattle.std.proofs.Common.{ℕ, get_or, refl, ◌∙◌, ap}
use Rattle.fork_by.proofs.TableLaws.{placed_fork}
use Rattle.fork_by.proofs.KeptForkLaws.{kept-lent}
use Rattle.fork_by.proofs.table.ForkTable.enter.Goals as goal

pub returns : goal.returns
returns g c = (
  (refl, λ w. ap (λ (i : ℕ). placed_fork c.args.self.now i w) c.index-place.ensures),
  record {
    writes_back = tt;
    value =
        c.index_mut.ensures.value
        ∙ ap (λ (i : ℕ). get_or c.args.self.now.forks.items i c.index_mut.result.now) c.index-place.ensures;
    kept = λ table. kept-lent c.args.self.now table c.args.number c.index_mut.result.now
        (c.index_mut.ensures.value
        ∙ ap (λ (i : ℕ). get_or c.args.self.now.forks.items i c.index_mut.result.now) c.index-place.ensures);
    forks = c.enter_fork.ensures.forks;
    entries = c.enter_fork.ensures.entries;
    began = c.enter_fork.ensures.began;
  },
)
