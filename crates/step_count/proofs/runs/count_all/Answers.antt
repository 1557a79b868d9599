use Rattle.std.proofs.Common.{◌≡◌, ◌+◌, count_by, take, arith, ap, ◌∙◌}
use Rattle.std.proofs.lemmas.List.Sums.{count_by_more_no, count_by_more_yes}
use Rattle.step_count.specs.declared.runs.Step.TheVariants.{Fork}
use Rattle.step_count.specs.Runs.{is_fork, is_entry}
use Rattle.step_count.proofs.CountLaws.{count_on, count_same}
use Rattle.step_count.proofs.runs.count_all.Goals as goal
use Rattle.step_count.proofs.runs.count_all.Goals.{in-Fork, in-Entry}

pub loop-step-preserved : goal.loop-step-preserved
loop-step-preserved g c =
    let steps = c.args.steps.now in
    let i = c.loop-step.step-index in
    let before = c.loop-step.invariant in
    let forks = g.G.Ledger.forks in
    let entries = g.G.Ledger.entries in
    let start = c.args.counted.now.ledger in
    let last = c.loop-step.counted.ledger in
    let next = c.match-step.counted in
    elim c.match-step.branch [
      | in-Fork w ↦
          let more : count_by is_fork (take (i + 1) steps) ≡ count_by is_fork (take i steps) + 1 =
          count_by_more_yes is_fork steps i Fork c.loop-step-test.true (ap is_fork w.in-Fork.is) in
          let same : count_by is_entry (take (i + 1) steps) ≡ count_by is_entry (take i steps) =
          count_by_more_no is_entry steps i Fork c.loop-step-test.true (ap is_entry w.in-Fork.is) in
          let counted = w.enter_fork.ensures in
          record {
            forks = ap (λ s. s.forks) w.counted-is ∙ omega (arith, counted.forks, before.forks, more);
            entries = ap (λ s. s.entries) w.counted-is ∙ omega (arith, counted.entries, before.entries, same);
            forks_reported =
                count_on (count_by is_fork (take i steps)) (count_by is_fork (take (i + 1) steps)) (forks start)
                (forks last) (forks next.ledger) more before.forks_reported
                (ap (λ s. forks s.ledger) w.counted-is ∙ counted.forks_reported);
            entries_reported =
                count_same (count_by is_entry (take i steps)) (count_by is_entry (take (i + 1) steps)) (entries start)
                (entries last) (entries next.ledger) same before.entries_reported
                (ap (λ s. entries s.ledger) w.counted-is ∙ counted.entries_reported);
          }
      | in-Entry w ↦
          let same : count_by is_fork (take (i + 1) steps) ≡ count_by is_fork (take i steps) =
          count_by_more_no is_fork steps i Fork c.loop-step-test.true (ap is_fork w.in-Entry.is) in
          let more : count_by is_entry (take (i + 1) steps) ≡ count_by is_entry (take i steps) + 1 =
          count_by_more_yes is_entry steps i Fork c.loop-step-test.true (ap is_entry w.in-Entry.is) in
          let counted = w.visit_entry.ensures in
          record {
            forks = ap (λ s. s.forks) w.counted-is ∙ omega (arith, counted.forks, before.forks, same);
            entries = ap (λ s. s.entries) w.counted-is ∙ omega (arith, counted.entries, before.entries, more);
            forks_reported =
                count_same (count_by is_fork (take i steps)) (count_by is_fork (take (i + 1) steps)) (forks start)
                (forks last) (forks next.ledger) same before.forks_reported
                (ap (λ s. forks s.ledger) w.counted-is ∙ counted.forks_reported);
            entries_reported =
                count_on (count_by is_entry (take i steps)) (count_by is_entry (take (i + 1) steps)) (entries start)
                (entries last) (entries next.ledger) more before.entries_reported
                (ap (λ s. entries s.ledger) w.counted-is ∙ counted.entries_reported);
          }
    ]
