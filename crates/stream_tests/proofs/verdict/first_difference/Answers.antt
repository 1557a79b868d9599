use Rattle.std.proofs.Common.{◌≡◌, ◌+◌, ◌≤◌, ◌++◌, ℕ, drop, length, take, sym, subst, ◌∙◌, arith}
use Rattle.std.proofs.lemmas.Bool.{false≢true}
use Rattle.stream_tests.specs.Verdicts.{seen}
use Rattle.stream_tests.proofs.VerdictLaws.{stops, goes_on, goes_by, ends}
use Rattle.stream_tests.proofs.verdict.first_difference.Goals.{then-eq+else-not-is_at, else-eq}
use Rattle.stream_tests.proofs.verdict.first_difference.Goals as goal

pub returns-then-not-is_at : goal.returns-then-not-is_at
returns-then-not-is_at c =
    stops c.args.expect.now.name c.args.notices.now c.as_slice-items.result.now c.loop-notice.number
    c.loop-notice.notice-index c.loop-notice.invariant.0 c.loop-notice.invariant.1
    c.args.expect.now.items c.notice-item.result c.as_slice-items.ensures c.loop-notice-test.true c.notice-item.is
    (sym c.eq.ensures ∙ c.if-eq.true)
    (λ at. false≢true (sym c.if-not-is_at.true ∙ c.is_at.ensures.1 at))

pub loop-notice-preserved : goal.loop-notice-preserved
loop-notice-preserved c =
    elim c.if-eq.branch [
      | then-eq+else-not-is_at w ↦
          subst (λ (n : ℕ). (n ≤ length c.as_slice-items.result.now)
          × (seen c.args.expect.now.name c.args.notices.now
          ≡ take n c.as_slice-items.result.now
          ++ seen c.args.expect.now.name (drop (c.loop-notice.notice-index + 1) c.args.notices.now)))
          (sym w.number-is)
          (goes_on c.args.expect.now.name c.args.notices.now c.as_slice-items.result.now c.loop-notice.number
          c.loop-notice.notice-index c.loop-notice.invariant.0 c.loop-notice.invariant.1
          c.notice-item.result c.loop-notice-test.true c.notice-item.is (sym c.eq.ensures ∙ w.if-eq.true)
          (w.is_at.ensures.0 w.if-not-is_at.false))
      | else-eq w ↦
          subst (λ (n : ℕ). (n ≤ length c.as_slice-items.result.now)
          × (seen c.args.expect.now.name c.args.notices.now
          ≡ take n c.as_slice-items.result.now
          ++ seen c.args.expect.now.name (drop (c.loop-notice.notice-index + 1) c.args.notices.now)))
          (sym w.number-is)
          (goes_by c.args.expect.now.name c.args.notices.now c.as_slice-items.result.now c.loop-notice.number
          c.loop-notice.notice-index c.loop-notice.invariant.0 c.loop-notice.invariant.1
          c.notice-item.result c.loop-notice-test.true c.notice-item.is (sym c.eq.ensures ∙ w.if-eq.false))
    ]

pub returns-then-number-items : goal.returns-then-number-items
returns-then-number-items c =
    ends c.args.expect.now.name c.args.notices.now c.as_slice-items.result.now c.loop-notice.number
    c.loop-notice.notice-index c.loop-notice.invariant.0 c.loop-notice.invariant.1
    c.args.expect.now.items c.as_slice-items.ensures (omega arith) (omega arith)
