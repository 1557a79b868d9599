use Rattle.std.proofs.Common.{◌≡◌, ◌+◌, ◌-◌, ℕ, List, ◌++◌, replicate, subst, arith}
use Rattle.std.specs.Prelude.{OnOk}
use Rattle.stream_meaning.specs.Arrivals.{Arrival, Elapsed}
use Rattle.event_core.specs.Core.{now_of}
use Rattle.stream_tests.specs.Playing.{Played}
use Rattle.stream_tests.proofs.PlayLaws.{played_more}
use Rattle.stream_tests.proofs.play.pass_part.Goals as goal

pub returns-clause-played : goal.returns-clause-played
returns-clause-played g c =
    let core = c.args.core.now in
    let notices = c.args.notices.now in
    let part = c.now.result + c.args.count - now_of core in
    let same : part ≡ c.args.count = omega (arith, c.now.ensures.value) in
    subst
    (λ (n : ℕ). OnOk c.advance.result
    ((arrivals : List Arrival) → Played core arrivals notices
    → Played c.advance.new.self (arrivals ++ replicate n Elapsed) c.advance.new.out))
    same
    (played_more (replicate part Elapsed) core c.advance.new.self notices c.advance.new.out c.args.steps.now
    c.advance.new.steps c.advance.result c.advance.ensures.receives)
