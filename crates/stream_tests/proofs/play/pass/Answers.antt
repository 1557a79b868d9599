use Rattle.std.proofs.Common.{◌≡◌, ◌+◌, ◌-◌, ℕ, ◌++◌, replicate, subst, ◌∙◌, arith}
use Rattle.stream_meaning.specs.Arrivals.{Elapsed}
use Rattle.stream_tests.specs.Playing.{Played}
use Rattle.stream_tests.proofs.PlayLaws.{seconds_then}
use Rattle.stream_tests.proofs.play.pass.Goals as goal

pub seconds-preserved : goal.seconds-preserved
seconds-preserved g c =
    let part = c.min-part.result in
    let rest = c.args.count - c.seconds.left in
    let longer : rest + part ≡ c.args.count - (c.seconds.left - part) =
    omega (arith, c.min-part.ensures, c.seconds.invariant.fewer) in
    record {
      config = c.in_ok-pass_part.ensures.config ∙ c.seconds.invariant.config;
      fewer = omega (arith, c.seconds.invariant.fewer);
      now = omega (arith, c.min-part.ensures, c.in_ok-pass_part.ensures.now, c.seconds.invariant.now);
      played = λ arrivals played.
          let first = c.seconds.invariant.played arrivals played in
          let second = c.in_ok-pass_part.ensures.played (arrivals ++ replicate rest Elapsed) first in
          subst (λ (n : ℕ). Played c.pass_part.new.core (arrivals ++ replicate n Elapsed) c.pass_part.new.notices)
          longer
          (seconds_then c.pass_part.new.core arrivals c.pass_part.new.notices rest part second);
    }
