-- Laws of what arrivals come to.
use Rattle.std.specs.Prelude.{◌≡◌, ℕ, ◌+◌, List, [], ◌∷◌, ◌++◌, Option}
use Rattle.ev_types.specs.declared.settings.Expiry.{Expiry}
use Rattle.stream_plan.specs.Tree.{StreamTrees}
use Rattle.stream_meaning.specs.History.{begun, moment_of}
use Rattle.stream_meaning.specs.Arrivals.{Arrival, Elapsed, Post, state_from, state_after}

-- the state after two lists of arrivals is the state after the second, from that after the first
abbrev pub ArrivalsComeInOrder : Type 0
ArrivalsComeInOrder = (plan : StreamTrees) (expiry : Option Expiry) (start : ℕ) (first more : List Arrival) →
    state_after plan expiry start (first ++ more) ≡ state_from plan expiry more (state_after plan expiry start first)

-- how many seconds have passed
abbrev pub elapsed_in : List Arrival → ℕ
elapsed_in [] = 0
elapsed_in (Elapsed ∷ more) = elapsed_in more + 1
elapsed_in (Post event ∷ more) = elapsed_in more

-- a second for each that passed, and none for what is posted or comes again
pub record AreMoments (plan : StreamTrees) (expiry : Option Expiry) (start : ℕ) (arrivals : List Arrival) : Type 0 where
  pub begins : begun (state_after plan expiry start arrivals).history ≡ start
  pub ends : moment_of (state_after plan expiry start arrivals).history ≡ start + elapsed_in arrivals

abbrev pub ArrivalsAreMoments : Type 0
ArrivalsAreMoments =
    (plan : StreamTrees) (expiry : Option Expiry) (start : ℕ) (arrivals : List Arrival)
    → AreMoments plan expiry start arrivals
