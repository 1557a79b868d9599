-- Moments over arrivals.
use Rattle.std.proofs.Common.{◌≡◌, ℕ, ◌+◌, ◌-◌, ◌%◌, ◌==◌, Bool, true, false, cond, List, [], ◌∷◌, ◌++◌, Option, Some}
use Rattle.std.proofs.Common.{None, refl, ◌∙◌, arith}
use Rattle.ev_types.specs.declared.event.Event.{Event}
use Rattle.ev_types.specs.declared.item.Item.TheVariants.{One}
use Rattle.ev_types.specs.declared.settings.Expiry.{Expiry}
use Rattle.ev_types.specs.declared.settings.KeepKey.{KeepKey}
use Rattle.stream_plan.specs.Tree.{StreamTrees}
use Rattle.stream_meaning.specs.History.{since, Tick, In, begun, moment_of}
use Rattle.stream_meaning.specs.Arrivals.{Arrival, Elapsed, Post, CoreState, entered, streamed, expired_copies}
use Rattle.stream_meaning.specs.Arrivals.{with_reap, fed_back, swept, arrived, state_from}
use Rattle.stream_meaning.specs.Laws.{SameMoments}
use Rattle.stream_meaning.specs.ArrivalLaws.{ArrivalsComeInOrder, elapsed_in, ArrivalsAreMoments}

pub from-append : (plan : StreamTrees) (expiry : Option Expiry) (first more : List Arrival) (state : CoreState) →
    state_from plan expiry (first ++ more) state ≡ state_from plan expiry more (state_from plan expiry first state)
from-append plan expiry [] more state = refl
from-append plan expiry (arrival ∷ first) more state =
    from-append plan expiry first more (arrived plan expiry arrival state)

pub arrivals_in_order : ArrivalsComeInOrder
arrivals_in_order plan expiry start first more =
    from-append plan expiry first more (record { history = since start; log = [] })

pub streamed-moments : (plan : StreamTrees) (es : List Event) (state : CoreState)
    → SameMoments (streamed plan es state).history state.history
streamed-moments plan [] state = record { begins = refl; ends = refl }
streamed-moments plan (event ∷ es) state =
    let later = streamed-moments plan es (entered plan (In (One event)) state) in
    record { begins = later.begins; ends = later.ends }

fed_back-moments : (plan : StreamTrees) (keep : List KeepKey) (state : CoreState)
    → SameMoments (fed_back plan keep state).history state.history
fed_back-moments plan keep state = streamed-moments plan (expired_copies keep state) (with_reap state)

either-moments : (t : Bool) (a b c : CoreState) → SameMoments a.history c.history → SameMoments b.history c.history
    → SameMoments (cond t a b).history c.history
either-moments true a b c p q = p
either-moments false a b c p q = q

pub swept-moments : (plan : StreamTrees) (expiry : Option Expiry) (state : CoreState)
    → SameMoments (swept plan expiry state).history state.history
swept-moments plan None state = record { begins = refl; ends = refl }
swept-moments plan (Some expiry) state =
    either-moments ((moment_of state.history - begun state.history) % expiry.interval == 0)
    (fed_back plan expiry.keep state) state state (fed_back-moments plan expiry.keep state)
    (record { begins = refl; ends = refl })

record Moments (state : CoreState) (start now : ℕ) : Type 0 where
  begins : begun state.history ≡ start
  ends : moment_of state.history ≡ now

from-moments : (plan : StreamTrees) (expiry : Option Expiry) (arrivals : List Arrival) (state : CoreState) →
    Moments (state_from plan expiry arrivals state) (begun state.history)
    (moment_of state.history + elapsed_in arrivals)
from-moments plan expiry [] state = record { begins = refl; ends = omega arith }
from-moments plan expiry (Elapsed ∷ more) state =
    let ticked = entered plan Tick state in
    let here = swept-moments plan expiry ticked in
    let later = from-moments plan expiry more (swept plan expiry ticked) in
    let m : moment_of (swept plan expiry ticked).history ≡ moment_of state.history + 1 = here.ends in
    record {
      begins = later.begins ∙ here.begins;
      ends =
          later.ends
          ∙ (let sum : moment_of (swept plan expiry ticked).history + elapsed_in more
          ≡ moment_of state.history + (elapsed_in more + 1) =
          omega arith in
          sum);
    }
from-moments plan expiry (Post event ∷ more) state =
    let later = from-moments plan expiry more (entered plan (In (One event)) state) in
    record { begins = later.begins; ends = later.ends }

pub arrivals_are_moments : ArrivalsAreMoments
arrivals_are_moments plan expiry start arrivals =
    let all = from-moments plan expiry arrivals (record { history = since start; log = [] }) in
    record { begins = all.begins; ends = all.ends }
