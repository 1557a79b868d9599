-- Small plans whose keys are apart, and such as mix them.
use Rattle.std.specs.Prelude.{◌≡◌, ℕ, codes, true, false, List, [], ◌∷◌, filter, length, Option, Some, None}
use Rattle.ev_types.specs.declared.field.Field.{Field}
use Rattle.ev_types.specs.declared.field.Field.TheVariants.{Host, Service, State}
use Rattle.ev_types.specs.declared.settings.Expiry.{Expiry}
use Rattle.ev_types.specs.declared.settings.KeepKey.TheVariants.{Field as field}
use Rattle.ev_types.specs.declared.value.Value.{Value}
use Rattle.ev_types.specs.declared.value.Value.TheVariants.{Nil, Text}
use Rattle.stream_plan.specs.Tree.{Index, Sdo, With, By, Changed, Throttle, StreamTree, StreamTrees, none, also}
use Rattle.stream_meaning.specs.Arrivals.{Arrival, Post, notices_of}
use Rattle.stream_meaning.specs.Keys.{notice_has}
use Rattle.stream_meaning.specs.Small.{above, alone, noticed, a, b}
use Rattle.stream_meaning.specs.IndexExamples.{every, elapsed, fading}
use Rattle.key_laws.specs.Apart.{keys_apart}
use Rattle.key_laws.specs.Laws.{arrivals_of}

abbrev pub by_on : List Field → StreamTrees → StreamTrees
by_on fields below = alone (above (By fields None) below)

-- every event into the index, and a notice of it
abbrev pub indexed : StreamTrees
indexed = also (above Index none) (noticed "n")

abbrev pub setting_host : StreamTrees
setting_host = alone (above (With (record { field = Host; value = Text (codes "b") } ∷ [])) (noticed "n"))

abbrev pub setting_state : StreamTrees
setting_state = alone (above (With (record { field = State; value = Text (codes "b") } ∷ [])) (noticed "n"))

-- expired events keep their service alone
abbrev pub forgetting_host : Option Expiry
forgetting_host = Some (record { interval = 10; keep = field Service ∷ [] })

-- one event in ten seconds passes
abbrev pub throttled : StreamTrees
throttled = alone (above (Throttle 1 10) (noticed "n"))

-- a stream that keeps the last state, beside or above others
abbrev pub changing : StreamTrees → StreamTree
changing = above (Changed State (Some Nil))

pub record TestExamples : Type 0 where
  pub by_host : keys_apart (Host ∷ []) (by_on (Host ∷ []) throttled) (every 10) ≡ true
  pub by_both : keys_apart (Host ∷ Service ∷ []) (by_on (Host ∷ Service ∷ []) (alone (changing indexed))) (every 10)
      ≡ true
  pub host_by_both : keys_apart (Host ∷ []) (by_on (Service ∷ Host ∷ []) throttled) (every 10) ≡ true
  pub both_by_host : keys_apart (Host ∷ Service ∷ []) (by_on (Host ∷ []) throttled) (every 10) ≡ false
  pub without_by : keys_apart (Host ∷ []) indexed (every 10) ≡ true
  pub below_another : keys_apart (Host ∷ []) (also (above Index none) (alone (above Sdo (by_on (Host ∷ []) throttled))))
      (every 10) ≡ true
  pub sets_another : keys_apart (Host ∷ []) (by_on (Host ∷ []) setting_state) (every 10) ≡ true
  pub by_state : keys_apart (Host ∷ []) (by_on (State ∷ []) throttled) (every 10) ≡ false
  pub of_state : keys_apart (State ∷ []) (by_on (State ∷ []) throttled) (every 10) ≡ false
  pub sets_host : keys_apart (Host ∷ []) (by_on (Host ∷ []) setting_host) (every 10) ≡ false
  pub sets_host_outside : keys_apart (Host ∷ []) setting_host (every 10) ≡ false
  pub forgets_host : keys_apart (Host ∷ []) (by_on (Host ∷ []) indexed) forgetting_host ≡ false
  pub forgets_host_of_services : keys_apart (Service ∷ []) (by_on (Service ∷ []) indexed) forgetting_host ≡ true
  pub kept_above : keys_apart (Host ∷ []) (alone (changing (by_on (Host ∷ []) indexed))) (every 10) ≡ false
  pub kept_beside : keys_apart (Host ∷ []) (also (above (By (Host ∷ []) None) throttled) throttled) (every 10) ≡ false

-- how many notices have the host, and how many there are over the arrivals of the host alone
pub record Counts (plan : StreamTrees) (expiry : Option Expiry) (start : ℕ) (arrivals : List Arrival) (host : Value)
    (among own : ℕ) : Type 0 where
  pub all : length (filter (notice_has (Host ∷ []) (host ∷ [])) (notices_of plan expiry start arrivals)) ≡ among
  pub alone : length (notices_of plan expiry start (arrivals_of (Host ∷ []) (host ∷ []) arrivals)) ≡ own

-- an event of host "a" gives a notice of host "b" where a stream sets the host
abbrev pub SetHostMixes : Type 0
SetHostMixes = Counts (by_on (Host ∷ []) setting_host) (every 10) 100 (Post (a 100) ∷ []) (Text (codes "b")) 1 0

-- an expired event of host "a" comes again as one of no host where its host is not kept
abbrev pub ForgottenHostMixes : Type 0
ForgottenHostMixes = Counts (by_on (Host ∷ []) indexed) forgetting_host 100 (Post fading ∷ elapsed 10) Nil 1 0

-- an event of host "a" keeps one of host "b" from passing a stream beside the `by`
abbrev pub SharedStreamMixes : Type 0
SharedStreamMixes =
    Counts (also (above (By (Host ∷ []) None) throttled) throttled) (every 10) 100 (Post (a 100) ∷ Post (b 100) ∷ [])
    (Text (codes "b")) 1 2
