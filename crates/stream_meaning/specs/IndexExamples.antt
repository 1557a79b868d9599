-- Small plans with an index, and what becomes of events that expire.
use Rattle.std.specs.Prelude.{◌≡◌, ℕ, zero, suc, pos, codes, List, [], ◌∷◌, Option, Some}
use Prim.Native.String.{String}
use Rattle.ev_types.specs.declared.event.Event.{Event}
use Rattle.ev_types.specs.declared.field.Field.TheVariants.{Host, Service, State, Ttl}
use Rattle.ev_types.specs.declared.item.Item.TheVariants.{One}
use Rattle.ev_types.specs.declared.settings.Expiry.{Expiry}
use Rattle.ev_types.specs.declared.settings.KeepKey.TheVariants.{Field as field}
use Rattle.ev_types.specs.declared.value.Value.TheVariants.{Number, Text}
use Rattle.index_log.specs.Live.{live_events}
use Rattle.pred_eval.specs.Tree.{Equal, Not}
use Rattle.stream_plan.specs.Tree.{Index, Where, With, Default, StreamTrees, none, also}
use Rattle.stream_meaning.specs.Arrivals.{Arrival, Elapsed, Post, state_after, notices_of}
use Rattle.stream_meaning.specs.Small.{bare, above, alone, noticed, given}

abbrev pub notices_of_expired : String → StreamTrees
notices_of_expired name = alone (above (Where (Equal State (Text (codes "expired")))) (noticed name))

-- an index looks for expired events every `interval` seconds, and they keep their hosts and services
abbrev pub every : ℕ → Option Expiry
every interval = Some (record { interval = interval; keep = field Host ∷ field Service ∷ [] })

abbrev pub elapsed : ℕ → List Arrival
elapsed zero = []
elapsed (suc n) = Elapsed ∷ elapsed n

-- an event in this state, of this service and host
abbrev pub in_state : String → String → String → ℕ → Event
in_state state service host time =
    record (bare time) { state = Some (codes state); service = Some (codes service); host = Some (codes host) }

-- an event of no state at 100, which is expired from 106 on
abbrev pub fading : Event
fading = record (bare 100) { service = Some (codes "b"); host = Some (codes "a"); ttl = Some 5 }

abbrev pub plain_and_expired : StreamTrees
plain_and_expired = also (above Index none) (notices_of_expired "gone")

-- an event that has expired is live until the index looks for it, and then comes again
abbrev pub ReapExample : Type 0
ReapExample =
    notices_of plain_and_expired (every 10) 100 (Post fading ∷ elapsed 10)
    ≡ given "gone" 110 (One (in_state "expired" "b" "a" 110)) ∷ []

abbrev pub LiveBeforeReapExample : Type 0
LiveBeforeReapExample =
    live_events (state_after plain_and_expired (every 10) 100 (Post fading ∷ elapsed 6)).log ≡ fading ∷ []

abbrev pub LiveAfterReapExample : Type 0
LiveAfterReapExample = live_events (state_after plain_and_expired (every 10) 100 (Post fading ∷ elapsed 10)).log ≡ []

-- what has expired comes again once, also where it is not written anew
abbrev pub ReapedOnceExample : Type 0
ReapedOnceExample =
    notices_of
    (also (above (Where (Not (Equal State (Text (codes "expired"))))) (alone (above Index none)))
    (notices_of_expired "gone")) (every 10) 100 (Post fading ∷ elapsed 20)
    ≡ given "gone" 110 (One (in_state "expired" "b" "a" 110)) ∷ []

-- streams may give an event that has expired another state, and it is live again
abbrev pub RevivedExample : Type 0
RevivedExample =
    live_events (state_after
    (alone (above (With (record { field = State; value = Text (codes "ok") } ∷ [])) (alone (above Index none))))
    (every 10) 100
    (Post fading ∷ elapsed 10)).log
    ≡ in_state "ok" "b" "a" 110 ∷ []

-- a plan of an operator: events without a ttl get one of a minute; each that expires gives a notice, by host and
-- service
abbrev pub DefaultedExample : Type 0
DefaultedExample =
    let lasting =
    λ (time : ℕ) (service host : String). record (in_state "expired" service host time) { ttl = Some 60 } in
    notices_of
    (alone
    (above (Default (record { field = Ttl; value = Number (pos 60) } ∷ []))
    (also (above Index none) (notices_of_expired "expired")))) (every 5) 1000
    (Post (in_state "ok" "cpu" "a" 1000) ∷ Post (in_state "critical" "mem" "a" 1000)
    ∷ Post (in_state "critical" "cpu" "b" 1000) ∷ elapsed 65)
    ≡ given "expired" 1065 (One (lasting 1065 "cpu" "a")) ∷ given "expired" 1065 (One (lasting 1065 "mem" "a"))
    ∷ given "expired" 1065 (One (lasting 1065 "cpu" "b")) ∷ []
