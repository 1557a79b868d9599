-- How many bytes events add to a reply.
use Rattle.std.proofs.Common.{◌≡◌, ℕ, ◌+◌, ◌<◌, Bool, false, cond, List, [], ◌∷◌, filter, take, length}
use Rattle.std.proofs.Common.{get_or, Option, Some, IfSome, refl, sym, ap, ◌∙◌, subst, arith}
use Rattle.std.specs.Prelude.{Result, Ok, Err, IfOk}
use Rattle.ev_types.specs.declared.event.Event.{Event}
use Rattle.key_map.specs.Keys.{Numbers}
use Rattle.pred_eval.specs.Tree.{Tree, Always}
use Rattle.pred_eval.specs.Truth.{holds}
use Rattle.stored_event.proofs.ReplyLengths.{both_len, empty_len}
use Rattle.live_index.specs.Index.{Index, reply_len}
use Rattle.live_index.specs.Slots.{IsStored, events_at, events_in, events_unless}
use Rattle.live_index.proofs.CopyLaws.{found-more}
use Rattle.live_index.proofs.SlotsLaws.{not_poisoned}

-- an event that does not pass a test
pub not_met : (met : Bool) (event : Event) → met ≡ false → 2 ≡ reply_len (cond met (event ∷ []) [])
not_met met event is = rw is (sym empty_len)

-- one more number is visited: its event is measured, and counts where it passes
pub measured_on : (p p' : Event → Bool) (table table' : List (Option Event)) (ns : List ℕ) (i len more : ℕ)
    → p' ≡ p → table' ≡ table → len ≡ reply_len (filter p (events_at table (take i ns)))
    → 2 + more ≡ reply_len (filter p' (events_at table' (get_or ns i 0 ∷ []))) → i < length ns
    → len + more ≡ reply_len (filter p (events_at table (take (i + 1) ns)))
measured_on p p' table table' ns i len more same still before now lt =
    let next = get_or ns i 0 ∷ [] in
    let now' : 2 + more ≡ reply_len (filter p (events_at table next)) =
    now ∙ ap (λ p. reply_len (filter p (events_at table' next))) same
    ∙ ap (λ table. reply_len (filter p (events_at table next))) still in
    omega (
      arith,
      before,
      now',
      both_len (filter p (events_at table (take i ns))) (filter p (events_at table next)),
      ap reply_len (found-more p table ns i lt),
    )

-- every event meets the rule
pub all_met : (rule : Tree) (events : List Event) → rule ≡ Always → filter (holds rule) events ≡ events
all_met rule events is = ap (λ rule. filter (holds rule) events) is ∙ met events
  where
    met : (events : List Event) → filter (holds Always) events ≡ events
    met [] = refl
    met (event ∷ events) = ap (λ more. event ∷ more) (met events)

-- a length that is kept is that of a reply with the events that meet such a rule
pub kept_len : (kept : Option ℕ) (len : ℕ) (events events' : List Event) (rule : Tree) → rule ≡ Always
    → kept ≡ Some len → IfSome kept (λ len. len ≡ reply_len events) → events ≡ events'
    → len ≡ reply_len (filter (holds rule) events')
kept_len kept len events events' rule always is known same =
    let here : len ≡ reply_len events = subst (λ kept. IfSome kept (λ len. len ≡ reply_len events)) is known in
    here ∙ ap reply_len (same ∙ sym (all_met rule events' always))

-- the length of a reply with the events that meet such a rule is that with all events of an index
pub all_len : (len : ℕ) (rule : Tree) (poisoned : Bool) (numbers numbers' : Numbers)
    (table table' : List (Option Event))
    → rule ≡ Always → poisoned ≡ false → numbers' ≡ numbers → table' ≡ table
    → len ≡ reply_len (filter (holds rule) (events_in numbers table))
    → len ≡ reply_len (events_unless poisoned numbers' table')
all_len len rule poisoned numbers numbers' table table' always sound n t is =
    rw (n, t) (is ∙ ap reply_len
    (all_met rule (events_in numbers table) always ∙ not_poisoned poisoned numbers table sound))

-- ---- what stays as it is

pub still_ok : {E : Type 0} {a b : ℕ} (result : Result ℕ E) → a ≡ b → IfOk result (λ n. n ≡ a)
    → IfOk result (λ n. n ≡ b)
still_ok (Ok n) same is = is ∙ same
still_ok (Err e) same is = tt

pub still_stored : (numbers numbers' : Numbers) (table table' : List (Option Event)) (due due' : List (ℕ × ℕ))
    (count count' : ℕ)
    → numbers' ≡ numbers → table' ≡ table → due' ≡ due → count' ≡ count → IsStored numbers table due count
    → IsStored numbers' table' due' count'
still_stored numbers numbers' table table' due due' count count' n t d c stored = rw (n, t, d, c) stored

pub still_all_len : (len : Option ℕ) (poisoned : Bool) (numbers numbers' : Numbers) (table table' : List (Option Event))
    → numbers' ≡ numbers → table' ≡ table → IfSome len (λ len. len ≡ reply_len (events_unless poisoned numbers table))
    → IfSome len (λ len. len ≡ reply_len (events_unless poisoned numbers' table'))
still_all_len len poisoned numbers numbers' table table' n t is = rw (n, t) is

pub still_index : (poisoned : Bool) (numbers numbers' : Numbers) (table table' : List (Option Event)) (index : Index)
    → numbers' ≡ numbers → table' ≡ table
    → record { events = events_unless poisoned numbers table; poisoned = poisoned } ≡ index
    → record { events = events_unless poisoned numbers' table'; poisoned = poisoned } ≡ index
still_index poisoned numbers numbers' table table' index n t is = rw (n, t) is
