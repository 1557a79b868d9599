-- The bytes of replies.
use Rattle.std.proofs.Common.{◌≡◌, ℕ, ◌+◌, ◌<◌, true, List, [], ◌∷◌, ◌++◌, length, take, drop, get_or, sym, ap, ◌∙◌}
use Rattle.std.proofs.Common.{append_assoc, subst}
use Rattle.std.proofs.lemmas.List.{append-nil, map-append, take_more}
use Rattle.std.proofs.Math.Seq.{drop-append_seam}
use denote.Ref.{Bor}
use Rattle.ev_types.specs.declared.event.Event.{Event}
use Rattle.riemann_msg.specs.Reply.{events_lent, found}
use Rattle.riemann_msg.specs.Spelling.{field, repeated, spelled, spelling, event_content}
use Rattle.riemann_msg.proofs.Lengths.{flag_length}
use Rattle.riemann_msg.proofs.Spelled.{found_spelled, spelled-append}

pub next_lent : (events : List (Bor Event)) (i : ℕ) (event : Bor Event) → i < length events
    → event ≡ get_or events i event
    → events_lent (take (i + 1) events) ≡ events_lent (take i events) ++ event.now ∷ []
next_lent events i event within is =
    ap events_lent (take_more events i event within)
    ∙ map-append (λ (e : Bor Event). e.now) (take i events) (get_or events i event ∷ [])
    ∙ ap (λ e. events_lent (take i events) ++ e ∷ []) (sym (ap (λ (e : Bor Event). e.now) is))

-- two lists of events, one after the other
pub both_spelled : (es fs : List Event)
    → spelled (repeated 6 event_content (es ++ fs))
    ≡ spelled (repeated 6 event_content es) ++ spelled (repeated 6 event_content fs)
both_spelled es fs =
    ap spelled (map-append (λ event. field 6 (event_content event)) es fs)
    ∙ spelled-append (repeated 6 event_content es) (repeated 6 event_content fs)

-- one more event that is lent is appended
pub put_on : (events : List (Bor Event)) (i : ℕ) (event : Bor Event) (start out out' : List ℕ) → i < length events
    → event ≡ get_or events i event
    → out ≡ start ++ spelled (repeated 6 event_content (events_lent (take i events)))
    → out' ≡ out ++ spelled (repeated 6 event_content (event.now ∷ []))
    → out' ≡ start ++ spelled (repeated 6 event_content (events_lent (take (i + 1) events)))
put_on events i event start out out' within is before now =
    let so_far = spelled (repeated 6 event_content (events_lent (take i events))) in
    let one = spelled (repeated 6 event_content (event.now ∷ [])) in
    now ∙ ap (λ out. out ++ one) before ∙ append_assoc start so_far one
    ∙ ap (λ more. start ++ more)
    (sym (ap (λ es. spelled (repeated 6 event_content es)) (next_lent events i event within is)
    ∙ both_spelled (events_lent (take i events)) (event.now ∷ [])))

-- the events follow what a reply with none has
pub after_none : (events : List Event)
    → spelling (found events) ≡ spelling (found []) ++ spelled (repeated 6 event_content events)
after_none events =
    found_spelled events
    ∙ ap (λ flag. flag ++ spelled (repeated 6 event_content events)) (sym (found_spelled [] ∙ append-nil _))

-- which are two bytes
pub after_flag : (events : List Event)
    → drop 2 (spelling (found events)) ≡ spelled (repeated 6 event_content events)
after_flag events =
    ap (drop 2) (after_none events)
    ∙ subst
    (λ n. drop n (spelling (found []) ++ spelled (repeated 6 event_content events))
    ≡ spelled (repeated 6 event_content events))
    (ap length (found_spelled [] ∙ append-nil _) ∙ flag_length true)
    (drop-append_seam (spelling (found [])) (spelled (repeated 6 event_content events)))

-- a reply with no events, and then events
pub put_all : (events : List Event) (start out out' : List ℕ) → out ≡ start ++ spelling (found [])
    → out' ≡ out ++ spelled (repeated 6 event_content events) → out' ≡ start ++ spelling (found events)
put_all events start out out' before now =
    let more = spelled (repeated 6 event_content events) in
    now ∙ ap (λ out. out ++ more) before ∙ append_assoc start (spelling (found [])) more
    ∙ ap (λ bytes. start ++ bytes) (sym (after_none events))
