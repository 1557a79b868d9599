-- How many bytes events add to a reply.
use Rattle.std.proofs.Common.{◌≡◌, ℕ, ◌+◌, ◌<◌, ◌≤◌, true, List, [], ◌∷◌, ◌++◌, length, take, drop, get_or, sym, ap, ◌∙◌, arith}
use Rattle.std.proofs.Common.{length-append}
use Rattle.std.proofs.lemmas.List.{map-append, take-append-drop}
use Rattle.std.specs.Prelude.{Result, Ok, Err, OnErr}
use denote.Ref.{Bor}
use Rattle.ev_types.specs.declared.event.Event.{Event}
use Rattle.riemann_msg.specs.Reply.{events_lent}
use Rattle.riemann_msg.specs.Spelling.{repeated, spelled, event_content}
use Rattle.riemann_msg.proofs.Lengths.{found_length, flag_length}
use Rattle.stored_event.specs.Stored.{reply_len}
use Rattle.stored_event.proofs.ReplySpellings.{next_lent, both_spelled}

abbrev added : List Event → ℕ
added events = length (spelled (repeated 6 event_content events))

added-append : (es fs : List Event) → added (es ++ fs) ≡ added es + added fs
added-append es fs =
    ap length (both_spelled es fs)
    ∙ length-append (spelled (repeated 6 event_content es)) (spelled (repeated 6 event_content fs))

reply-is : (events : List Event) → reply_len events ≡ 2 + added events
reply-is events = found_length events ∙ ap (λ n. n + added events) (flag_length true)

pub empty_len : reply_len [] ≡ 2
empty_len = reply-is []

pub some_len : (events : List Event) → 2 ≤ reply_len events
some_len events = omega (arith, reply-is events)

-- two lists of events, one after the other
pub both_len : (es fs : List Event) → reply_len (es ++ fs) + 2 ≡ reply_len es + reply_len fs
both_len es fs = omega (arith, reply-is (es ++ fs), reply-is es, reply-is fs, added-append es fs)

-- one more event that is lent is measured
pub measured_on : (events : List (Bor Event)) (i : ℕ) (event : Bor Event) (len more len' : ℕ) → i < length events
    → event ≡ get_or events i event → len ≡ reply_len (events_lent (take i events))
    → 2 + more ≡ reply_len (event.now ∷ []) → len' ≡ len + more
    → len' ≡ reply_len (events_lent (take (i + 1) events))
measured_on events i event len more len' within is before one both =
    omega (
      arith,
      before,
      one,
      both,
      both_len (events_lent (take i events)) (event.now ∷ []),
      ap reply_len (next_lent events i event within is),
    )

pub on_err : {T E P : Type 0} (result : Result T E) → P → OnErr result P
on_err (Ok value) fact = tt
on_err (Err fault) fact = fact

-- the events so far are no more than all
fewer_len : (events : List (Bor Event)) (i : ℕ) → reply_len (events_lent (take i events)) ≤ reply_len (events_lent events)
fewer_len events i =
    let whole : events_lent (take i events) ++ events_lent (drop i events) ≡ events_lent events =
    sym (map-append (λ (e : Bor Event). e.now) (take i events) (drop i events))
    ∙ ap events_lent (take-append-drop i events) in
    omega (
      arith,
      both_len (events_lent (take i events)) (events_lent (drop i events)),
      ap reply_len whole,
      some_len (events_lent (drop i events)),
    )

-- where one of the events is too long, all are
pub one_too_long : (events : List (Bor Event)) (i : ℕ) (event : Bor Event) (limit : ℕ) → i < length events
    → event ≡ get_or events i event → limit ≤ reply_len (event.now ∷ []) → limit ≤ reply_len (events_lent events)
one_too_long events i event limit within is long =
    omega (
      arith,
      long,
      both_len (events_lent (take i events)) (event.now ∷ []),
      ap reply_len (next_lent events i event within is),
      some_len (events_lent (take i events)),
      fewer_len events (i + 1),
    )

-- where the events so far and the next one are too long, all are
pub sum_too_long : (events : List (Bor Event)) (i : ℕ) (event : Bor Event) (limit len more : ℕ) → i < length events
    → event ≡ get_or events i event → len ≡ reply_len (events_lent (take i events))
    → 2 + more ≡ reply_len (event.now ∷ []) → limit ≤ len + more → limit ≤ reply_len (events_lent events)
sum_too_long events i event limit len more within is before one long =
    omega (
      arith,
      long,
      before,
      one,
      both_len (events_lent (take i events)) (event.now ∷ []),
      ap reply_len (next_lent events i event within is),
      fewer_len events (i + 1),
    )
