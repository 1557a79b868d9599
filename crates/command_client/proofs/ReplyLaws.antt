-- Lines of replies that were put one after another.
use Rattle.std.proofs.Common.{◌≡◌, ℕ, ◌+◌, ◌<◌, List, [], ◌∷◌, ◌++◌, length, take, get_or, ap, sym, ◌∙◌, arith}
use Rattle.std.proofs.Common.{append-nil, append_assoc}
use Rattle.std.specs.Fmt.{decimal}
use Rattle.std.specs.List.{flat_map}
use Rattle.std.proofs.lemmas.Grind.{flat_map-append}
use Rattle.std.proofs.Math.Seq.{take-length}
use Rattle.std.proofs.lemmas.List.{length-take-le, take_more}
use Rattle.ev_types.specs.declared.event.Event.{Event}
use Rattle.riemann_msg.specs.declared.msg.Msg.{Msg}
use Rattle.command_client.specs.Replies.{event_line, replies_from, reply_text, verdict_text}

-- ---- events

pub events_step : (text : List ℕ) (events : List Event) (i : ℕ) (event : Event) → i < length events
    → event ≡ get_or events i event
    → (text ++ flat_map event_line (take i events)) ++ event_line event
    ≡ text ++ flat_map event_line (take (i + 1) events)
events_step text events i event inside is =
    let front : take (i + 1) events ≡ take i events ++ event ∷ [] =
    take_more events i event inside ∙ ap (λ (e : Event). take i events ++ e ∷ []) (sym is) in
    append_assoc text (flat_map event_line (take i events)) (event_line event)
    ∙ ap (λ (more : List ℕ). text ++ more)
    (sym (ap (flat_map event_line) front ∙ flat_map-append event_line (take i events) (event ∷ [])
    ∙ ap (λ (more : List ℕ). flat_map event_line (take i events) ++ more) (append-nil (event_line event))))

pub events_all : (events : List Event) → flat_map event_line (take (length events) events) ≡ flat_map event_line events
events_all events = ap (flat_map event_line) (take-length events)

-- ---- replies

replies_append : (number : ℕ) (xs ys : List Msg)
    → replies_from number (xs ++ ys) ≡ replies_from number xs ++ replies_from (number + length xs) ys
replies_append number [] ys = let same : number ≡ number + 0 = omega arith in ap (λ (n : ℕ). replies_from n ys) same
replies_append number (x ∷ xs) ys =
    let same : number + 1 + length xs ≡ number + length (x ∷ xs) = omega arith in
    ap (λ (more : List ℕ). reply_text number x ++ more)
    (replies_append (number + 1) xs ys ∙ ap (λ (n : ℕ). replies_from (number + 1) xs ++ replies_from n ys) same)
    ∙ sym
    (append_assoc (reply_text number x) (replies_from (number + 1) xs) (replies_from (number + length (x ∷ xs)) ys))

pub replies_step : (msgs : List Msg) (i : ℕ) (msg : Msg) → i < length msgs → msg ≡ get_or msgs i msg
    → replies_from 0 (take i msgs) ++ reply_text i msg ≡ replies_from 0 (take (i + 1) msgs)
replies_step msgs i msg inside is =
    let front : take (i + 1) msgs ≡ take i msgs ++ msg ∷ [] =
    take_more msgs i msg inside ∙ ap (λ (m : Msg). take i msgs ++ m ∷ []) (sym is) in
    let counted = length-take-le i msgs (omega arith) in
    let count : 0 + length (take i msgs) ≡ i = omega (arith, counted) in
    sym (ap (replies_from 0) front ∙ replies_append 0 (take i msgs) (msg ∷ [])
    ∙ ap (λ (n : ℕ). replies_from 0 (take i msgs) ++ replies_from n (msg ∷ [])) count
    ∙ ap (λ (more : List ℕ). replies_from 0 (take i msgs) ++ more) (append-nil (reply_text i msg)))

pub replies_all : (msgs : List Msg) → replies_from 0 (take (length msgs) msgs) ≡ replies_from 0 msgs
replies_all msgs = ap (replies_from 0) (take-length msgs)

-- the parts of a reply
pub reply_written : (text : List ℕ) (number : ℕ) (msg : Msg)
    → ((((text ++ decimal number) ++ 32 ∷ []) ++ verdict_text msg) ++ 10 ∷ []) ++ flat_map event_line msg.events
    ≡ text ++ reply_text number msg
reply_written text number msg =
    append_assoc (((text ++ decimal number) ++ 32 ∷ []) ++ verdict_text msg) (10 ∷ []) (flat_map event_line msg.events)
    ∙ append_assoc ((text ++ decimal number) ++ 32 ∷ []) (verdict_text msg) (10 ∷ flat_map event_line msg.events)
    ∙ append_assoc (text ++ decimal number) (32 ∷ []) (verdict_text msg ++ (10 ∷ flat_map event_line msg.events))
    ∙ append_assoc text (decimal number) (32 ∷ (verdict_text msg ++ (10 ∷ flat_map event_line msg.events)))
