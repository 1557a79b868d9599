-- Bytes that are kept are those of one event, and where they lie in a reply.
use Rattle.std.proofs.Common.{◌≡◌, ℕ, ◌+◌, ◌^◌, ◌<◌, List, [], ◌∷◌, ◌++◌, drop, length, Some, None, pos, refl, sym, ap}
use Rattle.std.proofs.Common.{◌∙◌, Option, subst, length-append, arith}
use Rattle.std.specs.Prelude.{IfSome}
use Rattle.std.proofs.lemmas.List.{append-nil}
use Rattle.ev_types.specs.declared.event.Event.{Event}
use Rattle.pb_wire.specs.Spelling.{Bytes, Varint, field_spelling}
use Rattle.pb_wire.specs.Varint.{varint}
use Rattle.riemann_msg.specs.ReadBack.{IsWellFormedEvent}
use Rattle.riemann_msg.specs.Reply.{found}
use Rattle.riemann_msg.specs.Spelling.{message_values, spelling}
use Rattle.riemann_msg.specs.Value.{event_of}
use Rattle.packed_event.specs.Kept.{bytes_of, event_in, IsKept}
use Rattle.packed_event.specs.Packed.{IsPacked}
use Rattle.packed_event.specs.Reading.{bytes_part}
use Rattle.packed_event.specs.declared.places.Places.{Places}
use Rattle.packed_event.proofs.Bodies.{bytes_whole, counted_text}
use Rattle.packed_event.proofs.Parts.{done, some_is}
use Rattle.packed_event.proofs.OneEvent.{event_read_back}
use Rattle.packed_event.proofs.Recognised.{packed_is_read}
use Rattle.packed_event.proofs.Texts.{of_bytes, of_varint, one_byte}

-- the moment of reading does not matter
pub kept_event : (bytes : List ℕ) (places : Places) (now : ℕ) → IsPacked bytes places (event_in bytes)
    → length bytes < 2 ^ 32 → event_in bytes ≡ event_of (pos now) bytes
kept_event bytes places now packed few = sym (packed_is_read now bytes places (event_in bytes) packed few).1

-- the bytes of an event are read as it
pub event_again : (event : Event) → IsWellFormedEvent event → length (bytes_of event) < 2 ^ 32
    → event_in (bytes_of event) ≡ event
event_again event good few = (event_read_back 0 event good few).1

pub read_again : (bytes : List ℕ) (event : Event) → bytes ≡ bytes_of event → IsWellFormedEvent event
    → length bytes < 2 ^ 32 → event_in bytes ≡ event
read_again bytes event same good few =
    ap event_in same ∙ event_again event good (subst (λ (t : List ℕ). length t < 2 ^ 32) same few)

-- bytes that are kept are those of their event, and the other way round
pub kept_again : (bytes : List ℕ) (places : Places) (event : Event) → bytes ≡ bytes_of event
    → IsKept (bytes_of event) places → IsKept bytes places
kept_again bytes places event same kept = subst (λ (t : List ℕ). IsKept t places) (sym same) kept

pub kept_as : (bytes : List ℕ) (places : Places) → IsKept bytes places → IsKept (bytes_of (event_in bytes)) places
kept_as bytes places kept = subst (λ (t : List ℕ). IsKept t places) kept.packed.spelled_as kept

-- an event that was found in these bytes is the one whose bytes they are
pub event_alone : (read : Option Event) (bytes : List ℕ) (event : Event)
    → IfSome read (λ read. (now : ℕ) → read ≡ event_of (pos now) bytes) → IfSome read (λ read. length bytes < 2 ^ 32)
    → bytes ≡ bytes_of event → IsWellFormedEvent event → IfSome read (λ read. read ≡ event)
event_alone None bytes event reads few same good = tt
event_alone (Some read) bytes event reads few same good = reads 0 ∙ read_again bytes event same good few

pub same_event : (a b : Event) → IsWellFormedEvent a → IsWellFormedEvent b → length (bytes_of a) < 2 ^ 32
    → length (bytes_of b) < 2 ^ 32
    → bytes_of a ≡ bytes_of b → a ≡ b
same_event a b good other few short same = sym (event_again a good few) ∙ ap event_in same ∙ event_again b other short

-- ---- in a reply

-- the flag and the tag, and after them the event after its length
pub found_spelling : (event : Event)
    → spelling (found (event ∷ [])) ≡ 16 ∷ 1 ∷ 50 ∷ counted_text (bytes_of event)
unfolding spelling message_values
found_spelling event =
    let flag : field_spelling 2 (Varint 1) ≡ 16 ∷ 1 ∷ [] =
    of_varint 2 16 1 refl (omega arith) ∙ ap (λ (t : List ℕ). 16 ∷ t) (one_byte 1 (omega arith)) in
    let part : field_spelling 6 (Bytes (bytes_of event)) ++ [] ≡ 50 ∷ counted_text (bytes_of event) =
    append-nil (field_spelling 6 (Bytes (bytes_of event))) ∙ of_bytes 6 50 (bytes_of event) refl (omega arith) in
    ap (λ (t : List ℕ). t ++ (field_spelling 6 (Bytes (bytes_of event)) ++ [])) flag
    ∙ ap (λ (t : List ℕ). 16 ∷ 1 ∷ t) part

pub reply_length : (event : Event)
    → 2 + (1 + length (varint (length (bytes_of event))) + length (bytes_of event))
    ≡ length (spelling (found (event ∷ [])))
reply_length event =
    let bytes : List ℕ = bytes_of event in
    let parts = length-append (varint (length bytes)) bytes in
    omega (arith, ap (length {A = ℕ}) (found_spelling event), parts)

pub reply_part : (reply : List ℕ) (event : Event) → reply ≡ spelling (found (event ∷ [])) → length reply < 2 ^ 64
    → bytes_part (drop 3 reply) ≡ Some (bytes_of event, [])
reply_part reply event is short =
    let parts : reply ≡ 16 ∷ 1 ∷ 50 ∷ counted_text (bytes_of event) = is ∙ found_spelling event in
    let size : length (counted_text (bytes_of event) ++ []) < 2 ^ 64 =
    omega (
      arith,
      short,
      ap (length {A = ℕ}) parts,
      ap (length {A = ℕ}) (append-nil (counted_text (bytes_of event))),
    ) in
    ap (λ (t : List ℕ). bytes_part (drop 3 t)) parts
    ∙ ap bytes_part (sym (append-nil (counted_text (bytes_of event))))
    ∙ bytes_whole (bytes_of event) [] size

pub reply_long : (reply : List ℕ) (event : Event) → reply ≡ spelling (found (event ∷ [])) → length reply < 3 → ⊥
reply_long reply event is short = omega (arith, short, ap (length {A = ℕ}) (is ∙ found_spelling event))

pub no_part : (reply rest : List ℕ) (event : Event) → reply ≡ spelling (found (event ∷ [])) → length reply < 2 ^ 64
    → rest ≡ drop 3 reply → bytes_part rest ≡ None → ⊥
no_part reply rest event is short part none =
    none_some (bytes_of event) (sym none ∙ ap bytes_part part ∙ reply_part reply event is short)
  where
    none_some : (bytes : List ℕ) → None ≡ done {A = List ℕ × List ℕ} (bytes, []) → ⊥
    none_some bytes e = cc

pub one_part : (reply rest bytes after : List ℕ) (event : Event) → reply ≡ spelling (found (event ∷ []))
    → length reply < 2 ^ 64
    → rest ≡ drop 3 reply → bytes_part rest ≡ Some (bytes, after) → done bytes ≡ done (bytes_of event)
one_part reply rest bytes after event is short part some =
    let pairs : ◌≡◌ {A = List ℕ × List ℕ} (bytes, after) (bytes_of event, []) =
    some_is {A = List ℕ × List ℕ} (bytes, after) (bytes_of event, [])
    (sym some ∙ ap bytes_part part ∙ reply_part reply event is short) in
    ap (λ (p : List ℕ × List ℕ). done p.0) pairs
