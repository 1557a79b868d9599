-- How the event of a line is spelled.
use Rattle.std.proofs.Common.{◌≡◌, ℕ, ℤ, ◌+◌, List, ◌++◌, length, length-append, Option, sym, ap, ◌∙◌, append_assoc}
use Rattle.std.proofs.Common.{append-nil, arith}
use Rattle.std.specs.Int.{w32, w64, cast_unsigned, to_be_bytes}
use Rattle.ev_types.specs.declared.event.Event.{Event}
use Rattle.framing.specs.Frames.{frame}
use Rattle.pb_wire.specs.Varint.{varint}
use Rattle.pb_wire.specs.Spelling.{Varint, Bytes, bytes_head, field_spelling}
use Rattle.riemann_msg.specs.Spelling.{event_content, event_values, int64, name_values, number_values, optional, sint64}
use Rattle.riemann_msg.specs.Spelling.{spelled, spelling, zigzag}
use Rattle.riemann_msg.proofs.Spelled.{embedded, event_spelled, grown4, message_spelled, names_spelled, numbers_spelled}
use Rattle.riemann_msg.proofs.Lengths.{small_head, varint_length}
use Rattle.graphite_lines.specs.Frames.{message_with}
use Rattle.graphite_lines.specs.Lines.{metric_event}

-- the fields of an event of a line
pub said_spelled : (time : ℤ) (service : List ℕ) (host : Option (List ℕ)) (metric : ℤ)
    → spelled (event_values (metric_event time service host metric))
    ≡ field_spelling 1 (int64 time)
    ++ (field_spelling 3 (Bytes service) ++ (spelled (optional 4 Bytes host) ++ field_spelling 13 (sint64 metric)))
said_spelled time service host metric =
    let event = metric_event time service host metric in
    let names : spelled (name_values event)
    ≡ field_spelling 1 (int64 time) ++ (field_spelling 3 (Bytes service) ++ spelled (optional 4 Bytes host)) =
    names_spelled event ∙ simp append-nil in
    let numbers : spelled (number_values event) ≡ field_spelling 13 (sint64 metric) =
    numbers_spelled event ∙ simp append-nil in
    event_spelled event ∙ rw (names, numbers) (simp append_assoc)

-- what grew by them
pub said_grown : (time : ℤ) (service : List ℕ) (host : Option (List ℕ)) (metric : ℤ) (o a b c d : List ℕ) (t m : ℕ)
    → a ≡ o ++ field_spelling 1 (Varint t) → b ≡ a ++ field_spelling 3 (Bytes service)
    → c ≡ b ++ spelled (optional 4 Bytes host)
    → d ≡ c ++ field_spelling 13 (Varint m) → t ≡ cast_unsigned w64 time → m ≡ zigzag metric
    → d ≡ o ++ spelled (event_values (metric_event time service host metric))
said_grown time service host metric o a b c d t m p q r s t_is m_is =
    grown4 o a b c d _ _ _ _ _ (rw t_is at p) q r (rw m_is at s) (said_spelled time service host metric)

pub said_sum : (time : ℤ) (service : List ℕ) (host : Option (List ℕ)) (metric : ℤ)
    → length (spelled (event_values (metric_event time service host metric)))
    ≡ (1 + length (varint (cast_unsigned w64 time))) + (1 + (length (varint (length service)) + length service))
    + length (spelled (optional 4 Bytes host)) + (1 + length (varint (zigzag metric)))
said_sum time service host metric =
    ap length (said_spelled time service host metric) ∙ simp length-append (omega (
      arith,
      varint_length 1 (cast_unsigned w64 time) (omega arith),
      small_head 3 service (omega arith),
      varint_length 13 (zigzag metric) (omega arith),
    ))

-- how many bytes these are, by the sizes of their parts
pub said_length : (time : ℤ) (front back : List ℕ) (host : Option (List ℕ)) (metric : ℤ) (t s h m : ℕ)
    → t ≡ length (varint (cast_unsigned w64 time))
    → s ≡ 1 + (length (varint (length front + length back)) + (length front + length back))
    → h ≡ length (spelled (optional 4 Bytes host)) → m ≡ length (varint (zigzag metric))
    → 1 + t + s + h + (1 + m) ≡ length (spelled (event_values (metric_event time (front ++ back) host metric)))
said_length time front back host metric t s h m t_is s_is h_is m_is =
    let service : s ≡ 1 + (length (varint (length (front ++ back))) + length (front ++ back)) =
    s_is ∙ ap (λ n. 1 + (length (varint n) + n)) (sym (length-append front back)) in
    omega (arith, said_sum time (front ++ back) host metric)

pub service_spelled : (front back : List ℕ)
    → field_spelling 3 (Bytes (front ++ back)) ≡ bytes_head 3 (length front + length back) ++ (front ++ back)
service_spelled front back =
    embedded 3 (front ++ back) ∙ ap (λ n. bytes_head 3 n ++ (front ++ back)) (length-append front back)

-- the message that holds one event
one_spelled : (event : Event)
    → spelling (message_with event)
    ≡ bytes_head 6 (length (spelled (event_values event))) ++ spelled (event_values event)
one_spelled event =
    message_spelled (message_with event) ∙ append-nil (field_spelling 6 (event_content event))
    ∙ embedded 6 (spelled (event_values event))

pub one_length : (event : Event) → length (spelling (message_with event))
    ≡ 1 + length (varint (length (spelled (event_values event)))) + length (spelled (event_values event))
one_length event =
    ap length (message_spelled (message_with event) ∙ append-nil (field_spelling 6 (event_content event)))
    ∙ small_head 6 (spelled (event_values event)) (omega arith) ∙ omega arith

pub frame_is : (event : Event) (size n : ℕ) → size ≡ length (spelled (event_values event))
    → n ≡ 1 + length (varint size) + size
    → frame (spelling (message_with event)) ≡ to_be_bytes w32 n ++ (bytes_head 6 size ++ spelled (event_values event))
frame_is event size n is whole =
    let length_is : length (spelling (message_with event)) ≡ n = one_length event ∙ sym (rw is at whole) in
    ap (λ k. to_be_bytes w32 k ++ spelling (message_with event)) length_is
    ∙ ap (λ bytes. to_be_bytes w32 n ++ bytes) (rw is (one_spelled event))
