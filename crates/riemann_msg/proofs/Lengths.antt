-- The length of a spelling is the sum of the lengths of its fields. Each tag here is one byte.
use Rattle.std.proofs.Common.{◌≡◌, ℕ, ℤ, Bool, true, false, ◌+◌, ◌*◌, ◌<◌, ◌≤◌, List, [], ◌∷◌, length, get_or, take}
use Rattle.std.proofs.Common.{◌^◌, Some, refl, sym, subst, ap, ◌∙◌, arith, length-append}
use Rattle.std.proofs.lemmas.Bool.{lt-ltb}
use Rattle.std.proofs.lemmas.List.{append-nil}
use denote.Ref.{Bor}
use Rattle.std.specs.Prelude.{Result, Ok, Err, IfOk, OnErr}
use Rattle.std.specs.Int.{w64, cast_unsigned, from_bool}
use Rattle.ev_types.specs.declared.event.Attr.{Attr}
use Rattle.ev_types.specs.declared.event.Event.{Event}
use Rattle.ev_types.specs.Memory.{Memory}
use Rattle.pb_wire.specs.Varint.{varint, spelled_within}
use Rattle.pb_wire.specs.Spelling.{Varint, Eight, Bytes, Four, field_spelling}
use Rattle.riemann_msg.specs.declared.msg.Msg.{Msg}
use Rattle.riemann_msg.specs.declared.msg.QueryPart.{QueryPart}
use Rattle.riemann_msg.specs.Reply.{events_lent, found}
use Rattle.riemann_msg.specs.Ttl.{bits_of}
use Rattle.riemann_msg.specs.Spelling.{Counts, optional, repeated, spelled, int64, sint64, zigzag, attribute_values}
use Rattle.riemann_msg.specs.Spelling.{attribute_content, name_values, number_values, event_values, event_content}
use Rattle.riemann_msg.specs.Spelling.{query_values, query_content, spelling}
use Rattle.riemann_msg.proofs.Spelled.{found_spelled, lent_at, lent_so_far, lent_within, next_tag}
use Rattle.riemann_msg.proofs.Spelled.{next_attribute, next_event}
use Rattle.riemann_msg.proofs.Spelled.{message_spelled, event_spelled, names_spelled, numbers_spelled}
use Rattle.riemann_msg.proofs.Spelled.{attribute_spelled}

pub short_varint : (value : ℕ) → value < 128 → varint value ≡ value ∷ []
unfolding varint spelled_within
short_varint value small = rw (lt-ltb value 128 small) refl

pub small_head : (number : ℕ) (bytes : List ℕ) → number < 16
    → length (field_spelling number (Bytes bytes)) ≡ 1 + (length (varint (length bytes)) + length bytes)
unfolding field_spelling
small_head number bytes small = rw (short_varint (number * 8 + 2) (omega arith)) (simp length-append (omega arith))

pub varint_length : (number value : ℕ) → number < 16
    → length (field_spelling number (Varint value)) ≡ 1 + length (varint value)
unfolding field_spelling
varint_length number value small = rw (short_varint (number * 8 + 0) (omega arith)) (simp length-append (omega arith))

pub four_length : (number value : ℕ) → number < 16 → length (field_spelling number (Four value)) ≡ 5
unfolding field_spelling
four_length number value small = rw (short_varint (number * 8 + 5) (omega arith)) refl

pub eight_length : (number value : ℕ) → number < 16 → length (field_spelling number (Eight value)) ≡ 9
unfolding field_spelling
eight_length number value small = rw (short_varint (number * 8 + 1) (omega arith)) refl

-- ---- a field that may be absent

pub text_length : (number : ℕ) (bytes : List ℕ) → number < 16
    → length (spelled (optional number Bytes (Some bytes))) ≡ 1 + (length (varint (length bytes)) + length bytes)
text_length number bytes small =
    ap length (append-nil (field_spelling number (Bytes bytes))) ∙ small_head number bytes small

pub micros_length : (micros : ℤ)
    → length (spelled (optional 10 int64 (Some micros))) ≡ 1 + length (varint (cast_unsigned w64 micros))
micros_length micros =
    ap length (append-nil (field_spelling 10 (int64 micros)))
    ∙ varint_length 10 (cast_unsigned w64 micros) (omega arith)

pub metric_length : (metric : ℤ)
    → length (spelled (optional 13 sint64 (Some metric))) ≡ 1 + length (varint (zigzag metric))
metric_length metric =
    ap length (append-nil (field_spelling 13 (sint64 metric))) ∙ varint_length 13 (zigzag metric) (omega arith)

pub double_length : (bits : ℕ) → length (spelled (optional 14 Eight (Some bits))) ≡ 9
double_length bits = ap length (append-nil (field_spelling 14 (Eight bits))) ∙ eight_length 14 bits (omega arith)

pub float_length : (bits : ℕ) → length (spelled (optional 15 Four (Some bits))) ≡ 5
float_length bits = ap length (append-nil (field_spelling 15 (Four bits))) ∙ four_length 15 bits (omega arith)

pub ttl_length : (ttl : ℕ) → length (spelled (optional 8 (λ ttl. Four (bits_of ttl)) (Some ttl))) ≡ 5
ttl_length ttl =
    ap length (append-nil (field_spelling 8 (Four (bits_of ttl)))) ∙ four_length 8 (bits_of ttl) (omega arith)

pub flag_length : (flag : Bool) → length (spelled (optional 2 (λ ok. Varint (from_bool ok)) (Some flag))) ≡ 2
flag_length flag =
    ap length (append-nil (field_spelling 2 (Varint (from_bool flag)))) ∙ varint_length 2 (from_bool flag) (omega arith)
    ∙ ap (λ bytes. 1 + length bytes) (short_varint (from_bool flag) (small flag))
  where
    small : (b : Bool) → from_bool b < 128
    small true = omega arith
    small false = omega arith

pub query_length : (query : QueryPart)
    → length (spelled (optional 5 query_content (Some query)))
    ≡ 1 + (length (varint (length (spelled (query_values query)))) + length (spelled (query_values query)))
query_length query = text_length 5 (spelled (query_values query)) (omega arith)

-- ---- sums

pub counted_as : (counted : Result ℕ Memory) (n m : ℕ) → n ≡ m → Counts counted m → Counts counted n
counted_as counted n m is counts = subst (λ (k : ℕ). Counts counted k) (sym is) counts

pub where_counted : (counted : Result ℕ Memory) (n : ℕ) → Counts counted n → IfOk counted (λ m. m ≡ n)
where_counted (Ok m) n is = is
where_counted (Err memory) n much = tt

pub where_too_long : (counted : Result ℕ Memory) (n : ℕ) → Counts counted n → OnErr counted (2 ^ 64 ≤ n)
where_too_long (Ok m) n is = tt
where_too_long (Err memory) n much = much

pub message_length : (msg : Msg)
    → length (spelling msg)
    ≡ length (spelled (optional 2 (λ ok. Varint (from_bool ok)) msg.ok))
    + (length (spelled (optional 3 Bytes msg.error))
    + (length (spelled (optional 5 query_content msg.query)) + length (spelled (repeated 6 event_content msg.events))))
message_length msg = ap length (message_spelled msg) ∙ simp length-append

pub message_in_parts : (msg : Msg)
    → length (spelling msg)
    ≡ length (spelled (optional 2 (λ ok. Varint (from_bool ok)) msg.ok))
    + (length (spelled (optional 3 Bytes msg.error)) + length (spelled (optional 5 query_content msg.query)))
    + length (spelled (repeated 6 event_content msg.events))
message_in_parts msg = omega (arith, message_length msg)

pub event_length : (event : Event)
    → length (spelled (event_values event))
    ≡ length (spelled (name_values event)) + (length (spelled (repeated 7 Bytes event.tags))
    + (length (spelled (optional 8 (λ ttl. Four (bits_of ttl)) event.ttl))
    + (length (spelled (repeated 9 attribute_content event.attributes)) + length (spelled (number_values event)))))
event_length event = ap length (event_spelled event) ∙ simp length-append

pub event_in_parts : (event : Event)
    → length (spelled (event_values event))
    ≡ length (spelled (name_values event))
    + (length (spelled (repeated 7 Bytes event.tags))
    + length (spelled (repeated 9 attribute_content event.attributes)))
    + (length (spelled (optional 8 (λ ttl. Four (bits_of ttl)) event.ttl)) + length (spelled (number_values event)))
event_in_parts event = omega (arith, event_length event)

pub names_length : (event : Event)
    → length (spelled (name_values event))
    ≡ (1 + length (varint (cast_unsigned w64 event.time)))
    + (length (spelled (optional 2 Bytes event.state)) + (length (spelled (optional 3 Bytes event.service))
    + (length (spelled (optional 4 Bytes event.host)) + length (spelled (optional 5 Bytes event.description)))))
names_length event =
    ap length (names_spelled event)
    ∙ simp length-append (omega (arith, varint_length 1 (cast_unsigned w64 event.time) (omega arith)))

pub names_in_parts : (event : Event)
    → length (spelled (name_values event))
    ≡ (1 + length (varint (cast_unsigned w64 event.time)))
    + (length (spelled (optional 2 Bytes event.state)) + length (spelled (optional 3 Bytes event.service))
    + (length (spelled (optional 4 Bytes event.host)) + length (spelled (optional 5 Bytes event.description))))
names_in_parts event = omega (arith, names_length event)

pub numbers_length : (event : Event)
    → length (spelled (number_values event))
    ≡ length (spelled (optional 10 int64 event.time_micros)) + (length (spelled (optional 13 sint64 event.metric))
    + (length (spelled (optional 14 Eight event.raw_d)) + length (spelled (optional 15 Four event.raw_f))))
numbers_length event = ap length (numbers_spelled event) ∙ simp length-append

pub attribute_length : (attribute : Attr)
    → length (spelled (attribute_values attribute))
    ≡ (1 + (length (varint (length attribute.key)) + length attribute.key))
    + length (spelled (optional 2 Bytes attribute.value))
attribute_length attribute =
    ap length (attribute_spelled attribute)
    ∙ simp length-append (omega (arith, small_head 1 attribute.key (omega arith)))

-- ---- one more item

pub longer_tags : (tags : List (List ℕ)) (i : ℕ) (tag : List ℕ) → i < length tags → tag ≡ get_or tags i tag
    → length (spelled (repeated 7 Bytes (take (i + 1) tags)))
    ≡ length (spelled (repeated 7 Bytes (take i tags))) + (1 + (length (varint (length tag)) + length tag))
longer_tags tags i tag inside is =
    ap length (next_tag tags i tag inside is) ∙ simp length-append (omega (arith, small_head 7 tag (omega arith)))

pub longer_attributes : (attributes : List Attr) (i : ℕ) (attribute : Attr) → i < length attributes
    → attribute ≡ get_or attributes i attribute
    → length (spelled (repeated 9 attribute_content (take (i + 1) attributes)))
    ≡ length (spelled (repeated 9 attribute_content (take i attributes)))
    + (1
    + (length (varint (length (spelled (attribute_values attribute)))) + length (spelled (attribute_values attribute))))
longer_attributes attributes i attribute inside is =
    ap length (next_attribute attributes i attribute inside is)
    ∙ simp length-append (omega (arith, small_head 9 (spelled (attribute_values attribute)) (omega arith)))

pub longer_events : (events : List Event) (i : ℕ) (event : Event) → i < length events → event ≡ get_or events i event
    → length (spelled (repeated 6 event_content (take (i + 1) events)))
    ≡ length (spelled (repeated 6 event_content (take i events)))
    + (1 + (length (varint (length (spelled (event_values event)))) + length (spelled (event_values event))))
longer_events events i event inside is =
    ap length (next_event events i event inside is)
    ∙ simp length-append (omega (arith, small_head 6 (spelled (event_values event)) (omega arith)))

-- ---- events that are lent

pub longer_lent : (events : List (Bor Event)) (i : ℕ) (event : Bor Event) → i < length events
    → event ≡ get_or events i event
    → length (spelled (repeated 6 event_content (events_lent (take (i + 1) events))))
    ≡ length (spelled (repeated 6 event_content (events_lent (take i events))))
    + (1 + (length (varint (length (spelled (event_values event.now)))) + length (spelled (event_values event.now))))
longer_lent events i event within is =
    rw (lent_so_far events (i + 1), lent_so_far events i)
    (longer_events (events_lent events) i event.now (lent_within events i within) (lent_at events i event within is))

pub found_length : (events : List Event)
    → length (spelling (found events))
    ≡ length (spelled (optional 2 (λ ok. Varint (from_bool ok)) (Some true)))
    + length (spelled (repeated 6 event_content events))
found_length events =
    ap length (found_spelled events)
    ∙ length-append (spelled (optional 2 (λ ok. Varint (from_bool ok)) (Some true)))
    (spelled (repeated 6 event_content events))
