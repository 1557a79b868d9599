-- The bytes of an event, with each tag beside what follows it, are those that are written for it.
use Rattle.std.proofs.Common.{◌≡◌, ℕ, ◌+◌, ◌*◌, ◌<◌, List, [], ◌∷◌, ◌++◌, Option, Some, None, ℤ, refl, sym, ap, ◌∙◌}
use Rattle.std.proofs.Common.{append_assoc, arith}
use Rattle.std.specs.Int.{w32, w64, to_le_bytes}
use Rattle.std.proofs.lemmas.Bool.{lt-ltb}
use Rattle.std.proofs.lemmas.List.{append-nil}
use Rattle.ev_types.specs.declared.event.Attr.{Attr}
use Rattle.ev_types.specs.declared.event.Event.{Event}
use Rattle.pb_wire.specs.Spelling.{Content, Varint, Eight, Bytes, Four, field_spelling}
use Rattle.pb_wire.specs.Varint.{spelled_within, varint}
use Rattle.riemann_msg.specs.Spelling.{attribute_content, attribute_values, event_values, int64, name_values}
use Rattle.riemann_msg.specs.Spelling.{number_values, optional, repeated, sint64, spelled}
use Rattle.riemann_msg.specs.Ttl.{bits_of}
use Rattle.riemann_msg.proofs.Spelled.{attribute_spelled, event_spelled, names_spelled, numbers_spelled}
use Rattle.packed_event.proofs.Attributes.{attribute_body, attribute_text}
use Rattle.packed_event.proofs.Bodies.{counted_text, int64_text, sint64_text, ttl_text}
use Rattle.packed_event.proofs.Stages.{optional_text, repeated_text}

-- the time and the texts of an event, and the rest
abbrev pub names_text : ℤ → Option (List ℕ) → Option (List ℕ) → Option (List ℕ) → Option (List ℕ) → List ℕ → List ℕ
names_text time state service host description rest = 8 ∷ (int64_text time ++ (optional_text 18 counted_text state
    ++ (optional_text 26 counted_text service ++ (optional_text 34 counted_text host
    ++ (optional_text 42 counted_text description ++ rest)))))

abbrev pub numbers_text : Option ℤ → Option ℤ → Option ℕ → Option ℕ → List ℕ → List ℕ
numbers_text micros metric raw_d raw_f rest = optional_text 80 int64_text micros
    ++ (optional_text 104 sint64_text metric
    ++ (optional_text 113 (to_le_bytes w64) raw_d ++ (optional_text 125 (to_le_bytes w32) raw_f ++ rest)))

abbrev pub lists_text : List (List ℕ) → Option ℕ → List Attr → List ℕ → List ℕ
lists_text tags ttl attributes rest = repeated_text 58 counted_text tags ++ (optional_text 69 ttl_text ttl
    ++ (repeated_text 74 attribute_body attributes ++ rest))

abbrev pub event_text : Event → List ℕ
event_text event =
    names_text event.time event.state event.service event.host event.description
    (lists_text event.tags event.ttl event.attributes
    (numbers_text event.time_micros event.metric event.raw_d event.raw_f []))

-- ---- fields

pub one_byte : (n : ℕ) → n < 128 → varint n ≡ n ∷ []
unfolding varint spelled_within
one_byte n small = rw (lt-ltb n 128 small) refl

pub of_bytes : (number tag : ℕ) (bytes : List ℕ) → number * 8 + 2 ≡ tag → tag < 128
    → field_spelling number (Bytes bytes) ≡ tag ∷ counted_text bytes
unfolding field_spelling
of_bytes number tag bytes is small =
    ap (λ (n : ℕ). varint n ++ counted_text bytes) is ∙ ap (λ (t : List ℕ). t ++ counted_text bytes)
    (one_byte tag small)

pub of_varint : (number tag value : ℕ) → number * 8 + 0 ≡ tag → tag < 128
    → field_spelling number (Varint value) ≡ tag ∷ varint value
unfolding field_spelling
of_varint number tag value is small =
    ap (λ (n : ℕ). varint n ++ varint value) is ∙ ap (λ (t : List ℕ). t ++ varint value) (one_byte tag small)

of_four : (number tag value : ℕ) → number * 8 + 5 ≡ tag → tag < 128
    → field_spelling number (Four value) ≡ tag ∷ to_le_bytes w32 value
unfolding field_spelling
of_four number tag value is small =
    ap (λ (n : ℕ). varint n ++ to_le_bytes w32 value) is
    ∙ ap (λ (t : List ℕ). t ++ to_le_bytes w32 value) (one_byte tag small)

of_eight : (number tag value : ℕ) → number * 8 + 1 ≡ tag → tag < 128
    → field_spelling number (Eight value) ≡ tag ∷ to_le_bytes w64 value
unfolding field_spelling
of_eight number tag value is small =
    ap (λ (n : ℕ). varint n ++ to_le_bytes w64 value) is
    ∙ ap (λ (t : List ℕ). t ++ to_le_bytes w64 value) (one_byte tag small)

optional_is : {A : Type 0} (number tag : ℕ) (content : A → Content) (text : A → List ℕ)
    → ((x : A) → field_spelling number (content x) ≡ tag ∷ text x) → (value : Option A)
    → spelled (optional number content value) ≡ optional_text tag text value
optional_is number tag content text each None = refl
optional_is number tag content text each (Some x) = append-nil (field_spelling number (content x)) ∙ each x

repeated_is : {A : Type 0} (number tag : ℕ) (content : A → Content) (text : A → List ℕ)
    → ((x : A) → field_spelling number (content x) ≡ tag ∷ text x) → (items : List A)
    → spelled (repeated number content items) ≡ repeated_text tag text items
repeated_is number tag content text each [] = refl
repeated_is number tag content text each (x ∷ xs) =
    ap (λ (t : List ℕ). t ++ spelled (repeated number content xs)) (each x)
    ∙ ap (λ (t : List ℕ). tag ∷ (text x ++ t)) (repeated_is number tag content text each xs)

of_text : (number tag : ℕ) → number * 8 + 2 ≡ tag → tag < 128 → (value : Option (List ℕ))
    → spelled (optional number Bytes value) ≡ optional_text tag counted_text value
of_text number tag is small value =
    optional_is number tag (λ (x : List ℕ). Bytes x) counted_text (λ x. of_bytes number tag x is small) value

-- ---- parts of an event

join2 : (a p b q : List ℕ) → a ≡ p → b ≡ q → a ++ b ≡ p ++ q
join2 a p b q e f = cc

join4 : (a p b q c r d s : List ℕ) → a ≡ p → b ≡ q → c ≡ r → d ≡ s → a ++ (b ++ (c ++ d)) ≡ p ++ (q ++ (r ++ s))
join4 a p b q c r d s e f g h = cc

join5 : (a p b q c r d s x y : List ℕ) → a ≡ p → b ≡ q → c ≡ r → d ≡ s → x ≡ y
    → a ++ (b ++ (c ++ (d ++ x))) ≡ p ++ (q ++ (r ++ (s ++ y)))
join5 a p b q c r d s x y e f g h i = cc

moved5 : (a b c d x rest : List ℕ)
    → (a ++ (b ++ (c ++ (d ++ x)))) ++ rest ≡ a ++ (b ++ (c ++ (d ++ (x ++ rest))))
moved5 a b c d x rest =
    append_assoc a (b ++ (c ++ (d ++ x))) rest
    ∙ ap (λ (t : List ℕ). a ++ t)
    (append_assoc b (c ++ (d ++ x)) rest
    ∙ ap (λ (t : List ℕ). b ++ t)
    (append_assoc c (d ++ x) rest ∙ ap (λ (t : List ℕ). c ++ t) (append_assoc d x rest)))

names_are : (event : Event) (rest : List ℕ)
    → spelled (name_values event) ++ rest
    ≡ names_text event.time event.state event.service event.host event.description rest
names_are event rest =
    ap (λ (t : List ℕ). t ++ rest)
    (names_spelled event
    ∙ join5 (field_spelling 1 (int64 event.time)) (8 ∷ int64_text event.time) (spelled (optional 2 Bytes event.state))
    (optional_text 18 counted_text event.state) (spelled (optional 3 Bytes event.service))
    (optional_text 26 counted_text event.service) (spelled (optional 4 Bytes event.host))
    (optional_text 34 counted_text event.host) (spelled (optional 5 Bytes event.description))
    (optional_text 42 counted_text event.description)
    (of_varint 1 8 _ refl (omega arith)) (of_text 2 18 refl (omega arith) event.state)
    (of_text 3 26 refl (omega arith) event.service) (of_text 4 34 refl (omega arith) event.host)
    (of_text 5 42 refl (omega arith) event.description))
    ∙ moved5 (8 ∷ int64_text event.time) (optional_text 18 counted_text event.state)
    (optional_text 26 counted_text event.service) (optional_text 34 counted_text event.host)
    (optional_text 42 counted_text event.description) rest

numbers_are : (event : Event)
    → spelled (number_values event)
    ≡ numbers_text event.time_micros event.metric event.raw_d event.raw_f []
numbers_are event =
    numbers_spelled event
    ∙ join4 (spelled (optional 10 int64 event.time_micros)) (optional_text 80 int64_text event.time_micros)
    (spelled (optional 13 sint64 event.metric)) (optional_text 104 sint64_text event.metric)
    (spelled (optional 14 Eight event.raw_d)) (optional_text 113 (to_le_bytes w64) event.raw_d)
    (spelled (optional 15 Four event.raw_f)) (optional_text 125 (to_le_bytes w32) event.raw_f ++ [])
    (optional_is 10 80 int64 int64_text (λ x. of_varint 10 80 _ refl (omega arith)) event.time_micros)
    (optional_is 13 104 sint64 sint64_text (λ x. of_varint 13 104 _ refl (omega arith)) event.metric)
    (optional_is 14 113 (λ (x : ℕ). Eight x) (to_le_bytes w64) (λ x. of_eight 14 113 x refl (omega arith)) event.raw_d)
    (optional_is 15 125 (λ (x : ℕ). Four x) (to_le_bytes w32) (λ x. of_four 15 125 x refl (omega arith)) event.raw_f
    ∙ sym (append-nil (optional_text 125 (to_le_bytes w32) event.raw_f)))

attribute_is : (attribute : Attr) → spelled (attribute_values attribute) ≡ attribute_text attribute
attribute_is attribute =
    attribute_spelled attribute
    ∙ join2 (field_spelling 1 (Bytes attribute.key)) (10 ∷ counted_text attribute.key)
    (spelled (optional 2 Bytes attribute.value)) (optional_text 18 counted_text attribute.value ++ [])
    (of_bytes 1 10 attribute.key refl (omega arith))
    (of_text 2 18 refl (omega arith) attribute.value
    ∙ sym (append-nil (optional_text 18 counted_text attribute.value)))

lists_are : (event : Event) (rest text : List ℕ) → rest ≡ text
    → spelled (repeated 7 Bytes event.tags) ++ (spelled (optional 8 (λ ttl. Four (bits_of ttl)) event.ttl)
    ++ (spelled (repeated 9 attribute_content event.attributes) ++ rest))
    ≡ lists_text event.tags event.ttl event.attributes text
lists_are event rest text is =
    join4 (spelled (repeated 7 Bytes event.tags)) (repeated_text 58 counted_text event.tags)
    (spelled (optional 8 (λ ttl. Four (bits_of ttl)) event.ttl)) (optional_text 69 ttl_text event.ttl)
    (spelled (repeated 9 attribute_content event.attributes)) (repeated_text 74 attribute_body event.attributes) rest
    text
    (repeated_is 7 58 (λ (x : List ℕ). Bytes x) counted_text (λ x. of_bytes 7 58 x refl (omega arith)) event.tags)
    (optional_is 8 69 (λ (ttl : ℕ). Four (bits_of ttl)) ttl_text (λ x. of_four 8 69 (bits_of x) refl (omega arith))
    event.ttl)
    (repeated_is 9 74 attribute_content attribute_body
    (λ x. of_bytes 9 74 (spelled (attribute_values x)) refl (omega arith)
    ∙ ap (λ (t : List ℕ). 74 ∷ counted_text t) (attribute_is x)) event.attributes)
    is

pub event_is : (event : Event) → spelled (event_values event) ≡ event_text event
event_is event =
    event_spelled event
    ∙ ap (λ (t : List ℕ). spelled (name_values event) ++ t)
    (lists_are event (spelled (number_values event))
    (numbers_text event.time_micros event.metric event.raw_d event.raw_f []) (numbers_are event))
    ∙ names_are event
    (lists_text event.tags event.ttl event.attributes
    (numbers_text event.time_micros event.metric event.raw_d event.raw_f []))
