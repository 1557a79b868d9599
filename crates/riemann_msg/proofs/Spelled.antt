-- The bytes of fields are those of their parts, one after the other.
use Rattle.std.proofs.Common.{◌≡◌, ℕ, ◌+◌, ◌*◌, ◌<◌, List, [], ◌∷◌, ◌++◌, length, get_or, take, true, Some, refl, sym}
use Rattle.std.proofs.Common.{ap, ◌∙◌, append_assoc, arith}
use Rattle.std.proofs.lemmas.Grind.{flat_map-append}
use Rattle.std.proofs.lemmas.List.{append-nil, get_or-map, length-map, take_more, take-map, map-append}
use denote.Ref.{Bor}
use Rattle.std.specs.Int.{from_bool}
use Rattle.std.specs.Prelude.{Option, Result, Ok, Err, IsErrAnd, OnOk, OnErr}
use Rattle.std.proofs.lemmas.Result.{on_ok_weaker}
use Rattle.list_laws.specs.Prefix.{IsPrefix}
use Rattle.ev_types.specs.declared.event.Attr.{Attr}
use Rattle.ev_types.specs.declared.event.Event.{Event}
use Rattle.pb_wire.specs.Varint.{varint}
use Rattle.pb_wire.specs.Spelling.{Content, Varint, Eight, Bytes, Four, field_spelling, bytes_head}
use Rattle.pb_wire.specs.ReadBack.{FieldValue, value_spelling}
use Rattle.riemann_msg.specs.declared.msg.Msg.{Msg}
use Rattle.riemann_msg.specs.declared.msg.QueryPart.{QueryPart}
use Rattle.riemann_msg.specs.Reply.{events_lent, found}
use Rattle.riemann_msg.specs.Ttl.{bits_of}
use Rattle.riemann_msg.specs.Spelling.{field, optional, repeated, spelled, int64, sint64, attribute_values}
use Rattle.riemann_msg.specs.Spelling.{attribute_content, name_values, number_values, event_values, event_content}
use Rattle.riemann_msg.specs.Spelling.{query_values, query_content, message_values, spelling}

-- ---- what grew step by step

pub grown2 : (o a b x y total : List ℕ) → a ≡ o ++ x → b ≡ a ++ y → total ≡ x ++ y → b ≡ o ++ total
grown2 o a b x y total p q whole = rw (whole, q, p) (append_assoc o x y)

pub grown3 : (o a b c x y z total : List ℕ) → a ≡ o ++ x → b ≡ a ++ y → c ≡ b ++ z → total ≡ x ++ (y ++ z)
    → c ≡ o ++ total
grown3 o a b c x y z total p q r whole = grown2 o a c x (y ++ z) total p (grown2 a b c y z (y ++ z) q r refl) whole

pub grown4 : (o a b c d x y z u total : List ℕ) → a ≡ o ++ x → b ≡ a ++ y → c ≡ b ++ z → d ≡ c ++ u
    → total ≡ x ++ (y ++ (z ++ u)) → d ≡ o ++ total
grown4 o a b c d x y z u total p q r s whole =
    grown3 o a b d x y (z ++ u) total p q (grown2 b c d z u (z ++ u) r s refl) whole

pub grown5 : (o a b c d e x y z u v total : List ℕ) → a ≡ o ++ x → b ≡ a ++ y → c ≡ b ++ z → d ≡ c ++ u → e ≡ d ++ v
    → total ≡ x ++ (y ++ (z ++ (u ++ v))) → e ≡ o ++ total
grown5 o a b c d e x y z u v total p q r s t whole =
    grown4 o a b c e x y z (u ++ v) total p q r (grown2 c d e u v (u ++ v) s t refl) whole

-- ---- where memory runs out

pub not_written : {T E : Type 0} (Q : E → Type 0) (answer : Result T E) (P : Type 0) → IsErrAnd answer Q
    → OnOk answer P
not_written Q (Ok x) P h = absurd h
not_written Q (Err e) P h = tt

-- what was there before is still there: at the first call, or after calls that appended
pub begins0 : {T E : Type 0} (answer : Result T E) (o new : List ℕ) → IsPrefix o new → OnErr answer (IsPrefix o new)
begins0 (Ok x) o new h = tt
begins0 (Err e) o new h = h

pub begins1 : {T E : Type 0} (answer : Result T E) (o a new x : List ℕ) → a ≡ o ++ x → IsPrefix a new
    → OnErr answer (IsPrefix o new)
begins1 answer o a new x p (rest, is) =
    begins0 answer o new (x ++ rest, is ∙ ap (λ (bytes : List ℕ). bytes ++ rest) p ∙ append_assoc o x rest)

pub begins2 : {T E : Type 0} (answer : Result T E) (o a b new x y : List ℕ) → a ≡ o ++ x → b ≡ a ++ y
    → IsPrefix b new → OnErr answer (IsPrefix o new)
begins2 answer o a b new x y p q h = begins1 answer o b new (x ++ y) (grown2 o a b x y (x ++ y) p q refl) h

pub begins3 : {T E : Type 0} (answer : Result T E) (o a b c new x y z : List ℕ) → a ≡ o ++ x → b ≡ a ++ y
    → c ≡ b ++ z → IsPrefix c new → OnErr answer (IsPrefix o new)
begins3 answer o a b c new x y z p q r h =
    begins2 answer o b c new (x ++ y) z (grown2 o a b x y (x ++ y) p q refl) r h

pub begins4 : {T E : Type 0} (answer : Result T E) (o a b c d new x y z u : List ℕ) → a ≡ o ++ x → b ≡ a ++ y
    → c ≡ b ++ z → d ≡ c ++ u → IsPrefix d new → OnErr answer (IsPrefix o new)
begins4 answer o a b c d new x y z u p q r s h =
    begins3 answer o b c d new (x ++ y) z u (grown2 o a b x y (x ++ y) p q refl) r s h

pub prefix_same : (o : List ℕ) → IsPrefix o o
prefix_same o = ([], sym (append-nil o))

-- ---- the fields of each message

-- a field of bytes is its head and the bytes
pub embedded : (number : ℕ) (bytes : List ℕ)
    → field_spelling number (Bytes bytes) ≡ bytes_head number (length bytes) ++ bytes
unfolding field_spelling bytes_head
embedded number bytes = sym (append_assoc (varint (number * 8 + 2)) (varint (length bytes)) bytes)

pub spelled-append : (xs ys : List FieldValue) → spelled (xs ++ ys) ≡ spelled xs ++ spelled ys
spelled-append xs ys = flat_map-append value_spelling xs ys

pub message_spelled : (msg : Msg)
    → spelling msg ≡ spelled (optional 2 (λ ok. Varint (from_bool ok)) msg.ok) ++ (spelled (optional 3 Bytes msg.error)
    ++ (spelled (optional 5 query_content msg.query) ++ spelled (repeated 6 event_content msg.events)))
unfolding spelling message_values
message_spelled msg = simp (flat_map-append)

pub event_spelled : (event : Event)
    → spelled (event_values event) ≡ spelled (name_values event) ++ (spelled (repeated 7 Bytes event.tags)
    ++ (spelled (optional 8 (λ ttl. Four (bits_of ttl)) event.ttl)
    ++ (spelled (repeated 9 attribute_content event.attributes) ++ spelled (number_values event))))
unfolding event_values
event_spelled event = simp (flat_map-append)

pub names_spelled : (event : Event)
    → spelled (name_values event)
    ≡ field_spelling 1 (int64 event.time)
    ++ (spelled (optional 2 Bytes event.state) ++ (spelled (optional 3 Bytes event.service)
    ++ (spelled (optional 4 Bytes event.host) ++ spelled (optional 5 Bytes event.description))))
names_spelled event = simp (flat_map-append)

pub numbers_spelled : (event : Event)
    → spelled (number_values event)
    ≡ spelled (optional 10 int64 event.time_micros) ++ (spelled (optional 13 sint64 event.metric)
    ++ (spelled (optional 14 Eight event.raw_d) ++ spelled (optional 15 Four event.raw_f)))
numbers_spelled event = simp (flat_map-append)

-- a field that may be absent, and is there
pub put_some : {A T E : Type 0} (answer : Result T E) (number : ℕ) (content : A → Content) (x : A) (value : Option A)
    (old new : List ℕ) → value ≡ Some x → OnOk answer (new ≡ old ++ field_spelling number (content x))
    → OnOk answer (new ≡ old ++ spelled (optional number content value))
put_some answer number content x value old new is done =
    rw is (on_ok_weaker answer
    (λ (e : new ≡ old ++ field_spelling number (content x)).
    e ∙ ap (λ (bytes : List ℕ). old ++ bytes) (sym (append-nil (field_spelling number (content x))))) done)

pub attribute_spelled : (attribute : Attr)
    → spelled (attribute_values attribute)
    ≡ field_spelling 1 (Bytes attribute.key) ++ spelled (optional 2 Bytes attribute.value)
unfolding attribute_values
attribute_spelled attribute = refl

pub attribute_embedded : (attribute : Attr)
    → field_spelling 9 (attribute_content attribute)
    ≡ bytes_head 9 (length (spelled (attribute_values attribute)))
    ++ (field_spelling 1 (Bytes attribute.key) ++ spelled (optional 2 Bytes attribute.value))
attribute_embedded attribute =
    embedded 9 (spelled (attribute_values attribute))
    ∙ ap (λ bytes. bytes_head 9 (length (spelled (attribute_values attribute))) ++ bytes) (attribute_spelled attribute)

-- ---- one more item of a field that is written once for each

repeated-append : {A : Type 0} (number : ℕ) (content : A → Content) (xs ys : List A)
    → spelled (repeated number content (xs ++ ys))
    ≡ spelled (repeated number content xs) ++ spelled (repeated number content ys)
repeated-append number content xs ys =
    ap spelled (map-append (λ x. field number (content x)) xs ys)
    ∙ spelled-append (repeated number content xs) (repeated number content ys)

next_item : {A : Type 0} (number : ℕ) (content : A → Content) (xs : List A) (i : ℕ) (x : A) → i < length xs
    → x ≡ get_or xs i x
    → spelled (repeated number content (take (i + 1) xs))
    ≡ spelled (repeated number content (take i xs)) ++ field_spelling number (content x)
next_item number content xs i x inside is =
    let front : take (i + 1) xs ≡ take i xs ++ x ∷ [] =
    take_more xs i x inside ∙ ap (λ y. take i xs ++ y ∷ []) (sym is) in
    ap (λ ys. spelled (repeated number content ys)) front ∙ repeated-append number content (take i xs) (x ∷ [])
    ∙ ap (λ ys. spelled (repeated number content (take i xs)) ++ ys) (append-nil (field_spelling number (content x)))

pub next_tag : (tags : List (List ℕ)) (i : ℕ) (tag : List ℕ) → i < length tags → tag ≡ get_or tags i tag
    → spelled (repeated 7 Bytes (take (i + 1) tags))
    ≡ spelled (repeated 7 Bytes (take i tags)) ++ field_spelling 7 (Bytes tag)
next_tag tags i tag inside is = next_item 7 Bytes tags i tag inside is

pub next_attribute : (attributes : List Attr) (i : ℕ) (attribute : Attr) → i < length attributes
    → attribute ≡ get_or attributes i attribute
    → spelled (repeated 9 attribute_content (take (i + 1) attributes))
    ≡ spelled (repeated 9 attribute_content (take i attributes)) ++ field_spelling 9 (attribute_content attribute)
next_attribute attributes i attribute inside is = next_item 9 attribute_content attributes i attribute inside is

pub next_event : (events : List Event) (i : ℕ) (event : Event) → i < length events → event ≡ get_or events i event
    → spelled (repeated 6 event_content (take (i + 1) events))
    ≡ spelled (repeated 6 event_content (take i events)) ++ field_spelling 6 (event_content event)
next_event events i event inside is = next_item 6 event_content events i event inside is

pub query_spelled : (query : QueryPart)
    → spelled (optional 5 query_content (Some query))
    ≡ bytes_head 5 (length (spelled (query_values query))) ++ spelled (query_values query)
query_spelled query = append-nil (field_spelling 5 (query_content query)) ∙ embedded 5 (spelled (query_values query))

-- ---- events that are lent

pub lent_within : (events : List (Bor Event)) (i : ℕ) → i < length events → i < length (events_lent events)
lent_within events i within = omega (arith, length-map events (λ (e : Bor Event). e.now))

pub lent_at : (events : List (Bor Event)) (i : ℕ) (event : Bor Event) → i < length events
    → event ≡ get_or events i event → event.now ≡ get_or (events_lent events) i event.now
lent_at events i event within is =
    ap (λ (e : Bor Event). e.now) is ∙ sym (get_or-map (λ (e : Bor Event). e.now) events i event event.now within)

pub lent_so_far : (events : List (Bor Event)) (i : ℕ) → events_lent (take i events) ≡ take i (events_lent events)
lent_so_far events i = sym (take-map (λ (e : Bor Event). e.now) i events)

pub next_lent : (events : List (Bor Event)) (i : ℕ) (event : Bor Event) → i < length events
    → event ≡ get_or events i event
    → spelled (repeated 6 event_content (events_lent (take (i + 1) events)))
    ≡ spelled (repeated 6 event_content (events_lent (take i events))) ++ field_spelling 6 (event_content event.now)
next_lent events i event within is =
    rw (lent_so_far events (i + 1), lent_so_far events i)
    (next_event (events_lent events) i event.now (lent_within events i within) (lent_at events i event within is))

pub found_spelled : (events : List Event)
    → spelling (found events)
    ≡ spelled (optional 2 (λ ok. Varint (from_bool ok)) (Some true)) ++ spelled (repeated 6 event_content events)
found_spelled events = message_spelled (found events)
