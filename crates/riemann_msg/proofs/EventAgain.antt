-- An event that is written is read again, with its attributes.
use Rattle.std.proofs.Common.{◌≡◌, ℕ, ◌^◌, ◌<◌, ◌≤◌, true, false, eqb, List, [], ◌∷◌, ◌++◌, length, Option, Some, None}
use Rattle.std.proofs.Common.{ℤ, pos, negsuc, refl, sym, ap, ◌∙◌, arith}
use Rattle.std.specs.Prelude.{IfSome, FitsSigned, is_some, slice_range, unwrap_or}
use Rattle.std.specs.Int.{w64, cast_unsigned}
use Rattle.std.specs.List.{AllByRecursion, filter_map}
use Rattle.std.specs.Option.{option_map, option_and_then}
use Rattle.std.specs.Str.{IsUtf8, is_utf8}
use Rattle.std.proofs.lemmas.Str.{is_utf8-from_IsUtf8}
use Rattle.std.proofs.lemmas.List.{append-nil}
use Rattle.std.proofs.Math.Facts.{Fits-of_z}
use Rattle.ev_types.specs.declared.event.Attr.{Attr}
use Rattle.ev_types.specs.declared.event.Event.{Event}
use Rattle.pb_wire.specs.declared.reader.Body.{Body}
use Rattle.pb_wire.specs.declared.reader.Body.TheVariants.{Varint as body_varint, Eight as body_eight}
use Rattle.pb_wire.specs.declared.reader.Body.TheVariants.{Bytes as body_bytes, Four as body_four}
use Rattle.pb_wire.specs.Spelling.{Content, Varint, Eight, Bytes, Four, content_in}
use Rattle.pb_wire.specs.ReadBack.{FieldValue}
use Rattle.riemann_msg.specs.Ttl.{IsSpellableTtl, seconds_of, bits_of}
use Rattle.riemann_msg.specs.Value.{bytes_in, eight_in, four_in, int64_in, sint64_in, ttl_in, attribute_in, is_among}
use Rattle.riemann_msg.specs.Value.{all_in, last_in, attribute_from, attribute_of, event_from, event_of, second_of}
use Rattle.riemann_msg.specs.Fault.{attribute_field_fault, event_field_fault, attribute_fault, event_fault}
use Rattle.riemann_msg.specs.Spelling.{field, optional, repeated, spelled, zigzag, int64, sint64, attribute_values}
use Rattle.riemann_msg.specs.Spelling.{attribute_content, name_values, number_values, event_values}
use Rattle.riemann_msg.specs.ReadBack.{IsWellFormedAttribute, IsWellFormedEvent}
use Rattle.riemann_msg.specs.Draft.{field_at}
use Rattle.riemann_msg.proofs.TtlBits.{seconds_from_ttl, bits_of_spells, bits_of_small}
use Rattle.riemann_msg.proofs.FoundAgain.{found_in_both, found_in_option, found_in_map, none_in_option, none_in_list}
use Rattle.riemann_msg.proofs.FoundAgain.{some_in_option, some_in_list, last_of_option, some_if, all_if, some_attribute}
use Rattle.riemann_msg.proofs.FoundAgain.{int64_again, sint64_again, ttl_again, NumberFits, BytesWithin, IsNumbered}
use Rattle.riemann_msg.proofs.FoundAgain.{all_append, all_optional, all_repeated, from_repeated, from_back, from_front}
use Rattle.riemann_msg.proofs.FoundAgain.{both_all, bodies_within, read_again, cond_none, utf8_none, no}

-- ---- attributes

abbrev AttributeClean : ℕ → Content → Type 0
AttributeClean number (Bytes bytes) = is_among number (1 ∷ 2 ∷ []) ≡ true → is_utf8 bytes ≡ true
AttributeClean number (Varint value) = Unit {0}
AttributeClean number (Eight value) = Unit {0}
AttributeClean number (Four value) = Unit {0}

attribute_field_clean : (bytes : List ℕ) (number place : ℕ) (body : Body)
    → AttributeClean number (content_in bytes body) → attribute_field_fault bytes (field_at number body place) ≡ None
attribute_field_clean bytes number place (body_bytes start last) clean =
    cond_none (is_among number (1 ∷ 2 ∷ [])) _ None (λ test. utf8_none (slice_range bytes start last) _ (clean test))
    (λ _. refl)
attribute_field_clean bytes number place (body_varint value) clean =
    cond_none (is_among number (1 ∷ 2 ∷ [])) None None (λ _. refl) (λ _. refl)
attribute_field_clean bytes number place (body_eight value) clean =
    cond_none (is_among number (1 ∷ 2 ∷ [])) None None (λ _. refl) (λ _. refl)
attribute_field_clean bytes number place (body_four value) clean =
    cond_none (is_among number (1 ∷ 2 ∷ [])) None None (λ _. refl) (λ _. refl)

attribute_from_values : (key : List ℕ) (value : Option (List ℕ))
    → attribute_from (field 1 (Bytes key) ∷ optional 2 Bytes value) ≡ record { key = key; value = value }
attribute_from_values key None = refl
attribute_from_values key (Some value) = refl

attribute_has_key : (key : List ℕ) (value : Option (List ℕ))
    → last_in bytes_in 1 (field 1 (Bytes key) ∷ optional 2 Bytes value) ≡ Some key
attribute_has_key key None = refl
attribute_has_key key (Some value) = refl

record AttributeBack (attribute : Attr) : Type 0 where
  same : attribute_of (spelled (attribute_values attribute)) ≡ attribute
  clean : attribute_fault (spelled (attribute_values attribute)) ≡ None

attribute_again : (attribute : Attr) → IsWellFormedAttribute attribute
    → length (spelled (attribute_values attribute)) < 2 ^ 64 → AttributeBack attribute
unfolding attribute_values attribute_of attribute_fault
attribute_again attribute true' short =
    let values = field 1 (Bytes attribute.key) ∷ optional 2 Bytes attribute.value in
    let numbered : AllByRecursion IsNumbered values = (
      record { positive = omega arith; small = omega arith; fits = tt },
      all_optional IsNumbered 2 Bytes attribute.value
          (some_if IsUtf8 _ attribute.value true'.value
          (λ text utf8. record { positive = omega arith; small = omega arith; fits = tt })),
    ) in
    let clean : AllByRecursion (λ value. AttributeClean value.number value.content) values = (
      (λ _. is_utf8-from_IsUtf8 attribute.key true'.key),
      all_optional (λ value. AttributeClean value.number value.content) 2 Bytes attribute.value
          (some_if IsUtf8 _ attribute.value true'.value (λ text utf8 _. is_utf8-from_IsUtf8 text utf8)),
    ) in
    let back =
    read_again attribute_field_fault (λ value. AttributeClean value.number value.content) values
    (λ bytes field. attribute_field_clean bytes field.number field.place field.body) numbered clean short in
    record {
      same = ap attribute_from back.0 ∙ attribute_from_values attribute.key attribute.value;
      clean = rw (back.1, back.0, attribute_has_key attribute.key attribute.value) refl;
    }

-- ---- events

record TextClean (number : ℕ) (bytes : List ℕ) : Type 0 where
  text : is_among number (2 ∷ 3 ∷ 4 ∷ 5 ∷ 7 ∷ []) ≡ true → is_utf8 bytes ≡ true
  attribute : eqb number 9 ≡ true → attribute_fault bytes ≡ None

abbrev EventClean : ℕ → Content → Type 0
EventClean number (Bytes bytes) = TextClean number bytes
EventClean number (Four bits) = eqb number 8 ≡ true → is_some (seconds_of bits) ≡ true
EventClean number (Varint value) = Unit {0}
EventClean number (Eight value) = Unit {0}

event_field_clean : (bytes : List ℕ) (number place : ℕ) (body : Body) → EventClean number (content_in bytes body)
    → event_field_fault bytes (field_at number body place) ≡ None
event_field_clean bytes number place (body_bytes start last) clean =
    cond_none (is_among number (2 ∷ 3 ∷ 4 ∷ 5 ∷ 7 ∷ [])) _ _
    (λ test. utf8_none (slice_range bytes start last) _ (clean.text test))
    (λ _. cond_none (eqb number 8) None _ (λ _. refl)
    (λ _. cond_none (eqb number 9) _ None (λ test. rw (clean.attribute test) refl) (λ _. refl)))
event_field_clean bytes number place (body_four bits) clean =
    cond_none (is_among number (2 ∷ 3 ∷ 4 ∷ 5 ∷ 7 ∷ [])) None _ (λ _. refl)
    (λ _. cond_none (eqb number 8) _ _ (λ test. rw (clean test) refl)
    (λ _. cond_none (eqb number 9) None None (λ _. refl) (λ _. refl)))
event_field_clean bytes number place (body_varint value) clean =
    cond_none (is_among number (2 ∷ 3 ∷ 4 ∷ 5 ∷ 7 ∷ [])) None _ (λ _. refl)
    (λ _. cond_none (eqb number 8) None _ (λ _. refl) (λ _. cond_none (eqb number 9) None None (λ _. refl) (λ _. refl)))
event_field_clean bytes number place (body_eight value) clean =
    cond_none (is_among number (2 ∷ 3 ∷ 4 ∷ 5 ∷ 7 ∷ [])) None _ (λ _. refl)
    (λ _. cond_none (eqb number 8) None _ (λ _. refl) (λ _. cond_none (eqb number 9) None None (λ _. refl) (λ _. refl)))

-- each value of an event comes back from its body
record BodiesBack (event : Event) : Type 0 where
  time : int64_in (int64 event.time) ≡ Some event.time
  ttl : option_and_then (λ ttl. ttl_in (Four (bits_of ttl))) event.ttl ≡ event.ttl
  attributes : filter_map (λ attribute. attribute_in (attribute_content attribute)) event.attributes ≡ event.attributes
  micros : option_and_then (λ micros. int64_in (int64 micros)) event.time_micros ≡ event.time_micros
  metric : option_and_then (λ metric. sint64_in (sint64 metric)) event.metric ≡ event.metric

pub same_option : {A : Type 0} (o : Option A) → option_and_then (λ x. Some x) o ≡ o
same_option None = refl
same_option (Some x) = refl

same_list : {A : Type 0} (xs : List A) → filter_map (λ x. Some x) xs ≡ xs
same_list [] = refl
same_list (x ∷ xs) = ap (λ ys. x ∷ ys) (same_list xs)

event_state : (event : Event) → last_in bytes_in 2 (event_values event) ≡ event.state
unfolding event_values
event_state event =
    simp (
      found_in_both,
      found_in_option,
      found_in_map,
      none_in_option,
      none_in_list,
      same_option,
      append-nil,
      last_of_option,
    )

event_ttl : (event : Event) → BodiesBack event → last_in ttl_in 8 (event_values event) ≡ event.ttl
unfolding event_values
event_ttl event back =
    simp
    (found_in_both, found_in_option, found_in_map, none_in_option, none_in_list, append-nil, last_of_option, back.ttl)

event_service : (event : Event) → last_in bytes_in 3 (event_values event) ≡ event.service
unfolding event_values
event_service event =
    simp (
      found_in_both,
      found_in_option,
      found_in_map,
      none_in_option,
      none_in_list,
      same_option,
      append-nil,
      last_of_option,
    )

event_host : (event : Event) → last_in bytes_in 4 (event_values event) ≡ event.host
unfolding event_values
event_host event =
    simp (
      found_in_both,
      found_in_option,
      found_in_map,
      none_in_option,
      none_in_list,
      same_option,
      append-nil,
      last_of_option,
    )

event_description : (event : Event) → last_in bytes_in 5 (event_values event) ≡ event.description
unfolding event_values
event_description event =
    simp (
      found_in_both,
      found_in_option,
      found_in_map,
      none_in_option,
      none_in_list,
      same_option,
      append-nil,
      last_of_option,
    )

event_tags : (event : Event) → all_in bytes_in 7 (event_values event) ≡ event.tags
unfolding event_values
event_tags event =
    simp (found_in_both, found_in_option, found_in_map, none_in_option, none_in_list, same_list, append-nil)

event_attributes : (event : Event) → BodiesBack event → all_in attribute_in 9 (event_values event) ≡ event.attributes
unfolding event_values
event_attributes event back =
    simp (found_in_both, found_in_option, found_in_map, none_in_option, none_in_list, append-nil, back.attributes)

event_micros : (event : Event) → BodiesBack event → last_in int64_in 10 (event_values event) ≡ event.time_micros
unfolding event_values
event_micros event back =
    simp (
      found_in_both,
      found_in_option,
      found_in_map,
      none_in_option,
      none_in_list,
      append-nil,
      last_of_option,
      back.micros,
    )

event_metric : (event : Event) → BodiesBack event → last_in sint64_in 13 (event_values event) ≡ event.metric
unfolding event_values
event_metric event back =
    simp (
      found_in_both,
      found_in_option,
      found_in_map,
      none_in_option,
      none_in_list,
      append-nil,
      last_of_option,
      back.metric,
    )

event_double : (event : Event) → last_in eight_in 14 (event_values event) ≡ event.raw_d
unfolding event_values
event_double event =
    simp (
      found_in_both,
      found_in_option,
      found_in_map,
      none_in_option,
      none_in_list,
      same_option,
      append-nil,
      last_of_option,
    )

event_float : (event : Event) → last_in four_in 15 (event_values event) ≡ event.raw_f
unfolding event_values
event_float event =
    simp (found_in_both, found_in_option, found_in_map, none_in_option, none_in_list, same_option, last_of_option)

event_time : (event : Event) → BodiesBack event → last_in int64_in 1 (event_values event) ≡ Some event.time
unfolding event_values
event_time event back =
    simp (found_in_both, found_in_option, found_in_map, none_in_option, none_in_list, append-nil) back.time

time_again : (time : ℤ) (micros : Option ℤ) → IfSome micros (λ micros. time ≡ second_of micros)
    → unwrap_or (option_map second_of micros) time ≡ time
time_again time None reported = refl
time_again time (Some micros) reported = sym reported

event_again : (now : ℤ) (event : Event) → BodiesBack event
    → IfSome event.time_micros (λ micros. event.time ≡ second_of micros) → event_from now (event_values event) ≡ event
event_again now event back timely =
    rw (
      event_state event,
      event_service event,
      event_host event,
      event_description event,
      event_tags event,
      event_ttl event back,
      event_attributes event back,
      event_micros event back,
      event_metric event back,
      event_double event,
      event_float event,
      event_time event back,
    )
    (ap (λ (time : ℤ). record event { time = time }) (time_again event.time event.time_micros timely))

pub record EventBack (event : Event) : Type 0 where
  pub same : (now : ℤ) → event_of now (spelled (event_values event)) ≡ event
  pub clean : event_fault (spelled (event_values event)) ≡ None

pub numbered : (number : ℕ) (content : Content) → 0 < number → number < 2 ^ 29 → NumberFits content
    → IsNumbered (field number content)
numbered number content some few fits = record { positive = some; small = few; fits = fits }

int64_fits : (z : ℤ) → FitsSigned w64 z → cast_unsigned w64 z < 2 ^ 64
int64_fits z fits = (Fits-of_z {w = w64} {z = z} fits).fits

sint64_fits : (z : ℤ) → FitsSigned w64 z → zigzag z < 2 ^ 64
sint64_fits (pos n) fits = omega (arith, fits.sfits)
sint64_fits (negsuc n) fits = omega (arith, fits.sfits)

all_names : (P : FieldValue → Type 0) (first : FieldValue) (a b c d : List FieldValue) → P first → AllByRecursion P a
    → AllByRecursion P b → AllByRecursion P c → AllByRecursion P d
    → AllByRecursion P (first ∷ (a ++ (b ++ (c ++ d))))
all_names P first a b c d pf pa pb pc pd =
    (pf, all_append P a (b ++ (c ++ d)) pa (all_append P b (c ++ d) pb (all_append P c d pc pd)))

pub all_numbers : (P : FieldValue → Type 0) (a b c d : List FieldValue) → AllByRecursion P a → AllByRecursion P b
    → AllByRecursion P c → AllByRecursion P d → AllByRecursion P (a ++ (b ++ (c ++ d)))
all_numbers P a b c d pa pb pc pd =
    all_append P a (b ++ (c ++ d)) pa (all_append P b (c ++ d) pb (all_append P c d pc pd))

all_event : (P : FieldValue → Type 0) (event : Event) → AllByRecursion P (name_values event)
    → AllByRecursion P (repeated 7 Bytes event.tags)
    → AllByRecursion P (optional 8 (λ ttl. Four (bits_of ttl)) event.ttl)
    → AllByRecursion P (repeated 9 attribute_content event.attributes) → AllByRecursion P (number_values event)
    → AllByRecursion P (event_values event)
unfolding event_values
all_event P event names tags ttl attributes numbers =
    all_append P (name_values event)
    (repeated 7 Bytes event.tags
    ++ (optional 8 (λ ttl. Four (bits_of ttl)) event.ttl
    ++ (repeated 9 attribute_content event.attributes ++ number_values event)))
    names
    (all_numbers P (repeated 7 Bytes event.tags) (optional 8 (λ ttl. Four (bits_of ttl)) event.ttl)
    (repeated 9 attribute_content event.attributes) (number_values event) tags ttl attributes numbers)

pub text_numbered : (number : ℕ) (value : Option (List ℕ)) → 0 < number → number < 2 ^ 29 → IfSome value IsUtf8
    → AllByRecursion IsNumbered (optional number Bytes value)
text_numbered number value some few utf8 =
    all_optional IsNumbered number Bytes value
    (some_if IsUtf8 (λ bytes. IsNumbered (field number (Bytes bytes))) value utf8
    (λ bytes _. numbered number (Bytes bytes) some few tt))

names_numbered : (event : Event) → IsWellFormedEvent event → AllByRecursion IsNumbered (name_values event)
names_numbered event reported =
    all_names IsNumbered (field 1 (int64 event.time)) (optional 2 Bytes event.state) (optional 3 Bytes event.service)
    (optional 4 Bytes event.host) (optional 5 Bytes event.description)
    (numbered 1 (int64 event.time) (omega arith) (omega arith) (int64_fits event.time reported.time))
    (text_numbered 2 event.state (omega arith) (omega arith) reported.state)
    (text_numbered 3 event.service (omega arith) (omega arith) reported.service)
    (text_numbered 4 event.host (omega arith) (omega arith) reported.host)
    (text_numbered 5 event.description (omega arith) (omega arith) reported.description)

numbers_numbered : (event : Event) → IsWellFormedEvent event → AllByRecursion IsNumbered (number_values event)
numbers_numbered event reported =
    all_numbers IsNumbered (optional 10 int64 event.time_micros) (optional 13 sint64 event.metric)
    (optional 14 Eight event.raw_d) (optional 15 Four event.raw_f)
    (all_optional IsNumbered 10 int64 event.time_micros
    (some_if (λ micros. FitsSigned w64 micros × (event.time ≡ second_of micros))
    (λ micros. IsNumbered (field 10 (int64 micros))) event.time_micros reported.time_micros
    (λ micros known. numbered 10 (int64 micros) (omega arith) (omega arith) (int64_fits micros known.0))))
    (all_optional IsNumbered 13 sint64 event.metric
    (some_if (FitsSigned w64) (λ metric. IsNumbered (field 13 (sint64 metric))) event.metric reported.metric
    (λ metric fits. numbered 13 (sint64 metric) (omega arith) (omega arith) (sint64_fits metric fits))))
    (all_optional IsNumbered 14 Eight event.raw_d
    (some_if (λ bits. bits < 2 ^ 64) (λ bits. IsNumbered (field 14 (Eight bits))) event.raw_d reported.raw_d
    (λ bits fits. numbered 14 (Eight bits) (omega arith) (omega arith) fits)))
    (all_optional IsNumbered 15 Four event.raw_f
    (some_if (λ bits. bits < 2 ^ 32) (λ bits. IsNumbered (field 15 (Four bits))) event.raw_f reported.raw_f
    (λ bits fits. numbered 15 (Four bits) (omega arith) (omega arith) fits)))

event_numbered : (event : Event) → IsWellFormedEvent event → AllByRecursion IsNumbered (event_values event)
event_numbered event reported =
    all_event IsNumbered event (names_numbered event reported)
    (all_repeated IsNumbered 7 Bytes event.tags
    (all_if IsUtf8 (λ bytes. IsNumbered (field 7 (Bytes bytes))) event.tags reported.tags
    (λ bytes _. numbered 7 (Bytes bytes) (omega arith) (omega arith) tt)))
    (all_optional IsNumbered 8 (λ ttl. Four (bits_of ttl)) event.ttl
    (some_if IsSpellableTtl (λ ttl. IsNumbered (field 8 (Four (bits_of ttl)))) event.ttl reported.ttl
    (λ ttl can. numbered 8 (Four (bits_of ttl)) (omega arith) (omega arith) (bits_of_small ttl can))))
    (all_repeated IsNumbered 9 attribute_content event.attributes
    (all_if IsWellFormedAttribute (λ attribute. IsNumbered (field 9 (attribute_content attribute))) event.attributes
    reported.attributes
    (λ attribute _. numbered 9 (attribute_content attribute) (omega arith) (omega arith) tt)))
    (numbers_numbered event reported)

abbrev CleanField : FieldValue → Type 0
CleanField value = EventClean value.number value.content

text_clean : (number : ℕ) (value : Option (List ℕ)) → IfSome value IsUtf8 → eqb number 9 ≡ false
    → AllByRecursion CleanField (optional number Bytes value)
text_clean number value utf8 other =
    all_optional CleanField number Bytes value
    (some_if IsUtf8 (λ bytes. CleanField (field number (Bytes bytes))) value utf8
    (λ bytes known. record { text = λ _. is_utf8-from_IsUtf8 bytes known; attribute = λ is. no (sym other ∙ is) }))

ttl_reported : (ttl : ℕ) → IsSpellableTtl ttl → is_some (seconds_of (bits_of ttl)) ≡ true
ttl_reported ttl can = ap is_some (seconds_from_ttl (bits_of ttl) ttl (bits_of_spells ttl can))

names_clean : (event : Event) → IsWellFormedEvent event → AllByRecursion CleanField (name_values event)
names_clean event reported =
    all_names CleanField (field 1 (int64 event.time)) (optional 2 Bytes event.state) (optional 3 Bytes event.service)
    (optional 4 Bytes event.host) (optional 5 Bytes event.description)
    tt (text_clean 2 event.state reported.state refl) (text_clean 3 event.service reported.service refl)
    (text_clean 4 event.host reported.host refl) (text_clean 5 event.description reported.description refl)

numbers_clean : (event : Event) → AllByRecursion CleanField (number_values event)
numbers_clean event =
    all_numbers CleanField (optional 10 int64 event.time_micros) (optional 13 sint64 event.metric)
    (optional 14 Eight event.raw_d) (optional 15 Four event.raw_f)
    (all_optional CleanField 10 int64 event.time_micros (any event.time_micros (λ micros. tt)))
    (all_optional CleanField 13 sint64 event.metric (any event.metric (λ metric. tt)))
    (all_optional CleanField 14 Eight event.raw_d (any event.raw_d (λ bits. tt)))
    (all_optional CleanField 15 Four event.raw_f (any event.raw_f (λ bits is. no is)))
  where
    any : {A : Type 0} {Q : A → Type 0} (o : Option A) → ((x : A) → Q x) → IfSome o Q
    any None each = tt
    any (Some x) each = each x

event_clean : (event : Event) → IsWellFormedEvent event → AllByRecursion AttributeBack event.attributes
    → AllByRecursion CleanField (event_values event)
event_clean event reported attributes =
    all_event CleanField event (names_clean event reported)
    (all_repeated CleanField 7 Bytes event.tags
    (all_if IsUtf8 (λ bytes. CleanField (field 7 (Bytes bytes))) event.tags reported.tags
    (λ bytes known. record { text = λ _. is_utf8-from_IsUtf8 bytes known; attribute = λ is. no is })))
    (all_optional CleanField 8 (λ ttl. Four (bits_of ttl)) event.ttl
    (some_if IsSpellableTtl (λ ttl. CleanField (field 8 (Four (bits_of ttl)))) event.ttl reported.ttl
    (λ ttl can _. ttl_reported ttl can)))
    (all_repeated CleanField 9 attribute_content event.attributes
    (all_if AttributeBack (λ attribute. CleanField (field 9 (attribute_content attribute))) event.attributes attributes
    (λ attribute back. record { text = λ is. no is; attribute = λ _. back.clean })))
    (numbers_clean event)

attributes_within : (n : ℕ) (event : Event) → length (spelled (event_values event)) ≤ n
    → AllByRecursion (λ attribute. length (spelled (attribute_values attribute)) ≤ n) event.attributes
unfolding event_values
attributes_within n event short =
    let P : FieldValue → Type 0 = λ value. BytesWithin n value.content in
    let all = bodies_within n (event_values event) short in
    let numbers = number_values event in
    let attributes = repeated 9 attribute_content event.attributes in
    let ttl = optional 8 (λ ttl. Four (bits_of ttl)) event.ttl in
    let tags = repeated 7 Bytes event.tags in
    let following_names : AllByRecursion P (tags ++ (ttl ++ (attributes ++ numbers))) =
    from_back P (name_values event) (tags ++ (ttl ++ (attributes ++ numbers))) all in
    let following_tags : AllByRecursion P (ttl ++ (attributes ++ numbers)) =
    from_back P tags (ttl ++ (attributes ++ numbers)) following_names in
    let following_ttl : AllByRecursion P (attributes ++ numbers) =
    from_back P ttl (attributes ++ numbers) following_tags in
    from_repeated P 9 attribute_content event.attributes (from_front P attributes numbers following_ttl)

pub event_back : (event : Event) → IsWellFormedEvent event → length (spelled (event_values event)) < 2 ^ 64
    → EventBack event
unfolding event_of event_fault
event_back event reported short =
    let attributes =
    both_all IsWellFormedAttribute
    (λ attribute. length (spelled (attribute_values attribute)) ≤ length (spelled (event_values event))) AttributeBack
    event.attributes
    (λ attribute known within. attribute_again attribute known (omega arith)) reported.attributes
    (attributes_within (length (spelled (event_values event))) event (omega arith)) in
    let bodies : BodiesBack event = record {
      time = int64_again event.time reported.time;
      ttl =
          some_in_option (λ ttl. ttl_in (Four (bits_of ttl))) event.ttl
          (some_if IsSpellableTtl _ event.ttl reported.ttl ttl_again);
      attributes =
          some_in_list (λ attribute. attribute_in (attribute_content attribute)) event.attributes
          (all_if AttributeBack _ event.attributes attributes (λ attribute back. ap some_attribute back.same));
      micros =
          some_in_option (λ micros. int64_in (int64 micros)) event.time_micros
          (some_if _ _ event.time_micros reported.time_micros (λ micros known. int64_again micros known.0));
      metric =
          some_in_option (λ metric. sint64_in (sint64 metric)) event.metric
          (some_if (FitsSigned w64) _ event.metric reported.metric (λ metric fits. sint64_again metric));
    } in
    let back =
    read_again event_field_fault CleanField (event_values event)
    (λ bytes field. event_field_clean bytes field.number field.place field.body) (event_numbered event reported)
    (event_clean event reported attributes) short in
    record {
      same =
          λ now. ap (event_from now) back.0
          ∙ event_again now event bodies (some_if _ _ event.time_micros reported.time_micros (λ micros known. known.1));
      clean = back.1;
    }
