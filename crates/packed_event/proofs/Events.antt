-- An event is read as what it spells, with the places of its parts.
use Rattle.std.proofs.Common.{◌≡◌, ℕ, ◌-◌, ◌^◌, ◌<◌, List, [], ◌∷◌, ◌++◌, length, Option, Some, ℤ, refl, ap, subst, ◌∙◌}
use Rattle.std.proofs.Common.{◌≤◌, drop, sym, length-append, arith}
use Rattle.std.specs.Prelude.{FitsSigned, IfSome}
use Rattle.std.specs.Int.{w32, w64, to_le_bytes}
use Rattle.std.specs.Option.{option_map}
use Rattle.std.specs.Str.{IsUtf8}
use Rattle.ev_types.specs.Expiry.{ends_key}
use Rattle.ev_types.specs.declared.event.Attr.{Attr}
use Rattle.ev_types.specs.declared.event.Event.{Event}
use Rattle.riemann_msg.specs.ReadBack.{IsWellFormedAttribute, IsWellFormedEvent}
use Rattle.riemann_msg.specs.Ttl.{IsSpellableTtl}
use Rattle.packed_event.specs.Kept.{tags_start}
use Rattle.packed_event.specs.Packed.{LiesIn, text_at}
use Rattle.packed_event.specs.Reading.{◌>>=◌, NamesRead, NumbersRead, at_end, attribute_part, event_read, int64_part}
use Rattle.packed_event.specs.Reading.{micros_part, names_part, number_part, numbers_part, optional, packed_in}
use Rattle.packed_event.specs.Reading.{places_read, repeated, required, sint64_part, span_before, text_part, ttl_part}
use Rattle.packed_event.specs.declared.places.Places.{Places}
use Rattle.packed_event.proofs.Attributes.{attribute_body, attribute_is_part}
use Rattle.packed_event.proofs.Bodies.{IsIn, counted_text, int64_is_part, int64_text, micros_is_part, number_is_part}
use Rattle.packed_event.proofs.Bodies.{sint64_is_part, sint64_text, text_is_part, ttl_is_part, ttl_text, wide32, wide64}
use Rattle.packed_event.proofs.Parts.{IsBytes, IsBytes-rest, bind_some, some_is, read_as}
use Rattle.packed_event.proofs.Spans.{Ends, ends_then, optional_text_is, optional_within, rest_is}
use Rattle.packed_event.proofs.Stages.{Follows, at_end_sound, optional_follows, optional_sound, optional_text}
use Rattle.packed_event.proofs.Stages.{optional_whole, repeated_follows, repeated_sound, repeated_text, repeated_whole}
use Rattle.packed_event.proofs.Stages.{required_sound, required_whole}
use Rattle.packed_event.proofs.Texts.{event_text, names_text, numbers_text}

abbrev MaybeText : Type 0
MaybeText = Option (List ℕ)

-- ---- the time and the texts, step by step

abbrev names_made : ℕ → ℤ → MaybeText → MaybeText → List ℕ → MaybeText → List ℕ → MaybeText → List ℕ → NamesRead
names_made total time state service after_service host after_host description rest = record {
  time = time;
  state = state;
  service = service;
  service_span = span_before total service after_service;
  host = host;
  host_span = span_before total host after_host;
  description = description;
  tags = total - length rest;
}

abbrev step4 : ℕ → ℤ → MaybeText → MaybeText → List ℕ → MaybeText × List ℕ → Option (NamesRead × List ℕ)
step4 total time state service after_service host = optional 42 text_part host.1
    >>= λ (description : MaybeText × List ℕ).
    read_as (names_made total time state service after_service host.0 host.1 description.0 description.1) description.1

abbrev step3 : ℕ → ℤ → MaybeText → MaybeText × List ℕ → Option (NamesRead × List ℕ)
step3 total time state service = optional 34 text_part service.1 >>= step4 total time state service.0 service.1

abbrev step2 : ℕ → ℤ → MaybeText × List ℕ → Option (NamesRead × List ℕ)
step2 total time state = optional 26 text_part state.1 >>= step3 total time state.0

abbrev step1 : ℕ → ℤ × List ℕ → Option (NamesRead × List ℕ)
step1 total time = optional 18 text_part time.1 >>= step2 total time.0

abbrev names_of : NamesRead → List ℕ → List ℕ
names_of names rest = names_text names.time names.state names.service names.host names.description rest

less_left : (n some : ℕ) → n - some ≤ n
less_left n some = omega arith

record NamesSound (bytes : List ℕ) (read : NamesRead × List ℕ) : Type 0 where
  parts : bytes ≡ names_of read.0 read.1
  fits : IsBytes read.1
  time : FitsSigned w64 read.0.time
  state : IfSome read.0.state IsUtf8
  service : IfSome read.0.service IsUtf8
  host : IfSome read.0.host IsUtf8
  description : IfSome read.0.description IsUtf8
  service_span : option_map (text_at bytes) read.0.service_span ≡ read.0.service
  host_span : option_map (text_at bytes) read.0.host_span ≡ read.0.host
  service_within : IfSome read.0.service_span (LiesIn bytes)
  host_within : IfSome read.0.host_span (LiesIn bytes)
  tags_at : drop read.0.tags bytes ≡ read.1
  tags_within : read.0.tags ≤ length bytes

text_sound : (tag : ℕ) (bytes : List ℕ) (read : MaybeText × List ℕ) → IsBytes bytes → optional tag text_part bytes
    ≡ Some read
    → (bytes ≡ optional_text tag counted_text read.0 ++ read.1) × IfSome read.0 IsUtf8
text_sound tag bytes read fits e = optional_sound text_part counted_text IsUtf8 text_is_part tag bytes read fits e

names_sound : (bytes : List ℕ) (read : NamesRead × List ℕ) → IsBytes bytes
    → names_part (length bytes) bytes ≡ Some read → NamesSound bytes read
unfolding names_part
names_sound bytes read fits e =
    let n : ℕ = length bytes in
    let a = bind_some (required 8 int64_part bytes) (step1 n) read e in
    let b = bind_some (optional 18 text_part a.0.1) (step2 n a.0.0) read a.2 in
    let c = bind_some (optional 26 text_part b.0.1) (step3 n a.0.0 b.0.0) read b.2 in
    let d = bind_some (optional 34 text_part c.0.1) (step4 n a.0.0 b.0.0 c.0.0 c.0.1) read c.2 in
    let f =
    bind_some (optional 42 text_part d.0.1)
    (λ (description : MaybeText × List ℕ).
    read_as (names_made n a.0.0 b.0.0 c.0.0 c.0.1 d.0.0 d.0.1 description.0 description.1) description.1) read d.2 in
    let time = required_sound int64_part int64_text (FitsSigned w64) int64_is_part 8 bytes a.0 fits a.1 in
    let fits1 : IsBytes a.0.1 = IsBytes-rest bytes (8 ∷ int64_text a.0.0) a.0.1 time.0 fits in
    let state = text_sound 18 a.0.1 b.0 fits1 b.1 in
    let fits2 : IsBytes b.0.1 = IsBytes-rest a.0.1 (optional_text 18 counted_text b.0.0) b.0.1 state.0 fits1 in
    let service = text_sound 26 b.0.1 c.0 fits2 c.1 in
    let fits3 : IsBytes c.0.1 = IsBytes-rest b.0.1 (optional_text 26 counted_text c.0.0) c.0.1 service.0 fits2 in
    let host = text_sound 34 c.0.1 d.0 fits3 d.1 in
    let fits4 : IsBytes d.0.1 = IsBytes-rest c.0.1 (optional_text 34 counted_text d.0.0) d.0.1 host.0 fits3 in
    let description = text_sound 42 d.0.1 f.0 fits4 f.1 in
    let fits5 : IsBytes f.0.1 = IsBytes-rest d.0.1 (optional_text 42 counted_text f.0.0) f.0.1 description.0 fits4 in
    let ends1 : Ends bytes a.0.1 = (8 ∷ int64_text a.0.0, time.0) in
    let ends2 : Ends bytes b.0.1 = ends_then bytes a.0.1 b.0.1 (optional_text 18 counted_text b.0.0) ends1 state.0 in
    let ends3 : Ends bytes c.0.1 = ends_then bytes b.0.1 c.0.1 (optional_text 26 counted_text c.0.0) ends2 service.0 in
    let ends4 : Ends bytes d.0.1 = ends_then bytes c.0.1 d.0.1 (optional_text 34 counted_text d.0.0) ends3 host.0 in
    let ends5 : Ends bytes f.0.1 =
    ends_then bytes d.0.1 f.0.1 (optional_text 42 counted_text f.0.0) ends4 description.0 in
    let made : NamesRead = names_made n a.0.0 b.0.0 c.0.0 c.0.1 d.0.0 d.0.1 f.0.0 f.0.1 in
    let parts : bytes ≡ names_of made f.0.1 =
    time.0
    ∙ ap (λ (t : List ℕ). 8 ∷ (int64_text a.0.0 ++ t))
    (state.0
    ∙ ap (λ (t : List ℕ). optional_text 18 counted_text b.0.0 ++ t)
    (service.0
    ∙ ap (λ (t : List ℕ). optional_text 26 counted_text c.0.0 ++ t)
    (host.0 ∙ ap (λ (t : List ℕ). optional_text 34 counted_text d.0.0 ++ t) description.0))) in
    subst (λ (r : NamesRead × List ℕ). NamesSound bytes r) (some_is (made, f.0.1) read f.2) (record {
      parts = parts;
      fits = fits5;
      time = time.1;
      state = state.1;
      service = service.1;
      host = host.1;
      description = description.1;
      service_span = optional_text_is bytes b.0.1 26 c.0.0 c.0.1 ends2 service.0;
      host_span = optional_text_is bytes c.0.1 34 d.0.0 d.0.1 ends3 host.0;
      service_within = optional_within bytes b.0.1 26 c.0.0 c.0.1 ends2 service.0;
      host_within = optional_within bytes c.0.1 34 d.0.0 d.0.1 ends3 host.0;
      tags_at = rest_is bytes f.0.1 ends5;
      tags_within = less_left n (length f.0.1);
    })

short_rest : (text rest : List ℕ) → length (text ++ rest) < 2 ^ 64 → length rest < 2 ^ 64
short_rest text rest short = omega (arith, short, length-append text rest)

names_whole : (total : ℕ) (time : ℤ) (state service host description : MaybeText) (rest : List ℕ) → FitsSigned w64 time
    → IfSome state IsUtf8 → IfSome service IsUtf8 → IfSome host IsUtf8 → IfSome description IsUtf8 → Follows 42 rest
    → length (names_text time state service host description rest) < 2 ^ 64
    → names_part total (names_text time state service host description rest)
    ≡ Some (
      names_made total time state service
          (optional_text 34 counted_text host ++ (optional_text 42 counted_text description ++ rest)) host
          (optional_text 42 counted_text description ++ rest) description rest,
      rest,
    )
unfolding names_part
names_whole total time state service host description rest time_fits state_is service_is host_is description_is
    follows short =
    let r4 : List ℕ = optional_text 42 counted_text description ++ rest in
    let r3 : List ℕ = optional_text 34 counted_text host ++ r4 in
    let r2 : List ℕ = optional_text 26 counted_text service ++ r3 in
    let r1 : List ℕ = optional_text 18 counted_text state ++ r2 in
    let s1 : length r1 < 2 ^ 64 = short_rest (8 ∷ int64_text time) r1 short in
    let s2 : length r2 < 2 ^ 64 = short_rest (optional_text 18 counted_text state) r2 s1 in
    let s3 : length r3 < 2 ^ 64 = short_rest (optional_text 26 counted_text service) r3 s2 in
    let s4 : length r4 < 2 ^ 64 = short_rest (optional_text 34 counted_text host) r4 s3 in
    let f4 : Follows 34 r4 = optional_follows 34 42 counted_text description rest (omega arith) follows in
    let f3 : Follows 26 r3 = optional_follows 26 34 counted_text host r4 (omega arith) f4 in
    let f2 : Follows 18 r2 = optional_follows 18 26 counted_text service r3 (omega arith) f3 in
    rw (
      required_whole int64_part int64_text (FitsSigned w64) int64_is_part 8 time r1 time_fits short,
      optional_whole text_part counted_text IsUtf8 text_is_part 18 state r2 state_is f2 s1,
      optional_whole text_part counted_text IsUtf8 text_is_part 26 service r3 service_is f3 s2,
      optional_whole text_part counted_text IsUtf8 text_is_part 34 host r4 host_is f4 s3,
      optional_whole text_part counted_text IsUtf8 text_is_part 42 description rest description_is follows s4,
    )
    refl

-- ---- the numbers at the end

abbrev numbers_made : Option ℤ → Option ℤ → Option ℕ → Option ℕ → NumbersRead
numbers_made micros metric raw_d raw_f = record { micros = micros; metric = metric; raw_d = raw_d; raw_f = raw_f }

abbrev last3 : Option ℤ → Option ℤ → Option ℕ × List ℕ → Option (NumbersRead × List ℕ)
last3 micros metric raw_d = optional 125 (number_part w32) raw_d.1 >>= λ (raw_f : Option ℕ × List ℕ).
    read_as (numbers_made micros metric raw_d.0 raw_f.0) raw_f.1

abbrev last2 : Option ℤ → Option ℤ × List ℕ → Option (NumbersRead × List ℕ)
last2 micros metric = optional 113 (number_part w64) metric.1 >>= last3 micros metric.0

abbrev last1 : Option ℤ × List ℕ → Option (NumbersRead × List ℕ)
last1 micros = optional 104 sint64_part micros.1 >>= last2 micros.0

abbrev numbers_of : NumbersRead → List ℕ → List ℕ
numbers_of numbers rest = numbers_text numbers.micros numbers.metric numbers.raw_d numbers.raw_f rest

abbrev Below64 : ℕ → Type 0
Below64 bits = bits < 2 ^ 64

abbrev Below32 : ℕ → Type 0
Below32 bits = bits < 2 ^ 32

record NumbersSound (time : ℤ) (bytes : List ℕ) (read : NumbersRead × List ℕ) : Type 0 where
  parts : bytes ≡ numbers_of read.0 read.1
  micros : IfSome read.0.micros (IsIn time)
  metric : IfSome read.0.metric (FitsSigned w64)
  raw_d : IfSome read.0.raw_d Below64
  raw_f : IfSome read.0.raw_f Below32

numbers_sound : (time : ℤ) (bytes : List ℕ) (read : NumbersRead × List ℕ) → IsBytes bytes
    → numbers_part time bytes ≡ Some read → NumbersSound time bytes read
unfolding numbers_part
numbers_sound time bytes read fits e =
    let a = bind_some (optional 80 (micros_part time) bytes) last1 read e in
    let b = bind_some (optional 104 sint64_part a.0.1) (last2 a.0.0) read a.2 in
    let c = bind_some (optional 113 (number_part w64) b.0.1) (last3 a.0.0 b.0.0) read b.2 in
    let d =
    bind_some (optional 125 (number_part w32) c.0.1)
    (λ (raw_f : Option ℕ × List ℕ). read_as (numbers_made a.0.0 b.0.0 c.0.0 raw_f.0) raw_f.1) read c.2 in
    let micros = optional_sound (micros_part time) int64_text (IsIn time) (micros_is_part time) 80 bytes a.0 fits a.1 in
    let fits1 : IsBytes a.0.1 = IsBytes-rest bytes (optional_text 80 int64_text a.0.0) a.0.1 micros.0 fits in
    let metric = optional_sound sint64_part sint64_text (FitsSigned w64) sint64_is_part 104 a.0.1 b.0 fits1 b.1 in
    let fits2 : IsBytes b.0.1 = IsBytes-rest a.0.1 (optional_text 104 sint64_text b.0.0) b.0.1 metric.0 fits1 in
    let raw_d =
    optional_sound (number_part w64) (to_le_bytes w64) Below64 (number_is_part w64 (2 ^ 64) wide64) 113 b.0.1 c.0 fits2
    c.1 in
    let fits3 : IsBytes c.0.1 = IsBytes-rest b.0.1 (optional_text 113 (to_le_bytes w64) c.0.0) c.0.1 raw_d.0 fits2 in
    let raw_f =
    optional_sound (number_part w32) (to_le_bytes w32) Below32 (number_is_part w32 (2 ^ 32) wide32) 125 c.0.1 d.0 fits3
    d.1 in
    subst (λ (r : NumbersRead × List ℕ). NumbersSound time bytes r)
    (some_is (numbers_made a.0.0 b.0.0 c.0.0 d.0.0, d.0.1) read d.2) (record {
      parts =
          micros.0
          ∙ ap (λ (t : List ℕ). optional_text 80 int64_text a.0.0 ++ t)
          (metric.0
          ∙ ap (λ (t : List ℕ). optional_text 104 sint64_text b.0.0 ++ t)
          (raw_d.0 ∙ ap (λ (t : List ℕ). optional_text 113 (to_le_bytes w64) c.0.0 ++ t) raw_f.0));
      micros = micros.1;
      metric = metric.1;
      raw_d = raw_d.1;
      raw_f = raw_f.1;
    })

numbers_follow : (micros metric : Option ℤ) (raw_d raw_f : Option ℕ) → Follows 74
    (numbers_text micros metric raw_d raw_f [])
numbers_follow micros metric raw_d raw_f =
    let r3 : List ℕ = optional_text 125 (to_le_bytes w32) raw_f ++ [] in
    let r2 : List ℕ = optional_text 113 (to_le_bytes w64) raw_d ++ r3 in
    let r1 : List ℕ = optional_text 104 sint64_text metric ++ r2 in
    optional_follows 74 80 int64_text micros r1 (omega arith)
    (optional_follows 80 104 sint64_text metric r2 (omega arith)
    (optional_follows 104 113 (to_le_bytes w64) raw_d r3 (omega arith)
    (optional_follows 113 125 (to_le_bytes w32) raw_f [] (omega arith) tt)))

numbers_whole : (time : ℤ) (micros metric : Option ℤ) (raw_d raw_f : Option ℕ) → IfSome micros (IsIn time)
    → IfSome metric (FitsSigned w64) → IfSome raw_d Below64 → IfSome raw_f Below32
    → length (numbers_text micros metric raw_d raw_f []) < 2 ^ 64
    → numbers_part time (numbers_text micros metric raw_d raw_f []) ≡ Some (numbers_made micros metric raw_d raw_f, [])
unfolding numbers_part
numbers_whole time micros metric raw_d raw_f micros_is metric_is raw_d_is raw_f_is short =
    let r3 : List ℕ = optional_text 125 (to_le_bytes w32) raw_f ++ [] in
    let r2 : List ℕ = optional_text 113 (to_le_bytes w64) raw_d ++ r3 in
    let r1 : List ℕ = optional_text 104 sint64_text metric ++ r2 in
    let s1 : length r1 < 2 ^ 64 = short_rest (optional_text 80 int64_text micros) r1 short in
    let s2 : length r2 < 2 ^ 64 = short_rest (optional_text 104 sint64_text metric) r2 s1 in
    let s3 : length r3 < 2 ^ 64 = short_rest (optional_text 113 (to_le_bytes w64) raw_d) r3 s2 in
    let f3 : Follows 113 r3 = optional_follows 113 125 (to_le_bytes w32) raw_f [] (omega arith) tt in
    let f2 : Follows 104 r2 = optional_follows 104 113 (to_le_bytes w64) raw_d r3 (omega arith) f3 in
    let f1 : Follows 80 r1 = optional_follows 80 104 sint64_text metric r2 (omega arith) f2 in
    rw (
      optional_whole (micros_part time) int64_text (IsIn time) (micros_is_part time) 80 micros r1 micros_is f1 short,
      optional_whole sint64_part sint64_text (FitsSigned w64) sint64_is_part 104 metric r2 metric_is f2 s1,
      optional_whole (number_part w64) (to_le_bytes w64) Below64 (number_is_part w64 (2 ^ 64) wide64) 113 raw_d r3
          raw_d_is f3
          s2,
      optional_whole (number_part w32) (to_le_bytes w32) Below32 (number_is_part w32 (2 ^ 32) wide32) 125 raw_f []
          raw_f_is tt
          s3,
    )
    refl

-- ---- whole events

abbrev some_bytes : List ℕ → Option (List ℕ)
some_bytes bytes = Some bytes

abbrev all4 : NamesRead → List (List ℕ) → Option ℕ → List Attr × List ℕ → Option (Places × Event)
all4 names tags ttl attributes = numbers_part names.time attributes.1 >>= λ (numbers : NumbersRead × List ℕ).
    at_end (places_read names ttl, event_read names tags ttl attributes.0 numbers.0) numbers.1

abbrev all3 : NamesRead → List (List ℕ) → Option ℕ × List ℕ → Option (Places × Event)
all3 names tags ttl = repeated 74 attribute_part ttl.1 >>= all4 names tags ttl.0

abbrev all2 : NamesRead → List (List ℕ) × List ℕ → Option (Places × Event)
all2 names tags = optional 69 ttl_part tags.1 >>= all3 names tags.0

abbrev all1 : NamesRead × List ℕ → Option (Places × Event)
all1 names = repeated 58 text_part names.1 >>= all2 names.0

tags_begin : (bytes : List ℕ) (names : NamesRead × List ℕ) → names_part (length bytes) bytes ≡ Some names
    → drop names.0.tags bytes ≡ names.1 → tags_start bytes ≡ Some (drop names.0.tags bytes)
unfolding tags_start
tags_begin bytes names read at = rw read (ap some_bytes (sym at))

pub record EventSound (bytes : List ℕ) (read : Places × Event) : Type 0 where
  pub parts : bytes ≡ event_text read.1
  pub good : IsWellFormedEvent read.1
  pub host : option_map (text_at bytes) read.0.host ≡ read.1.host
  pub service : option_map (text_at bytes) read.0.service ≡ read.1.service
  pub host_within : IfSome read.0.host (LiesIn bytes)
  pub service_within : IfSome read.0.service (LiesIn bytes)
  pub time : read.0.time ≡ read.1.time
  pub ttl : read.0.ttl ≡ read.1.ttl
  pub ends : read.0.ends_key ≡ ends_key read.1
  pub tags : tags_start bytes ≡ Some (drop read.0.tags bytes)
  pub tags_within : read.0.tags ≤ length bytes

pub packed_sound : (bytes : List ℕ) (read : Places × Event) → IsBytes bytes → packed_in bytes ≡ Some read
    → EventSound bytes read
unfolding packed_in
packed_sound bytes read fits e =
    let a = bind_some (names_part (length bytes) bytes) all1 read e in
    let b = bind_some (repeated 58 text_part a.0.1) (all2 a.0.0) read a.2 in
    let c = bind_some (optional 69 ttl_part b.0.1) (all3 a.0.0 b.0.0) read b.2 in
    let d = bind_some (repeated 74 attribute_part c.0.1) (all4 a.0.0 b.0.0 c.0.0) read c.2 in
    let f =
    bind_some (numbers_part a.0.0.time d.0.1)
    (λ (numbers : NumbersRead × List ℕ).
    at_end (places_read a.0.0 c.0.0, event_read a.0.0 b.0.0 c.0.0 d.0.0 numbers.0) numbers.1) read d.2 in
    let made : Places × Event = (places_read a.0.0 c.0.0, event_read a.0.0 b.0.0 c.0.0 d.0.0 f.0.0) in
    let last = at_end_sound made read f.0.1 f.2 in
    let names = names_sound bytes a.0 fits a.1 in
    let tags =
    repeated_sound text_part counted_text IsUtf8 text_is_part 58 (length a.0.1) a.0.1 b.0 names.fits b.1 in
    let fits2 : IsBytes b.0.1 = IsBytes-rest a.0.1 (repeated_text 58 counted_text b.0.0) b.0.1 tags.0 names.fits in
    let ttl = optional_sound ttl_part ttl_text IsSpellableTtl ttl_is_part 69 b.0.1 c.0 fits2 c.1 in
    let fits3 : IsBytes c.0.1 = IsBytes-rest b.0.1 (optional_text 69 ttl_text c.0.0) c.0.1 ttl.0 fits2 in
    let attributes =
    repeated_sound attribute_part attribute_body IsWellFormedAttribute attribute_is_part 74 (length c.0.1) c.0.1 d.0
    fits3
    d.1 in
    let fits4 : IsBytes d.0.1 =
    IsBytes-rest c.0.1 (repeated_text 74 attribute_body d.0.0) d.0.1 attributes.0 fits3 in
    let numbers = numbers_sound a.0.0.time d.0.1 f.0 fits4 f.1 in
    let parts : bytes ≡ event_text made.1 =
    names.parts
    ∙ ap (names_of a.0.0)
    (tags.0
    ∙ ap (λ (t : List ℕ). repeated_text 58 counted_text b.0.0 ++ t)
    (ttl.0
    ∙ ap (λ (t : List ℕ). optional_text 69 ttl_text c.0.0 ++ t)
    (attributes.0
    ∙ ap (λ (t : List ℕ). repeated_text 74 attribute_body d.0.0 ++ t)
    (numbers.parts ∙ ap (numbers_of f.0.0) last.1)))) in
    subst (λ (r : Places × Event). EventSound bytes r) last.0 (record {
      parts = parts;
      good = record {
        host = names.host;
        service = names.service;
        state = names.state;
        description = names.description;
        tags = tags.1;
        time = names.time;
        time_micros = numbers.micros;
        ttl = ttl.1;
        metric = numbers.metric;
        raw_d = numbers.raw_d;
        raw_f = numbers.raw_f;
        attributes = attributes.1;
      };
      host = names.host_span;
      service = names.service_span;
      host_within = names.host_within;
      service_within = names.service_within;
      time = refl;
      ttl = refl;
      ends = refl;
      tags = tags_begin bytes a.0 a.1 names.tags_at;
      tags_within = names.tags_within;
    })

pub packed_whole : (event : Event) → IsWellFormedEvent event → length (event_text event) < 2 ^ 64
    → (places : Places) × (packed_in (event_text event) ≡ Some (places, event))
unfolding packed_in
packed_whole event good short =
    let n : ℕ = length (event_text event) in
    let r4 : List ℕ = numbers_text event.time_micros event.metric event.raw_d event.raw_f [] in
    let r3 : List ℕ = repeated_text 74 attribute_body event.attributes ++ r4 in
    let r2 : List ℕ = optional_text 69 ttl_text event.ttl ++ r3 in
    let r1 : List ℕ = repeated_text 58 counted_text event.tags ++ r2 in
    let d1 : List ℕ = optional_text 42 counted_text event.description ++ r1 in
    let d2 : List ℕ = optional_text 34 counted_text event.host ++ d1 in
    let d3 : List ℕ = optional_text 26 counted_text event.service ++ d2 in
    let d4 : List ℕ = optional_text 18 counted_text event.state ++ d3 in
    let s1 : length r1 < 2 ^ 64 =
    short_rest (optional_text 42 counted_text event.description) r1
    (short_rest (optional_text 34 counted_text event.host) d1
    (short_rest (optional_text 26 counted_text event.service) d2
    (short_rest (optional_text 18 counted_text event.state) d3 (short_rest (8 ∷ int64_text event.time) d4 short)))) in
    let s2 : length r2 < 2 ^ 64 = short_rest (repeated_text 58 counted_text event.tags) r2 s1 in
    let s3 : length r3 < 2 ^ 64 = short_rest (optional_text 69 ttl_text event.ttl) r3 s2 in
    let s4 : length r4 < 2 ^ 64 = short_rest (repeated_text 74 attribute_body event.attributes) r4 s3 in
    let f4 : Follows 74 r4 = numbers_follow event.time_micros event.metric event.raw_d event.raw_f in
    let f3 : Follows 69 r3 = repeated_follows 69 74 attribute_body event.attributes r4 (omega arith) f4 in
    let f2 : Follows 58 r2 = optional_follows 58 69 ttl_text event.ttl r3 (omega arith) f3 in
    let f1 : Follows 42 r1 = repeated_follows 42 58 counted_text event.tags r2 (omega arith) f2 in
    let names : NamesRead =
    names_made n event.time event.state event.service d2 event.host d1 event.description r1 in (
      places_read names event.ttl,
      rw (
        names_whole n event.time event.state event.service event.host event.description r1 good.time good.state
            good.service
            good.host good.description f1 short,
        repeated_whole text_part counted_text IsUtf8 text_is_part 58 event.tags r2 good.tags f2 s1,
        optional_whole ttl_part ttl_text IsSpellableTtl ttl_is_part 69 event.ttl r3 good.ttl f3 s2,
        repeated_whole attribute_part attribute_body IsWellFormedAttribute attribute_is_part 74 event.attributes r4
            good.attributes f4 s3,
        numbers_whole event.time event.time_micros event.metric event.raw_d event.raw_f good.time_micros good.metric
            good.raw_d
            good.raw_f s4,
      )
          refl,
    )
