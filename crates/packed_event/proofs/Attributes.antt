-- Attributes are read as what they spell.
use Rattle.std.proofs.Common.{◌≡◌, ℕ, ◌^◌, ◌<◌, List, [], ◌∷◌, ◌++◌, length, Option, Some, refl, ap, subst, ◌∙◌}
use Rattle.std.proofs.Common.{length-append, arith}
use Rattle.std.specs.Str.{IsUtf8}
use Rattle.ev_types.specs.declared.event.Attr.{Attr}
use Rattle.pb_wire.specs.Varint.{varint}
use Rattle.riemann_msg.specs.ReadBack.{IsWellFormedAttribute}
use Rattle.packed_event.specs.Reading.{◌>>=◌, at_end, attribute_in, attribute_part, bytes_part, optional, required}
use Rattle.packed_event.specs.Reading.{text_part}
use Rattle.packed_event.proofs.Bodies.{bytes_sound, bytes_whole, counted_text, text_is_part}
use Rattle.packed_event.proofs.Parts.{IsBytes, IsBytes-front, IsBytes-rest, IsPart, bind_some, some_is, read_as}
use Rattle.packed_event.proofs.Stages.{at_end_sound, optional_sound, optional_text, optional_whole, required_sound}
use Rattle.packed_event.proofs.Stages.{required_whole}

abbrev attribute_of : List ℕ → Option (List ℕ) → Attr
attribute_of key value = record { key = key; value = value }

abbrev pub fields_text : List ℕ → Option (List ℕ) → List ℕ → List ℕ
fields_text key value rest = 10 ∷ (counted_text key ++ (optional_text 18 counted_text value ++ rest))

abbrev pub attribute_text : Attr → List ℕ
attribute_text attribute = fields_text attribute.key attribute.value []

record AttributeRead (bytes : List ℕ) (attribute : Attr) : Type 0 where
  parts : bytes ≡ attribute_text attribute
  good : IsWellFormedAttribute attribute

attribute_in-sound : (bytes : List ℕ) (attribute : Attr) → IsBytes bytes → attribute_in bytes ≡ Some attribute
    → AttributeRead bytes attribute
attribute_in-sound bytes attribute fits e =
    let b = bind_some (required 10 text_part bytes) (λ (key : List ℕ × List ℕ). optional 18 text_part key.1
    >>= λ (value : Option (List ℕ) × List ℕ). at_end (attribute_of key.0 value.0) value.1) attribute e in
    let c = bind_some (optional 18 text_part b.0.1) (λ (value : Option (List ℕ) × List ℕ). at_end
    (attribute_of b.0.0 value.0) value.1) attribute b.2 in
    let d = at_end_sound (attribute_of b.0.0 c.0.0) attribute c.0.1 c.2 in
    let key = required_sound text_part counted_text IsUtf8 text_is_part 10 bytes b.0 fits b.1 in
    let inner : IsBytes b.0.1 = IsBytes-rest bytes (10 ∷ counted_text b.0.0) b.0.1 key.0 fits in
    let value = optional_sound text_part counted_text IsUtf8 text_is_part 18 b.0.1 c.0 inner c.1 in
    subst (λ (a : Attr). AttributeRead bytes a) d.0 (record {
      parts =
          key.0 ∙ ap (λ (t : List ℕ). 10 ∷ (counted_text b.0.0 ++ t)) value.0
          ∙ ap (λ (t : List ℕ). fields_text b.0.0 c.0.0 t) d.1;
      good = record { key = key.1; value = value.1 };
    })

attribute_in-whole : (attribute : Attr) → IsWellFormedAttribute attribute → length (attribute_text attribute) < 2 ^ 64
    → attribute_in (attribute_text attribute) ≡ Some attribute
attribute_in-whole attribute good short =
    let rest : List ℕ = optional_text 18 counted_text attribute.value ++ [] in
    let left : length rest < 2 ^ 64 = omega (arith, short, length-append (counted_text attribute.key) rest) in
    rw (
      required_whole text_part counted_text IsUtf8 text_is_part 10 attribute.key rest good.key short,
      optional_whole text_part counted_text IsUtf8 text_is_part 18 attribute.value [] good.value tt left,
    )
    refl

abbrev pub attribute_body : Attr → List ℕ
attribute_body attribute = counted_text (attribute_text attribute)

attribute_sound : (bytes : List ℕ) (read : Attr × List ℕ) → IsBytes bytes → attribute_part bytes ≡ Some read
    → (bytes ≡ attribute_body read.0 ++ read.1) × IsWellFormedAttribute read.0
unfolding attribute_part
attribute_sound bytes read fits e =
    let b = bind_some (bytes_part bytes) (λ (inner : List ℕ × List ℕ). attribute_in inner.0 >>= λ (attribute : Attr).
    read_as attribute inner.1) read e in
    let c = bind_some (attribute_in b.0.0) (λ (attribute : Attr). read_as attribute b.0.1) read b.2 in
    let parts = bytes_sound bytes b.0 fits b.1 in
    let inner : IsBytes b.0.0 =
    IsBytes-rest (counted_text b.0.0) (varint (length b.0.0)) b.0.0 refl
    (IsBytes-front bytes (counted_text b.0.0) b.0.1 parts fits) in
    let a = attribute_in-sound b.0.0 c.0 inner c.1 in
    subst (λ (r : Attr × List ℕ). (bytes ≡ attribute_body r.0 ++ r.1) × IsWellFormedAttribute r.0)
    (some_is (c.0, b.0.1) read c.2)
    (parts ∙ ap (λ (t : List ℕ). counted_text t ++ b.0.1) a.parts, a.good)

attribute_whole : (value : Attr) (rest : List ℕ) → IsWellFormedAttribute value
    → length (attribute_body value ++ rest) < 2 ^ 64
    → attribute_part (attribute_body value ++ rest) ≡ Some (value, rest)
unfolding attribute_part
attribute_whole value rest good short =
    let inner : length (attribute_text value) < 2 ^ 64 =
    omega (
      arith,
      short,
      length-append (attribute_body value) rest,
      length-append (varint (length (attribute_text value))) (attribute_text value),
    ) in
    rw (bytes_whole (attribute_text value) rest short, attribute_in-whole value good inner) refl

pub attribute_is_part : IsPart attribute_part attribute_body IsWellFormedAttribute
attribute_is_part = record { sound = attribute_sound; whole = attribute_whole }
