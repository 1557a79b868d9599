-- A text lies at its span.
use Rattle.std.proofs.Common.{◌≡◌, ℕ, ◌+◌, ◌-◌, List, ◌∷◌, ◌++◌, length, take, drop, Option, Some, None, refl, sym, ap}
use Rattle.std.proofs.Common.{◌∙◌, append_assoc, length-append, arith}
use Rattle.std.proofs.lemmas.List.{take_at, drop_at}
use Rattle.std.specs.Option.{option_map}
use Rattle.std.specs.Prelude.{IfSome}
use Rattle.pb_wire.specs.Varint.{varint}
use Rattle.packed_event.specs.Packed.{LiesIn, text_at}
use Rattle.packed_event.specs.Reading.{span_before}
use Rattle.packed_event.specs.declared.places.Span.{Span}
use Rattle.packed_event.proofs.Bodies.{counted_text}
use Rattle.packed_event.proofs.Stages.{optional_text}

abbrev some_of : List ℕ → Option (List ℕ)
some_of text = Some text

-- the bytes end so
abbrev pub Ends : List ℕ → List ℕ → Type 0
Ends bytes last = (before : List ℕ) × (bytes ≡ before ++ last)

pub ends_then : (a b c text : List ℕ) → Ends a b → b ≡ text ++ c → Ends a c
ends_then a b c text (before, is) more =
    (before ++ text, is ∙ ap (λ (t : List ℕ). before ++ t) more ∙ sym (append_assoc before text c))

-- what the bytes end with begins that many bytes before their end
pub rest_is : (bytes rest : List ℕ) → Ends bytes rest → drop (length bytes - length rest) bytes ≡ rest
rest_is bytes rest (before, is) =
    let first : ℕ = length bytes - length rest in
    let all : length bytes ≡ length before + length rest = ap (length {A = ℕ}) is ∙ length-append before rest in
    let start : length before ≡ first = omega (arith, all) in
    ap (drop first) is ∙ drop_at before rest first start

abbrev span_of : ℕ → List ℕ → List ℕ → Span
span_of total text rest = record { start = total - (length text + length rest); len = length text }

text_is : (bytes text rest : List ℕ) → Ends bytes (text ++ rest)
    → text_at bytes (span_of (length bytes) text rest) ≡ text
text_is bytes text rest (before, is) =
    let first : ℕ = length bytes - (length text + length rest) in
    let all : length bytes ≡ length before + (length text + length rest) =
    ap (length {A = ℕ}) is ∙ length-append before (text ++ rest)
    ∙ ap (λ (n : ℕ). length before + n) (length-append text rest) in
    let start : length before ≡ first = omega (arith, all) in
    let size : first + length text - first ≡ length text = omega arith in
    ap (λ (n : ℕ). take n (drop first bytes)) size
    ∙ ap (λ (t : List ℕ). take (length text) t) (ap (drop first) is ∙ drop_at before (text ++ rest) first start)
    ∙ take_at text rest (length text) refl

pub optional_text_is : (bytes part : List ℕ) (tag : ℕ) (value : Option (List ℕ)) (rest : List ℕ) → Ends bytes part
    → part ≡ optional_text tag counted_text value ++ rest
    → option_map (text_at bytes) (span_before (length bytes) value rest) ≡ value
optional_text_is bytes part tag None rest ends is = refl
optional_text_is bytes part tag (Some text) rest ends is =
    let head : List ℕ = tag ∷ varint (length text) in
    let moved : part ≡ head ++ (text ++ rest) =
    is ∙ ap (λ (t : List ℕ). tag ∷ t) (append_assoc (varint (length text)) text rest) in
    ap some_of (text_is bytes text rest (ends_then bytes part (text ++ rest) head ends moved))

pub optional_within : (bytes part : List ℕ) (tag : ℕ) (value : Option (List ℕ)) (rest : List ℕ) → Ends bytes part
    → part ≡ optional_text tag counted_text value ++ rest
    → IfSome (span_before (length bytes) value rest) (LiesIn bytes)
optional_within bytes part tag None rest ends is = tt
optional_within bytes part tag (Some text) rest (before, whole) is =
    omega (
      arith,
      ap (length {A = ℕ}) whole,
      ap (length {A = ℕ}) is,
      length-append before part,
      length-append (counted_text text) rest,
      length-append (varint (length text)) text,
    )
