-- Lines of which a prefix was written to a sink.
use Rattle.std.proofs.Common.{◌≡◌, ℕ, ◌+◌, ◌<◌, ◌≤◌, ◌⊎◌, inl, inr, List, ◌++◌, length, take, drop, refl, ap, sym, ◌∙◌}
use Rattle.std.proofs.Common.{arith, append_assoc}
use Rattle.std.specs.Prelude.{Option, Some, None, slice_index}
use Rattle.std.specs.List.{flat_map}
use Rattle.std.specs.Option.{option_map}
use Rattle.std.proofs.lemmas.Grind.{flat_map-append}
use Rattle.std.proofs.lemmas.List.{drop_more, take-append-le, take_all, take-append-drop}
use Rattle.std.proofs.Math.Seq.{take-append-add}
use Rattle.ports.specs.Writing.{Got, GotPrefix}

twice : (text : Option (List ℕ)) (first second : List ℕ)
    → option_map (λ (bytes : List ℕ). bytes ++ second) (option_map (λ (bytes : List ℕ). bytes ++ first) text)
    ≡ option_map (λ (bytes : List ℕ). bytes ++ (first ++ second)) text
twice None first second = refl
twice (Some text) first second = ap Some (append_assoc text first second)

got_then : (a b c : Option (List ℕ)) (first second : List ℕ) → Got a first b → Got b second c
    → Got a (first ++ second) c
got_then a b c first second one two =
    two ∙ ap (option_map (λ (bytes : List ℕ). bytes ++ second)) one ∙ twice a first second

-- the first n bytes are as many of a longer list
prefix_of : (n : ℕ) (bytes rest : List ℕ) → (m : ℕ) × (take n bytes ≡ take m (bytes ++ rest))
prefix_of n bytes rest =
    let side : (n ≤ length bytes) ⊎ (length bytes ≤ n) = grind arith in
    elim side [
      | inl within ↦ (n, sym (take-append-le n bytes rest within))
      | inr over ↦ (
        length bytes,
        take_all n bytes over ∙ sym (take_all (length bytes) bytes (omega arith))
            ∙ sym (take-append-le (length bytes) bytes rest (omega arith)),
      )
    ]

prefix_then : (a b c : Option (List ℕ)) (first second rest whole : List ℕ) → whole ≡ first ++ (second ++ rest)
    → Got a first b → GotPrefix b second c → GotPrefix a whole c
prefix_then a b c first second rest whole is one two =
    let part = prefix_of two.0 second rest in (
      length first + part.0,
      got_then a b c first (take two.0 second) one two.1
          ∙ ap (λ (bytes : List ℕ). option_map (λ (text : List ℕ). text ++ (first ++ bytes)) a) part.1
          ∙ ap (λ (bytes : List ℕ). option_map (λ (text : List ℕ). text ++ bytes) a)
          (sym (take-append-add first (second ++ rest) part.0) ∙ ap (take (length first + part.0)) (sym is)),
    )

-- the first lines were written, and a prefix of one more
pub prefix_line : (f : ℕ → List ℕ) (numbers : List ℕ) (i : ℕ) (a b c : Option (List ℕ)) → i < length numbers
    → Got a (flat_map f (take i numbers)) b → GotPrefix b (f (slice_index numbers i)) c
    → GotPrefix a (flat_map f numbers) c
prefix_line f numbers i a b c within before line =
    let whole : flat_map f numbers
    ≡ flat_map f (take i numbers) ++ (f (slice_index numbers i) ++ flat_map f (drop (i + 1) numbers)) =
    ap (flat_map f) (sym (take-append-drop i numbers))
    ∙ flat_map-append f (take i numbers) (drop i numbers)
    ∙ ap (λ (ns : List ℕ). flat_map f (take i numbers) ++ flat_map f ns) (drop_more numbers i 0 within) in
    prefix_then a b c (flat_map f (take i numbers)) (f (slice_index numbers i)) (flat_map f (drop (i + 1) numbers))
    (flat_map f numbers) whole before line
