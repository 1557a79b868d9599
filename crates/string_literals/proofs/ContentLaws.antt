-- Writing a text byte by byte.
use Rattle.std.proofs.Common.{◌≡◌, ℕ, ◌+◌, ◌<◌, List, [], ◌∷◌, ◌++◌, length, get_or, take, refl, ap, ◌∙◌}
use Rattle.std.proofs.Math.Seq.{take-length}
use Rattle.std.proofs.lemmas.Grind.{flat_map-append}
use Rattle.std.proofs.lemmas.List.{take_more, append-nil}
use Rattle.std.specs.List.{flat_map}
use Rattle.string_literals.specs.Literals.{escape}

pub content_none : (bytes : List ℕ) → flat_map escape (take 0 bytes) ≡ []
content_none bytes = refl

pub content_all : (bytes : List ℕ) → flat_map escape (take (length bytes) bytes) ≡ flat_map escape bytes
content_all bytes = ap (flat_map escape) (take-length bytes)

pub content_more : (bytes : List ℕ) (i : ℕ) → i < length bytes
    → flat_map escape (take (i + 1) bytes) ≡ flat_map escape (take i bytes) ++ escape (get_or bytes i 0)
content_more bytes i inside =
    ap (flat_map escape) (take_more bytes i 0 inside) ∙ flat_map-append escape (take i bytes) (get_or bytes i 0 ∷ [])
    ∙ ap (λ (last : List ℕ). flat_map escape (take i bytes) ++ last) (append-nil (escape (get_or bytes i 0)))
