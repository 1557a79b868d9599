-- How a text is quoted, stretch by stretch.
use Rattle.std.proofs.Common.{◌≡◌, ℕ, ◌+◌, ◌<◌, ◌/◌, ◌%◌, false, cond, List, [], ◌∷◌, ◌++◌, length, take, drop, get_or}
use Rattle.std.proofs.Common.{sym, ◌∙◌, ap, append_assoc, append-nil}
use Rattle.std.specs.List.{flat_map}
use Rattle.std.proofs.lemmas.List.{take_more, take-append-drop}
use Rattle.std.proofs.lemmas.List.Concat.{flat_map-append}
use Rattle.notice_sink.specs.Quoting.{hex_digit, is_control, is_escaped, quoted_byte}

plain_byte : (byte : ℕ) → is_escaped byte ≡ false → is_control byte ≡ false → quoted_byte byte ≡ byte ∷ []
plain_byte byte h k =
    ap
    (λ b. cond b (92 ∷ byte ∷ [])
    (cond (is_control byte) (92 ∷ 120 ∷ hex_digit (byte / 16) ∷ hex_digit (byte % 16) ∷ []) (byte ∷ [])))
    h
    ∙ ap (λ b. cond b (92 ∷ 120 ∷ hex_digit (byte / 16) ∷ hex_digit (byte % 16) ∷ []) (byte ∷ [])) k

pub plain_more : (bytes : List ℕ) (i byte : ℕ) → i < length bytes → byte ≡ get_or bytes i 0 → is_escaped byte ≡ false
    → is_control byte ≡ false → flat_map quoted_byte (take i bytes) ≡ take i bytes
    → flat_map quoted_byte (take (i + 1) bytes) ≡ take (i + 1) bytes
plain_more bytes i byte below is h k so_far =
    let longer : take (i + 1) bytes ≡ take i bytes ++ byte ∷ [] =
    take_more bytes i 0 below ∙ ap (λ b. take i bytes ++ b ∷ []) (sym is) in
    ap (flat_map quoted_byte) longer
    ∙ (flat_map-append quoted_byte (take i bytes) (byte ∷ [])
    ∙ (ap (λ xs. xs ++ flat_map quoted_byte (byte ∷ [])) so_far
    ∙ (ap (λ xs. take i bytes ++ xs) (append-nil (quoted_byte byte) ∙ plain_byte byte h k)
    ∙ sym longer)))

parted : (rest : List ℕ) (n : ℕ) → flat_map quoted_byte (take n rest) ≡ take n rest
    → flat_map quoted_byte rest ≡ take n rest ++ flat_map quoted_byte (drop n rest)
parted rest n plain =
    ap (flat_map quoted_byte) (sym (take-append-drop n rest))
    ∙ (flat_map-append quoted_byte (take n rest) (drop n rest)
    ∙ ap (λ xs. xs ++ flat_map quoted_byte (drop n rest)) plain)

pub stretch : (out rest : List ℕ) (n byte : ℕ) (more : List ℕ) → drop n rest ≡ byte ∷ more
    → flat_map quoted_byte (take n rest) ≡ take n rest
    → ((out ++ take n rest) ++ quoted_byte byte) ++ flat_map quoted_byte more ≡ out ++ flat_map quoted_byte rest
stretch out rest n byte more next plain =
    append_assoc (out ++ take n rest) (quoted_byte byte) (flat_map quoted_byte more)
    ∙ (append_assoc out (take n rest) (quoted_byte byte ++ flat_map quoted_byte more)
    ∙ ap (λ xs. out ++ xs)
    (ap (λ xs. take n rest ++ flat_map quoted_byte xs) (sym next) ∙ sym (parted rest n plain)))

pub stretch_last : (out rest : List ℕ) (n : ℕ) → drop n rest ≡ [] → flat_map quoted_byte (take n rest) ≡ take n rest
    → out ++ take n rest ≡ out ++ flat_map quoted_byte rest
stretch_last out rest n none plain =
    ap (λ xs. out ++ xs)
    (sym (append-nil (take n rest))
    ∙ (ap (λ xs. take n rest ++ flat_map quoted_byte xs) (sym none) ∙ sym (parted rest n plain)))
