-- The test that a text is UTF-8, at each outcome of reading it.
use Rattle.std.proofs.Common.{◌≡◌, ℕ, false, List, length, subst, sym}
use Rattle.std.proofs.Math.Seq.{take-length}
use Rattle.std.proofs.lemmas.Bool.{false_from_ne_true}
use Rattle.std.proofs.lemmas.Str.{IsUtf8-from_is_utf8}
use Rattle.std.specs.Str.{IsUtf8, IsValidUpTo, is_utf8}

pub no_utf8 : (bytes : List ℕ) (place : ℕ) → IsValidUpTo bytes place → is_utf8 bytes ≡ false
no_utf8 bytes place h =
    false_from_ne_true (is_utf8 bytes)
    (λ e. h.longest (length bytes) h.short
    (subst (λ (text : List ℕ). IsUtf8 text) (sym (take-length bytes)) (IsUtf8-from_is_utf8 bytes e)))
