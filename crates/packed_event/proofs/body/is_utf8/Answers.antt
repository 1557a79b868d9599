use Rattle.std.proofs.Common.{◌≡◌, ◌↔◌, ℕ, Bool, true, false, List, sym}
use Rattle.std.specs.Bool.{IsTrue, MatchBool}
use Rattle.std.specs.Str.{IsAscii, IsNotAscii, IsUtf8, is_utf8}
use Rattle.std.proofs.lemmas.Bool.{false≢true, false_from_ne_true}
use Rattle.std.proofs.lemmas.Str.{IsUtf8-from_ascii, IsUtf8-from_is_utf8, is_utf8-from_IsUtf8}
use Rattle.packed_event.proofs.body.is_utf8.Goals as goal

of_ascii : (bytes : List ℕ) (r : Bool) → MatchBool r (IsAscii bytes) (IsNotAscii bytes) → r ≡ true → r ≡ is_utf8 bytes
of_ascii bytes true is e = sym (is_utf8-from_IsUtf8 bytes (IsUtf8-from_ascii bytes is))
of_ascii bytes false is e = absurd (false≢true e)

of_test : (bytes : List ℕ) (r : Bool) → IsTrue r ↔ IsUtf8 bytes → r ≡ is_utf8 bytes
of_test bytes true is = sym (is_utf8-from_IsUtf8 bytes (is.0 (λ i. true)))
of_test bytes false is =
    sym (false_from_ne_true (is_utf8 bytes) (λ e. false≢true (is.1 (IsUtf8-from_is_utf8 bytes e))))

pub returns-then-is_ascii : goal.returns-then-is_ascii
returns-then-is_ascii c = of_ascii c.args.bytes.now c.is_ascii.result c.is_ascii.ensures.cases c.if-is_ascii.true

pub returns-else-is_ascii : goal.returns-else-is_ascii
returns-else-is_ascii c = of_test c.args.bytes.now c.is_utf8.result c.is_utf8.ensures
