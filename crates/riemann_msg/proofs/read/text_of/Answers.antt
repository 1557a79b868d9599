use Rattle.std.proofs.Common.{refl}
use Rattle.std.proofs.lemmas.Str.{is_utf8-from_IsUtf8}
use Rattle.riemann_msg.proofs.Utf8.{no_utf8}
use Rattle.riemann_msg.proofs.read.text_of.Goals as goal

pub returns-in-Ok : goal.returns-in-Ok
returns-in-Ok c =
    let known = c.in-Ok.ensures.text in
    (rw (is_utf8-from_IsUtf8 c.args.bytes.now known.0) refl, known.1)

pub returns-in-Err-Utf8 : goal.returns-in-Err-Utf8
returns-in-Err-Utf8 c =
    let known = rw c.in-Err-Utf8.field-0-is at c.in-Err-Utf8.ensures in
    rw (no_utf8 c.args.bytes.now _ known.fault) refl
