use Rattle.std.proofs.Common.{take, sym, ◌∙◌}
use Rattle.std.proofs.lemmas.Str.{IsUtf8-from_ascii, is_utf8-from_IsUtf8}
use Rattle.packed_event.proofs.body.begins_with_utf8.Goals as goal

pub returns-then-is_short_ascii : goal.returns-then-is_short_ascii
returns-then-is_short_ascii c =
    let text = take c.args.len c.args.bytes.now in
    c.if-is_short_ascii.true
    ∙ sym (is_utf8-from_IsUtf8 text (IsUtf8-from_ascii text (c.is_short_ascii.ensures c.if-is_short_ascii.true)))
