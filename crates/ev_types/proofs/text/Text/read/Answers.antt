use Rattle.std.proofs.lemmas.Str.{IsUtf8-from_ascii}
use Rattle.ev_types.proofs.text.Text.read.Goals as goal

pub from_utf8_unchecked-chars-requires : goal.from_utf8_unchecked-chars-requires
from_utf8_unchecked-chars-requires c = IsUtf8-from_ascii c.args.bytes.now c.if-is_ascii.ensures.cases
