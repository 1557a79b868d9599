use Rattle.sexp_read.proofs.Ascii.{not_utf8}
use Rattle.sexp_read.proofs.atom.text_of.Goals as goal

pub unreachable-requires : goal.unreachable-requires
unreachable-requires c =
    let known = rw c.in-Err-Utf8.field-0-is at c.in-Err-Utf8.ensures in
    not_utf8 c.args.bytes.now _ known.fault c.requires
