use Rattle.std.proofs.Common.{List, ℕ, subst, sym}
use Rattle.std.specs.Str.{IsUtf8}
use Rattle.sexp_read.proofs.QuotedText.{quoted_is_utf8}
use Rattle.sexp_read.proofs.quoted.quoted_at.Goals as goal

pub text_of-requires : goal.text_of-requires
text_of-requires c = subst (λ (text : List ℕ). IsUtf8 text) (sym c.as_slice.ensures)
    (quoted_is_utf8 c.args.kind c.args.start c.args.place _ c.in_ok-bytes.bytes c.in_ok-bytes.end c.requires.utf8
    c.in_ok-bytes.ensures.gives)
