use Rattle.std.proofs.Common.{sym, ◌∙◌}
use Rattle.sexp_read.proofs.Pieces.{following_quote, following_second_quote}
use Rattle.sexp_read.proofs.lex.piece_at.Goals as goal

pub quoted_at-requires-clause-utf8 : goal.quoted_at-requires-clause-utf8
quoted_at-requires-clause-utf8 c =
    following_quote c.args.text.now c.args.place c.requires.utf8 c.requires.within
    (sym c.class_of.ensures ∙ c.in-Quote.is)

pub quoted_at-requires-in-Hash-clause-utf8 : goal.quoted_at-requires-in-Hash-clause-utf8
quoted_at-requires-in-Hash-clause-utf8 c =
    following_second_quote c.args.text.now c.args.place c.requires.utf8 c.if-place-text.true
    c.if-text-place-eq-QUOTE.true
