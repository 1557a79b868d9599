use Rattle.std.proofs.Common.{sym, ◌∙◌}
use Rattle.sexp_read.proofs.Ascii.{keyword_name_is_utf8, symbol_is_utf8}
use Rattle.sexp_read.proofs.atom.atom_of.Goals as goal

pub text_of-requires : goal.text_of-requires
text_of-requires c = keyword_name_is_utf8 c.args.run.now (sym c.is_keyword.ensures ∙ c.if-is_keyword.true)

pub text_of-requires-then-is_symbol : goal.text_of-requires-then-is_symbol
text_of-requires-then-is_symbol c = symbol_is_utf8 c.args.run.now (sym c.is_symbol.ensures ∙ c.if-is_symbol.true)
