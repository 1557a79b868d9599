-- The names of causes, as the texts of refusals have them.
use Rattle.std.specs.Prelude.{ℕ, List, codes}
use Rattle.sexp_read.specs.declared.fault.SexpWhy.{SexpWhy}
use Rattle.sexp_read.specs.declared.fault.SexpWhy.TheVariants.{Long, Utf8, Open, Close, Token, Number, Escape, Deep}

unfoldable pub why_name : SexpWhy → List ℕ
why_name Long = codes "long"
why_name Utf8 = codes "utf8"
why_name Open = codes "open"
why_name Close = codes "close"
why_name Token = codes "token"
why_name Number = codes "number"
why_name Escape = codes "escape"
why_name Deep = codes "deep"
