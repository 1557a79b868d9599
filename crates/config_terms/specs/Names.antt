-- The names of causes, as the texts of refusals have them.
use Rattle.std.specs.Prelude.{ℕ, List, codes}
use Rattle.config_terms.specs.declared.fault.ConfigWhy.{ConfigWhy}
use Rattle.config_terms.specs.declared.fault.ConfigWhy.TheVariants.{Long, Utf8, Open, Close, Token, Number, Escape}
use Rattle.config_terms.specs.declared.fault.ConfigWhy.TheVariants.{Deep, Form, Arguments, Range, Name, Twice, Many}
use Rattle.config_terms.specs.declared.fault.ConfigWhy.TheVariants.{Kind}

unfoldable pub why_name : ConfigWhy → List ℕ
why_name Long = codes "long"
why_name Utf8 = codes "utf8"
why_name Open = codes "open"
why_name Close = codes "close"
why_name Token = codes "token"
why_name Number = codes "number"
why_name Escape = codes "escape"
why_name Deep = codes "deep"
why_name Form = codes "form"
why_name Arguments = codes "arguments"
why_name Range = codes "range"
why_name Name = codes "name"
why_name Twice = codes "twice"
why_name Many = codes "many"
why_name Kind = codes "kind"
