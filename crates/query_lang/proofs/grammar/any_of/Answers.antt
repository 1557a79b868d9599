use Rattle.query_lang.proofs.Rules.{any_rule, any_only}
use Rattle.query_lang.proofs.grammar.any_of.Goals as goal

pub returns-in-Some : goal.returns-in-Some
returns-in-Some c = any_only c.args.parts.items _ c.in-Some.ensures

pub returns-in-None : goal.returns-in-None
returns-in-None c = any_rule _ c.args.parts.items c.in-None.ensures.0 c.in-None.ensures.1
