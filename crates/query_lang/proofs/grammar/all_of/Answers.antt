use Rattle.query_lang.proofs.Rules.{all_rule, all_only}
use Rattle.query_lang.proofs.grammar.all_of.Goals as goal

pub returns-in-Some : goal.returns-in-Some
returns-in-Some c = all_only c.args.parts.items _ c.in-Some.ensures

pub returns-in-None : goal.returns-in-None
returns-in-None c = all_rule _ c.args.parts.items c.in-None.ensures.0 c.in-None.ensures.1
