use Rattle.std.proofs.Common.{ap, is_some, ◌∙◌}
use Rattle.regex.specs.Patterns.{find_str}
use Rattle.pred_eval.proofs.SearchLaws.{finds_what_is_read}
use Rattle.pred_eval.proofs.finder.found_by_matcher.Goals as goal

pub returns : goal.returns
returns c pattern from =
    c.is_match.ensures.found
    ∙ ap (λ re. is_some (find_str re c.args.text.now 0)) c.in_ok-matcher.ensures.pattern
    ∙ finds_what_is_read pattern c.args.regex.now from c.args.text.now (λ k. (c.type_inv.text k).fits)
