use Rattle.std.proofs.Common.{filter, rules, ap, ◌∙◌}
use Rattle.std.proofs.lemmas.Fn.{filter_same}
use Rattle.stream_meaning.specs.Windows.{is_recent}
use Rattle.window_streams.proofs.moving_time.keep_recent.Goals as goal

pub returns : goal.returns
returns c =
    c.from_vec.ensures
    ∙ filter_same _ (is_recent c.args.secs c.args.latest) _ (λ x b f' k. search rules) _ _ c.retain.ensures.filtered
    ∙ ap (filter (is_recent c.args.secs c.args.latest)) (c.into_vec-events.ensures ∙ c.replace.ensures.value)
