use Rattle.std.proofs.Common.{◌++◌, sym, ap, ◌∙◌}
use Rattle.std.specs.Map.{values_of}
use Rattle.key_map.specs.Sections.{by_key}
use Rattle.key_map.proofs.SectionLaws.{values-all}
use Rattle.key_map.proofs.map.KeyMap.numbers.Goals as goal

pub returns : goal.returns
returns c =
    c.in_ok-append_all.ensures
    ∙ ap (λ ids. ids ++ values_of (by_key c.self.inside.hosts.entries))
    (c.in_ok-append_numbers.ensures.ok
    ∙ ap (λ ids. ids ++ values_of c.self.inside.without_host) c.fresh-numbers.ensures)
    ∙ sym (values-all c.self.inside.without_host c.self.inside.hosts.entries)
    ∙ ap values_of c.self.view_is
