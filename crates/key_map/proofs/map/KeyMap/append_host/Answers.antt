use Rattle.std.proofs.Common.{◌++◌, sym, ap, ◌∙◌}
use Rattle.std.specs.Option.{option_copied}
use Rattle.std.specs.Map.{values_of}
use Rattle.std.proofs.lemmas.Result.{on_ok_weaker}
use Rattle.key_map.specs.Keys.{of_host}
use Rattle.key_map.specs.Sections.{numbers_of}
use Rattle.key_map.proofs.SectionLaws.{values-of_host, values-of_absent}
use Rattle.key_map.proofs.map.KeyMap.append_host.Goals as goal

pub returns-in-Some : goal.returns-in-Some
returns-in-Some c =
    on_ok_weaker c.append_at.result
    (λ more. more c.self.invariant.sections
    ∙ ap (λ ids. c.args.out.now ++ ids)
    (sym (values-of_host c.self.inside.without_host c.self.inside.hosts.entries c.in-Some.host.now)
    ∙ ap (λ h. values_of (of_host h (numbers_of c.self.inside.without_host c.self.inside.hosts.entries)))
    (sym (ap option_copied c.in-Some.is))
    ∙ ap (λ numbers. values_of (of_host (option_copied c.args.host) numbers)) c.self.view_is))
    c.append_at.ensures

pub returns-in-None : goal.returns-in-None
returns-in-None c =
    on_ok_weaker c.append_numbers.result
    (λ more. more
    ∙ ap (λ ids. c.args.out.now ++ ids)
    (sym (values-of_absent c.self.inside.without_host c.self.inside.hosts.entries)
    ∙ ap (λ h. values_of (of_host h (numbers_of c.self.inside.without_host c.self.inside.hosts.entries)))
    (sym (ap option_copied c.in-None.is))
    ∙ ap (λ numbers. values_of (of_host (option_copied c.args.host) numbers)) c.self.view_is))
    c.append_numbers.ensures.ok
