use Rattle.std.proofs.Common.{sym, ap, ◌∙◌, subst}
use Rattle.std.specs.Option.{option_copied}
use Rattle.key_map.specs.Keys.{number_at, IsRising}
use Rattle.key_map.specs.Sections.{numbers_of}
use Rattle.key_map.proofs.SectionLaws.{at-absent, at-host}
use Rattle.key_map.proofs.RisingLaws.{rise-all}
use Rattle.key_map.proofs.map.KeyMap.get.Goals as goal

pub returns-in-Some-clause-number : goal.returns-in-Some-clause-number
returns-in-Some-clause-number c =
    c.get_at.ensures
    ∙ sym (at-host c.self.inside.without_host c.self.inside.hosts.entries c.in-Some.host.now
    (option_copied c.args.service) c.self.invariant.sections.rising)
    ∙ ap
    (λ h.
    number_at (h, option_copied c.args.service) (numbers_of c.self.inside.without_host c.self.inside.hosts.entries))
    (sym (ap option_copied c.in-Some.is))
    ∙ ap (number_at (option_copied c.args.host, option_copied c.args.service)) c.self.view_is

pub returns-in-Some-clause-rising : goal.returns-in-Some-clause-rising
returns-in-Some-clause-rising c =
    subst IsRising c.self.view_is
    (rise-all c.self.inside.without_host c.self.inside.hosts.entries c.self.invariant.first c.self.invariant.sections)

pub returns-in-None-clause-number : goal.returns-in-None-clause-number
returns-in-None-clause-number c =
    c.get.ensures
    ∙ sym (at-absent c.self.inside.without_host c.self.inside.hosts.entries (option_copied c.args.service))
    ∙ ap
    (λ h.
    number_at (h, option_copied c.args.service) (numbers_of c.self.inside.without_host c.self.inside.hosts.entries))
    (sym (ap option_copied c.in-None.is))
    ∙ ap (number_at (option_copied c.args.host, option_copied c.args.service)) c.self.view_is

pub returns-in-None-clause-rising : goal.returns-in-None-clause-rising
returns-in-None-clause-rising c =
    subst IsRising c.self.view_is
    (rise-all c.self.inside.without_host c.self.inside.hosts.entries c.self.invariant.first c.self.invariant.sections)
