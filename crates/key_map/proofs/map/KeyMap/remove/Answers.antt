use Rattle.std.proofs.Common.{None, cond, sym, ap, ◌∙◌}
use Rattle.std.specs.Option.{option_copied}
use Rattle.std.specs.BTreeMap.{is_at}
use Rattle.key_map.specs.Keys.{key_cmp, number_at}
use Rattle.key_map.specs.Sections.{numbers_of}
use Rattle.key_map.proofs.SectionLaws.{at-absent, at-host, sets-absent, sets-host}
use Rattle.key_map.proofs.RisingLaws.{rise-all}
use Rattle.key_map.proofs.map.KeyMap.remove.Goals as goal

pub returns-in-Some-clause-number : goal.returns-in-Some-clause-number
returns-in-Some-clause-number c =
    c.remove_at.ensures.number
    ∙ sym (at-host c.self.inside.without_host c.self.inside.hosts.entries c.in-Some.host.now
    (option_copied c.args.service) c.self.invariant.sections.rising)
    ∙ ap
    (λ h.
    number_at (h, option_copied c.args.service) (numbers_of c.self.inside.without_host c.self.inside.hosts.entries))
    (sym (ap option_copied c.in-Some.is))
    ∙ ap (number_at (option_copied c.args.host, option_copied c.args.service)) c.self.view_is

pub returns-in-Some-clause-removed : goal.returns-in-Some-clause-removed
returns-in-Some-clause-removed c = λ q.
    sets-host c.self.inside.without_host c.self.inside.hosts.entries c.remove_at.new.hosts.entries c.in-Some.host.now
    (option_copied c.args.service) None
    c.self.invariant.sections.rising (c.remove_at.ensures.rising c.self.invariant.sections).rising
    c.remove_at.ensures.removed q
    ∙ ap
    (λ h. cond (is_at (key_cmp (h, option_copied c.args.service)) q) None
    (number_at q (numbers_of c.self.inside.without_host c.self.inside.hosts.entries)))
    (sym (ap option_copied c.in-Some.is))
    ∙ ap
    (λ numbers.
    cond (is_at (key_cmp (option_copied c.args.host, option_copied c.args.service)) q) None (number_at q numbers))
    c.self.view_is

pub returns-in-Some-clause-rising : goal.returns-in-Some-clause-rising
returns-in-Some-clause-rising c =
    rise-all c.self.inside.without_host c.remove_at.new.hosts.entries c.self.invariant.first
    (c.remove_at.ensures.rising c.self.invariant.sections)

pub returns-in-None-clause-number : goal.returns-in-None-clause-number
returns-in-None-clause-number c =
    c.remove.ensures.number
    ∙ sym (at-absent c.self.inside.without_host c.self.inside.hosts.entries (option_copied c.args.service))
    ∙ ap
    (λ h.
    number_at (h, option_copied c.args.service) (numbers_of c.self.inside.without_host c.self.inside.hosts.entries))
    (sym (ap option_copied c.in-None.is))
    ∙ ap (number_at (option_copied c.args.host, option_copied c.args.service)) c.self.view_is

pub returns-in-None-clause-removed : goal.returns-in-None-clause-removed
returns-in-None-clause-removed c = λ q.
    sets-absent c.self.inside.without_host c.remove.new.self c.self.inside.hosts.entries (option_copied c.args.service)
    None c.self.invariant.sections.rising c.remove.ensures.removed q
    ∙ ap
    (λ h. cond (is_at (key_cmp (h, option_copied c.args.service)) q) None
    (number_at q (numbers_of c.self.inside.without_host c.self.inside.hosts.entries)))
    (sym (ap option_copied c.in-None.is))
    ∙ ap
    (λ numbers.
    cond (is_at (key_cmp (option_copied c.args.host, option_copied c.args.service)) q) None (number_at q numbers))
    c.self.view_is

pub returns-in-None-clause-rising : goal.returns-in-None-clause-rising
returns-in-None-clause-rising c =
    rise-all c.remove.new.self c.self.inside.hosts.entries c.remove.ensures.rising c.self.invariant.sections
