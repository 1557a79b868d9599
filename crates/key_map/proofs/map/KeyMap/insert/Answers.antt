use Rattle.std.proofs.Common.{Some, cond, sym, ap, ◌∙◌}
use Rattle.std.specs.BTreeMap.{is_at}
use Rattle.key_map.specs.Keys.{key_cmp, number_at}
use Rattle.key_map.specs.Sections.{numbers_of}
use Rattle.key_map.proofs.SectionLaws.{sets-absent, sets-host}
use Rattle.key_map.proofs.RisingLaws.{rise-all}
use Rattle.key_map.proofs.map.KeyMap.insert.Goals as goal

pub returns-in_err-insert_at-in-Some-clause-rising : goal.returns-in_err-insert_at-in-Some-clause-rising
returns-in_err-insert_at-in-Some-clause-rising c =
    rise-all c.self.inside.without_host c.insert_at.new.hosts.entries c.self.invariant.first
    (c.insert_at.ensures.rising c.self.invariant.sections)

pub returns-in_err-insert-in-None-clause-rising : goal.returns-in_err-insert-in-None-clause-rising
returns-in_err-insert-in-None-clause-rising c =
    rise-all c.insert.new.self c.self.inside.hosts.entries c.insert.ensures.rising c.self.invariant.sections

pub returns-in_ok-insert_at-in-Some-clause-ok : goal.returns-in_ok-insert_at-in-Some-clause-ok
returns-in_ok-insert_at-in-Some-clause-ok c = λ q.
    sets-host c.self.inside.without_host c.self.inside.hosts.entries c.insert_at.new.hosts.entries c.in-Some.host
    c.args.service (Some c.args.number)
    c.self.invariant.sections.rising (c.insert_at.ensures.rising c.self.invariant.sections).rising
    c.in_ok-insert_at-in-Some.ensures.ok q
    ∙ ap
    (λ h. cond (is_at (key_cmp (h, c.args.service)) q) (Some c.args.number)
    (number_at q (numbers_of c.self.inside.without_host c.self.inside.hosts.entries)))
    (sym c.in-Some.is)
    ∙ ap (λ numbers. cond (is_at (key_cmp (c.args.host, c.args.service)) q) (Some c.args.number) (number_at q numbers))
    c.self.view_is

pub returns-in_ok-insert_at-in-Some-clause-rising : goal.returns-in_ok-insert_at-in-Some-clause-rising
returns-in_ok-insert_at-in-Some-clause-rising c =
    rise-all c.self.inside.without_host c.insert_at.new.hosts.entries c.self.invariant.first
    (c.insert_at.ensures.rising c.self.invariant.sections)

pub returns-in_ok-insert-in-None-clause-ok : goal.returns-in_ok-insert-in-None-clause-ok
returns-in_ok-insert-in-None-clause-ok c = λ q.
    sets-absent c.self.inside.without_host c.insert.new.self c.self.inside.hosts.entries c.args.service
    (Some c.args.number) c.self.invariant.sections.rising c.in_ok-insert-in-None.ensures.ok q
    ∙ ap
    (λ h. cond (is_at (key_cmp (h, c.args.service)) q) (Some c.args.number)
    (number_at q (numbers_of c.self.inside.without_host c.self.inside.hosts.entries)))
    (sym c.in-None.is)
    ∙ ap (λ numbers. cond (is_at (key_cmp (c.args.host, c.args.service)) q) (Some c.args.number) (number_at q numbers))
    c.self.view_is

pub returns-in_ok-insert-in-None-clause-rising : goal.returns-in_ok-insert-in-None-clause-rising
returns-in_ok-insert-in-None-clause-rising c =
    rise-all c.insert.new.self c.self.inside.hosts.entries c.insert.ensures.rising c.self.invariant.sections
