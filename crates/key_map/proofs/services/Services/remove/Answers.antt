use Rattle.std.proofs.Common.{None, Some, cond, sym, ap, ◌∙◌}
use Rattle.std.specs.Option.{option_copied}
use Rattle.std.specs.BTreeMap.{is_at}
use Rattle.index_log.specs.IndexKey.{text_cmp}
use Rattle.key_map.specs.Sections.{service_at, services_of}
use Rattle.key_map.proofs.ServiceLaws.{services-at, put-present, put-absent, rise-services}
use Rattle.key_map.proofs.services.Services.remove.Goals as goal

pub returns-in-Some-clause-number : goal.returns-in-Some-clause-number
returns-in-Some-clause-number c =
    c.remove.ensures.value
    ∙ sym (services-at c.self.inside.absent c.self.inside.present.entries (Some c.in-Some.service.now))
    ∙ ap (λ s. service_at s (services_of c.self.inside.absent c.self.inside.present.entries))
    (sym (ap option_copied c.in-Some.is))
    ∙ ap (service_at (option_copied c.args.service)) c.self.view_is

pub returns-in-Some-clause-removed : goal.returns-in-Some-clause-removed
returns-in-Some-clause-removed c = λ q.
    put-present c.self.inside.absent c.self.inside.present.entries c.remove.new.self.entries c.in-Some.service.now None
    c.remove.ensures.updates.0 q
    ∙ ap
    (λ s.
    cond (is_at (text_cmp s) q) None (service_at q (services_of c.self.inside.absent c.self.inside.present.entries)))
    (sym (ap option_copied c.in-Some.is))
    ∙ ap (λ services. cond (is_at (text_cmp (option_copied c.args.service)) q) None (service_at q services))
    c.self.view_is

pub returns-in-Some-clause-rising : goal.returns-in-Some-clause-rising
returns-in-Some-clause-rising c = rise-services c.self.inside.absent c.remove.new.self.entries c.remove.ensures.ordered

pub returns-in-None-clause-number : goal.returns-in-None-clause-number
returns-in-None-clause-number c =
    c.take.ensures.value
    ∙ sym (services-at c.self.inside.absent c.self.inside.present.entries None)
    ∙ ap (λ s. service_at s (services_of c.self.inside.absent c.self.inside.present.entries))
    (sym (ap option_copied c.in-None.is))
    ∙ ap (service_at (option_copied c.args.service)) c.self.view_is

pub returns-in-None-clause-removed : goal.returns-in-None-clause-removed
returns-in-None-clause-removed c = λ q.
    put-absent c.self.inside.absent c.take.new.self c.self.inside.present.entries q
    ∙ ap
    (λ absent. cond (is_at (text_cmp None) q) absent
    (service_at q (services_of c.self.inside.absent c.self.inside.present.entries)))
    c.take.ensures.after
    ∙ ap
    (λ s.
    cond (is_at (text_cmp s) q) None (service_at q (services_of c.self.inside.absent c.self.inside.present.entries)))
    (sym (ap option_copied c.in-None.is))
    ∙ ap (λ services. cond (is_at (text_cmp (option_copied c.args.service)) q) None (service_at q services))
    c.self.view_is

pub returns-in-None-clause-rising : goal.returns-in-None-clause-rising
returns-in-None-clause-rising c = rise-services c.take.new.self c.self.inside.present.entries c.self.invariant
