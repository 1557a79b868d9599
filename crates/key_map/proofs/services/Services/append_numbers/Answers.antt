use Rattle.std.proofs.Common.{◌++◌, [], sym, ap, ◌∙◌, subst}
use Rattle.std.specs.Map.{values_of}
use Rattle.std.proofs.lemmas.List.{append_assoc}
use Rattle.key_map.specs.Sections.{services_of, ServicesRise}
use Rattle.key_map.proofs.ServiceLaws.{rise-services, values-services}
use Rattle.key_map.proofs.services.Services.append_numbers.Goals as goal

pub returns-in_err-append_absent-clause-rising : goal.returns-in_err-append_absent-clause-rising
returns-in_err-append_absent-clause-rising c =
    subst ServicesRise c.self.view_is
    (rise-services c.self.inside.absent c.self.inside.present.entries c.self.invariant)

pub returns-in_err-append_values-clause-rising : goal.returns-in_err-append_values-clause-rising
returns-in_err-append_values-clause-rising c =
    subst ServicesRise c.self.view_is
    (rise-services c.self.inside.absent c.self.inside.present.entries c.self.invariant)

pub returns-clause-ok : goal.returns-clause-ok
returns-clause-ok c =
    c.in_ok-append_values.ensures
    ∙ ap (λ ids. ids ++ values_of c.self.inside.present.entries) c.in_ok-append_absent.ensures
    ∙ append_assoc c.args.out.now (values_of (services_of c.self.inside.absent []))
    (values_of c.self.inside.present.entries)
    ∙ ap (λ ids. c.args.out.now ++ ids) (sym (values-services c.self.inside.absent c.self.inside.present.entries))
    ∙ ap (λ services. c.args.out.now ++ values_of services) c.self.view_is

pub returns-clause-rising : goal.returns-clause-rising
returns-clause-rising c =
    subst ServicesRise c.self.view_is
    (rise-services c.self.inside.absent c.self.inside.present.entries c.self.invariant)
