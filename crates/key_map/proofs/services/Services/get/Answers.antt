use Rattle.std.proofs.Common.{None, Some, sym, ap, ◌∙◌}
use Rattle.std.specs.Option.{option_copied}
use Rattle.key_map.specs.Sections.{service_at, services_of}
use Rattle.key_map.proofs.ServiceLaws.{services-at}
use Rattle.key_map.proofs.services.Services.get.Goals as goal

pub returns-in-Some : goal.returns-in-Some
returns-in-Some c =
    c.copied.ensures ∙ c.get.ensures.value
    ∙ sym (services-at c.self.inside.absent c.self.inside.present.entries (Some c.in-Some.service.now))
    ∙ ap (λ s. service_at s (services_of c.self.inside.absent c.self.inside.present.entries))
    (sym (ap option_copied c.in-Some.is))
    ∙ ap (service_at (option_copied c.args.service)) c.self.view_is

pub returns-in-None : goal.returns-in-None
returns-in-None c =
    sym (services-at c.self.inside.absent c.self.inside.present.entries None)
    ∙ ap (λ s. service_at s (services_of c.self.inside.absent c.self.inside.present.entries))
    (sym (ap option_copied c.in-None.is))
    ∙ ap (service_at (option_copied c.args.service)) c.self.view_is
