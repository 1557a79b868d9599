use Rattle.std.proofs.Common.{Some, cond, sym, ap, ◌∙◌}
use Rattle.std.specs.BTreeMap.{is_at}
use Rattle.index_log.specs.IndexKey.{text_cmp}
use Rattle.key_map.specs.Sections.{service_at, services_of}
use Rattle.key_map.proofs.ServiceLaws.{put-present, rise-services}
use Rattle.key_map.proofs.services.Services.insert.Goals as goal

pub returns-in_default-clause-rising : goal.returns-in_default-clause-rising
returns-in_default-clause-rising c = rise-services (Some c.args.number) c.self.inside.present.entries c.self.invariant

pub returns-clause-ok : goal.returns-clause-ok
returns-clause-ok c = λ q.
    put-present c.self.inside.absent c.self.inside.present.entries c.insert.new.self.entries c.in-Some.service
    (Some c.args.number) c.in_ok-insert.ensures.updates.0 q
    ∙ ap
    (λ s. cond (is_at (text_cmp s) q) (Some c.args.number)
    (service_at q (services_of c.self.inside.absent c.self.inside.present.entries)))
    (sym c.in-Some.is)
    ∙ ap (λ services. cond (is_at (text_cmp c.args.service) q) (Some c.args.number) (service_at q services))
    c.self.view_is

pub returns-clause-rising : goal.returns-clause-rising
returns-clause-rising c = rise-services c.self.inside.absent c.insert.new.self.entries c.in_ok-insert.ensures.ordered

pub returns-in_err-insert-clause-rising : goal.returns-in_err-insert-clause-rising
returns-in_err-insert-clause-rising c =
    rise-services c.self.inside.absent c.insert.new.self.entries c.insert.ensures.ordered
