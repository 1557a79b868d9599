use Rattle.std.proofs.Common.{◌≡◌, ℕ, List, cond, None, Some, refl, sym, ap, ◌∙◌, subst}
use Rattle.std.specs.Option.{IsSome, option_copied_mut}
use Rattle.std.specs.List.{All}
use Rattle.std.specs.Map.{values_of}
use Rattle.std.specs.BTreeMap.{BTreeMap, is_at}
use Rattle.index_log.specs.IndexKey.{text_cmp}
use Rattle.std.proofs.lemmas.Map.Steps.{set_value_same}
use Rattle.std.proofs.lemmas.Result.{on_ok_weaker, on_err_weaker}
use Rattle.std.proofs.lemmas.Map.Views.{All-values-set_value, All-values-insert_entry}
use Rattle.key_map.specs.Sections.{Services, service_at, services_at, ServicesRise}
use Rattle.key_map.proofs.ServiceLaws.{bytes_cmp}
use Rattle.key_map.proofs.HostLaws.{set-some, still-some, full-set}
use Rattle.key_map.proofs.SectionLaws.{lent-sets, new-sets}
use Rattle.key_map.proofs.map.insert_at.Goals as goal

pub returns-in-Some-clause-ok : goal.returns-in-Some-clause-ok
returns-in-Some-clause-ok c =
    on_ok_weaker c.insert.result
    (lent-sets c.args.hosts.now.entries (c.get_mut.follows.lender c.insert.new.self).entries c.args.host
    c.in-Some.services.now c.insert.new.self c.args.service (Some c.args.number)
    (sym c.in-Some.ensures.value)
    ((c.get_mut.follows.holds c.insert.new.self).3 (subst IsSome c.in-Some.ensures.value refl)).0)
    c.insert.ensures.ok

pub returns-in-Some-clause-err : goal.returns-in-Some-clause-err
returns-in-Some-clause-err c =
    on_err_weaker c.insert.result
    (λ same. (c.get_mut.follows.holds c.insert.new.self).0
    ∙ set_value_same (is_at (bytes_cmp c.args.host)) c.args.hosts.now.entries c.insert.new.self
    (sym c.in-Some.ensures.value ∙ ap Some (sym same)))
    c.insert.ensures.err

pub returns-in-Some-clause-rising : goal.returns-in-Some-clause-rising
returns-in-Some-clause-rising c = λ k. record {
  rising = (c.get_mut.follows.holds c.insert.new.self).4;
  each = subst (λ es. All ServicesRise (values_of es)) (sym (c.get_mut.follows.holds c.insert.new.self).0)
      (All-values-set_value (is_at (bytes_cmp c.args.host)) ServicesRise c.args.hosts.now.entries c.insert.new.self
      k.each c.insert.ensures.rising);
}

pub returns-clause-ok : goal.returns-clause-ok
returns-clause-ok c =
    let none : services_at c.args.host c.args.hosts.now.entries ≡ None =
    sym (sym (ap option_copied_mut c.in_default.is) ∙ c.get_mut.ensures.value) in
    new-sets c.args.hosts.now.entries c.insert-3.new.self.entries c.args.host c.insert-2.new.self c.args.service
    (Some c.args.number) none
    (λ q. c.in_ok-insert-2.ensures.updates.0 q
    ∙ ap
    (λ (m : BTreeMap (List ℕ) Services).
    cond (is_at (bytes_cmp c.args.host) q) (Some c.insert-2.new.self) (services_at q m.entries))
    c.get_mut.follows.holds-at-none)
    (λ q. c.in_ok-insert.ensures.ok q
    ∙ ap (λ ss. cond (is_at (text_cmp c.args.service) q) (Some c.args.number) (service_at q ss))
    c.fresh-services.ensures)

pub returns-clause-rising : goal.returns-clause-rising
returns-clause-rising c = λ k. record {
  rising = c.insert-3.ensures.ordered;
  each = subst (λ es. All ServicesRise (values_of es)) (sym c.in_ok-insert-2.ensures.entries)
      (All-values-insert_entry bytes_cmp c.args.host c.insert-2.new.self ServicesRise _
      (subst (λ (m : BTreeMap (List ℕ) Services). All ServicesRise (values_of m.entries))
      (sym c.get_mut.follows.holds-at-none) k.each)
      c.insert-2.ensures.rising);
}

pub returns-in-Some-clause-full : goal.returns-in-Some-clause-full
returns-in-Some-clause-full c = λ full.
    full-set c.args.hosts.now.entries (c.get_mut.follows.lender c.insert.new.self).entries c.args.host c.insert.new.self
    ((c.get_mut.follows.holds c.insert.new.self).3 (subst IsSome c.in-Some.ensures.value refl)).0
    (still-some c.insert.result c.in-Some.services.now c.insert.new.self c.args.service c.args.number
    c.insert.ensures.ok c.insert.ensures.err
    (λ none. full c.args.host (sym c.in-Some.ensures.value ∙ ap Some none))) full

pub returns-clause-full : goal.returns-clause-full
returns-clause-full c = λ full.
    full-set c.args.hosts.now.entries c.insert-3.new.self.entries c.args.host c.insert-2.new.self
    (λ q. c.in_ok-insert-2.ensures.updates.0 q
    ∙ ap
    (λ (m : BTreeMap (List ℕ) Services).
    cond (is_at (bytes_cmp c.args.host) q) (Some c.insert-2.new.self) (services_at q m.entries))
    c.get_mut.follows.holds-at-none)
    (set-some c.fresh-services.result c.insert-2.new.self c.args.service c.args.number c.in_ok-insert.ensures.ok) full
