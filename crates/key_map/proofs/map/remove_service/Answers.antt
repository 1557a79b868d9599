use Rattle.std.proofs.Common.{◌≡◌, ℕ, List, None, refl, sym, ap, ◌∙◌, subst}
use Rattle.std.specs.Option.{option_copied, IsSome, option_copied_mut}
use Rattle.std.specs.List.{All}
use Rattle.std.specs.Map.{values_of}
use Rattle.std.specs.BTreeMap.{BTreeMap, is_at}
use Rattle.std.proofs.lemmas.Map.Views.{All-values-set_value}
use Rattle.key_map.specs.Sections.{Services, services_at, ServicesRise, SetsIn}
use Rattle.key_map.proofs.ServiceLaws.{bytes_cmp}
use Rattle.key_map.proofs.SectionLaws.{lent-sets, absent-sets}
use Rattle.key_map.proofs.map.remove_service.Goals as goal

pub returns-clause-removed : goal.returns-clause-removed
returns-clause-removed c =
    lent-sets c.args.hosts.now.entries (c.get_mut.follows.lender c.remove.new.self).entries c.args.host.now
    c.in-Some.services.now c.remove.new.self (option_copied c.args.service) None
    (sym c.in-Some.ensures.value)
    ((c.get_mut.follows.holds c.remove.new.self).3 (subst IsSome c.in-Some.ensures.value refl)).0
    c.remove.ensures.removed

pub returns-clause-rising : goal.returns-clause-rising
returns-clause-rising c = λ k. record {
  rising = (c.get_mut.follows.holds c.remove.new.self).4;
  each = subst (λ es. All ServicesRise (values_of es)) (sym (c.get_mut.follows.holds c.remove.new.self).0)
      (All-values-set_value (is_at (bytes_cmp c.args.host.now)) ServicesRise c.args.hosts.now.entries c.remove.new.self
      k.each c.remove.ensures.rising);
}

pub returns-in_default-clause-removed : goal.returns-in_default-clause-removed
returns-in_default-clause-removed c =
    let none : services_at c.args.host.now c.args.hosts.now.entries ≡ None =
    sym (sym (ap option_copied_mut c.in_default.is) ∙ c.get_mut.ensures.value) in
    subst
    (λ (m : BTreeMap (List ℕ) Services).
    SetsIn c.args.hosts.now.entries m.entries c.args.host.now (option_copied c.args.service) None)
    (sym c.get_mut.follows.holds-at-none)
    (absent-sets c.args.hosts.now.entries c.args.host.now (option_copied c.args.service) none)
