use Rattle.std.proofs.Common.{sym, subst}
use Rattle.std.specs.List.{All}
use Rattle.std.specs.Map.{values_of}
use Rattle.std.specs.BTreeMap.{is_at}
use Rattle.std.proofs.lemmas.Map.Views.{All-map-remove_entry}
use Rattle.key_map.specs.Sections.{ServicesRise}
use Rattle.key_map.proofs.ServiceLaws.{bytes_cmp}
use Rattle.key_map.proofs.HostLaws.{full-at, full-without}
use Rattle.key_map.proofs.SectionLaws.{same-in}
use Rattle.key_map.proofs.map.remove_empty.Goals as goal

pub returns-then-is_empty_at-clause-same : goal.returns-then-is_empty_at-clause-same
returns-then-is_empty_at-clause-same c =
    same-in c.args.hosts.now.entries c.remove.new.self.entries c.args.host.now c.remove.ensures.updates.0
    (c.is_empty_at.ensures.empty c.if-is_empty_at.true)

pub returns-then-is_empty_at-clause-rising : goal.returns-then-is_empty_at-clause-rising
returns-then-is_empty_at-clause-rising c = λ k. record {
  rising = c.remove.ensures.ordered;
  each = subst (λ es. All ServicesRise (values_of es)) (sym c.remove.ensures.entries)
      (All-map-remove_entry (is_at (bytes_cmp c.args.host.now)) (λ e. e.1) ServicesRise c.args.hosts.now.entries
      k.each);
}

pub returns-then-is_empty_at-clause-full : goal.returns-then-is_empty_at-clause-full
returns-then-is_empty_at-clause-full c =
    full-without c.args.hosts.now.entries c.remove.new.self.entries c.args.host.now c.remove.ensures.updates.0

pub returns-else-is_empty_at-clause-full : goal.returns-else-is_empty_at-clause-full
returns-else-is_empty_at-clause-full c =
    full-at c.args.hosts.now.entries c.args.host.now (c.is_empty_at.ensures.full c.if-is_empty_at.false)
