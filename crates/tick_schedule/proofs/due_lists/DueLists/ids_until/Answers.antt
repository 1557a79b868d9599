use Rattle.std.proofs.Common.{ℕ, List, ap, nat_le, sym, subst, ◌∙◌}
use Rattle.std.specs.List.{flat_map, list_any, take_while}
use Rattle.std.specs.List.Sorted.{IsStrictlySortedBy}
use Rattle.std.specs.Ordering.{nat_cmp}
use Rattle.std.specs.BTreeMap.{is_at}
use Rattle.tick_schedule.specs.Lists.{AreListedBy, ids_of}
use Rattle.tick_schedule.specs.Numbers.{lists_of}
use Rattle.tick_schedule.proofs.ListLaws.{are-listed, gathered}
use Rattle.tick_schedule.proofs.NumberLaws.{keys-of}
use Rattle.tick_schedule.proofs.due_lists.DueLists.ids_until.Goals as goal

pub returns-clause-ids : goal.returns-clause-ids
returns-clause-ids c =
    let P : List (ℕ × List ℕ) → Type 0 = AreListedBy c.args.now c.in_ok-set_of.field-0.keys in
    let lists = lists_of c.self.inside.numbers.entries c.self.inside.lists.slots in
    let keys = keys-of c.self.inside.numbers.entries c.self.inside.lists.slots in
    let rising = subst (IsStrictlySortedBy nat_cmp) (sym keys) c.in_ok-moments.ensures.rising in
    subst P c.self.view_is
    (are-listed c.args.now c.in_ok-set_of.field-0.keys lists rising
    (λ q. c.in_ok-set_of.ensures.0 q
    ∙ ap (list_any (is_at (nat_cmp q)))
    (c.in_ok-ids.ensures
    ∙ ap (flat_map (ids_of lists))
    (c.in_ok-moments.ensures.moments ∙ ap (take_while (λ moment. nat_le moment c.args.now)) (sym keys))
    ∙ gathered c.args.now lists rising)))
