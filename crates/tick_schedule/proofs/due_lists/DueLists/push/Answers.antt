use Rattle.std.proofs.Common.{ℕ, List, sym, ap, subst}
use Rattle.tick_schedule.specs.Lists.{AddsAt}
use Rattle.tick_schedule.specs.Moments.{Place}
use Rattle.tick_schedule.specs.Numbers.{lists_of}
use Rattle.tick_schedule.proofs.ListLaws.{opens}
use Rattle.tick_schedule.proofs.NumberLaws.{Pushed, is-list, list-none, pushed}
use Rattle.tick_schedule.proofs.due_lists.DueLists.push.Goals as goal

is_pushed : (c : goal.After-new-2)
    → Pushed c.self.inside.numbers.entries c.self.inside.lists.slots c.push_at.new.lists.slots c.args.moment
    c.in-Some.list
    c.in_ok-index.index c.self.invariant.numbered (sym c.in-Some.ensures) c.args.id
is_pushed c =
    pushed c.self.inside.numbers.entries c.self.inside.lists.slots c.push_at.new.lists.slots c.args.moment
    c.in-Some.list
    c.in_ok-index.index c.self.invariant.numbered (sym c.in-Some.ensures) c.args.id c.in_ok-index.ensures.ok

pub returns-in_default-clause-ok : goal.returns-in_default-clause-ok
returns-in_default-clause-ok c =
    let P : List (ℕ × List ℕ) → Type 0 =
    λ old. AddsAt old (lists_of c.open.new.numbers.entries c.open.new.lists.slots) c.args.moment c.new.result.index
    c.args.id in
    let Q : ℕ → Type 0 =
    λ index. AddsAt (lists_of c.self.inside.numbers.entries c.self.inside.lists.slots)
    (lists_of c.open.new.numbers.entries c.open.new.lists.slots) c.args.moment index c.args.id in
    subst P c.self.view_is (subst Q (sym (ap (λ (p : Place). p.index) c.new.ensures))
    (opens (lists_of c.self.inside.numbers.entries c.self.inside.lists.slots)
    (lists_of c.open.new.numbers.entries c.open.new.lists.slots) c.args.moment c.args.id
    (list-none c.args.moment c.self.inside.numbers.entries c.self.inside.lists.slots (sym c.in_default.ensures))
    c.in_ok-self-inside.ensures.ok))

pub push_at-requires : goal.push_at-requires
push_at-requires c =
    is-list c.self.inside.numbers.entries c.self.inside.lists.slots c.self.inside.lists.slots c.args.moment
    c.in-Some.list 0 c.self.invariant.numbered (sym c.in-Some.ensures)

pub invariant_of-self-2 : goal.invariant_of-self-2
invariant_of-self-2 c = record {
  numbered = (is_pushed c).numbered;
  have_ids = (is_pushed c).have_ids c.self.invariant.have_ids;
  is_first = c.self.invariant.is_first;
}

pub returns-clause-ok : goal.returns-clause-ok
returns-clause-ok c =
    let P : List (ℕ × List ℕ) → Type 0 =
    λ old. AddsAt old (lists_of c.self.inside.numbers.entries c.push_at.new.lists.slots) c.args.moment
    c.new-2.result.index c.args.id in
    let Q : ℕ → Type 0 =
    λ index. AddsAt (lists_of c.self.inside.numbers.entries c.self.inside.lists.slots)
    (lists_of c.self.inside.numbers.entries c.push_at.new.lists.slots) c.args.moment index c.args.id in
    subst P c.self.view_is (subst Q (sym (ap (λ (p : Place). p.index) c.new-2.ensures)) (is_pushed c).adds)
