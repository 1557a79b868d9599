use Rattle.std.proofs.Common.{List, ℕ, ◌≡◌, ◌++◌, [], length, filter, not, append-nil, arith, refl, sym, ◌∙◌, ap, subst}
use Rattle.std.specs.BTreeMap.{is_at}
use Rattle.std.specs.List.{list_any}
use Rattle.std.specs.Map.{values_of}
use Rattle.std.specs.Ordering.{nat_cmp}
use Rattle.tick_schedule.proofs.ListLaws.{on_err}
use Rattle.tick_schedule.proofs.QueueLaws.{later-left}
use Rattle.fork_by.specs.Labels.{AreSound, due_numbers, dues_cleared}
use Rattle.fork_by.specs.Order.{put_all}
use Rattle.fork_by.specs.Register.{numbers_after}
use Rattle.fork_by.proofs.DueLaws.{cleared-kept, cleared-labels, none-cleared, none-due, numbers-in_order, some-due}
use Rattle.fork_by.proofs.KeptLaws.{sound}
use Rattle.fork_by.proofs.register.Register.due_forks.Goals as goal

pub returns-then-not-is_due-clause-numbers : goal.returns-then-not-is_due-clause-numbers
returns-then-not-is_due-clause-numbers g c =
    sym (ap (λ (ids : List ℕ). c.args.out.now ++ ids)
    (ap (due_numbers c.args.now) (sym c.self.view_is)
    ∙ none-due c.self.inside.numbers.entries c.self.inside.slots.items c.self.inside.moments.lists c.self.inside.due
    c.self.inside.next (numbers_after c.self.inside.changes.items) c.self.invariant c.args.now
    (c.is_due.ensures.none c.if-not-is_due.true))
    ∙ append-nil c.args.out.now)

pub returns-then-not-is_due-clause-later : goal.returns-then-not-is_due-clause-later
returns-then-not-is_due-clause-later g c =
    sym (ap (dues_cleared c.args.now) (sym c.self.view_is)
    ∙ none-cleared c.self.inside.numbers.entries c.self.inside.slots.items c.self.inside.moments.lists c.self.inside.due
    c.self.inside.next (numbers_after c.self.inside.changes.items) c.self.invariant c.args.now
    (c.is_due.ensures.none c.if-not-is_due.true)
    ∙ c.self.view_is)

pub returns-then-not-is_due-clause-entries : goal.returns-then-not-is_due-clause-entries
returns-then-not-is_due-clause-entries g c =
    let none : length (due_numbers c.args.now c.args.self.now) ≡ 0 =
    ap (λ (ids : List ℕ). length ids)
    (ap (due_numbers c.args.now) (sym c.self.view_is)
    ∙ none-due c.self.inside.numbers.entries c.self.inside.slots.items c.self.inside.moments.lists c.self.inside.due
    c.self.inside.next (numbers_after c.self.inside.changes.items) c.self.invariant c.args.now
    (c.is_due.ensures.none c.if-not-is_due.true)) in
    omega (arith, none)

pub returns-then-not-is_due-clause-sound : goal.returns-then-not-is_due-clause-sound
returns-then-not-is_due-clause-sound g c =
    subst AreSound c.self.view_is
    (sound c.self.inside.numbers.entries c.self.inside.slots.items c.self.inside.moments.lists c.self.inside.due
    c.self.inside.next (numbers_after c.self.inside.changes.items) c.self.invariant)

pub returns-in_err-due-clause-quiet : goal.returns-in_err-due-clause-quiet
returns-in_err-due-clause-quiet g c =
    λ none. absurd (some-due c.self.inside.numbers.entries c.self.inside.slots.items c.self.inside.moments.lists
    c.self.inside.due c.self.inside.next (numbers_after c.self.inside.changes.items) c.self.invariant c.args.now
    (c.is_due.ensures.some c.if-not-is_due.false) (ap (due_numbers c.args.now) c.self.view_is ∙ none))

pub returns-in_err-due-clause-sound : goal.returns-in_err-due-clause-sound
returns-in_err-due-clause-sound g c =
    subst AreSound c.self.view_is
    (sound c.self.inside.numbers.entries c.self.inside.slots.items c.self.inside.moments.lists c.self.inside.due
    c.self.inside.next (numbers_after c.self.inside.changes.items) c.self.invariant)

pub returns-in_err-numbers-clause-quiet : goal.returns-in_err-numbers-clause-quiet
returns-in_err-numbers-clause-quiet g c =
    λ none. absurd (some-due c.self.inside.numbers.entries c.self.inside.slots.items c.self.inside.moments.lists
    c.self.inside.due c.self.inside.next (numbers_after c.self.inside.changes.items) c.self.invariant c.args.now
    (c.is_due.ensures.some c.if-not-is_due.false) (ap (due_numbers c.args.now) c.self.view_is ∙ none))

pub returns-in_err-numbers-clause-sound : goal.returns-in_err-numbers-clause-sound
returns-in_err-numbers-clause-sound g c =
    subst AreSound c.self.view_is
    (sound c.self.inside.numbers.entries c.self.inside.slots.items c.self.inside.moments.lists c.self.inside.due
    c.self.inside.next (numbers_after c.self.inside.changes.items) c.self.invariant)

pub returns-in_err-push_all-clause-quiet : goal.returns-in_err-push_all-clause-quiet
returns-in_err-push_all-clause-quiet g c =
    λ none. absurd (some-due c.self.inside.numbers.entries c.self.inside.slots.items c.self.inside.moments.lists
    c.self.inside.due c.self.inside.next (numbers_after c.self.inside.changes.items) c.self.invariant c.args.now
    (c.is_due.ensures.some c.if-not-is_due.false) (ap (due_numbers c.args.now) c.self.view_is ∙ none))

pub returns-in_err-push_all-clause-err : goal.returns-in_err-push_all-clause-err
returns-in_err-push_all-clause-err g c = on_err c.from_residual-in_err-push_all.result refl

pub returns-in_err-push_all-clause-prefix : goal.returns-in_err-push_all-clause-prefix
returns-in_err-push_all-clause-prefix g c =
    on_err c.from_residual-in_err-push_all.result c.in_err-push_all.ensures.prefix

pub returns-in_err-push_all-clause-sound : goal.returns-in_err-push_all-clause-sound
returns-in_err-push_all-clause-sound g c =
    subst AreSound c.self.view_is
    (sound c.self.inside.numbers.entries c.self.inside.slots.items c.self.inside.moments.lists c.self.inside.due
    c.self.inside.next (numbers_after c.self.inside.changes.items) c.self.invariant)

pub returns-in_err-push_all-clause-at_most : goal.returns-in_err-push_all-clause-at_most
returns-in_err-push_all-clause-at_most g c =
    let many : length (values_of c.in_ok-numbers.numbers.entries) ≡ length (due_numbers c.args.now c.args.self.now) =
    ap (λ (ids : List ℕ). length ids)
    (ap (λ (es : List (ℕ × ℕ)). values_of es) c.in_ok-numbers.ensures
    ∙ ap (λ (ids : List ℕ). values_of (put_all c.self.inside.slots.items [] ids)) c.in_ok-due.ensures
    ∙ numbers-in_order c.self.inside.numbers.entries c.self.inside.slots.items c.self.inside.moments.lists
    c.self.inside.due c.self.inside.next (numbers_after c.self.inside.changes.items) c.self.invariant c.args.now
    ∙ ap (due_numbers c.args.now) c.self.view_is) in
    omega (arith, many, c.push_all.ensures.at_most)

pub invariant_of-self : goal.invariant_of-self
invariant_of-self g c =
    cleared-kept c.self.inside.numbers.entries c.self.inside.slots.items c.self.inside.moments.lists c.self.inside.due
    c.self.inside.next (numbers_after c.self.inside.changes.items) c.self.invariant c.args.now c.clear_all.new.self
    (c.clear_all.ensures
    ∙ ap (λ (ids : List ℕ). filter (λ entry. not (list_any (is_at (nat_cmp entry.0)) ids)) c.self.inside.due)
    c.in_ok-due.ensures
    ∙ later-left c.args.now c.self.inside.due c.is_due.ensures.rising)

pub returns-clause-numbers : goal.returns-clause-numbers
returns-clause-numbers g c =
    c.in_ok-push_all.ensures.ids
    ∙ ap (λ (ids : List ℕ). c.args.out.now ++ ids)
    (ap (λ (es : List (ℕ × ℕ)). values_of es) c.in_ok-numbers.ensures
    ∙ ap (λ (ids : List ℕ). values_of (put_all c.self.inside.slots.items [] ids)) c.in_ok-due.ensures
    ∙ numbers-in_order c.self.inside.numbers.entries c.self.inside.slots.items c.self.inside.moments.lists
    c.self.inside.due c.self.inside.next (numbers_after c.self.inside.changes.items) c.self.invariant c.args.now
    ∙ ap (due_numbers c.args.now) c.self.view_is)

pub returns-clause-later : goal.returns-clause-later
returns-clause-later g c =
    cleared-labels c.self.inside.numbers.entries c.self.inside.slots.items c.self.inside.moments.lists c.self.inside.due
    c.self.inside.next (numbers_after c.self.inside.changes.items) c.self.invariant c.args.now c.clear_all.new.self
    (c.clear_all.ensures
    ∙ ap (λ (ids : List ℕ). filter (λ entry. not (list_any (is_at (nat_cmp entry.0)) ids)) c.self.inside.due)
    c.in_ok-due.ensures
    ∙ later-left c.args.now c.self.inside.due c.is_due.ensures.rising)
    ∙ ap (dues_cleared c.args.now) c.self.view_is

pub returns-clause-entries : goal.returns-clause-entries
returns-clause-entries g c =
    let many : length (values_of c.in_ok-numbers.numbers.entries) ≡ length (due_numbers c.args.now c.args.self.now) =
    ap (λ (ids : List ℕ). length ids)
    (ap (λ (es : List (ℕ × ℕ)). values_of es) c.in_ok-numbers.ensures
    ∙ ap (λ (ids : List ℕ). values_of (put_all c.self.inside.slots.items [] ids)) c.in_ok-due.ensures
    ∙ numbers-in_order c.self.inside.numbers.entries c.self.inside.slots.items c.self.inside.moments.lists
    c.self.inside.due c.self.inside.next (numbers_after c.self.inside.changes.items) c.self.invariant c.args.now
    ∙ ap (due_numbers c.args.now) c.self.view_is) in
    omega (arith, many, c.in_ok-push_all.ensures.entries)

pub returns-clause-sound : goal.returns-clause-sound
returns-clause-sound g c =
    sound c.self.inside.numbers.entries c.self.inside.slots.items c.self.inside.moments.lists c.clear_all.new.self
    c.self.inside.next (numbers_after c.self.inside.changes.items) (invariant_of-self g c)

pub returns-clause-at_most : goal.returns-clause-at_most
returns-clause-at_most g c =
    let many : length (values_of c.in_ok-numbers.numbers.entries) ≡ length (due_numbers c.args.now c.args.self.now) =
    ap (λ (ids : List ℕ). length ids)
    (ap (λ (es : List (ℕ × ℕ)). values_of es) c.in_ok-numbers.ensures
    ∙ ap (λ (ids : List ℕ). values_of (put_all c.self.inside.slots.items [] ids)) c.in_ok-due.ensures
    ∙ numbers-in_order c.self.inside.numbers.entries c.self.inside.slots.items c.self.inside.moments.lists
    c.self.inside.due c.self.inside.next (numbers_after c.self.inside.changes.items) c.self.invariant c.args.now
    ∙ ap (due_numbers c.args.now) c.self.view_is) in
    omega (arith, many, c.push_all.ensures.at_most)
