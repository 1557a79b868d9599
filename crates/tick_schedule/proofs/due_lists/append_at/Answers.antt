use Rattle.std.proofs.Common.{List, ℕ, [], ◌++◌, Some, None, Option, unwrap_or, sym, ◌∙◌, ap}
use Rattle.std.proofs.lemmas.List.{append-nil}
use Rattle.tick_schedule.proofs.NumberLaws.{list-with, list-none}
use Rattle.tick_schedule.proofs.due_lists.append_at.Goals as goal

pub returns-in_ok-extend_from_slice : goal.returns-in_ok-extend_from_slice
returns-in_ok-extend_from_slice c =
    c.in_ok-extend_from_slice.ensures.items
    ∙ ap (λ ids. c.args.out.now.items ++ ids) (c.as_slice.ensures
    ∙ sym (ap (λ (known : Option (List ℕ)). unwrap_or known [])
    (list-with c.args.moment c.in-Some.number.now (Some c.in-Some-get.list.now) c.args.numbers.now.entries
    c.args.lists.now.slots
    (sym c.in-Some.ensures.value) (sym c.in-Some-get.ensures))))

pub returns-in_default-get : goal.returns-in_default-get
returns-in_default-get c =
    sym (ap (λ (known : Option (List ℕ)). c.args.out.now.items ++ unwrap_or known [])
    (list-with c.args.moment c.in-Some.number.now None c.args.numbers.now.entries c.args.lists.now.slots
    (sym c.in-Some.ensures.value) (sym c.in_default-get.ensures))
    ∙ append-nil c.args.out.now.items)

pub returns-in_default : goal.returns-in_default
returns-in_default c =
    sym (ap (λ (known : Option (List ℕ)). c.args.out.now.items ++ unwrap_or known [])
    (list-none c.args.moment c.args.numbers.now.entries c.args.lists.now.slots (sym c.in_default.ensures.value))
    ∙ append-nil c.args.out.now.items)
