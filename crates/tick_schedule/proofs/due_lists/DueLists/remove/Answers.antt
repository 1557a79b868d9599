use Rattle.std.proofs.Common.{◌≡◌, ℕ, List, Option, Some, sym, ◌∙◌, ap, subst}
use Rattle.std.specs.Option.{IsSome}
use Rattle.tick_schedule.specs.Lists.{RemovesAt, id_at, id_in}
use Rattle.tick_schedule.specs.Numbers.{lists_of}
use Rattle.tick_schedule.proofs.ListLaws.{closes}
use Rattle.tick_schedule.proofs.NumberLaws.{here, list-none, none-is-not-some, none-left, removed, some-left, within}
use Rattle.tick_schedule.proofs.due_lists.DueLists.remove.Goals as goal

-- the same removal, as contracts say it
said : (old old' new : List (ℕ × List ℕ)) (moment moment' index index' : ℕ) (moved : Option ℕ) → old ≡ old'
    → moment ≡ moment' → index ≡ index'
    → RemovesAt old new moment index moved → RemovesAt old' new moment' index' moved
said old old' new moment moment' index index' moved o m i r =
    let P : List (ℕ × List ℕ) → Type 0 = λ x. RemovesAt x new moment index moved in
    let Q : ℕ → Type 0 = λ x. RemovesAt old' new x index moved in
    let R : ℕ → Type 0 = λ x. RemovesAt old' new moment' x moved in
    subst R i (subst Q m (subst P o r))

pub returns-in_default : goal.returns-in_default
returns-in_default c =
    absurd (none-is-not-some (id_at c.args.place.now.moment c.args.place.now.index c.args.self.now)
    (ap (id_at c.args.place.now.moment c.args.place.now.index) (sym c.self.view_is)
    ∙ ap (λ m. id_at m c.args.place.now.index (lists_of c.self.inside.numbers.entries c.self.inside.lists.slots))
    (sym c.moment-moment.ensures)
    ∙ ap (id_in c.args.place.now.index)
    (list-none c.moment-moment.result c.self.inside.numbers.entries c.self.inside.lists.slots
    (sym c.in_default.ensures)))
    c.requires)

pub remove_at-moved-requires : goal.remove_at-moved-requires
remove_at-moved-requires c =
    let lists = lists_of c.self.inside.numbers.entries c.self.inside.lists.slots in
    within c.self.inside.numbers.entries c.self.inside.lists.slots c.self.inside.lists.slots c.moment-moment.result
    c.in-Some.list c.index.result
    c.self.invariant.numbered (sym c.in-Some.ensures)
    (subst IsSome (sym (ap (λ m. id_at m c.index.result lists) c.moment-moment.ensures
    ∙ ap (λ i. id_at c.args.place.now.moment i lists) c.index.ensures
    ∙ ap (id_at c.args.place.now.moment c.args.place.now.index) c.self.view_is)) c.requires)

pub close-requires-clause-numbered : goal.close-requires-clause-numbered
close-requires-clause-numbered c =
    (removed c.self.inside.numbers.entries c.self.inside.lists.slots c.remove_at-moved.new.lists.slots
    c.moment-moment.result c.in-Some.list c.index.result
    c.self.invariant.numbered (sym c.in-Some.ensures) c.remove_at-moved.result.0 c.remove_at-moved.result.1
    c.remove_at-moved.ensures).numbered

pub invariant_of-self : goal.invariant_of-self
invariant_of-self c =
    let r =
    removed c.self.inside.numbers.entries c.self.inside.lists.slots c.remove_at-moved.new.lists.slots
    c.moment-moment.result c.in-Some.list c.index.result
    c.self.invariant.numbered (sym c.in-Some.ensures) c.remove_at-moved.result.0 c.remove_at-moved.result.1
    c.remove_at-moved.ensures in
    record {
      numbered = c.close.ensures.numbered;
      have_ids =
          none-left (lists_of c.self.inside.numbers.entries c.self.inside.lists.slots)
          (lists_of c.self.inside.numbers.entries c.remove_at-moved.new.lists.slots)
          (lists_of c.close.new.numbers.entries c.close.new.lists.slots) c.moment-moment.result r.left
          c.self.invariant.have_ids r.changes c.close.ensures.closed;
      is_first = c.first_moment-self-inside.ensures;
    }

pub invariant_of-self-else-is_empty : goal.invariant_of-self-else-is_empty
invariant_of-self-else-is_empty c =
    let r =
    removed c.self.inside.numbers.entries c.self.inside.lists.slots c.remove_at-moved.new.lists.slots
    c.moment-moment.result c.in-Some.list c.index.result
    c.self.invariant.numbered (sym c.in-Some.ensures) c.remove_at-moved.result.0 c.remove_at-moved.result.1
    c.remove_at-moved.ensures in
    record {
      numbered = r.numbered;
      have_ids =
          some-left (lists_of c.self.inside.numbers.entries c.self.inside.lists.slots)
          (lists_of c.self.inside.numbers.entries c.remove_at-moved.new.lists.slots)
          c.moment-moment.result r.left c.remove_at-moved.result.1 c.self.invariant.have_ids r.changes r.empty
          c.if-is_empty.false;
      is_first = c.self.invariant.is_first;
    }

pub returns-then-is_empty : goal.returns-then-is_empty
returns-then-is_empty c =
    let r =
    removed c.self.inside.numbers.entries c.self.inside.lists.slots c.remove_at-moved.new.lists.slots
    c.moment-moment.result c.in-Some.list c.index.result
    c.self.invariant.numbered (sym c.in-Some.ensures) c.remove_at-moved.result.0 c.remove_at-moved.result.1
    c.remove_at-moved.ensures in
    let old = lists_of c.self.inside.numbers.entries c.self.inside.lists.slots in
    let new = lists_of c.self.inside.numbers.entries c.remove_at-moved.new.lists.slots in
    let last = lists_of c.close.new.numbers.entries c.close.new.lists.slots in
    said old c.args.self.now last c.moment-moment.result c.args.place.now.moment c.index.result c.args.place.now.index
    c.remove_at-moved.result.0
    c.self.view_is c.moment-moment.ensures c.index.ensures
    (closes new last c.moment-moment.result old c.index.result c.remove_at-moved.result.0 r.removes
    (here old new c.moment-moment.result r.left r.changes ∙ ap Some (r.empty.0 c.if-is_empty.true))
    c.close.ensures.closed)

pub returns-else-is_empty : goal.returns-else-is_empty
returns-else-is_empty c =
    let r =
    removed c.self.inside.numbers.entries c.self.inside.lists.slots c.remove_at-moved.new.lists.slots
    c.moment-moment.result c.in-Some.list c.index.result
    c.self.invariant.numbered (sym c.in-Some.ensures) c.remove_at-moved.result.0 c.remove_at-moved.result.1
    c.remove_at-moved.ensures in
    said (lists_of c.self.inside.numbers.entries c.self.inside.lists.slots) c.args.self.now
    (lists_of c.self.inside.numbers.entries c.remove_at-moved.new.lists.slots)
    c.moment-moment.result c.args.place.now.moment c.index.result c.args.place.now.index c.remove_at-moved.result.0
    c.self.view_is c.moment-moment.ensures c.index.ensures r.removes
