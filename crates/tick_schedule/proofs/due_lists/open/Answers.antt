use Rattle.std.proofs.Common.{◌≡◌, ◌∷◌, [], Some, cond, sym, ◌∙◌, ap}
use Rattle.std.specs.Ordering.{nat_cmp}
use Rattle.std.specs.BTreeMap.{is_at}
use Rattle.slab.specs.Slab.{Slab}
use Rattle.tick_schedule.specs.declared.due_lists.DueList.{DueList}
use Rattle.tick_schedule.specs.Numbers.{Relists, list_under, list_with, number_at}
use Rattle.tick_schedule.proofs.NumberLaws.{NumberChange, opened-changes, opened-numbered}
use Rattle.tick_schedule.proofs.due_lists.open.Goals as goal

kept : (c : goal.After-insert_reserved) → c.reserve.new.self.slots ≡ c.args.lists.now.slots
kept c = ap (λ (s : Slab DueList). s.slots) c.in_ok-reserve.ensures.rest_kept

sets : (c : goal.After-insert_reserved)
    → NumberChange c.args.numbers.now.entries c.insert.new.self.entries c.args.moment (Some c.insert_reserved.result)
sets c m =
    c.in_ok-insert.ensures.updates.0 m
    ∙ ap (λ key. cond (is_at (nat_cmp c.args.moment) m) (Some key) (number_at m c.args.numbers.now.entries))
    (c.vacant_key.ensures.value ∙ sym c.insert_reserved.ensures.key)

relists : (c : goal.After-insert_reserved)
    → Relists c.args.lists.now.slots c.insert_reserved.new.self.slots c.insert_reserved.result
    (Some (list_with c.args.moment (c.args.id ∷ [])))
relists c = record {
  changed =
      c.insert_reserved.ensures.updates.changed ∙ ap (λ ids. Some (list_with c.args.moment ids)) c.in_ok-ids.ensures;
  others = λ k other. c.insert_reserved.ensures.updates.others k other ∙ ap (list_under k) (kept c);
}

pub returns-clause-numbered : goal.returns-clause-numbered
returns-clause-numbered c =
    opened-numbered c.args.numbers.now.entries c.insert.new.self.entries c.args.lists.now.slots
    c.insert_reserved.new.self.slots
    c.args.moment c.insert_reserved.result c.requires.numbered (c.args.id ∷ []) c.requires.absent
    (ap (list_under c.insert_reserved.result) (sym (kept c)) ∙ c.insert_reserved.ensures.was_vacant) (sets c)
    (relists c)

pub returns-clause-ok : goal.returns-clause-ok
returns-clause-ok c =
    opened-changes c.args.numbers.now.entries c.insert.new.self.entries c.args.lists.now.slots
    c.insert_reserved.new.self.slots
    c.args.moment c.insert_reserved.result c.requires.numbered (c.args.id ∷ []) c.requires.absent
    (ap (list_under c.insert_reserved.result) (sym (kept c)) ∙ c.insert_reserved.ensures.was_vacant) (sets c)
    (relists c)
