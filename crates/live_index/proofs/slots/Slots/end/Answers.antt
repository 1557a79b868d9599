use Rattle.std.proofs.Common.{◌≡◌, None, sym, ◌∙◌, subst}
use Rattle.std.specs.Option.{option_copied}
use Rattle.key_map.specs.Keys.{IndexKey, Numbers, number_at}
use Rattle.live_index.specs.Slots.{IsStored, Puts}
use Rattle.live_index.proofs.SlotsLaws.{live_found, now_absent, unchanged, nothing_put, end-put}
use Rattle.live_index.proofs.StoredLaws.{end-stored, some-counted}
use Rattle.live_index.proofs.slots.Slots.end.Goals as goal

pub returns-in_default-clause-stored : goal.returns-in_default-clause-stored
returns-in_default-clause-stored g c =
    let k : IndexKey = (option_copied c.args.host, option_copied c.args.service) in
    let none : number_at k c.args.self.now.numbers ≡ None = sym c.remove.ensures.number ∙ c.in_default.is in
    subst
    (λ (numbers : Numbers). IsStored numbers c.args.self.now.events.values c.args.self.now.due c.args.self.now.count)
    (sym (unchanged c.args.self.now.numbers c.remove.new.self k c.requires.linked.rising c.remove.ensures.rising none
    c.remove.ensures.removed))
    c.requires

pub returns-in_default-clause-absent : goal.returns-in_default-clause-absent
returns-in_default-clause-absent g c =
    now_absent c.args.self.now.numbers c.remove.new.self (option_copied c.args.host, option_copied c.args.service)
    c.remove.ensures.removed

pub returns-in_default-clause-puts : goal.returns-in_default-clause-puts
returns-in_default-clause-puts g c =
    let k : IndexKey = (option_copied c.args.host, option_copied c.args.service) in
    let none : number_at k c.args.self.now.numbers ≡ None = sym c.remove.ensures.number ∙ c.in_default.is in
    subst (λ (numbers : Numbers).
    Puts k None c.args.self.now.numbers c.args.self.now.events.values numbers c.args.self.now.events.values)
    (sym (unchanged c.args.self.now.numbers c.remove.new.self k c.requires.linked.rising c.remove.ensures.rising none
    c.remove.ensures.removed))
    (nothing_put c.args.self.now.numbers c.args.self.now.events.values k none)

pub remove-requires-2 : goal.remove-requires-2
remove-requires-2 g c =
    live_found c.args.self.now.numbers c.args.self.now.events.values
    (option_copied c.args.host, option_copied c.args.service) c.in-Some.number c.requires.linked
    (sym c.remove.ensures.number ∙ c.in-Some.is)

pub overflow_sub-self : goal.overflow_sub-self
overflow_sub-self g c =
    some-counted c.args.self.now.numbers c.remove.new.self (option_copied c.args.host, option_copied c.args.service)
    c.in-Some.number c.args.self.now.count c.requires.linked.rising c.requires.counted
    (sym c.remove.ensures.number ∙ c.in-Some.is) c.remove.ensures.rising c.remove.ensures.removed

pub returns-clause-stored : goal.returns-clause-stored
returns-clause-stored g c =
    end-stored c.args.self.now.numbers c.remove.new.self c.args.self.now.events.values c.remove-2.new.self.values
    c.args.self.now.due c.clear.new.self c.args.self.now.count
    (option_copied c.args.host, option_copied c.args.service) c.in-Some.number c.requires
    (sym c.remove.ensures.number ∙ c.in-Some.is) c.remove.ensures.rising c.remove.ensures.removed
    c.remove-2.ensures.removed
    c.clear.ensures.cleared c.clear.ensures.rising

pub returns-clause-absent : goal.returns-clause-absent
returns-clause-absent g c =
    now_absent c.args.self.now.numbers c.remove.new.self (option_copied c.args.host, option_copied c.args.service)
    c.remove.ensures.removed

pub returns-clause-puts : goal.returns-clause-puts
returns-clause-puts g c =
    end-put c.args.self.now.numbers c.remove.new.self c.args.self.now.events.values c.remove-2.new.self.values
    (option_copied c.args.host, option_copied c.args.service) c.in-Some.number c.requires.linked
    (sym c.remove.ensures.number ∙ c.in-Some.is) c.remove.ensures.removed c.remove-2.ensures.removed
