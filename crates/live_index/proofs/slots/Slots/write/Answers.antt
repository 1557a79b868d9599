use Rattle.std.proofs.Common.{◌≡◌, cond, None, Some, sym, ap, ◌∙◌, subst}
use Rattle.std.specs.Option.{option_copied}
use Rattle.key_map.specs.Keys.{IndexKey}
use Rattle.live_index.specs.Slots.{key_of, slot_of, Puts}
use Rattle.live_index.proofs.SlotsLaws.{key-is}
use Rattle.live_index.proofs.slots.Slots.write.Goals as goal

pub returns-then-ends_key-clause-puts : goal.returns-then-ends_key-clause-puts
returns-then-ends_key-clause-puts g c =
    let slot : slot_of c.args.event.now ≡ None =
    ap (λ ends. cond ends None (Some c.args.event.now)) (sym c.ends_key.ensures ∙ c.if-ends_key.true) in
    subst
    (λ slot. Puts (key_of c.args.event.now) slot c.args.self.now.numbers c.args.self.now.events.values
    c.end.new.self.numbers c.end.new.self.events.values)
    (sym slot)
    (subst (λ (k : IndexKey). Puts k None c.args.self.now.numbers c.args.self.now.events.values c.end.new.self.numbers
    c.end.new.self.events.values)
    (key-is c.args.event.now (option_copied c.as_ref.result) (option_copied c.as_ref-then-ends_key.result)
    c.as_ref.ensures.value c.as_ref-then-ends_key.ensures.value)
    c.end.ensures.puts)

pub returns-clause-puts : goal.returns-clause-puts
returns-clause-puts g c =
    let slot : slot_of c.args.event.now ≡ Some c.args.event.now =
    ap (λ ends. cond ends None (Some c.args.event.now)) (sym c.ends_key.ensures ∙ c.if-ends_key.false) in
    subst
    (λ slot. Puts (key_of c.args.event.now) slot c.args.self.now.numbers c.args.self.now.events.values
    c.enter.new.self.numbers c.enter.new.self.events.values)
    (sym slot) c.in_ok-enter.ensures.puts
