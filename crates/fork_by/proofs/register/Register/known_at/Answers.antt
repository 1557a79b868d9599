use Rattle.std.proofs.Common.{◌≡◌, List, slice_get, Some, sym, ◌∙◌, ap}
use Rattle.ev_types.specs.declared.value.Value.{Value}
use Rattle.ev_types.specs.Key.{event_key}
use Rattle.fork_by.specs.Labels.{number_of}
use Rattle.fork_by.specs.Register.{numbers_after}
use Rattle.fork_by.proofs.KeptLaws.{find_is}
use Rattle.fork_by.proofs.KnownLaws.{lookup_at}
use Rattle.fork_by.proofs.register.Register.known_at.Goals as goal

pub returns-then-is_key_of : goal.returns-then-is_key_of
returns-then-is_key_of c =
    let key = event_key c.args.event.now c.args.fields.now in
    let is : c.in_ok-key.key.now ≡ key = c.is_key_of.ensures c.if-is_key_of.true in
    let at : slice_get c.self.inside.numbers.entries c.args.index
    ≡ Some (c.in_ok-key.key.now, c.in_ok-key.number.now) =
    sym c.in_ok-key.ensures.entry in
    ap (number_of key) (sym c.self.view_is)
    ∙ sym
    (find_is c.self.inside.numbers.entries c.self.inside.slots.items c.self.inside.moments.lists c.self.inside.due
    c.self.inside.next (numbers_after c.self.inside.changes.items) c.self.invariant key)
    ∙ lookup_at c.self.inside.numbers.entries c.args.index c.in_ok-key.number.now key c.self.invariant.keys
    (at ∙ ap (λ (k : List Value). Some (k, c.in_ok-key.number.now)) is)
