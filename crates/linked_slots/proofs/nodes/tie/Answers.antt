use Rattle.std.proofs.Common.{◌≡◌, cond, eqb, ◌∙◌, ap}
use Rattle.linked_slots.specs.Nodes.{previous_of, previous_at}
use Rattle.linked_slots.proofs.nodes.tie.Goals as goal

pub returns : goal.returns
returns c =
    let id = c.args.id in
    let p = c.index.result.now.previous in
    let is : previous_at c.args.nodes.now.slots c.args.after ≡ p = ap (previous_of c.args.after) c.index.ensures in
    record {
      next_is = λ key. rw is (c.set_previous-2.ensures.next_kept key ∙ c.set_next-2.ensures.next_is key
          ∙ ap (λ x. cond (eqb key id) c.args.after x)
          (c.set_previous.ensures.next_kept key ∙ c.set_next.ensures.next_is key));
      previous_is = λ key. rw is (c.set_previous-2.ensures.previous_is key
          ∙ ap (λ x. cond (eqb key id) p x)
          (c.set_next-2.ensures.previous_kept key ∙ c.set_previous.ensures.previous_is key
          ∙ ap (λ x. cond (eqb key c.args.after) id x) (c.set_next.ensures.previous_kept key)));
      rest = record {
        kind =
            λ key. c.set_previous-2.ensures.rest.kind key ∙ c.set_next-2.ensures.rest.kind key
            ∙ c.set_previous.ensures.rest.kind key ∙ c.set_next.ensures.rest.kind key;
        len =
            c.set_previous-2.ensures.rest.len ∙ c.set_next-2.ensures.rest.len ∙ c.set_previous.ensures.rest.len
            ∙ c.set_next.ensures.rest.len;
        capacity =
            c.set_previous-2.ensures.rest.capacity ∙ c.set_next-2.ensures.rest.capacity
            ∙ c.set_previous.ensures.rest.capacity ∙ c.set_next.ensures.rest.capacity;
      };
    }
