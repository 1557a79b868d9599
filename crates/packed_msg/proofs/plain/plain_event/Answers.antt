use Rattle.std.proofs.Common.{ℕ, List, [], ◌∷◌, ap, refl, ◌∙◌}
use Rattle.pb_wire.specs.Fields.{Cursor}
use Rattle.packed_msg.proofs.Left.{left_all, left_end, left_next}
use Rattle.packed_msg.proofs.Read.{one_clean, one_sent, start}
use Rattle.packed_msg.proofs.plain.plain_event.Goals as goal

abbrev bytes_of : Cursor → List ℕ
bytes_of cursor = cursor.bytes

pub returns-in_default : goal.returns-in_default
returns-in_default c = record {
  clean = tt;
  sent = tt;
  found = λ event good is few.
      let body = c.args.body.now in
      let first = rw c.over-fields.ensures at c.next-first.ensures.steps in
      let middle = ap bytes_of c.next-first.ensures.moves ∙ ap bytes_of c.over-fields.ensures in
      let left =
      left_next body (start body) c.next-first.new.self c.next-first.result event [] refl
      (left_all body (event ∷ []) (good, tt) is few) first in
      absurd (c.in_default.not-End (left_end body c.next-first.new.self c.next.new.self c.next.result middle left.1
      c.next.ensures.steps));
}

pub returns-clause-clean : goal.returns-clause-clean
returns-clause-clean c =
    let first = rw c.over-fields.ensures at c.next-first.ensures.steps in
    let middle = ap bytes_of c.next-first.ensures.moves ∙ ap bytes_of c.over-fields.ensures in
    let second = rw c.in-End.is at c.next.ensures.steps in
    one_clean c.args.body.now c.next-first.new.self c.next.new.self c.next-first.result c.event_in.result middle first
    second c.event_in.ensures.holds

pub returns-clause-sent : goal.returns-clause-sent
returns-clause-sent c =
    let first = rw c.over-fields.ensures at c.next-first.ensures.steps in
    let middle = ap bytes_of c.next-first.ensures.moves ∙ ap bytes_of c.over-fields.ensures in
    let second = rw c.in-End.is at c.next.ensures.steps in
    one_sent c.args.body.now c.next-first.new.self c.next.new.self c.next-first.result c.event_in.result middle first
    second c.event_in.ensures.holds

pub returns-clause-found : goal.returns-clause-found
returns-clause-found c = λ event good is few.
    let body = c.args.body.now in
    let first = rw c.over-fields.ensures at c.next-first.ensures.steps in
    let left =
    left_next body (start body) c.next-first.new.self c.next-first.result event [] refl
    (left_all body (event ∷ []) (good, tt) is few) first in
    c.event_in.ensures.found event good left.0 few
