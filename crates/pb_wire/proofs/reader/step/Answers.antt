use Rattle.std.proofs.Common.{◌<◌, length, sym, ◌∙◌, arith}
use Rattle.pb_wire.proofs.RowLaws.{reads_end, reads_field, reads_fault}
use Rattle.pb_wire.proofs.reader.step.Goals as goal

pub returns-then-place-bytes : goal.returns-then-place-bytes
returns-then-place-bytes c =
    let is = reads_end c.args.bytes.now c.args.place c.if-place-bytes.true in
    record { answer = is.answer; moves = is.moves; within = is.within; steps = is.steps }

pub returns-in-Ok : goal.returns-in-Ok
returns-in-Ok c =
    let is =
    reads_field c.args.bytes.now c.args.place c.in-Ok.number c.in-Ok.body c.in-Ok.after
    (sym c.in-Ok.is ∙ c.field_from.ensures) in
    record { answer = is.answer; moves = is.moves; within = is.within; steps = is.steps }

pub returns-in-Err : goal.returns-in-Err
returns-in-Err c =
    let inside : c.args.place < length c.args.bytes.now = omega arith in
    let is = reads_fault c.args.bytes.now c.args.place c.in-Err.why inside (sym c.in-Err.is ∙ c.field_from.ensures) in
    record { answer = is.answer; moves = is.moves; within = is.within; steps = is.steps }
