use Rattle.std.proofs.Common.{arith}
use Rattle.packed_event.proofs.Kept.{no_part, one_part, reply_long}
use Rattle.packed_event.proofs.pack.bytes_in_reply.Goals as goal

pub returns-in_err-rest : goal.returns-in_err-rest
returns-in_err-rest c = λ event is. absurd (reply_long c.args.reply.now event is c.in_err-rest.ensures.cases)

pub returns-in_err-bytes : goal.returns-in_err-bytes
returns-in_err-bytes c =
    λ event is. absurd (no_part c.args.reply.now c.in_ok-rest.rest.now event is (omega arith)
    c.in_ok-rest.ensures.cases.1 c.in_err-bytes.ensures.reads)

pub returns : goal.returns
returns c =
    λ event is. one_part c.args.reply.now c.in_ok-rest.rest.now c.in_ok-bytes.bytes.now c.in_ok-bytes.field-0-1.now
    event is (omega arith) c.in_ok-rest.ensures.cases.1 c.in_ok-bytes.ensures.reads
