use Rattle.std.proofs.Common.{◌+◌, length, arith}
use Rattle.std.specs.Int.{from_bool}
use Rattle.pb_wire.specs.Spelling.{Bytes, Varint}
use Rattle.riemann_msg.specs.Spelling.{Counts, event_content, optional, query_content, repeated, spelled, spelling}
use Rattle.riemann_msg.proofs.Lengths.{counted_as, message_in_parts, where_counted, where_too_long}
use Rattle.riemann_msg.proofs.len.msg_len.Goals as goal

pub returns : goal.returns
returns c =
    let ok = length (spelled (optional 2 (λ ok. Varint (from_bool ok)) c.args.msg.now.ok)) in
    let error = length (spelled (optional 3 Bytes c.args.msg.now.error)) in
    let query = length (spelled (optional 5 query_content c.args.msg.now.query)) in
    let events = length (spelled (repeated 6 event_content c.args.msg.now.events)) in
    let asked : Counts c.both-asked.result (error + query) =
    c.both-asked.ensures error query (c.text_len.ensures 3 (omega arith)) c.query_field_len.ensures in
    let front : Counts c.both-front.result (ok + (error + query)) =
    c.both-front.ensures ok (error + query) c.flag_len-ok.ensures asked in
    let all : Counts c.both.result (length (spelling c.args.msg.now)) =
    counted_as c.both.result (length (spelling c.args.msg.now)) (ok + (error + query) + events)
    (message_in_parts c.args.msg.now)
    (c.both.ensures (ok + (error + query)) events front (rw c.as_slice.ensures at c.events_len.ensures)) in
    record {
      ok = where_counted c.both.result (length (spelling c.args.msg.now)) all;
      err = where_too_long c.both.result (length (spelling c.args.msg.now)) all;
    }
