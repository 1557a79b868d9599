use Rattle.std.proofs.Common.{◌+◌, length, Some, true}
use Rattle.std.specs.Int.{from_bool}
use Rattle.pb_wire.specs.Spelling.{Varint}
use Rattle.riemann_msg.specs.Reply.{events_lent, found}
use Rattle.riemann_msg.specs.Spelling.{Counts, event_content, optional, repeated, spelled, spelling}
use Rattle.riemann_msg.proofs.Lengths.{counted_as, found_length, where_counted, where_too_long}
use Rattle.riemann_msg.proofs.reply.found_len.Goals as goal

pub returns : goal.returns
returns c =
    let whole = length (spelling (found (events_lent c.args.events.now))) in
    let ok = length (spelled (optional 2 (λ ok. Varint (from_bool ok)) (Some true))) in
    let events = length (spelled (repeated 6 event_content (events_lent c.args.events.now))) in
    let all : Counts c.both.result whole =
    counted_as c.both.result whole (ok + events) (found_length (events_lent c.args.events.now))
    (c.both.ensures ok events c.flag_len-ok.ensures c.lent_events_len.ensures) in
    record { ok = where_counted c.both.result whole all; err = where_too_long c.both.result whole all }
