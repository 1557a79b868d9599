use Rattle.packed_event.proofs.Kept.{reply_length}
use Rattle.packed_event.proofs.packed.PackedEvent.reply_len.Goals as goal

pub returns : goal.returns
returns c = rw (c.varint_len.ensures.length, c.bytes-len.ensures.bytes) (reply_length c.args.self.now)
