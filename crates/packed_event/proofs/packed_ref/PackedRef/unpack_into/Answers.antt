use Rattle.packed_event.proofs.Unpacked.{reads_back}
use Rattle.packed_event.proofs.packed_ref.PackedRef.unpack_into.Goals as goal

pub returns : goal.returns
returns c =
    let kept = c.bytes.ensures in
    let read = reads_back c.bytes.result.now c.args.self.now kept.well_formed kept.bytes kept.few in
    c.read_event.ensures (read.0, c.args.self.now) read.1
