use Rattle.std.proofs.Common.{ℕ, ◌+◌, ap}
use Rattle.framing.specs.Frames.{frame}
use Rattle.riemann_msg.specs.Spelling.{spelling}
use Rattle.riemann_msg.proofs.Spelled.{grown3}
use Rattle.graphite_lines.specs.Frames.{message_with}
use Rattle.graphite_lines.specs.Reading.{said_event}
use Rattle.graphite_lines.proofs.Spelled.{frame_is}
use Rattle.graphite_lines.proofs.put.put_frame.Goals as goal

pub returns-clause-ok : goal.returns-clause-ok
returns-clause-ok c =
    let event = said_event c.args.said in let size = c.event_size-size.result in
    grown3 _ _ _ _ _ _ _ (frame (spelling (message_with event))) (rw c.to_be_bytes.ensures at c.in_ok-append.ensures.ok)
    c.in_ok-put_tag_and_length.ensures.ok c.in_ok-put_event.ensures.ok
    (frame_is event size (1 + c.varint_len.result + size) c.event_size-size.ensures.size
    (ap (λ (k : ℕ). 1 + k + size) c.varint_len.ensures.length))
