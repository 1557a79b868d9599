use Rattle.std.proofs.Common.{length}
use Rattle.framing.specs.Frames.{frames_of}
use Rattle.load_links.proofs.LoadLemmas.{counted_more}
use Rattle.load_links.proofs.replies.count_frames.Goals as goal

pub frames-preserved : goal.frames-preserved
frames-preserved c = counted_more c.frames.rest.now c.in-Some.after.now c.frames.count
    (length (frames_of c.args.bytes.now)) (length c.args.bytes.now) c.in-Some.ensures.0 c.in-Some.ensures.1
    c.frames.invariant
