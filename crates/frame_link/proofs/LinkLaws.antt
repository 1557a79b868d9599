-- What a link holds before and after a call, over plain values.
use Rattle.std.proofs.Common.{◌≡◌, ℕ, Bool, true, false, List, refl, arith}
use Rattle.framing.specs.Frames.{HasFrame, IsOversized, length_at, first_body, after_frame}
use Rattle.framing.proofs.FrameLaws.{frames_at_frame, partial_at_frame, frames_at_none, partial_at_none}
use Rattle.framing.proofs.FrameLaws.{after_frame_length, first_body_length, oversized_has_none}
use Rattle.frame_link.specs.Held.{Held, HandsOut, Waits, Stops}

pub link_waits : (old : Held) → (HasFrame old.bytes → ⊥) → (IsOversized old.bytes → ⊥) → Waits old old
link_waits old bare within = record {
  no_frame = bare;
  not_over = within;
  frames = frames_at_none old.bytes bare;
  rest = partial_at_none old.bytes bare;
  unchanged = refl;
}

pub link_stops : (old new : Held) (size : ℕ) → IsOversized old.bytes → size ≡ length_at old.bytes
    → new.bytes ≡ old.bytes → new.stopped ≡ true
    → Stops old size new
link_stops old new size over is same stopped = record {
  over = over;
  size_is = is;
  frames = frames_at_none old.bytes (oversized_has_none old.bytes over);
  rest = partial_at_none old.bytes (oversized_has_none old.bytes over);
  unchanged = same;
  stopped = stopped;
}

pub link_hands_out : (old new : Held) (body : List ℕ) → HasFrame old.bytes → body ≡ first_body old.bytes
    → new.bytes ≡ after_frame old.bytes → new.stopped ≡ false
    → HandsOut old body new
link_hands_out old new body h is later goes_on =
    let whole = after_frame_length old.bytes h in
    let size = first_body_length old.bytes h in
    record {
      first = h;
      body_is = is;
      frames = rw (is, later) (frames_at_frame old.bytes h);
      rest = rw later (partial_at_frame old.bytes h);
      shorter = rw (is, later) (omega arith);
      goes_on = goes_on;
    }

-- a length over the limit was met only where there is one
pub stays_open : (b : List ℕ) (stopped : Bool) → HasFrame b → (stopped ≡ true → IsOversized b) → stopped ≡ false
stays_open b true h over = absurd (oversized_has_none b (over refl) h)
stays_open b false h over = refl
