use Rattle.std.specs.Prelude.{◌≡◌, ℕ, ◌+◌, Bool, true, false, if◌then◌else◌, List, [], ◌∷◌, ◌++◌, length}
use Rattle.framing.specs.Frames.{HasFrame, IsOversized, frames_of, partial, length_at, first_body, Represents}
use Rattle.frame_link.specs.declared.buffer.FirstFrame.{FirstFrame}
use Rattle.frame_link.specs.declared.buffer.FirstFrame.TheVariants.{Whole as first_whole, NotYet as first_not_yet}
use Rattle.frame_link.specs.declared.buffer.FirstFrame.TheVariants.{TooLong as first_too_long}
use Rattle.frame_link.specs.declared.link.Taken.{Taken}
use Rattle.frame_link.specs.declared.link.Taken.TheVariants.{Whole, NotYet, TooLong, Memory}

-- the bytes that were not handed out as frames yet, and whether a length over the limit was met
pub record Held : Type 0 where
  pub bytes : List ℕ
  pub stopped : Bool

-- what a link holds once a piece came: nothing more after a length over the limit
abbrev pub pushed : List ℕ → Held → Held
pushed piece held = record held { bytes = if held.stopped then held.bytes else held.bytes ++ piece }

-- a body was handed out: it is that of the first frame, and the rest stays
pub record HandsOut (old : Held) (body : List ℕ) (new : Held) : Type 0 where
  pub first : HasFrame old.bytes
  pub body_is : body ≡ first_body old.bytes
  pub frames : frames_of old.bytes ≡ body ∷ frames_of new.bytes
  pub rest : partial old.bytes ≡ partial new.bytes
  pub shorter : length old.bytes ≡ 4 + length body + length new.bytes
  pub goes_on : new.stopped ≡ false

-- no frame is whole, and none is over the limit
pub record Waits (old new : Held) : Type 0 where
  pub no_frame : HasFrame old.bytes → ⊥
  pub not_over : IsOversized old.bytes → ⊥
  pub frames : frames_of old.bytes ≡ []
  pub rest : partial old.bytes ≡ old.bytes
  pub unchanged : new ≡ old

-- the next length is over the limit, and nothing comes after it
pub record Stops (old : Held) (size : ℕ) (new : Held) : Type 0 where
  pub over : IsOversized old.bytes
  pub size_is : size ≡ length_at old.bytes
  pub frames : frames_of old.bytes ≡ []
  pub rest : partial old.bytes ≡ old.bytes
  pub unchanged : new.bytes ≡ old.bytes
  pub stopped : new.stopped ≡ true

-- what each answer of `take` says
abbrev pub Takes : Held → Taken → Held → Type 0
Takes old (Whole body) new = HandsOut old body new
Takes old NotYet new = Waits old new
Takes old (TooLong size) new = Stops old size new
Takes old Memory new = HasFrame old.bytes × (new ≡ old)

-- what the bytes' first frame is
abbrev pub Lends : List ℕ → FirstFrame → Type 0
Lends bytes (first_whole body) = HasFrame bytes × (body.now ≡ first_body bytes) × (length body.now ≡ length_at bytes)
Lends bytes first_not_yet = (HasFrame bytes → ⊥) × (IsOversized bytes → ⊥)
Lends bytes (first_too_long size) = IsOversized bytes × (size ≡ length_at bytes)

-- the bodies that an answer hands out
abbrev pub bodies_in : Taken → List (List ℕ)
bodies_in (Whole body) = body ∷ []
bodies_in NotYet = []
bodies_in (TooLong size) = []
bodies_in Memory = []

-- What is held represents any bodies handed out so far and any bytes that came, with one piece more.
abbrev pub KeepsOnPush : List ℕ → Held → Held → Type 0
KeepsOnPush piece old new = (handed : List (List ℕ)) (came : List ℕ) → Represents old.bytes handed came
    → Represents new.bytes handed (if old.stopped then came else came ++ piece)

abbrev pub KeepsOnTake : Held → Taken → Held → Type 0
KeepsOnTake old answer new = (handed : List (List ℕ)) (came : List ℕ) → Represents old.bytes handed came
    → Represents new.bytes (handed ++ bodies_in answer) came
