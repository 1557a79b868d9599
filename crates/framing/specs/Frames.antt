-- The frames of a stream of bytes: a length of four big-endian bytes, then that many bytes of body.
use Rattle.std.specs.Prelude.{◌≡◌, ℕ, zero, suc, ◌+◌, ◌<◌, ◌≤◌, Bool, ◌&&◌, nat_le, if◌then◌else◌, List, [], ◌∷◌, ◌++◌}
use Rattle.std.specs.Prelude.{length, take, drop, slice_index}
use Rattle.std.specs.Int.{w32, to_be_bytes, from_be_bytes}
use Rattle.std.specs.List.{flat_map}
use Rattle.framing.specs.declared.TheConstants.{BODY_LIMIT}

-- the length that the first four bytes give
unfoldable pub length_at : List ℕ → ℕ
length_at bytes = from_be_bytes w32 (take 4 bytes)

-- the bytes begin with a whole frame, whose body is within the limit
pub record HasFrame (bytes : List ℕ) : Type 0 where
  pub head : 4 ≤ length bytes
  pub small : length_at bytes ≤ BODY_LIMIT
  pub whole : 4 + length_at bytes ≤ length bytes

-- the bytes begin with a length over the limit
pub record IsOversized (bytes : List ℕ) : Type 0 where
  pub head : 4 ≤ length bytes
  pub over : BODY_LIMIT < length_at bytes

-- the first frame's body, and what follows that frame
abbrev pub first_body : List ℕ → List ℕ
first_body bytes = take (length_at bytes) (drop 4 bytes)

abbrev pub after_frame : List ℕ → List ℕ
after_frame bytes = drop (4 + length_at bytes) bytes

-- `HasFrame` as a test
unfoldable pub has_frame : List ℕ → Bool
has_frame bytes = nat_le 4 (length bytes) && (nat_le (length_at bytes) BODY_LIMIT && nat_le (4 + length_at bytes) (length bytes))

-- at most n frames, and what follows them
unfoldable pub frames_within : ℕ → List ℕ → List (List ℕ)
frames_within zero bytes = []
frames_within (suc n) bytes = if has_frame bytes then first_body bytes ∷ frames_within n (after_frame bytes) else []

unfoldable pub after_within : ℕ → List ℕ → List ℕ
after_within zero bytes = bytes
after_within (suc n) bytes = if has_frame bytes then after_within n (after_frame bytes) else bytes

-- the bodies of the whole frames, in order
unfoldable pub frames_of : List ℕ → List (List ℕ)
frames_of bytes = frames_within (length bytes) bytes

-- the bytes after the whole frames, which begin no whole frame
unfoldable pub partial : List ℕ → List ℕ
partial bytes = after_within (length bytes) bytes

-- Of all the bytes that came, these are left once these bodies were handed out: the frames of what came are
-- those bodies, and then the frames of what is left.
pub record Represents (bytes : List ℕ) (handed : List (List ℕ)) (came : List ℕ) : Type 0 where
  pub frames : frames_of came ≡ handed ++ frames_of bytes
  pub rest : partial came ≡ partial bytes

-- a body after its length
abbrev pub frame : List ℕ → List ℕ
frame body = to_be_bytes w32 (length body) ++ body

-- each body is within the limit
abbrev pub AreWithinLimit : List (List ℕ) → Type 0
AreWithinLimit [] = Unit {0}
AreWithinLimit (body ∷ bodies) = (length body ≤ BODY_LIMIT) × AreWithinLimit bodies

-- the stream is the frames of these bodies, and then a rest that begins with no frame
pub record Splits (stream : List ℕ) (bodies : List (List ℕ)) (rest : List ℕ) : Type 0 where
  pub whole : stream ≡ flat_map frame bodies ++ rest
  pub small : AreWithinLimit bodies
  pub partial_frame : HasFrame rest → ⊥

abbrev pub AreBytes : List ℕ → Type 0
AreBytes bytes = (i : ℕ) → slice_index bytes i < 256

abbrev pub FramesAreFound : Type 0
FramesAreFound = (stream : List ℕ) → AreBytes stream → Splits stream (frames_of stream) (partial stream)

abbrev pub FramesAreOne : Type 0
FramesAreOne = (stream : List ℕ) (bodies : List (List ℕ)) (rest : List ℕ) → Splits stream bodies rest
    → (bodies ≡ frames_of stream) × (rest ≡ partial stream)
