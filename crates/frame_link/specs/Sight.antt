use Rattle.std.specs.Prelude.{◌≡◌, ℕ, List}
use Rattle.framing.specs.Frames.{HasFrame, IsOversized, length_at}
use Rattle.frame_link.specs.declared.buffer.Look.{Look}
use Rattle.frame_link.specs.declared.buffer.Look.TheVariants.{Partial, Oversized, Frame}

-- what the bytes begin with
abbrev pub Sees : List ℕ → Look → Type 0
Sees bytes Partial = (HasFrame bytes → ⊥) × (IsOversized bytes → ⊥)
Sees bytes (Oversized size) = IsOversized bytes × (size ≡ length_at bytes)
Sees bytes (Frame size) = HasFrame bytes × (size ≡ length_at bytes)
