-- What a server can reach in a turn.
use Rattle.std.specs.Prelude.{◌≡◌, ℕ, ◌+◌, min, max, ⊤}
use Rattle.ev_types.specs.Clock.{seconds_per_turn_limit}
use Rattle.ports.specs.declared.links.ListenAnswer.{ListenAnswer}
use Rattle.ports.specs.declared.links.ListenAnswer.TheVariants.{Ready}
use Rattle.mio_links.specs.declared.readings.Readings.{Readings}

-- the moment that was reached after a turn with this reading, if it was `reached` before
abbrev pub reached_after : ℕ → ℕ → ℕ
reached_after reached secs = max reached (min secs (reached + seconds_per_turn_limit))

-- what the readings are after a turn at this second, as they were before
abbrev pub TookReading : Readings → Readings → ℕ → Type 0
TookReading old new secs = (new.last ≡ secs) × (new.reached ≡ reached_after old.reached secs)

-- they begin at the second with which links are ready
abbrev pub BeginsAt : Readings → ListenAnswer → Type 0
BeginsAt readings (Ready secs) = (readings.last ≡ secs) × (readings.reached ≡ secs)
BeginsAt readings _ = ⊤
