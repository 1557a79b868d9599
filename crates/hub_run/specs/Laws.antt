-- Laws of runs.
use Rattle.std.specs.Prelude.{◌≡◌, ℕ, ◌+◌, ◌<◌, List, [], ◌∷◌, length}
use Rattle.std.specs.List.{AllByRecursion, flat_map}
use Rattle.conn_core.specs.event_core.Core.{CoreConfig}
use Rattle.conn_core.specs.hub_meaning.Legal.{AreSettled, IsLegal}
use Rattle.conn_core.specs.hub_meaning.Messages.{posts_of}
use Rattle.conn_core.specs.hub_meaning.Runs.{state_after}
use Rattle.framing.specs.Frames.{frames_of, partial}
use Rattle.hub_run.specs.Runs.{config_at, opening}
use Rattle.hub_run.specs.Taken.{HasEnded, IsOneTurn, TakenTurn, entries_of, steps_of}
use Rattle.hub_run.specs.declared.setup.Setup.{Setup}
use Rattle.list_laws.specs.Prefix.{IsPrefix}
use Rattle.ports.specs.Pieces.{feed_script}
use Rattle.ports.specs.Playing.{IsScriptedRun, bytes_taken}
use Rattle.ports.specs.declared.entry.Entry.TheVariants.{Listen}
use Rattle.ports.specs.declared.links.ListenAnswer.TheVariants.{Ready}
use Rattle.hub_run.specs.TakenBytes.{replies_on, taken_on}

-- what the sends of a run took of a link is what the run comes to
abbrev pub SendsAreTaken : Type 0
SendsAreTaken = (config : CoreConfig) (turns : List TakenTurn) (number : ℕ) → IsLegal config (steps_of turns)
    → bytes_taken number (entries_of turns) ≡ taken_on number (state_after config (steps_of turns)).links

-- and a prefix of the link's replies
abbrev pub PrefixesAreTaken : Type 0
PrefixesAreTaken = (config : CoreConfig) (turns : List TakenTurn) (number : ℕ) → IsLegal config (steps_of turns)
    → IsPrefix (bytes_taken number (entries_of turns)) (replies_on number (state_after config (steps_of turns)).links)

-- Of links that feed bytes all replies are taken, however the run ends: a turn may be asked for again, or it was the
-- last.
abbrev pub FeedsAreAnswered : Type 0
FeedsAreAnswered = (config : CoreConfig) (limit : ℕ) (bytes address : List ℕ) (secs : ℕ) (turns : List TakenTurn)
    → IsScriptedRun (feed_script limit bytes) (Listen address (Ready secs) ∷ entries_of turns)
    → IsLegal config (steps_of turns)
    → AreSettled (state_after config (steps_of turns)).links
    → bytes_taken 0 (entries_of turns) ≡ replies_on 0 (state_after config (steps_of turns)).links

-- Links that feed bytes of which nothing is left after the last whole frame: by the last turn the events of all messages
-- were posted, in order, at moment 0. More turns may be taken than there are for these bytes.
abbrev pub FeedsArePosted : Type 0
FeedsArePosted = (setup : Setup) (limit most : ℕ) (bytes : List ℕ) (secs : ℕ) (turns : List TakenTurn)
    → 0 < limit → length bytes + 2 < most → partial bytes ≡ []
    → IsScriptedRun (feed_script limit bytes) (opening setup secs ∷ entries_of turns)
    → IsLegal (config_at setup secs) (steps_of turns) → AllByRecursion IsOneTurn turns → HasEnded most turns
    → (state_after (config_at setup secs) (steps_of turns)).arrivals ≡ flat_map (posts_of 0) (frames_of bytes)
