-- What `graphite` wrote, once it was fed to a server whose one stream is `index`.
use Rattle.std.specs.Prelude.{◌≡◌, ℕ, ◌≤◌, if◌then◌else◌, List, [], ◌∷◌, length, Option}
use Rattle.std.specs.List.{list_any}
use Rattle.command_files.specs.Feeds.{FeedsAll}
use Rattle.command_setup.specs.command_io.Reports.{Reports}
use Rattle.command_setup.specs.command_io.declared.limits.TheConstants.{FILE_LIMIT}
use Rattle.command_setup.specs.hub_meaning.Runs.{state_after}
use Rattle.command_setup.specs.hub_run.Runs.{config_at}
use Rattle.command_setup.specs.hub_run.Taken.{TakenTurn, steps_of}
use Rattle.command_setup.specs.hub_run.declared.setup.Setup.{Setup}
use Rattle.ev_types.specs.declared.event.Event.{Event}
use Rattle.graphite_lines.specs.Frames.{accepted, frames_in}
use Rattle.graphite_lines.specs.Lines.{lines_of}
use Rattle.index_log.specs.IndexKey.{same_index_key}
use Rattle.index_log.specs.Live.{live_events, placed_onto}
use Rattle.ports.specs.Writing.{Got}
use Rattle.stream_meaning.specs.Arrivals.{CoreConfig, state_by}
use Rattle.stream_plan.specs.Tree.{Index, StreamTrees, also, none, stream}

-- the events after which no other of their key comes
abbrev pub last_of_keys : List Event → List Event
last_of_keys [] = []
last_of_keys (event ∷ later) =
    if list_any (same_index_key event) later then last_of_keys later else event ∷ last_of_keys later

-- the plan of `(streams index)`
abbrev pub index_alone : StreamTrees
index_alone = also (stream Index none none) none

-- the events in the index after the turns of a run
abbrev pub live_after : CoreConfig → List TakenTurn → List Event
live_after config turns = live_events (state_by config (state_after config (steps_of turns)).arrivals).log

-- The frames of a text were fed to such a server. Of each key the last line that was accepted is in the index then, in
-- key order, and nothing else.
abbrev pub LastLinesAreLeft : Type 0
LastLinesAreLeft = (setup : Setup) (host_part : Option ℕ) (text : List ℕ) (old new : Reports)
    → setup.plan ≡ index_alone → length (frames_in host_part text) ≤ FILE_LIMIT
    → (fed :
    FeedsAll setup (frames_in host_part text) old new (λ replies. Got old.out.text replies new.out.text))
    → live_after (config_at setup fed.ran.secs) fed.ran.took.turns
    ≡ placed_onto [] (last_of_keys (accepted host_part (lines_of text)))
