-- What a plan gives and counts over a whole history.
use Rattle.std.specs.Prelude.{ℕ, ◌+◌, ◌*◌, List, [], ◌∷◌, ◌++◌, filter, length}
use Rattle.ev_types.specs.declared.item.Notice.{Notice}
use Rattle.ev_types.specs.Expiry.{is_expired}
use Rattle.index_log.specs.Live.{IndexLog, Write, Reap, live_events}
use Rattle.stream_plan.specs.Tree.{StreamTrees}
use Rattle.stream_meaning.specs.History.{History, since, ◌▸◌}
use Rattle.stream_meaning.specs.Outputs.{outputs_of, due_forks, forks_given}
use Rattle.stream_meaning.specs.Arrivals.{CoreState, notices_among}

-- the notices that it gives
abbrev pub notices_in : StreamTrees → History → List Notice
notices_in plan h = notices_among (outputs_of plan h)

-- how many forks are due, and how often an item comes to a `by`, over all its entries
abbrev pub forks_in : StreamTrees → History → ℕ
forks_in plan (since start) = 0
forks_in plan (h ▸ x) = forks_in plan h + (due_forks plan (h ▸ x) + forks_given plan (h ▸ x))

-- how many forks are due over all its entries
abbrev pub due_in : StreamTrees → History → ℕ
due_in plan (since start) = 0
due_in plan (h ▸ x) = due_in plan h + due_forks plan (h ▸ x)

-- how many live events of a log are expired at the moment
abbrev pub expired_in : ℕ → IndexLog → ℕ
expired_in t log = length (filter (is_expired t) (live_events log))

-- how many events are reaped in a log that goes on from the first one
abbrev pub reaped_after : IndexLog → IndexLog → ℕ
reaped_after first [] = 0
reaped_after first (Write event ∷ more) = reaped_after (first ++ Write event ∷ []) more
reaped_after first (Reap t ∷ more) = expired_in t first + reaped_after (first ++ Reap t ∷ []) more

-- how many entries are visited on the way to a state, at most: one for each fork that is due, and two for each event
-- that is reaped
abbrev pub visits_to : StreamTrees → CoreState → ℕ
visits_to plan state = due_in plan state.history + 2 * reaped_after [] state.log
