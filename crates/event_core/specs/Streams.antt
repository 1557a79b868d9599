-- What streams with an index represent, and what they do on their way from one state to another.
use Rattle.std.specs.Prelude.{◌≡◌, ℕ, ◌+◌, ◌≤◌, List, [], ◌++◌}
use Rattle.ev_types.specs.declared.item.Notice.{Notice}
use Rattle.live_index.specs.Index as indexed
use Rattle.stream_plan.specs.Tree.{StreamTrees}
use Rattle.stream_tree.specs.Tree as tree
use Rattle.stream_meaning.specs.Arrivals.{CoreState}
use Rattle.event_core.specs.declared.streams.IndexedStreams.{IndexedStreams}
use Rattle.event_core.specs.Counts.{notices_in, forks_in, visits_to}

abbrev pub plan_of : IndexedStreams → StreamTrees
plan_of streams = tree.plan_of streams.tree

-- the streams have come to the history of the state, and their index to its log; no outputs are left to handle
pub record Holds (streams : IndexedStreams) (state : CoreState) : Type 0 where
  pub history : tree.Represents streams.tree state.history
  pub log : indexed.Represents streams.index state.log
  pub outputs : streams.outputs ≡ []

-- the state of the streams was `before` and is `after` now, and the notices of the entries between were appended and
-- their forks counted
pub record Moved (plan : StreamTrees) (streams : IndexedStreams) (before after : CoreState) (old : List Notice)
    (forks_before : ℕ) (new : List Notice) (forks_after : ℕ) : Type 0 where
  pub holds : Holds streams after
  pub made : List Notice
  pub reported : new ≡ old ++ made
  pub grew : notices_in plan after.history ≡ notices_in plan before.history ++ made
  pub forks : forks_before + forks_in plan after.history ≡ forks_after + forks_in plan before.history

-- no more entries were visited than those on the way from one state to the other
abbrev pub Visited : StreamTrees → CoreState → CoreState → ℕ → ℕ → Type 0
Visited plan before after entries_before entries_after =
    entries_after + visits_to plan before ≤ entries_before + visits_to plan after
