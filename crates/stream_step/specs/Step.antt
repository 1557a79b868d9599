-- What one stream does at an entry, and what it keeps between entries.
use Rattle.std.specs.Prelude.{◌≡◌, ℕ, zero, suc, Bool, true, false, List, [], ◌++◌, length, map}
use Rattle.ev_types.specs.declared.item.Emission.{Emission as CodeEmission}
use Rattle.ev_types.specs.declared.item.Output.{Output}
use Rattle.ev_types.specs.declared.value.Value.{Value}
use Rattle.pred_eval.specs.Truth.{searches}
use Rattle.stream_plan.specs.Kinds.{is_in_range}
use Rattle.stream_plan.specs.Tree.{KindTree, Where, By}
use Rattle.stream_meaning.specs.declared.entry.Entry.{Entry}
use Rattle.stream_meaning.specs.declared.entry.Entry.TheVariants.{Tick, Item as In}
use Rattle.stream_meaning.specs.History.{History, ◌▸◌}
use Rattle.stream_meaning.specs.Ends.{times_ended}
use Rattle.stream_meaning.specs.Emission.{Branch as MeantBranch, Children as children, Otherwise as otherwise}
use Rattle.stream_meaning.specs.Emission.{Fork as fork, Emission, to, emissions}
use Rattle.stream_meaning.specs.Laws.{own_outputs}
use Rattle.stream_states.specs.Kept.{keeps, KeptRepresents}
use Rattle.stream_step.specs.declared.passed.Branch.{Branch}
use Rattle.stream_step.specs.declared.passed.Branch.TheVariants.{Children, Otherwise}
use Rattle.stream_step.specs.declared.passed.Passed.{Passed}
use Rattle.stream_step.specs.declared.passed.Passed.TheVariants.{Nothing, Same, Made, Keyed}
use Rattle.stream_step.specs.declared.state.State.{State}
use Rattle.stream_step.specs.declared.state.State.TheVariants.{Rule, Kept, Forks}

-- ---- what is passed on

abbrev pub branch_meant : Branch → MeantBranch
branch_meant Children = children
branch_meant Otherwise = otherwise

-- 0 is the children's number, and each other one that of `else`
abbrev pub branch_numbered : ℕ → MeantBranch
branch_numbered zero = children
branch_numbered (suc n) = otherwise

abbrev pub emission_meant : CodeEmission → Emission
emission_meant emission = record { branch = branch_numbered emission.branch; item = emission.item }

-- what comes, as it came
abbrev pub passed_same : MeantBranch → Entry → List Emission
passed_same branch Tick = []
passed_same branch (In item) = to branch item

-- how often each key of a `by` ended
abbrev pub ended_by : KindTree → History → List Value → ℕ
ended_by (By fields idle) h key = times_ended idle fields key h
ended_by kind h key = 0

-- where each key ended so often: the fork of a key is the one that began after its last end
abbrev pub emissions_meant : (List Value → ℕ) → Passed → Entry → List Emission
emissions_meant ended Nothing x = []
emissions_meant ended (Same branch) x = passed_same (branch_meant branch) x
emissions_meant ended (Made es) x = map emission_meant es
emissions_meant ended (Keyed key) x = passed_same (fork (record { key = key; number = ended key })) x

-- ---- what is kept

-- the texts of a rule are among all texts, `count` of them from number `first` on
pub record AreAt (own : List (List ℕ)) (first count : ℕ) (texts : List (List ℕ)) : Type 0 where
  pub before : List (List ℕ)
  pub after : List (List ℕ)
  pub begins : length before ≡ first
  pub counted : length own ≡ count
  pub among : texts ≡ before ++ (own ++ after)

-- A `where` keeps the numbers of its regular expressions among those of the whole plan, and a `by` the number from
-- which on its children have theirs. The other kinds that keep nothing of what came need no number.
abbrev pub HasNumbers : List (List ℕ) → KindTree → State → Type 0
HasNumbers texts (Where rule) (Rule first count) = AreAt (searches rule) first count texts
HasNumbers texts (Where rule) state = ⊥
HasNumbers texts (By fields idle) (Forks first) = Unit {0}
HasNumbers texts (By fields idle) state = ⊥
HasNumbers texts kind state = keeps kind ≡ false

-- the state holds something of what came
abbrev pub is_kept : State → Bool
is_kept (Kept kept) = true
is_kept state = false

abbrev pub Keeps : List (List ℕ) → KindTree → State → History → Type 0
Keeps texts kind (Kept kept) h = KeptRepresents kind kept h
Keeps texts kind state h = HasNumbers texts kind state

-- The state of a stream has come to where it would be if all of this history had come to it. The texts are those of the
-- regular expressions of the whole plan.
pub record StateRepresents (texts : List (List ℕ)) (kind : KindTree) (state : State) (h : History) : Type 0 where
  pub in_range : is_in_range kind ≡ true
  pub keeps : Keeps texts kind state h

-- a tick at which a stream passes nothing on leaves what it keeps
abbrev pub QuietTicksKeepStates : Type 0
QuietTicksKeepStates = (texts : List (List ℕ)) (kind : KindTree) (state : State) (h : History) →
    StateRepresents texts kind state h → emissions kind (h ▸ Tick) ≡ [] → StateRepresents texts kind state (h ▸ Tick)

-- ---- what one entry does

-- after one more entry the state represents the longer history, the stream's own outputs are put, and this is what it
-- passes on
pub record Acts (texts : List (List ℕ)) (kind : KindTree) (old new : State) (h : History) (x : Entry)
    (before after : List Output) (passed : Passed) : Type 0 where
  pub represents : StateRepresents texts kind new (h ▸ x)
  pub said : after ≡ before ++ own_outputs kind (h ▸ x)
  pub passes : emissions_meant (ended_by kind h) passed x ≡ emissions kind (h ▸ x)
