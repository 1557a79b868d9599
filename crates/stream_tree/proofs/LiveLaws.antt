-- The forks of a `by` that are live after each entry.
use Rattle.std.proofs.Common.{◌≡◌, ℕ, ◌+◌, Bool, true, false, not, cond, List, [], ◌∷◌, map, filter, Option, Some, None}
use Rattle.std.proofs.Common.{refl, sym, ap, ◌∙◌, subst}
use Rattle.std.specs.List.{AllByRecursion}
use Rattle.ev_types.specs.declared.field.Field.{Field}
use Rattle.ev_types.specs.declared.item.Item.TheVariants.{One, Many}
use Rattle.ev_types.specs.declared.value.Value.{Value}
use Rattle.ev_types.specs.Key.{same_key, event_key}
use Rattle.stream_plan.specs.Tree.{KindTree, By}
use Rattle.stream_meaning.specs.Branches.{branches, child_history, with_key}
use Rattle.stream_meaning.specs.declared.entry.Entry.{Entry}
use Rattle.stream_meaning.specs.declared.entry.Entry.TheVariants.{Tick, Item as In}
use Rattle.stream_meaning.specs.Emission.{Branch, Fork, emissions}
use Rattle.stream_meaning.specs.Ends.{KeyFork, key_of_fork, last_moment, times_ended, ends_next, fork_at, live_forks}
use Rattle.stream_meaning.specs.Ends.{live_keys}
use Rattle.stream_meaning.specs.History.{History, since, ◌▸◌, moment_of, TicksAlone}
use Rattle.stream_meaning.proofs.EndLaws.{unseen_forks_have_ticks}
use Rattle.stream_meaning.proofs.LiveLaws.{live_forks_are_the_latest, not_come, keys_at_tick, keys_at_event}
use Rattle.stream_tree.specs.Forest.{LiveKeys, forked_by, live_by, key_fork}
use Rattle.stream_tree.specs.Running.{branches_by, UnseenHaveTicks, keys_left, with_branches}
use Rattle.stream_tree.proofs.KeptLaws.{all-passed}

abbrev Keys : Type 0
Keys = List (List Value)

-- ---- branches

forks_of : (live : LiveKeys) (forks : List KeyFork) → AllByRecursion (λ fork. fork.number ≡ live.ended fork.key) forks
    → map Fork forks ≡ map (key_fork live) (map key_of_fork forks)
forks_of live [] all = refl
forks_of live (fork ∷ forks) all =
    ap (λ (n : ℕ). Fork (record { key = fork.key; number = n }) ∷ map Fork forks) all.0
    ∙ ap (λ (l : List Branch). key_fork live fork.key ∷ l) (forks_of live forks all.1)

-- the branches of a `by` are the forks of its live keys
pub branches_are : (kind : KindTree) (h : History) → branches kind h ≡ branches_by (forked_by kind) (live_by kind h)
branches_are (By fields idle) h =
    forks_of (live_by (By fields idle) h) (live_forks idle fields h) (live_forks_are_the_latest idle fields h)
branches_are kind h = refl

-- ---- what has not come

-- a key that is not live has a fork with ticks alone
pub unseen_now : (kind : KindTree) (h : History)
    → UnseenHaveTicks (forked_by kind) (live_by kind h) (λ branch. child_history kind branch h)
unseen_now (By fields idle) h =
    λ key absent. unseen_forks_have_ticks idle fields (fork_at idle fields key h) h (not_come idle fields key h absent)
unseen_now kind h = tt

-- ---- after a tick

-- the live keys once a tick has come to the forks, where the entry is one
abbrev pub live_ticked : KindTree → Entry → History → LiveKeys
live_ticked kind Tick h = live_by kind (h ▸ Tick)
live_ticked kind (In item) h = live_by kind h

no_times : (t : Bool) (n : ℕ) → not t ≡ true → cond t (n + 1) n ≡ n
no_times true n e = cc
no_times false n e = refl

-- a key that is left has not ended
pub ended_left : (idle : Option ℕ) (fields : List Field) (h : History) →
    AllByRecursion (λ key. times_ended idle fields key (h ▸ Tick) ≡ times_ended idle fields key h)
    (live_keys idle fields (h ▸ Tick))
ended_left idle fields h =
    subst
    (λ (keys : Keys). AllByRecursion
    (λ key. times_ended idle fields key (h ▸ Tick) ≡ times_ended idle fields key h) keys)
    (sym (keys_at_tick idle fields h))
    (all-passed (λ (key : List Value). Unit {0})
    (λ key. times_ended idle fields key (h ▸ Tick) ≡ times_ended idle fields key h)
    (λ key. not (ends_next idle fields key h))
    (λ key any e. no_times (ends_next idle fields key h) (times_ended idle fields key h) e) (live_keys idle fields h)
    (all_any (live_keys idle fields h)))
  where
    all_any : (keys : Keys) → AllByRecursion (λ (key : List Value). Unit {0}) keys
    all_any [] = tt
    all_any (key ∷ keys) = (tt, all_any keys)

pub left_now : (idle : Option ℕ) (fields : List Field) (h : History) (now : ℕ) → moment_of h + 1 ≡ now →
    keys_left idle now (live_by (By fields idle) h) ≡ live_keys idle fields (h ▸ Tick)
left_now idle fields h now is =
    ap (λ (m : ℕ). keys_left idle m (live_by (By fields idle) h)) (sym is) ∙ sym (keys_at_tick idle fields h)

-- ---- after an item

pub live_goes_on : (fields : List Field) (idle : Option ℕ) (h : History) (x : Entry) (now : ℕ)
    → moment_of (h ▸ x) ≡ now
    → with_branches now (emissions (By fields idle) (h ▸ x)) (live_ticked (By fields idle) x h)
    ≡ live_by (By fields idle) (h ▸ x)
live_goes_on fields idle h Tick now is = refl
live_goes_on fields idle h (In (Many es)) now is = refl
live_goes_on fields idle h (In (One event)) now is =
    let key = event_key event fields in
    ap
    (λ (m : ℕ). after m (with_key key (live_keys idle fields h))) (sym is)
    ∙ ap (after (moment_of h)) (sym (keys_at_event idle fields h event))
  where
    after : ℕ → Keys → LiveKeys
    after m keys = record {
      keys = keys;
      ended = λ k. times_ended idle fields k h;
      last = λ k. cond (same_key (event_key event fields) k) (Some m) (last_moment fields k h);
    }

-- ---- without `idle`

all_stay : (keys : Keys) → filter (λ (key : List Value). true) keys ≡ keys
all_stay [] = refl
all_stay (key ∷ keys) = ap (λ (l : Keys). key ∷ l) (all_stay keys)

pub endless_stay : (fields : List Field) (h : History) → live_keys None fields (h ▸ Tick) ≡ live_keys None fields h
endless_stay fields h = keys_at_tick None fields h ∙ all_stay (live_keys None fields h)

-- ---- where nothing has come but ticks

pub none_alone : (fields : List Field) (idle : Option ℕ) (h : History) → TicksAlone h → live_keys idle fields h ≡ []
none_alone fields idle (since start) alone = refl
none_alone fields idle (h ▸ Tick) alone =
    keys_at_tick idle fields h
    ∙ ap (filter (λ key. not (ends_next idle fields key h))) (none_alone fields idle h alone)
none_alone fields idle (h ▸ In item) alone = absurd alone
