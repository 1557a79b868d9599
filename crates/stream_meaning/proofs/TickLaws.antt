-- Where nothing has come but ticks, there are no effects.
use Rattle.std.proofs.Common.{◌≡◌, ℕ, zero, suc, ◌+◌, ◌-◌, ◌%◌, Bool, true, false, cond, List, [], ◌∷◌, ◌++◌, length}
use Rattle.std.proofs.Common.{drop, Option, nat_lt, ◌==◌, refl, sym, ap, ◌∙◌, subst, arith}
use Rattle.std.specs.List.{filter, flat_map}
use Rattle.std.proofs.Math.Seq.{drop-nil}
use Rattle.std.proofs.lemmas.Bool.Decides.{nat_tests}
use Rattle.ev_types.specs.declared.field.Field.{Field}
use Rattle.ev_types.specs.declared.item.Item.{Item}
use Rattle.stream_plan.specs.Tree.{KindTree, Index, Rollup, Batch, Stable, Coalesce, StreamTree, StreamTrees, stream}
use Rattle.stream_plan.specs.Tree.{none, also}
use Rattle.stream_meaning.specs.History.{History, since, ◌▸◌, Tick, In, begun, moment_of, window_of, TicksAlone}
use Rattle.stream_meaning.specs.Came.{events_in, timed_events, each, vector, last_of}
use Rattle.stream_meaning.specs.Ends.{forks_that_came, is_live, live_forks}
use Rattle.stream_meaning.specs.Runs.{run, run_began}
use Rattle.stream_meaning.specs.Rates.{events_now, rolls_into, allowed, one_if}
use Rattle.stream_meaning.specs.Coalesce.{coalesced}
use Rattle.stream_meaning.specs.Emission.{Branch, Children, Otherwise, Fork, emissions, to_children}
use Rattle.stream_meaning.specs.Branches.{after_emissions, child_history, branches}
use Rattle.stream_meaning.specs.Outputs.{Effect, emits_if_any, marked, branch_effects, at_tick, at_emissions}
use Rattle.stream_meaning.specs.Outputs.{stream_effects, plan_effects}

pub events_in-ticks : (secs window : ℕ) (h : History) → TicksAlone h → events_in secs window h ≡ []
events_in-ticks secs window (since start) alone = refl
events_in-ticks secs window (h ▸ Tick) alone = events_in-ticks secs window h alone
events_in-ticks secs window (h ▸ In item) alone = absurd alone

pub timed-ticks : (h : History) → TicksAlone h → timed_events h ≡ []
timed-ticks (since start) alone = refl
timed-ticks (h ▸ Tick) alone = timed-ticks h alone
timed-ticks (h ▸ In item) alone = absurd alone

pub run-ticks : (field : Field) (h : History) → TicksAlone h → run field h ≡ []
run-ticks field (since start) alone = refl
run-ticks field (h ▸ Tick) alone = run-ticks field h alone
run-ticks field (h ▸ In item) alone = absurd alone

lt-zero : (n : ℕ) → nat_lt n 0 ≡ false
lt-zero n = grind (arith, nat_tests)

pub rolls_into-ticks : (n secs window : ℕ) (h : History) → TicksAlone h → rolls_into n secs window h ≡ false
rolls_into-ticks n secs zero h alone = refl
rolls_into-ticks n secs (suc window) h alone =
    ap (λ es. nat_lt n (length es + one_if (rolls_into n secs window h))) (events_in-ticks secs window h alone)
    ∙ ap (λ t. nat_lt n (0 + one_if t)) (rolls_into-ticks n secs window h alone)
    ∙ lt-zero n

not_rolled : (t r : Bool) (items : List Item) → r ≡ false → to_children (cond t [] (cond r items [])) ≡ []
not_rolled true r items e = refl
not_rolled false r items e = ap (λ r. to_children (cond r items [])) e

not_batched : (t : Bool) (k : ℕ) → to_children (cond t [] (vector (last_of k []))) ≡ []
not_batched true k = refl
not_batched false k = ap (λ es. to_children (vector es)) (drop-nil (0 - k))

not_stable : (t : Bool) → to_children (cond t (each []) []) ≡ []
not_stable true = refl
not_stable false = refl

not_coalesced : (t : Bool) (secs now : ℕ) → to_children (cond t (vector (coalesced secs now [])) []) ≡ []
not_coalesced true secs now = refl
not_coalesced false secs now = refl

begin_emit : (kind : KindTree) (start : ℕ) → emissions kind (since start) ≡ []
begin_emit Index start = refl
begin_emit kind start = refl

pub ticks_emit : (kind : KindTree) (h : History) → TicksAlone h → emissions kind h ≡ []
ticks_emit (Rollup n secs) (h ▸ Tick) alone =
    not_rolled (window_of secs (h ▸ Tick) == window_of secs h) (rolls_into n secs (suc (window_of secs h)) h)
    (vector (drop (allowed n secs (window_of secs h) h) (events_now secs h)))
    (rolls_into-ticks n secs (suc (window_of secs h)) h alone)
ticks_emit (Batch n secs) (h ▸ Tick) alone =
    ap
    (λ es. to_children (cond (window_of secs (h ▸ Tick) == window_of secs h) [] (vector (last_of (length es % n) es))))
    (events_in-ticks secs (window_of secs h) h alone)
    ∙ not_batched (window_of secs (h ▸ Tick) == window_of secs h) (0 % n)
ticks_emit (Stable secs field) (h ▸ Tick) alone =
    ap (λ es. to_children (cond (moment_of (h ▸ Tick) == run_began field h + secs) (each es) []))
    (run-ticks field h alone)
    ∙ not_stable (moment_of (h ▸ Tick) == run_began field h + secs)
ticks_emit (Coalesce secs) (h ▸ Tick) alone =
    let now = moment_of (h ▸ Tick) in
    ap (λ came. to_children (cond ((now - begun h) % secs == 0) (vector (coalesced secs now came)) []))
    (timed-ticks h alone)
    ∙ not_coalesced ((now - begun h) % secs == 0) secs now
ticks_emit kind (since start) alone = begin_emit kind start
ticks_emit kind (h ▸ Tick) alone = refl
ticks_emit kind (h ▸ In item) alone = absurd alone

pub ticks_handed_on : (kind : KindTree) (branch : Branch) (h : History) → TicksAlone h → child_history kind branch h ≡ h
ticks_handed_on kind branch (since start) alone = refl
ticks_handed_on kind branch (h ▸ Tick) alone =
    ap (λ es. after_emissions branch es (child_history kind branch h ▸ Tick)) (ticks_emit kind (h ▸ Tick) alone)
    ∙ ap (λ g. g ▸ Tick) (ticks_handed_on kind branch h alone)
ticks_handed_on kind branch (h ▸ In item) alone = absurd alone

none_came : (idle : Option ℕ) (fields : List Field) (h : History) → TicksAlone h → forks_that_came idle fields h ≡ []
none_came idle fields (since start) alone = refl
none_came idle fields (h ▸ Tick) alone = none_came idle fields h alone
none_came idle fields (h ▸ In item) alone = absurd alone

pub ticks_make_no_fork : (idle : Option ℕ) (fields : List Field) (h : History) → TicksAlone h
    → live_forks idle fields h ≡ []
ticks_make_no_fork idle fields h alone = ap (filter (is_live idle fields h)) (none_came idle fields h alone)

marked-nothing : (branch : Branch) → marked branch [] ≡ []
marked-nothing Children = refl
marked-nothing Otherwise = refl
marked-nothing (Fork fork) = refl

flat-nothing : (f : Branch → List Effect) → ((branch : Branch) → f branch ≡ []) → (bs : List Branch)
    → flat_map f bs ≡ []
flat-nothing f e [] = refl
flat-nothing f e (branch ∷ bs) = ap (λ l. l ++ flat_map f bs) (e branch) ∙ flat-nothing f e bs

-- what is below a stream has no effects
abbrev IsQuiet : (History → List Effect) → Type 0
IsQuiet below = (h : History) → TicksAlone h → below h ≡ []

effects_in-quiet : (children otherwise : History → List Effect) → IsQuiet children → IsQuiet otherwise
    → (branch : Branch) → IsQuiet (branch_effects children otherwise branch)
effects_in-quiet children otherwise p q Children = p
effects_in-quiet children otherwise p q Otherwise = q
effects_in-quiet children otherwise p q (Fork fork) = p

mutual
  pub stream_quiet : (s : StreamTree) (h : History) → TicksAlone h → stream_effects s h ≡ []
  stream_quiet (stream kind children otherwise) (since start) alone = refl
  stream_quiet (stream kind children otherwise) (h ▸ Tick) alone =
      let effects_in = branch_effects (plan_effects children) (plan_effects otherwise) in
      let received = λ (branch : Branch). child_history kind branch h in
      ap
      (λ es. emits_if_any es ++ at_tick Tick effects_in received (branches kind h)
      ++ at_emissions effects_in (λ branch. received branch ▸ Tick) es)
      (ticks_emit kind (h ▸ Tick) alone)
      ∙ ap (λ l. l ++ []) (flat-nothing (λ branch. marked branch (effects_in branch (received branch ▸ Tick)))
      (λ branch. ap (marked branch)
      (effects_in-quiet (plan_effects children) (plan_effects otherwise) (plan_quiet children) (plan_quiet otherwise)
      branch (received branch ▸ Tick)
      (subst TicksAlone (sym (ticks_handed_on kind branch h alone)) alone)) ∙ marked-nothing branch) (branches kind h))
  stream_quiet (stream kind children otherwise) (h ▸ In item) alone = absurd alone

  pub plan_quiet : (plan : StreamTrees) (h : History) → TicksAlone h → plan_effects plan h ≡ []
  plan_quiet none h alone = refl
  plan_quiet (also first more) h alone =
      ap (λ l. l ++ plan_effects more h) (stream_quiet first h alone) ∙ plan_quiet more h alone
