-- The deadline of a whole plan, from those of its streams.
use Rattle.std.proofs.Common.{◌≡◌, ℕ, ◌+◌, ◌<◌, ◌==◌, min, Bool, true, false, not, ◌||◌, cond, nat_le, nat_lt, List, []}
use Rattle.std.proofs.Common.{◌∷◌, ◌++◌, map, Option, Some, None, refl, sym, ap, subst, ◌∙◌, arith}
use mathlib.Core.Bool.{true≢false}
use Rattle.std.specs.Prelude.{IfSome}
use Rattle.std.specs.List.{AllByRecursion, filter, list_any}
use Rattle.std.proofs.lemmas.Bool.Decides.{nat_tests}
use Rattle.ev_types.specs.declared.field.Field.{Field}
use Rattle.stream_plan.specs.Tree.{KindTree, Index, By, StreamTree, StreamTrees, stream, none, also}
use Rattle.stream_meaning.specs.History.{History, ◌▸◌, Tick, moment_of, is_at}
use Rattle.stream_meaning.specs.Ends.{last_moment, idle_after, KeyFork, key_of_fork, live_forks}
use Rattle.stream_meaning.specs.Emission.{Branch, Children, Otherwise, Fork, Emission, emissions}
use Rattle.stream_meaning.specs.Branches.{after_emissions, child_history, branches}
use Rattle.stream_meaning.specs.Outputs.{Effect, emits_if_any, marked, BranchEffects, at_tick, at_emissions}
use Rattle.stream_meaning.specs.Outputs.{branch_effects, stream_effects, plan_effects}
use Rattle.stream_meaning.specs.Deadlines.{next_deadline, earlier, earliest, deadline_of, branch_end, until}
use Rattle.stream_meaning.specs.Deadlines.{stream_deadline, plan_deadline}
use Rattle.stream_meaning.specs.DeadlineLaws.{HasRange, is_any, emits}
use Rattle.stream_meaning.specs.DueLaws.{has_effects, HasStreamRanges, HasRanges, PlanDeadlinesAreMet}
use Rattle.stream_meaning.specs.DueLaws.{PlanDeadlinesStay}
use Rattle.stream_meaning.proofs.LiveLaws.{map_filter, is_recent, live_at_tick}
use Rattle.stream_meaning.proofs.StepLaws.{live_recent}
use Rattle.stream_meaning.proofs.MomentLaws.{branch_moments}
use Rattle.stream_meaning.proofs.MetLaws.{deadlines_met}
use Rattle.stream_meaning.proofs.StayLaws.{deadlines_stay, deadlines_ahead}
use Rattle.stream_meaning.proofs.RootLaws.{any-append, any-marked, no_emissions, plan_tick_rooted}

-- a deadline that lies ahead of a moment, where there is one
abbrev IsAhead : ℕ → Option ℕ → Type 0
IsAhead now deadline = IfSome deadline (λ moment. now < moment)

abbrev AreAhead : ℕ → List (Option ℕ) → Type 0
AreAhead now [] = Unit {0}
AreAhead now (deadline ∷ more) = IsAhead now deadline × AreAhead now more

ahead-earlier : (now : ℕ) (a b : Option ℕ) → IsAhead now a → IsAhead now b → IsAhead now (earlier a b)
ahead-earlier now None b p q = q
ahead-earlier now (Some a) None p q = p
ahead-earlier now (Some a) (Some b) p q = omega arith

ahead-earliest : (now : ℕ) (deadlines : List (Option ℕ)) → AreAhead now deadlines → IsAhead now (earliest deadlines)
ahead-earliest now [] p = tt
ahead-earliest now (first ∷ more) p = ahead-earlier now first (earliest more) p.0 (ahead-earliest now more p.1)

-- of two that lie ahead, the lesser is the next moment where one of them is
at-min : (now a b : ℕ) → now < a → now < b → (now + 1 == min a b) ≡ (now + 1 == a) || (now + 1 == b)
at-min now a b p q = grind (arith, nat_tests)

or_nothing : (t : Bool) → t ≡ t || false
or_nothing true = refl
or_nothing false = refl

at-earlier : (now : ℕ) (a b : Option ℕ) → IsAhead now a → IsAhead now b
    → is_at (now + 1) (earlier a b) ≡ is_at (now + 1) a || is_at (now + 1) b
at-earlier now None b p q = refl
at-earlier now (Some a) None p q = or_nothing (now + 1 == a)
at-earlier now (Some a) (Some b) p q = at-min now a b p q

at-earliest : (now : ℕ) (deadlines : List (Option ℕ)) → AreAhead now deadlines
    → is_at (now + 1) (earliest deadlines) ≡ list_any (is_at (now + 1)) deadlines
at-earliest now [] p = refl
at-earliest now (first ∷ more) p =
    at-earlier now first (earliest more) p.0 (ahead-earliest now more p.1)
    ∙ ap (λ t. is_at (now + 1) first || t) (at-earliest now more p.1)

-- ---- what is below a stream

abbrev Below : Type 0
Below = History → List Effect

abbrev LiesAhead : (History → Option ℕ) → Type 0
LiesAhead deadline = (h : History) → IsAhead (moment_of h) (deadline h)

abbrev IsMet : Below → (History → Option ℕ) → Type 0
IsMet below deadline = (h : History) → has_effects (below (h ▸ Tick)) ≡ is_at (moment_of h + 1) (deadline h)

abbrev Stays : Below → (History → Option ℕ) → Type 0
Stays below deadline = (h : History) → has_effects (below (h ▸ Tick)) ≡ false → deadline (h ▸ Tick) ≡ deadline h

branch-ahead : (c o : History → Option ℕ) → LiesAhead c → LiesAhead o → (branch : Branch)
    → LiesAhead (deadline_of c o branch)
branch-ahead c o p q Children = p
branch-ahead c o p q Otherwise = q
branch-ahead c o p q (Fork fork) = p

branch-met : (tc te : Below) (c o : History → Option ℕ) → IsMet tc c → IsMet te o → (branch : Branch)
    → IsMet (branch_effects tc te branch) (deadline_of c o branch)
branch-met tc te c o p q Children = p
branch-met tc te c o p q Otherwise = q
branch-met tc te c o p q (Fork fork) = p

branch-stays : (tc te : Below) (c o : History → Option ℕ) → Stays tc c → Stays te o → (branch : Branch)
    → Stays (branch_effects tc te branch) (deadline_of c o branch)
branch-stays tc te c o p q Children = p
branch-stays tc te c o p q Otherwise = q
branch-stays tc te c o p q (Fork fork) = p

or_false : (s t : Bool) → s || t ≡ false → (s ≡ false) × (t ≡ false)
or_false true t e = absurd (true≢false e)
or_false false t e = (refl, e)

-- ---- deadlines up to an end

until-ahead : (now : ℕ) (end deadline : Option ℕ) → IsAhead now deadline → IsAhead now (until end deadline)
until-ahead now None deadline ahead = ahead
until-ahead now (Some end) None ahead = tt
until-ahead now (Some end) (Some deadline) ahead = step (nat_le deadline end)
  where
    step : (t : Bool) → IsAhead now (cond t (Some deadline) None)
    step true = ahead
    step false = tt

not_next : (now end deadline : ℕ) → now < end → nat_le deadline end ≡ false → false ≡ (now + 1 == deadline)
not_next now end deadline ahead e = grind (arith, nat_tests)

after_end : (now end deadline : ℕ) → (now + 1 == end) ≡ true → now < deadline → (now + 1 == deadline) ≡ false
    → nat_le deadline end ≡ false
after_end now end deadline ends ahead not_now = grind (arith, nat_tests)

-- an end that lies ahead keeps a deadline at the next moment
until-met : (now : ℕ) (end deadline : Option ℕ) → IsAhead now end
    → is_at (now + 1) (until end deadline) ≡ is_at (now + 1) deadline
until-met now None deadline ahead = refl
until-met now (Some end) None ahead = refl
until-met now (Some end) (Some deadline) ahead = step (nat_le deadline end) refl
  where
    step : (t : Bool) → nat_le deadline end ≡ t → is_at (now + 1) (cond t (Some deadline) None) ≡ (now + 1 == deadline)
    step true e = refl
    step false e = not_next now end deadline ahead e

-- at its end a branch has no deadline but this moment
until-ended : (now : ℕ) (end deadline : Option ℕ) → is_at (now + 1) end ≡ true → IsAhead now deadline
    → is_at (now + 1) deadline ≡ false → until end deadline ≡ None
until-ended now None deadline ends ahead not_now = absurd (true≢false (sym ends))
until-ended now (Some end) None ends ahead not_now = refl
until-ended now (Some end) (Some deadline) ends ahead not_now =
    ap (λ t. cond t (Some deadline) None) (after_end now end deadline ends ahead not_now)

-- over all branches, each with its own history, whose moments are these, and with its end
module _ (effects_in : BranchEffects) (deadline : Branch → History → Option ℕ) (end : Branch → Option ℕ)
    (received : Branch → History) (now : ℕ) (same : (branch : Branch) → moment_of (received branch) ≡ now) where
  branches-ahead : ((branch : Branch) → LiesAhead (deadline branch)) → (bs : List Branch)
      → AreAhead now (map (λ branch. until (end branch) (deadline branch (received branch))) bs)
  branches-ahead p [] = tt
  branches-ahead p (branch ∷ bs) = (
    until-ahead now (end branch) (deadline branch (received branch))
        (subst (λ (m : ℕ). IsAhead m (deadline branch (received branch))) (same branch) (p branch (received branch))),
    branches-ahead p bs,
  )

  branch-met_now : (branch : Branch) → IsMet (effects_in branch) (deadline branch)
      → has_effects (effects_in branch (received branch ▸ Tick)) ≡ is_at (now + 1) (deadline branch (received branch))
  branch-met_now branch p =
      p (received branch) ∙ ap (λ m. is_at (m + 1) (deadline branch (received branch))) (same branch)

  branches-met : ((branch : Branch) → IsMet (effects_in branch) (deadline branch)) → (bs : List Branch) →
      AllByRecursion (λ branch. IsAhead now (end branch)) bs →
      has_effects (at_tick Tick effects_in received bs)
      ≡ list_any (is_at (now + 1)) (map (λ branch. until (end branch) (deadline branch (received branch))) bs)
  branches-met p [] ends = refl
  branches-met p (branch ∷ bs) ends =
      any-append (marked branch (effects_in branch (received branch ▸ Tick))) (at_tick Tick effects_in received bs)
      ∙ ap (λ t. t || has_effects (at_tick Tick effects_in received bs))
      (any-marked branch (effects_in branch (received branch ▸ Tick)) ∙ branch-met_now branch (p branch)
      ∙ sym (until-met now (end branch) (deadline branch (received branch)) ends.0))
      ∙ ap (λ t. is_at (now + 1) (until (end branch) (deadline branch (received branch))) || t)
      (branches-met p bs ends.1)

  abbrev before : Branch → Option ℕ
  before branch = until (end branch) (deadline branch (received branch))

  abbrev after : Branch → Option ℕ
  after branch = until (end branch) (deadline branch (received branch ▸ Tick))

  -- those that do not end at the tick
  abbrev left : List Branch → List Branch
  left bs = filter (λ branch. not (is_at (now + 1) (end branch))) bs

  -- a tick at which nothing is passed on below leaves the deadlines, and those of branches that end at it were none
  branches-stay : ((branch : Branch) → LiesAhead (deadline branch)) →
      ((branch : Branch) → IsMet (effects_in branch) (deadline branch)) →
      ((branch : Branch) → Stays (effects_in branch) (deadline branch)) →
      (bs : List Branch) → has_effects (at_tick Tick effects_in received bs) ≡ false →
      earliest (map after (left bs)) ≡ earliest (map before bs)
  branches-stay ahead met stays [] e = refl
  branches-stay ahead met stays (branch ∷ bs) e =
      let parts =
      or_false (has_effects (marked branch (effects_in branch (received branch ▸ Tick))))
      (has_effects (at_tick Tick effects_in received bs))
      (sym
      (any-append (marked branch (effects_in branch (received branch ▸ Tick))) (at_tick Tick effects_in received bs))
      ∙ e) in
      let silent : has_effects (effects_in branch (received branch ▸ Tick)) ≡ false =
      sym (any-marked branch (effects_in branch (received branch ▸ Tick))) ∙ parts.0 in
      step (is_at (now + 1) (end branch)) refl silent (branches-stay ahead met stays bs parts.1)
    where
      step : (t : Bool) → is_at (now + 1) (end branch) ≡ t →
          has_effects (effects_in branch (received branch ▸ Tick)) ≡ false →
          earliest (map after (left bs)) ≡ earliest (map before bs) →
          earliest (map after (cond (not t) (branch ∷ left bs) (left bs)))
          ≡ earlier (before branch) (earliest (map before bs))
      step true ends silent rest =
          rest ∙ sym (ap (λ d. earlier d (earliest (map before bs)))
          (until-ended now (end branch) (deadline branch (received branch)) ends
          (subst (λ (m : ℕ). IsAhead m (deadline branch (received branch))) (same branch)
          (ahead branch (received branch)))
          (sym (branch-met_now branch (met branch)) ∙ silent)))
      step false ends silent rest =
          ap (λ d. earlier (until (end branch) d) (earliest (map after (left bs))))
          (stays branch (received branch) silent)
          ∙ ap (earlier (before branch)) rest

-- ---- what a stream does at a tick

or_assoc_nothing : (es : List Emission) (below after : List Effect) → (is_any es ≡ false → after ≡ [])
    → has_effects (emits_if_any es ++ below ++ after) ≡ is_any es || has_effects below
or_assoc_nothing [] below after f =
    any-append below after ∙ ap (λ l. has_effects below || has_effects l) (f refl)
    ∙ sym (or_nothing (has_effects below))
or_assoc_nothing (emission ∷ more) below after f = refl

stream_happens : (kind : KindTree) (children otherwise : StreamTrees) (h : History) →
    has_effects (stream_effects (stream kind children otherwise) (h ▸ Tick))
    ≡ emits kind (h ▸ Tick)
    || has_effects (at_tick Tick (branch_effects (plan_effects children) (plan_effects otherwise))
    (λ branch. child_history kind branch h) (branches kind h))
stream_happens kind children otherwise h =
    let effects_in = branch_effects (plan_effects children) (plan_effects otherwise) in
    let received = λ (branch : Branch). child_history kind branch h in
    let es = emissions kind (h ▸ Tick) in
    or_assoc_nothing es (at_tick Tick effects_in received (branches kind h))
    (at_emissions effects_in (λ branch. received branch ▸ Tick) es)
    (no_emissions effects_in (λ branch. received branch ▸ Tick) es)

nothing_if : (es : List Emission) → is_any es ≡ false → es ≡ []
nothing_if [] e = refl
nothing_if (emission ∷ more) e = absurd (true≢false e)

quiet_branch : (kind : KindTree) (branch : Branch) (h : History) → emits kind (h ▸ Tick) ≡ false
    → child_history kind branch (h ▸ Tick) ≡ child_history kind branch h ▸ Tick
quiet_branch kind branch h e =
    ap (λ es. after_emissions branch es (child_history kind branch h ▸ Tick)) (nothing_if (emissions kind (h ▸ Tick)) e)

map-same : (f g : Branch → Option ℕ) → ((branch : Branch) → f branch ≡ g branch) → (bs : List Branch)
    → map f bs ≡ map g bs
map-same f g e [] = refl
map-same f g e (branch ∷ bs) = ap (λ d. d ∷ map f bs) (e branch) ∙ ap (λ more. g branch ∷ more) (map-same f g e bs)

-- ---- the branches that a tick leaves

same_end : (kind : KindTree) (branch : Branch) (h : History)
    → branch_end kind branch (h ▸ Tick) ≡ branch_end kind branch h
same_end (By fields idle) (Fork fork) h = refl
same_end kind branch h = refl

branches_left : (kind : KindTree) (h : History)
    → branches kind (h ▸ Tick)
    ≡ filter (λ branch. not (is_at (moment_of h + 1) (branch_end kind branch h))) (branches kind h)
branches_left (By fields idle) h =
    ap (map Fork) (live_at_tick idle fields h)
    ∙ map_filter Fork (λ branch. not (is_at (moment_of h + 1) (branch_end (By fields idle) branch h)))
    (live_forks idle fields h)
branches_left Index h = refl
branches_left kind h = refl

all_unmapped : {A B : Type 0} (P : B → Type 0) (f : A → B) (xs : List A) → AllByRecursion P (map f xs)
    → AllByRecursion (λ x. P (f x)) xs
all_unmapped P f [] all = tt
all_unmapped P f (x ∷ xs) all = (all.0, all_unmapped P f xs all.1)

forks_ahead : (secs : ℕ) (fields : List Field) (h : History) (forks : List KeyFork) →
    AllByRecursion (λ fork. is_recent secs (last_moment fields fork.key h) (moment_of h) ≡ true) forks →
    AllByRecursion (λ branch. IsAhead (moment_of h) (branch_end (By fields (Some secs)) branch h)) (map Fork forks)
forks_ahead secs fields h [] all = tt
forks_ahead secs fields h (fork ∷ forks) all =
    (ahead (last_moment fields fork.key h) all.0, forks_ahead secs fields h forks all.1)
  where
    ahead : (last : Option ℕ) → is_recent secs last (moment_of h) ≡ true
        → IsAhead (moment_of h) (idle_after (Some secs) last)
    ahead None e = tt
    ahead (Some last) e = below (moment_of h) (last + secs) e
      where
        below : (a b : ℕ) → nat_lt a b ≡ true → a < b
        below a b e = grind (arith, nat_tests)

endless : (fields : List Field) (h : History) (forks : List KeyFork)
    → AllByRecursion (λ branch. IsAhead (moment_of h) (branch_end (By fields None) branch h)) (map Fork forks)
endless fields h [] = tt
endless fields h (fork ∷ forks) = (tt, endless fields h forks)

-- the ends of all branches lie ahead
ends_ahead : (kind : KindTree) (h : History) → HasRange kind
    → AllByRecursion (λ branch. IsAhead (moment_of h) (branch_end kind branch h)) (branches kind h)
ends_ahead (By fields None) h range = endless fields h (live_forks None fields h)
ends_ahead (By fields (Some secs)) h range =
    forks_ahead secs fields h (live_forks (Some secs) fields h)
    (all_unmapped (λ key. is_recent secs (last_moment fields key h) (moment_of h) ≡ true) key_of_fork
    (live_forks (Some secs) fields h) (live_recent secs fields h range))
ends_ahead Index h range = (tt, (tt, tt))
ends_ahead kind h range = (tt, (tt, tt))

mutual
  pub stream_ahead : (s : StreamTree) (h : History) → HasStreamRanges s → IsAhead (moment_of h) (stream_deadline s h)
  stream_ahead (stream kind children otherwise) h ranges =
      let deadline = deadline_of (plan_deadline children) (plan_deadline otherwise) in
      let received = λ (branch : Branch). child_history kind branch h in
      let end = λ (branch : Branch). branch_end kind branch h in
      let deadlines = map (λ branch. until (end branch) (deadline branch (received branch))) (branches kind h) in
      ahead-earlier (moment_of h) (next_deadline kind h) (earliest deadlines)
      (deadlines_ahead kind h ranges.0)
      (ahead-earliest (moment_of h) deadlines
      (branches-ahead (branch_effects (plan_effects children) (plan_effects otherwise)) deadline end received
      (moment_of h) (λ branch. (branch_moments kind branch h).ends)
      (branch-ahead (plan_deadline children) (plan_deadline otherwise) (λ g. plan_ahead children g ranges.1)
      (λ g. plan_ahead otherwise g ranges.2))
      (branches kind h)))

  pub plan_ahead : (plan : StreamTrees) (h : History) → HasRanges plan → IsAhead (moment_of h) (plan_deadline plan h)
  plan_ahead none h ranges = tt
  plan_ahead (also first more) h ranges =
      ahead-earlier (moment_of h) (stream_deadline first h) (plan_deadline more h) (stream_ahead first h ranges.0)
      (plan_ahead more h ranges.1)

mutual
  stream_met : (s : StreamTree) (h : History) → HasStreamRanges s
      → has_effects (stream_effects s (h ▸ Tick)) ≡ is_at (moment_of h + 1) (stream_deadline s h)
  stream_met (stream kind children otherwise) h ranges =
      let effects_in = branch_effects (plan_effects children) (plan_effects otherwise) in
      let deadline = deadline_of (plan_deadline children) (plan_deadline otherwise) in
      let received = λ (branch : Branch). child_history kind branch h in
      let now = moment_of h in
      let same = λ (branch : Branch). (branch_moments kind branch h).ends in
      let end = λ (branch : Branch). branch_end kind branch h in
      let deadlines = map (λ branch. until (end branch) (deadline branch (received branch))) (branches kind h) in
      let ahead : AreAhead now deadlines = branches-ahead effects_in deadline end received now same
      (branch-ahead (plan_deadline children) (plan_deadline otherwise) (λ g. plan_ahead children g ranges.1)
      (λ g. plan_ahead otherwise g ranges.2))
      (branches kind h) in
      stream_happens kind children otherwise h
      ∙ ap (λ t. t || has_effects (at_tick Tick effects_in received (branches kind h))) (deadlines_met kind h ranges.0)
      ∙ ap (λ t. is_at (now + 1) (next_deadline kind h) || t)
      (branches-met effects_in deadline end received now same
      (branch-met (plan_effects children) (plan_effects otherwise) (plan_deadline children) (plan_deadline otherwise)
      (λ g. all_met children g ranges.1) (λ g. all_met otherwise g ranges.2))
      (branches kind h)
      (ends_ahead kind h ranges.0)
      ∙ sym (at-earliest now deadlines ahead))
      ∙ sym (at-earlier now (next_deadline kind h) (earliest deadlines) (deadlines_ahead kind h ranges.0)
      (ahead-earliest now deadlines ahead))

  all_met : (plan : StreamTrees) (h : History) → HasRanges plan
      → has_effects (plan_effects plan (h ▸ Tick)) ≡ is_at (moment_of h + 1) (plan_deadline plan h)
  all_met none h ranges = refl
  all_met (also first more) h ranges =
      any-append (stream_effects first (h ▸ Tick)) (plan_effects more (h ▸ Tick))
      ∙ ap (λ t. t || has_effects (plan_effects more (h ▸ Tick))) (stream_met first h ranges.0)
      ∙ ap (λ t. is_at (moment_of h + 1) (stream_deadline first h) || t) (all_met more h ranges.1)
      ∙ sym (at-earlier (moment_of h) (stream_deadline first h) (plan_deadline more h) (stream_ahead first h ranges.0)
      (plan_ahead more h ranges.1))

mutual
  stream_stays : (s : StreamTree) (h : History) → HasStreamRanges s → has_effects (stream_effects s (h ▸ Tick)) ≡ false
      → stream_deadline s (h ▸ Tick) ≡ stream_deadline s h
  stream_stays (stream kind children otherwise) h ranges silent =
      let effects_in = branch_effects (plan_effects children) (plan_effects otherwise) in
      let deadline = deadline_of (plan_deadline children) (plan_deadline otherwise) in
      let received = λ (branch : Branch). child_history kind branch h in
      let parts =
      or_false (emits kind (h ▸ Tick)) (has_effects (at_tick Tick effects_in received (branches kind h)))
      (sym (stream_happens kind children otherwise h) ∙ silent) in
      let end = λ (branch : Branch). branch_end kind branch h in
      let now =
      λ (branch : Branch).
      until (branch_end kind branch (h ▸ Tick)) (deadline branch (child_history kind branch (h ▸ Tick))) in
      let then = λ (branch : Branch). until (end branch) (deadline branch (received branch ▸ Tick)) in
      ap (λ own. earlier own (earliest (map now (branches kind (h ▸ Tick))))) (deadlines_stay kind h ranges.0 parts.0)
      ∙ ap (earlier (next_deadline kind h))
      (ap earliest (map-same now
      then (λ branch.
      ap (λ d. until (branch_end kind branch (h ▸ Tick)) (deadline branch d)) (quiet_branch kind branch h parts.0)
      ∙ ap (λ d. until d (deadline branch (received branch ▸ Tick))) (same_end kind branch h))
      (branches kind (h ▸ Tick))
      ∙ ap (map then) (branches_left kind h))
      ∙ branches-stay effects_in deadline end received (moment_of h) (λ branch. (branch_moments kind branch h).ends)
      (branch-ahead (plan_deadline children) (plan_deadline otherwise) (λ g. plan_ahead children g ranges.1)
      (λ g. plan_ahead otherwise g ranges.2))
      (branch-met (plan_effects children) (plan_effects otherwise) (plan_deadline children) (plan_deadline otherwise)
      (λ g. all_met children g ranges.1) (λ g. all_met otherwise g ranges.2))
      (branch-stays (plan_effects children) (plan_effects otherwise) (plan_deadline children) (plan_deadline otherwise)
      (λ g. all_stays children g ranges.1) (λ g. all_stays otherwise g ranges.2))
      (branches kind h) parts.1)

  all_stays : (plan : StreamTrees) (h : History) → HasRanges plan → has_effects (plan_effects plan (h ▸ Tick)) ≡ false
      → plan_deadline plan (h ▸ Tick) ≡ plan_deadline plan h
  all_stays none h ranges silent = refl
  all_stays (also first more) h ranges silent =
      let parts =
      or_false (has_effects (stream_effects first (h ▸ Tick))) (has_effects (plan_effects more (h ▸ Tick)))
      (sym (any-append (stream_effects first (h ▸ Tick)) (plan_effects more (h ▸ Tick))) ∙ silent) in
      ap (λ d. earlier d (plan_deadline more (h ▸ Tick))) (stream_stays first h ranges.0 parts.0)
      ∙ ap (earlier (stream_deadline first h)) (all_stays more h ranges.1 parts.1)

pub plan_met : PlanDeadlinesAreMet
plan_met plan h ranges = sym (plan_tick_rooted plan h) ∙ all_met plan h ranges

pub plan_stays : PlanDeadlinesStay
plan_stays plan h ranges silent = all_stays plan h ranges (plan_tick_rooted plan h ∙ silent)
