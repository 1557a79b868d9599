-- When something is due next, part by part.
use Rattle.std.proofs.Common.{◌≡◌, ℕ, zero, suc, ◌+◌, ◌<◌, ◌≤◌, ◌^◌, min, Bool, true, false, ◌||◌, eqb, List, [], ◌∷◌}
use Rattle.std.proofs.Common.{length, map, drop, get_or, Option, Some, None, is_some, refl, sym, ap, ◌∙◌, subst, arith}
use Rattle.std.specs.Prelude.{IfSome}
use Rattle.std.specs.List.{AllByRecursion, list_any, cons_option}
use Rattle.std.proofs.lemmas.Bool.{eq-eqb}
use Rattle.std.proofs.lemmas.List.{drop_more}
use Rattle.std.proofs.lemmas.List.Elements.{recursion_from_All}
use Rattle.std.proofs.lemmas.List.Folds.{list_any_at}
use Rattle.ev_types.specs.declared.value.Value.{Value}
use Rattle.fork_by.specs.declared.table.ForkTable.{ForkTable}
use Rattle.fork_by.specs.Table.{kept_forks, kept_dues, IsTable}
use Rattle.stream_plan.specs.declared.plan.Stream.{Stream, out-Stream}
use Rattle.stream_plan.specs.Search.{opened}
use Rattle.stream_plan.specs.Tree.{KindTree, By, StreamTree, StreamTrees, stream, kind_tree, list_trees}
use Rattle.stream_plan.proofs.Trees.{stream_tree-opened}
use Rattle.stream_meaning.specs.Branches.{child_history}
use Rattle.stream_meaning.specs.Deadlines.{next_deadline, earlier, earliest, deadline_of, branch_end, until}
use Rattle.stream_meaning.specs.Deadlines.{stream_deadline, plan_deadline}
use Rattle.stream_meaning.specs.Emission.{Branch, Children, Otherwise}
use Rattle.stream_meaning.specs.Ends.{idle_after}
use Rattle.stream_meaning.specs.History.{History, moment_of}
use Rattle.stream_meaning.proofs.KeptEvents.{all-weaker}
use Rattle.stream_meaning.proofs.MomentLaws.{branch_moments}
use Rattle.stream_step.specs.declared.state.State.{State}
use Rattle.stream_step.specs.Step.{StateRepresents}
use Rattle.tick_schedule.specs.Queue.{IsLeast}
use Rattle.stream_tree.specs.declared.forest.Forest.{Forest}
use Rattle.stream_tree.specs.declared.forest.Node.{Node}
use Rattle.stream_tree.specs.Forest.{Meaning, Below, first_of, forked_by, live_by, key_fork, IsFork, ForksRepresent}
use Rattle.stream_tree.specs.Forest.{BelowRepresents, PartsRepresent, NodeRepresents, ForestRepresents}
use Rattle.stream_tree.specs.Running.{branches_by}
use Rattle.stream_tree.proofs.BareLaws.{never_due, bare_after}
use Rattle.stream_tree.proofs.KeptLaws.{Kept, eqb-is, map-map, map-pointwise}
use Rattle.stream_tree.proofs.LiveLaws.{branches_are}

-- ---- the lesser of two

earlier-assoc : (a b c : Option ℕ) → earlier (earlier a b) c ≡ earlier a (earlier b c)
earlier-assoc None b c = refl
earlier-assoc (Some a) None c = refl
earlier-assoc (Some a) (Some b) None = refl
earlier-assoc (Some a) (Some b) (Some c) = let less : min (min a b) c ≡ min a (min b c) = omega arith in ap Some less

earlier-none : (a : Option ℕ) → earlier a None ≡ a
earlier-none None = refl
earlier-none (Some a) = refl

earlier_less : (m : ℕ) (rest : Option ℕ) → IfSome rest (λ d. m ≤ d) → earlier (Some m) rest ≡ Some m
earlier_less m None above = refl
earlier_less m (Some d) above = let least : min m d ≡ m = omega (arith, above) in ap Some least

earlier_more : (m : ℕ) (first : Option ℕ) → IfSome first (λ d. m ≤ d) → earlier first (Some m) ≡ Some m
earlier_more m None above = refl
earlier_more m (Some d) above = let least : min d m ≡ m = omega (arith, above) in ap Some least

both_above : (m : ℕ) (a b : Option ℕ) → IfSome a (λ d. m ≤ d) → IfSome b (λ d. m ≤ d)
    → IfSome (earlier a b) (λ d. m ≤ d)
both_above m None b p q = q
both_above m (Some a) None p q = p
both_above m (Some a) (Some b) p q = omega (arith, p, q)

-- ---- the least of moments

least_of : (m : ℕ) (ms : List ℕ) → AllByRecursion (λ other. m ≤ other) ms → list_any (λ other. eqb other m) ms ≡ true
    → earliest (map Some ms) ≡ Some m
least_of m [] above there = cc
least_of m (x ∷ ms) above there = step (eqb x m) refl there (least_of m ms above.1)
  where
    all_above : (ms : List ℕ) → AllByRecursion (λ other. m ≤ other) ms → IfSome (earliest (map Some ms)) (λ d. m ≤ d)
    all_above [] above = tt
    all_above (x ∷ ms) above = both_above m (Some x) (earliest (map Some ms)) above.0 (all_above ms above.1)

    step : (b : Bool) → eqb x m ≡ b → b || list_any (λ other. eqb other m) ms ≡ true
        → (list_any (λ other. eqb other m) ms ≡ true → earliest (map Some ms) ≡ Some m)
        → earliest (map Some (x ∷ ms)) ≡ Some m
    step true e there rest =
        ap (λ (n : ℕ). earlier (Some n) (earliest (map Some ms))) (eqb-is x m e)
        ∙ earlier_less m (earliest (map Some ms)) (all_above ms above.1)
    step false e there rest = ap (earlier (Some x)) (rest there) ∙ earlier_more m (Some x) above.0

least_is : (ms : List ℕ) (next : Option ℕ) → IsLeast ms next → next ≡ earliest (map Some ms)
least_is ms None least = ap (λ (l : List ℕ). earliest (map Some l)) (sym least)
least_is ms (Some m) least =
    sym (least_of m ms (recursion_from_All (λ other. m ≤ other) ms least.1)
    (list_any_at (λ other. eqb other m) ms least.0.0 m least.0.1 (eq-eqb _ m least.0.2)))

-- forks without a due moment count for nothing
dues_alone : (ks : List Kept) → earliest (map Some (kept_dues ks)) ≡ earliest (map (λ (k : Kept). k.due) ks)
dues_alone [] = refl
dues_alone (k ∷ ks) = step k.due (dues_alone ks)
  where
    step : (due : Option ℕ) → earliest (map Some (kept_dues ks)) ≡ earliest (map (λ (k : Kept). k.due) ks)
        → earliest (map Some (cons_option due (kept_dues ks))) ≡ earlier due (earliest (map (λ (k : Kept). k.due) ks))
    step None rest = rest
    step (Some m) rest = ap (earlier (Some m)) rest

-- what the table says of the least moment of its forks
pub next_is : (Means : Meaning) (deadline : History → Option ℕ) (idle : Option ℕ) (keys : List (List Value))
    (last : List Value → Option ℕ) (received : List Value → History) (forks : ForkTable Forest) (next : Option ℕ) →
    ForksRepresent Means deadline idle keys last received forks →
    (IsTable forks → IsLeast (kept_dues (kept_forks forks)) next) →
    next ≡ earliest (map (λ key. until (idle_after idle (last key)) (deadline (received key))) keys)
next_is Means deadline idle keys last received forks next represents least =
    let ks = kept_forks forks in
    let cut = λ (key : List Value). until (idle_after idle (last key)) (deadline (received key)) in
    least_is (kept_dues ks) next (least represents.is_table) ∙ dues_alone ks
    ∙ ap earliest
    (map-pointwise (λ (k : Kept). k.due) (λ (k : Kept). cut k.key) ks
    (all-weaker (λ k. IsFork Means deadline idle (last k.key) (received k.key) k) (λ (k : Kept). k.due ≡ cut k.key)
    (λ k is. is.due_is) ks represents.each)
    ∙ sym (map-map cut (λ (k : Kept). k.key) ks) ∙ ap (map cut) represents.keys_are)

-- ---- what is below a stream

plain_below : (kind : KindTree) (texts : List (List ℕ)) (plan beside : StreamTrees) (first : ℕ)
    (h : History) (below : Below) (one two : Option ℕ) →
    is_some (forked_by kind) ≡ false →
    BelowRepresents texts plan first (ForestRepresents texts plan) (ForestRepresents texts beside) (forked_by kind)
    (live_by kind h) (λ branch. child_history kind branch h) below →
    (ForestRepresents texts plan below.children (child_history kind Children h) →
    one ≡ plan_deadline plan (child_history kind Children h)) →
    (ForestRepresents texts beside below.otherwise (child_history kind Otherwise h) →
    two ≡ plan_deadline beside (child_history kind Otherwise h)) →
    earlier one two
    ≡ earliest (map (λ branch. until (branch_end kind branch h)
    (deadline_of (plan_deadline plan) (plan_deadline beside) branch (child_history kind branch h)))
    (branches_by (forked_by kind) (live_by kind h)))
plain_below (By fields idle) texts plan beside first h below one two plain represents first_is second_is = absurd (cc)
plain_below kind texts plan beside first h below one two plain represents first_is second_is =
    ap (λ (d : Option ℕ). earlier d two) (first_is represents.children)
    ∙ ap (earlier (plan_deadline plan (child_history kind Children h)))
    (second_is represents.otherwise ∙ sym (earlier-none (plan_deadline beside (child_history kind Otherwise h))))

forked_below : (kind : KindTree) (texts : List (List ℕ)) (plan beside : StreamTrees) (first : ℕ)
    (h : History) (below : Below) (next : Option ℕ) →
    is_some (forked_by kind) ≡ true →
    BelowRepresents texts plan first (ForestRepresents texts plan) (ForestRepresents texts beside) (forked_by kind)
    (live_by kind h) (λ branch. child_history kind branch h) below →
    (IsTable below.forks → IsLeast (kept_dues (kept_forks below.forks)) next) →
    next
    ≡ earliest (map (λ branch. until (branch_end kind branch h)
    (deadline_of (plan_deadline plan) (plan_deadline beside) branch (child_history kind branch h)))
    (branches_by (forked_by kind) (live_by kind h)))
forked_below (By fields idle) texts plan beside first h below next forked represents least =
    let live = live_by (By fields idle) h in
    let cut = λ (branch : Branch).
    until (branch_end (By fields idle) branch h)
    (deadline_of (plan_deadline plan) (plan_deadline beside) branch (child_history (By fields idle) branch h)) in
    next_is (ForestRepresents texts plan) (plan_deadline plan) idle live.keys live.last
    (λ key. child_history (By fields idle) (key_fork live key) h) below.forks next represents.forks least
    ∙ ap earliest (sym (map-map cut (key_fork live) live.keys))
forked_below kind texts plan beside first h below next forked represents least = absurd (cc)

-- ---- one stream

small_below : (kind : KindTree) (branch : Branch) (h : History) → moment_of h ≤ 2 ^ 40
    → moment_of (child_history kind branch h) ≤ 2 ^ 40
small_below kind branch h small = subst (λ (m : ℕ). m ≤ 2 ^ 40) (sym (branch_moments kind branch h).ends) small

abbrev DueOf : StreamTrees → List Node → Option ℕ → Type 0
DueOf plan nodes due =
    (texts : List (List ℕ)) (h : History) → ForestRepresents texts plan nodes h → moment_of h ≤ 2 ^ 40
    → due ≡ plan_deadline plan h

abbrev OwnDue : State → Option ℕ → Type 0
OwnDue state due =
    (texts : List (List ℕ)) (kind : KindTree) (h : History) → StateRepresents texts kind state h → moment_of h ≤ 2 ^ 40
    → due ≡ next_deadline kind h

parts_plain : (kind : KindTree) (children otherwise : StreamTrees) (state : State) (below : Below)
    (own one two : Option ℕ) →
    is_some (forked_by kind) ≡ false → OwnDue state own → DueOf children below.children one →
    DueOf otherwise below.otherwise two →
    (texts : List (List ℕ)) (h : History) → PartsRepresent texts (stream kind children otherwise) state below h →
    moment_of h ≤ 2 ^ 40 → earlier own (earlier one two) ≡ stream_deadline (stream kind children otherwise) h
parts_plain kind children otherwise state below own one two plain own_is one_is two_is texts h represents small =
    let cut =
    λ (branch : Branch).
    until (branch_end kind branch h)
    (deadline_of (plan_deadline children) (plan_deadline otherwise) branch (child_history kind branch h)) in
    ap (λ (d : Option ℕ). earlier d (earlier one two)) (own_is texts kind h represents.0 small)
    ∙ ap (earlier (next_deadline kind h))
    (plain_below kind texts children otherwise (first_of state) h below one two plain represents.1
    (λ here. one_is texts (child_history kind Children h) here (small_below kind Children h small))
    (λ here. two_is texts (child_history kind Otherwise h) here (small_below kind Otherwise h small))
    ∙ ap (λ (bs : List Branch). earliest (map cut bs)) (sym (branches_are kind h)))

parts_forked : (kind : KindTree) (children otherwise : StreamTrees) (state : State) (below : Below)
    (own next : Option ℕ) →
    is_some (forked_by kind) ≡ true → OwnDue state own →
    (IsTable below.forks → IsLeast (kept_dues (kept_forks below.forks)) next) →
    (texts : List (List ℕ)) (h : History) → PartsRepresent texts (stream kind children otherwise) state below h →
    moment_of h ≤ 2 ^ 40 → earlier own next ≡ stream_deadline (stream kind children otherwise) h
parts_forked kind children otherwise state below own next forked own_is least texts h represents small =
    let cut =
    λ (branch : Branch).
    until (branch_end kind branch h)
    (deadline_of (plan_deadline children) (plan_deadline otherwise) branch (child_history kind branch h)) in
    ap (λ (d : Option ℕ). earlier d next) (own_is texts kind h represents.0 small)
    ∙ ap (earlier (next_deadline kind h))
    (forked_below kind texts children otherwise (first_of state) h below next forked represents.1 least
    ∙ ap (λ (bs : List Branch). earliest (map cut bs)) (sym (branches_are kind h)))

pub node_plain : (s : Stream) (children otherwise : List Stream) (state : State) (below : Below)
    (own one two : Option ℕ) →
    is_some (forked_by (kind_tree (out-Stream s).kind)) ≡ false → children ≡ (out-Stream s).children.items →
    otherwise ≡ (out-Stream s).otherwise.items → OwnDue state own → DueOf (list_trees children) below.children one →
    DueOf (list_trees otherwise) below.otherwise two →
    (texts : List (List ℕ)) (h : History) → PartsRepresent texts (opened s) state below h → moment_of h ≤ 2 ^ 40 →
    earlier own (earlier one two) ≡ stream_deadline (opened s) h
unfolding opened
node_plain s children otherwise state below own one two plain children_is otherwise_is own_is one_is two_is =
    parts_plain (kind_tree (out-Stream s).kind) (list_trees (out-Stream s).children.items)
    (list_trees (out-Stream s).otherwise.items) state below own one two plain own_is
    (subst (λ (l : List Stream). DueOf (list_trees l) below.children one) children_is one_is)
    (subst (λ (l : List Stream). DueOf (list_trees l) below.otherwise two) otherwise_is two_is)

pub node_forked : (s : Stream) (state : State) (below : Below) (own next : Option ℕ) →
    is_some (forked_by (kind_tree (out-Stream s).kind)) ≡ true → OwnDue state own →
    (IsTable below.forks → IsLeast (kept_dues (kept_forks below.forks)) next) →
    (texts : List (List ℕ)) (h : History) → PartsRepresent texts (opened s) state below h → moment_of h ≤ 2 ^ 40 →
    earlier own next ≡ stream_deadline (opened s) h
unfolding opened
node_forked s state below own next forked own_is least =
    parts_forked (kind_tree (out-Stream s).kind) (list_trees (out-Stream s).children.items)
    (list_trees (out-Stream s).otherwise.items) state below own next forked own_is least

-- ---- a list of streams

pub node_at : (texts : List (List ℕ)) (h : History) (streams : List Stream) (nodes : List Node) (i : ℕ) (s : Stream)
    (node : Node) →
    i < length streams → i < length nodes → ForestRepresents texts (list_trees streams) nodes h →
    NodeRepresents texts (opened (get_or streams i s)) (get_or nodes i node) h
node_at texts h [] nodes i s node within within' represents = absurd (omega (arith, within))
node_at texts h (first ∷ streams) [] i s node within within' represents = absurd (omega (arith, within'))
node_at texts h (first ∷ streams) (other ∷ nodes) zero s node within within' represents =
    subst (λ (t : StreamTree). NodeRepresents texts t other h) (stream_tree-opened first) represents.0
node_at texts h (first ∷ streams) (other ∷ nodes) (suc i) s node within within' represents =
    node_at texts h streams nodes i s node (omega (arith, within)) (omega (arith, within')) represents.1

plan_deadline-drop : (streams : List Stream) (i : ℕ) (s : Stream) (h : History) → i < length streams →
    plan_deadline (list_trees (drop i streams)) h
    ≡ earlier (stream_deadline (opened (get_or streams i s)) h) (plan_deadline (list_trees (drop (i + 1) streams)) h)
plan_deadline-drop streams i s h within =
    ap (λ (l : List Stream). plan_deadline (list_trees l) h) (drop_more streams i s within)
    ∙ ap (λ (t : StreamTree). earlier (stream_deadline t h) (plan_deadline (list_trees (drop (i + 1) streams)) h))
    (stream_tree-opened (get_or streams i s))

-- with the moments of the streams from number i on, it is the least of all
abbrev pub DueSoFar : List Stream → List Node → ℕ → Option ℕ → Type 0
DueSoFar streams nodes i due =
    (texts : List (List ℕ)) (h : History) → ForestRepresents texts (list_trees streams) nodes h → moment_of h ≤ 2 ^ 40 →
    earlier due (plan_deadline (list_trees (drop i streams)) h) ≡ plan_deadline (list_trees streams) h

pub due_begins : (streams : List Stream) (nodes : List Node) → DueSoFar streams nodes 0 None
due_begins streams nodes texts h represents small = refl

pub due_more : (streams : List Stream) (nodes : List Node) (i : ℕ) (due one next : Option ℕ) (s : Stream)
    (node other : Node) →
    i < length streams → i < length nodes → s ≡ get_or streams i s → node ≡ get_or nodes i other →
    DueSoFar streams nodes i due →
    ((texts : List (List ℕ)) (h : History) → NodeRepresents texts (opened s) node h → moment_of h ≤ 2 ^ 40 →
    one ≡ stream_deadline (opened s) h) →
    next ≡ earlier due one → DueSoFar streams nodes (i + 1) next
due_more streams nodes i due one next s node other within within' is is' so_far one_is next_is texts h represents
    small =
    let at_place : NodeRepresents texts (opened (get_or streams i s)) (get_or nodes i other) h =
    node_at texts h streams nodes i s other within within' represents in
    let here : NodeRepresents texts (opened s) node h =
    subst (λ (n : Node). NodeRepresents texts (opened s) n h) (sym is')
    (subst (λ (r : Stream). NodeRepresents texts (opened r) (get_or nodes i other) h) (sym is) at_place) in
    let rest = plan_deadline (list_trees (drop (i + 1) streams)) h in
    ap (λ (d : Option ℕ). earlier d rest) next_is
    ∙ earlier-assoc due one rest
    ∙ ap (λ (d : Option ℕ). earlier due (earlier d rest))
    (one_is texts h here small ∙ ap (λ (r : Stream). stream_deadline (opened r) h) is)
    ∙ ap (earlier due) (sym (plan_deadline-drop streams i s h within))
    ∙ so_far texts h represents small

pub due_all : (streams : List Stream) (nodes : List Node) (i : ℕ) (due : Option ℕ) →
    min (length streams) (length nodes) ≤ i → DueSoFar streams nodes i due →
    (texts : List (List ℕ)) (h : History) → ForestRepresents texts (list_trees streams) nodes h → moment_of h ≤ 2 ^ 40 →
    due ≡ plan_deadline (list_trees streams) h
due_all streams nodes i due past so_far texts h represents small =
    let bare = bare_after texts h streams nodes i past represents in
    sym (earlier-none due) ∙ ap (earlier due) (sym (never_due (list_trees (drop i streams)) h bare))
    ∙ so_far texts h represents small
