-- What streams do with an event that they need not see, and that they are then as they were.
use Rattle.std.proofs.Common.{◌≡◌, ℕ, zero, suc, ◌+◌, ◌<◌, ◌≤◌, min, Bool, true, false, cond, eqb, List, [], ◌∷◌, ◌++◌}
use Rattle.std.proofs.Common.{length, drop, get_or, refl, sym, ap, ◌∙◌, subst, arith}
use Rattle.std.proofs.lemmas.List.{append-nil, drop_more}
use mathlib.Core.Bool.{true≢false}
use Rattle.ev_types.specs.declared.event.Event.{Event}
use Rattle.ev_types.specs.declared.item.Item.TheVariants.{One}
use Rattle.ev_types.specs.declared.item.Output.TheVariants.{Write as write}
use Rattle.pred_eval.specs.Search.{AreReadFrom}
use Rattle.pred_eval.specs.Tree.{Tree as RuleTree}
use Rattle.pred_eval.specs.Truth.{holds}
use Rattle.regex.specs.declared.string.regex.Regex.{Regex}
use Rattle.stream_plan.specs.declared.plan.Stream.{Stream, out-Stream}
use Rattle.stream_plan.specs.Ready.{plan_patterns}
use Rattle.stream_plan.specs.Search.{opened}
use Rattle.stream_plan.specs.Tree.{KindTree, Index, Notice, Sdo, Where, StreamTree, StreamTrees, stream, none, also}
use Rattle.stream_plan.specs.Tree.{kind_tree, stream_tree, list_trees}
use Rattle.stream_plan.proofs.Trees.{stream_tree-opened}
use Rattle.stream_meaning.specs.Branches.{after_emissions, child_history}
use Rattle.stream_meaning.specs.declared.entry.Entry.{Entry}
use Rattle.stream_meaning.specs.declared.entry.Entry.TheVariants.{Item as In}
use Rattle.stream_meaning.specs.Emission.{Branch, Children, Otherwise, to}
use Rattle.stream_meaning.specs.History.{History, ◌▸◌}
use Rattle.stream_meaning.specs.Outputs.{Effect, Put, branch_effects, at_emissions, stream_effects, plan_effects}
use Rattle.stream_step.specs.declared.state.State.{State}
use Rattle.stream_step.specs.declared.state.State.TheVariants as variant
use Rattle.stream_step.specs.stream_states.Kept.{keeps}
use Rattle.stream_step.specs.Step.{HasNumbers, StateRepresents}
use Rattle.stream_step.proofs.KeptLaws.{kept_keeps}
use Rattle.stream_tree.specs.declared.forest.Node.{Node, out-Node}
use Rattle.stream_tree.specs.declared.tree.Tree.{Tree}
use Rattle.stream_tree.specs.declared.unseen.Unseen.{Unseen}
use Rattle.stream_tree.specs.declared.unseen.Unseen.TheVariants.{Nothing, Write, Needed}
use Rattle.stream_tree.specs.Forest.{AllBare, nodes_of, Below, node_below, PlainRepresents, PartsRepresent}
use Rattle.stream_tree.specs.Forest.{NodeRepresents, ForestRepresents}
use Rattle.stream_tree.specs.Tree.{plan_of, Represents}
use Rattle.stream_tree.specs.Unseen.{is_one_index, is_looking, both, stream_unseen, plan_unseen}
use Rattle.stream_tree.proofs.BareLaws.{bare_after}
use Rattle.stream_tree.proofs.NextLaws.{node_at}

-- ---- two answers

both-assoc : (a b c : Unseen) → both (both a b) c ≡ both a (both b c)
both-assoc Nothing b c = refl
both-assoc Write Nothing c = refl
both-assoc Write Write Nothing = refl
both-assoc Write Write Write = refl
both-assoc Write Write Needed = refl
both-assoc Write Needed c = refl
both-assoc Needed b c = refl

both-needed : (a : Unseen) → both a Needed ≡ Needed
both-needed Nothing = refl
both-needed Write = refl
both-needed Needed = refl

-- the event is not needed
abbrev pub IsUnseen : Unseen → Type 0
IsUnseen unseen = unseen ≡ Needed → ⊥

first_unseen : (a b : Unseen) → IsUnseen (both a b) → IsUnseen a
first_unseen Nothing b seen = λ e. cc
first_unseen Write b seen = λ e. cc
first_unseen Needed b seen = seen

more_unseen : (a b : Unseen) → IsUnseen (both a b) → IsUnseen b
more_unseen Nothing b seen = seen
more_unseen Write Nothing seen = λ e. cc
more_unseen Write Write seen = λ e. cc
more_unseen Write Needed seen = seen
more_unseen Needed b seen = absurd (seen refl)

-- ---- effects

abbrev pub effects_unseen : Unseen → Event → List Effect
effects_unseen Write event = Put (write event) ∷ []
effects_unseen unseen event = []

both_effects : (a b : Unseen) (event : Event) → IsUnseen (both a b)
    → effects_unseen a event ++ effects_unseen b event ≡ effects_unseen (both a b) event
both_effects Nothing b event seen = refl
both_effects Write Nothing event seen = refl
both_effects Write Write event seen = absurd (seen refl)
both_effects Write Needed event seen = absurd (seen refl)
both_effects Needed b event seen = absurd (seen refl)

-- an event that goes to one of two branches has the effects of that branch alone
branch_unseen : (met : Bool) (children otherwise : StreamTrees) (received : Branch → History) (event : Event) →
    IsUnseen (cond met (plan_unseen children event) (plan_unseen otherwise event)) →
    ((h : History) → IsUnseen (plan_unseen children event) →
    plan_effects children (h ▸ In (One event)) ≡ effects_unseen (plan_unseen children event) event) →
    ((h : History) → IsUnseen (plan_unseen otherwise event) →
    plan_effects otherwise (h ▸ In (One event)) ≡ effects_unseen (plan_unseen otherwise event) event) →
    at_emissions (branch_effects (plan_effects children) (plan_effects otherwise)) received
    (to (cond met Children Otherwise) (One event))
    ≡ effects_unseen (cond met (plan_unseen children event) (plan_unseen otherwise event)) event
branch_unseen true children otherwise received event seen first second =
    append-nil (plan_effects children (received Children ▸ In (One event))) ∙ first (received Children) seen
branch_unseen false children otherwise received event seen first second =
    append-nil (plan_effects otherwise (received Otherwise ▸ In (One event))) ∙ second (received Otherwise) seen

mutual
  stream_unseen_effects : (s : StreamTree) (h : History) (event : Event) → IsUnseen (stream_unseen s event)
      → stream_effects s (h ▸ In (One event)) ≡ effects_unseen (stream_unseen s event) event
  stream_unseen_effects (stream Index children otherwise) h event seen = refl
  stream_unseen_effects (stream Sdo children otherwise) h event seen =
      append-nil (plan_effects children (child_history Sdo Children h ▸ In (One event)))
      ∙ plan_unseen_effects children (child_history Sdo Children h) event seen
  stream_unseen_effects (stream (Where rule) children otherwise) h event seen =
      branch_unseen (holds rule event) children otherwise (λ branch. child_history (Where rule) branch h) event seen
      (λ g unseen. plan_unseen_effects children g event unseen)
      (λ g unseen. plan_unseen_effects otherwise g event unseen)
  stream_unseen_effects (stream kind children otherwise) h event seen = absurd (seen refl)

  pub plan_unseen_effects : (plan : StreamTrees) (h : History) (event : Event) → IsUnseen (plan_unseen plan event)
      → plan_effects plan (h ▸ In (One event)) ≡ effects_unseen (plan_unseen plan event) event
  plan_unseen_effects none h event seen = refl
  plan_unseen_effects (also first more) h event seen =
      let one = stream_unseen first event in
      let rest = plan_unseen more event in
      ap (λ (es : List Effect). es ++ plan_effects more (h ▸ In (One event)))
      (stream_unseen_effects first h event (first_unseen one rest seen))
      ∙ ap (λ (es : List Effect). effects_unseen one event ++ es)
      (plan_unseen_effects more h event (more_unseen one rest seen))
      ∙ both_effects one rest event seen

-- ---- nodes

-- the state of a kind that keeps nothing stays
plain_stays : (texts : List (List ℕ)) (kind : KindTree) (state : State) (h : History) (x : Entry) →
    keeps kind ≡ false → StateRepresents texts kind state h → StateRepresents texts kind state (h ▸ x)
plain_stays texts kind (variant.Kept held) h x plain represents =
    absurd (true≢false (sym (kept_keeps held) ∙ ap keeps represents.keeps.same_kind ∙ plain))
plain_stays texts kind state h x plain represents =
    record { in_range = represents.in_range; keeps = represents.keeps }

abbrev Stays : List (List ℕ) → StreamTrees → Event → Type 0
Stays texts plan event = (nodes : List Node) (h : History) → IsUnseen (plan_unseen plan event) →
    ForestRepresents texts plan nodes h → ForestRepresents texts plan nodes (h ▸ In (One event))

branch_stays : (texts : List (List ℕ)) (met : Bool) (children otherwise : StreamTrees) (received : Branch → History)
    (below : Below) (event : Event) →
    IsUnseen (cond met (plan_unseen children event) (plan_unseen otherwise event)) →
    Stays texts children event → Stays texts otherwise event →
    PlainRepresents (ForestRepresents texts children) (ForestRepresents texts otherwise) received below →
    PlainRepresents (ForestRepresents texts children) (ForestRepresents texts otherwise)
    (λ branch. after_emissions branch (to (cond met Children Otherwise) (One event)) (received branch)) below
branch_stays texts true children otherwise received below event seen first second represents = record {
  children = first below.children (received Children) seen represents.children;
  otherwise = represents.otherwise;
  is_table = represents.is_table;
  no_forks = represents.no_forks;
}
branch_stays texts false children otherwise received below event seen first second represents = record {
  children = represents.children;
  otherwise = second below.otherwise (received Otherwise) seen represents.otherwise;
  is_table = represents.is_table;
  no_forks = represents.no_forks;
}

mutual
  parts_stay : (texts : List (List ℕ)) (s : StreamTree) (state : State) (below : Below) (h : History) (event : Event)
      → IsUnseen (stream_unseen s event) → PartsRepresent texts s state below h
      → PartsRepresent texts s state below (h ▸ In (One event))
  parts_stay texts (stream Index children otherwise) state below h event seen represents =
      (plain_stays texts Index state h (In (One event)) refl represents.0, represents.1)
  parts_stay texts (stream Sdo children otherwise) state below h event seen represents = (
    plain_stays texts Sdo state h (In (One event)) refl represents.0,
    record {
      children =
          forest_stays texts children event below.children (child_history Sdo Children h) seen represents.1.children;
      otherwise = represents.1.otherwise;
      is_table = represents.1.is_table;
      no_forks = represents.1.no_forks;
    },
  )
  parts_stay texts (stream (Where rule) children otherwise) state below h event seen represents = (
    plain_stays texts (Where rule) state h (In (One event)) refl represents.0,
    branch_stays texts (holds rule event) children otherwise (λ branch. child_history (Where rule) branch h) below event
        seen (λ nodes g unseen here. forest_stays texts children event nodes g unseen here)
        (λ nodes g unseen here. forest_stays texts otherwise event nodes g unseen here) represents.1,
  )
  parts_stay texts (stream kind children otherwise) state below h event seen represents = absurd (seen refl)

  pub forest_stays : (texts : List (List ℕ)) (plan : StreamTrees) (event : Event) → Stays texts plan event
  forest_stays texts plan event [] h seen represents = represents
  forest_stays texts none event (node ∷ nodes) h seen represents = absurd represents
  forest_stays texts (also first more) event (node ∷ nodes) h seen represents =
      let one = stream_unseen first event in
      let rest = plan_unseen more event in (
        parts_stay texts first (out-Node node).state (node_below node) h event (first_unseen one rest seen)
            represents.0,
        forest_stays texts more event nodes h (more_unseen one rest seen) represents.1,
      )

-- ---- what the code answers

-- the answer is what the streams do wherever they represent a history
abbrev pub UnseenIs : List Regex → StreamTrees → List Node → Event → Unseen → Type 0
UnseenIs patterns plan nodes event unseen = (texts : List (List ℕ)) (h : History) → AreReadFrom texts patterns →
    ForestRepresents texts plan nodes h → unseen ≡ plan_unseen plan event

where_numbers : (texts : List (List ℕ)) (rule : RuleTree) (state : State) (h : History)
    → StateRepresents texts (Where rule) state h → HasNumbers texts (Where rule) state
where_numbers texts rule (variant.Kept held) h represents =
    absurd (true≢false (sym (kept_keeps held) ∙ ap keeps represents.keeps.same_kind))
where_numbers texts rule state h represents = represents.keeps

abbrev pub PartsAnswer : List Regex → StreamTree → State → Below → Event → Unseen → Type 0
PartsAnswer patterns s state below event unseen = (texts : List (List ℕ)) (h : History) → AreReadFrom texts patterns →
    PartsRepresent texts s state below h → unseen ≡ stream_unseen s event

module _ (patterns : List Regex) (s : Stream) (state : State) (below : Below) (event : Event) (unseen : Unseen) where
  abbrev children : StreamTrees
  children = list_trees (out-Stream s).children.items

  abbrev otherwise : StreamTrees
  otherwise = list_trees (out-Stream s).otherwise.items

  opened_answer : (kind : KindTree) → kind_tree (out-Stream s).kind ≡ kind →
      PartsAnswer patterns (stream kind children otherwise) state below event unseen →
      PartsAnswer patterns (opened s) state below event unseen
  unfolding opened
  opened_answer kind is answer =
      subst (λ (k : KindTree). PartsAnswer patterns (stream k children otherwise) state below event unseen) (sym is)
      answer

  pub index_answers : kind_tree (out-Stream s).kind ≡ Index → unseen ≡ Write →
      PartsAnswer patterns (opened s) state below event unseen
  index_answers is written = opened_answer Index is (λ texts h from represents. written)

  pub sdo_answers : (streams : List Stream) → kind_tree (out-Stream s).kind ≡ Sdo →
      streams ≡ (out-Stream s).children.items →
      UnseenIs patterns (list_trees streams) below.children event unseen →
      PartsAnswer patterns (opened s) state below event unseen
  sdo_answers streams is same answer =
      let answer' =
      subst (λ (l : List Stream). UnseenIs patterns (list_trees l) below.children event unseen) same answer in
      opened_answer Sdo is
      (λ texts h from represents. answer' texts (child_history Sdo Children h) from represents.1.children)

  -- the rule was asked, and this is its answer
  abbrev IsMet : RuleTree → Bool → Type 0
  IsMet rule met = (texts : List (List ℕ)) → AreReadFrom texts patterns → HasNumbers texts (Where rule) state →
      met ≡ holds rule event

  by_rule : (rule : RuleTree) (met : Bool) → kind_tree (out-Stream s).kind ≡ Where rule → IsMet rule met →
      ((texts : List (List ℕ)) (h : History) → AreReadFrom texts patterns →
      PlainRepresents (ForestRepresents texts children) (ForestRepresents texts otherwise)
      (λ branch. child_history (Where rule) branch h) below →
      unseen ≡ cond met (plan_unseen children event) (plan_unseen otherwise event)) →
      PartsAnswer patterns (opened s) state below event unseen
  by_rule rule met is asked answer =
      opened_answer (Where rule) is
      (λ texts h from represents.
      answer texts h from represents.1
      ∙ ap (λ (b : Bool). cond b (plan_unseen children event) (plan_unseen otherwise event))
      (asked texts from (where_numbers texts rule state h represents.0)))

  pub where_answers : (rule : RuleTree) (streams : List Stream) (met : Bool) →
      kind_tree (out-Stream s).kind ≡ Where rule → streams ≡ (out-Stream s).children.items →
      IsMet rule met → met ≡ true → UnseenIs patterns (list_trees streams) below.children event unseen →
      PartsAnswer patterns (opened s) state below event unseen
  where_answers rule streams met is same asked holds answer =
      let answer' =
      subst (λ (l : List Stream). UnseenIs patterns (list_trees l) below.children event unseen) same answer in
      by_rule rule true is (λ texts from numbers. sym holds ∙ asked texts from numbers)
      (λ texts h from represents. answer' texts (child_history (Where rule) Children h) from represents.children)

  pub else_answers : (rule : RuleTree) (streams : List Stream) (met : Bool) →
      kind_tree (out-Stream s).kind ≡ Where rule → streams ≡ (out-Stream s).otherwise.items →
      IsMet rule met → met ≡ false → UnseenIs patterns (list_trees streams) below.otherwise event unseen →
      PartsAnswer patterns (opened s) state below event unseen
  else_answers rule streams met is same asked fails answer =
      let answer' =
      subst (λ (l : List Stream). UnseenIs patterns (list_trees l) below.otherwise event unseen) same answer in
      by_rule rule false is (λ texts from numbers. sym fails ∙ asked texts from numbers)
      (λ texts h from represents. answer' texts (child_history (Where rule) Otherwise h) from represents.otherwise)

  -- the event is needed by a stream of any other kind
  needed_of : (kind : KindTree) → is_looking kind ≡ false →
      PartsAnswer patterns (stream kind children otherwise) state below event Needed
  needed_of Index is texts h from represents = cc
  needed_of Sdo is texts h from represents = cc
  needed_of (Where rule) is texts h from represents = cc
  needed_of kind is texts h from represents = refl

  pub others_answer : is_looking (kind_tree (out-Stream s).kind) ≡ false → unseen ≡ Needed →
      PartsAnswer patterns (opened s) state below event unseen
  others_answer other needed =
      opened_answer (kind_tree (out-Stream s).kind) refl
      (λ texts h from represents.
      needed ∙ needed_of (kind_tree (out-Stream s).kind) other texts h from represents)

-- ---- lists of streams

needed_kind : (kind : KindTree) (children otherwise : StreamTrees) (event : Event) → is_looking kind ≡ false
    → stream_unseen (stream kind children otherwise) event ≡ Needed
needed_kind Index children otherwise event is = cc
needed_kind Sdo children otherwise event is = cc
needed_kind (Where rule) children otherwise event is = cc
needed_kind kind children otherwise event is = refl

needed_opened : (s : Stream) (event : Event) → is_looking (kind_tree (out-Stream s).kind) ≡ false
    → stream_unseen (opened s) event ≡ Needed
unfolding opened
needed_opened s event is =
    needed_kind (kind_tree (out-Stream s).kind) (list_trees (out-Stream s).children.items)
    (list_trees (out-Stream s).otherwise.items) event is

-- one of the streams is of a kind that needs each event
pub needed_at : (streams : List Stream) (i : ℕ) (s other : Stream) (event : Event) →
    i < length streams → s ≡ get_or streams i other → is_looking (kind_tree (out-Stream s).kind) ≡ false →
    plan_unseen (list_trees streams) event ≡ Needed
needed_at [] i s other event within is kind = absurd (omega (arith, within))
needed_at (first ∷ streams) zero s other event within is kind =
    ap (λ (a : Unseen). both a (plan_unseen (list_trees streams) event))
    (ap (λ (t : StreamTree). stream_unseen t event) (stream_tree-opened first)
    ∙ needed_opened first event (ap (λ (r : Stream). is_looking (kind_tree (out-Stream r).kind)) (sym is) ∙ kind))
needed_at (first ∷ streams) (suc i) s other event within is kind =
    ap (both (stream_unseen (stream_tree first) event))
    (needed_at streams i s other event (omega (arith, within)) is kind)
    ∙ both-needed (stream_unseen (stream_tree first) event)

plan_unseen-drop : (streams : List Stream) (i : ℕ) (s : Stream) (event : Event) → i < length streams →
    plan_unseen (list_trees (drop i streams)) event
    ≡ both (stream_unseen (opened (get_or streams i s)) event) (plan_unseen (list_trees (drop (i + 1) streams)) event)
plan_unseen-drop streams i s event within =
    ap (λ (l : List Stream). plan_unseen (list_trees l) event) (drop_more streams i s within)
    ∙ ap (λ (t : StreamTree). both (stream_unseen t event) (plan_unseen (list_trees (drop (i + 1) streams)) event))
    (stream_tree-opened (get_or streams i s))

-- with what the streams from number i on do, it is what all of them do
abbrev pub UnseenSoFar : List Regex → List Stream → List Node → Event → ℕ → Unseen → Type 0
UnseenSoFar patterns streams nodes event i unseen = (texts : List (List ℕ)) (h : History) →
    AreReadFrom texts patterns → ForestRepresents texts (list_trees streams) nodes h →
    both unseen (plan_unseen (list_trees (drop i streams)) event) ≡ plan_unseen (list_trees streams) event

module _ (patterns : List Regex) (streams : List Stream) (nodes : List Node) (event : Event) where
  pub unseen_more : (i : ℕ) (unseen own next : Unseen) (s : Stream) (node other : Node) →
      i < length streams → i < length nodes → s ≡ get_or streams i s → node ≡ get_or nodes i other →
      UnseenSoFar patterns streams nodes event i unseen →
      PartsAnswer patterns (opened s) (out-Node node).state (node_below node) event own →
      next ≡ both unseen own → UnseenSoFar patterns streams nodes event (i + 1) next
  unseen_more i unseen own next s node other within within' is is' so_far own_is next_is texts h from represents =
      let at_place : NodeRepresents texts (opened (get_or streams i s)) (get_or nodes i other) h =
      node_at texts h streams nodes i s other within within' represents in
      let here : NodeRepresents texts (opened s) node h =
      subst (λ (n : Node). NodeRepresents texts (opened s) n h) (sym is')
      (subst (λ (r : Stream). NodeRepresents texts (opened r) (get_or nodes i other) h) (sym is) at_place) in
      let rest = plan_unseen (list_trees (drop (i + 1) streams)) event in
      ap (λ (a : Unseen). both a rest) next_is
      ∙ both-assoc unseen own rest
      ∙ ap (λ (a : Unseen). both unseen (both a rest))
      (own_is texts h from here ∙ ap (λ (r : Stream). stream_unseen (opened r) event) is)
      ∙ ap (both unseen) (sym (plan_unseen-drop streams i s event within))
      ∙ so_far texts h from represents

  -- once the event is needed, the other streams change nothing
  pub unseen_needed : (i : ℕ) (unseen : Unseen) → UnseenSoFar patterns streams nodes event i unseen →
      unseen ≡ Needed → UnseenIs patterns (list_trees streams) nodes event Needed
  unseen_needed i unseen so_far needed texts h from represents =
      ap (λ (a : Unseen). both a (plan_unseen (list_trees (drop i streams)) event)) (sym needed)
      ∙ so_far texts h from represents

  pub unseen_all : (i count : ℕ) (unseen more all : Unseen) (left : List Stream) →
      min (length streams) (length nodes) ≤ i → i ≡ count → left ≡ drop count streams →
      UnseenSoFar patterns streams nodes event i unseen →
      (AllBare (list_trees left) → (e : Event) → more ≡ plan_unseen (list_trees left) e) →
      all ≡ both unseen more → UnseenIs patterns (list_trees streams) nodes event all
  unseen_all i count unseen more all left past at left_is so_far bare_is all_is texts h from represents =
      let is : left ≡ drop i streams = left_is ∙ ap (λ (n : ℕ). drop n streams) (sym at) in
      let bare : AllBare (list_trees left) =
      subst (λ (l : List Stream). AllBare (list_trees l)) (sym is) (bare_after texts h streams nodes i past represents) in
      all_is
      ∙ ap (both unseen) (bare_is bare event ∙ ap (λ (l : List Stream). plan_unseen (list_trees l) event) is)
      ∙ so_far texts h from represents

-- ---- bare streams

some_bare : (first : StreamTree) (more : StreamTrees) (event : Event) → AllBare (also first more)
    → both Write (plan_unseen (also first more) event) ≡ Needed
some_bare (stream Index none none) more event bare = written (plan_unseen more event)
  where
    written : (rest : Unseen) → both Write (both Write rest) ≡ Needed
    written Nothing = refl
    written Write = refl
    written Needed = refl
some_bare (stream (Notice name) none none) more event bare = refl
some_bare first more event bare = absurd bare.0

bare_needed : (first : StreamTree) (more : StreamTrees) (event : Event) → is_one_index (also first more) ≡ false
    → AllBare (also first more) → Needed ≡ plan_unseen (also first more) event
bare_needed (stream Index none none) none event others bare = cc
bare_needed (stream Index none none) (also second more) event others bare = sym (some_bare second more event bare.1)
bare_needed (stream (Notice name) none none) more event others bare = refl
bare_needed first more event others bare = absurd bare.0

-- of two bare streams or more, and of one that is not an `index`, the event is needed
pub bare_are_needed : (streams : List Stream) (empty alone : Bool) (event : Event) →
    empty ≡ eqb (length streams) 0 → empty ≡ false → alone ≡ is_one_index (list_trees streams) → alone ≡ false →
    AllBare (list_trees streams) → Needed ≡ plan_unseen (list_trees streams) event
bare_are_needed [] empty alone event empty_is some alone_is others bare = absurd (cc)
bare_are_needed (first ∷ streams) empty alone event empty_is some alone_is others bare =
    bare_needed (stream_tree first) (list_trees streams) event (sym alone_is ∙ others) bare

-- the only stream is an `index`
pub one_index_writes : (plan : StreamTrees) (event : Event) → is_one_index plan ≡ true
    → plan_unseen plan event ≡ Write
one_index_writes (also (stream Index children otherwise) none) event is = refl
one_index_writes (also only none) event is = cc
one_index_writes (also first (also second more)) event is = cc
one_index_writes none event is = cc

-- ---- a whole tree

pub nothing_done : (plan : StreamTrees) (unseen : Unseen) (event : Event) (h : History) → unseen ≡ plan_unseen plan event
    → unseen ≡ Nothing → plan_effects plan (h ▸ In (One event)) ≡ []
nothing_done plan unseen event h is nothing =
    let known : plan_unseen plan event ≡ Nothing = sym is ∙ nothing in
    plan_unseen_effects plan h event (λ needed. cc) ∙ ap (λ (u : Unseen). effects_unseen u event) known

pub write_done : (plan : StreamTrees) (unseen : Unseen) (event : Event) (h : History) → unseen ≡ plan_unseen plan event
    → unseen ≡ Write → plan_effects plan (h ▸ In (One event)) ≡ Put (write event) ∷ []
write_done plan unseen event h is written =
    let known : plan_unseen plan event ≡ Write = sym is ∙ written in
    plan_unseen_effects plan h event (λ needed. cc) ∙ ap (λ (u : Unseen). effects_unseen u event) known

pub tree_stays : (tree : Tree) (unseen : Unseen) (event : Event) (h : History) → unseen ≡ plan_unseen (plan_of tree) event
    → IsUnseen unseen → Represents tree h → Represents tree (h ▸ In (One event))
tree_stays tree unseen event h is seen represents = record {
  alive = represents.alive;
  begins = represents.begins;
  represents =
      forest_stays (plan_patterns (plan_of tree)) (plan_of tree) event (nodes_of tree.forest) h
      (λ needed. seen (is ∙ needed)) represents.represents;
}
