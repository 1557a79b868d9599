-- Nodes that are made for streams represent ticks alone.
use Rattle.std.specs.List.{AllByRecursion}
use Rattle.std.proofs.Common.{◌≡◌, ℕ, ◌+◌, ◌<◌, ◌≤◌, Bool, true, false, ◌||◌, List, [], ◌∷◌, ◌++◌, length, take, get_or}
use Rattle.std.proofs.Common.{Option, Some, None, is_some, refl, sym, ap, ◌∙◌, subst, arith, length-append}
use Rattle.std.proofs.lemmas.List.{append-nil, append_assoc, take_more, take_all, length-take}
use Rattle.list_laws.specs.Counts.{greatest}
use Rattle.ev_types.specs.declared.field.Field.{Field}
use Rattle.ev_types.specs.declared.value.Value.{Value}
use Rattle.fork_by.specs.declared.table.ForkTable.{ForkTable}
use Rattle.fork_by.specs.Table.{kept_forks, IsTable}
use Rattle.stream_plan.specs.declared.plan.Stream.{Stream, out-Stream}
use Rattle.stream_plan.specs.Kinds.{is_by, is_in_range}
use Rattle.stream_plan.specs.Nesting.{EndsOutermost, AllEndOutermost}
use Rattle.stream_plan.specs.Ready.{kind_patterns, stream_patterns, plan_patterns}
use Rattle.stream_plan.specs.Search.{opened}
use Rattle.stream_plan.specs.Sound.{IsSound}
use Rattle.stream_plan.specs.Tree.{KindTree, By, StreamTree, StreamTrees, stream, none, kind_tree, stream_tree}
use Rattle.stream_plan.specs.Tree.{list_trees}
use Rattle.stream_plan.proofs.NestingLaws.{ends_outermost}
use Rattle.stream_plan.proofs.PatternLaws.{stream_patterns-opened}
use Rattle.stream_plan.proofs.Trees.{stream_tree-opened}
use Rattle.stream_meaning.specs.Branches.{child_history}
use Rattle.stream_meaning.specs.Deadlines.{plan_deadline}
use Rattle.stream_meaning.specs.Emission.{Branch, Children, Otherwise}
use Rattle.stream_meaning.specs.History.{History, begun, TicksAlone}
use Rattle.stream_meaning.proofs.TickLaws.{ticks_handed_on}
use Rattle.stream_step.specs.declared.state.State.{State}
use Rattle.stream_step.specs.declared.state.State.TheVariants.{Forks}
use Rattle.stream_step.specs.Step.{StateRepresents}
use Rattle.stream_tree.specs.declared.forest.Forest.{Forest}
use Rattle.stream_tree.specs.declared.forest.Node.{Node, out-Node}
use Rattle.stream_tree.specs.Forest.{IsStreamInRange, AreInRange, Meaning, Below, LiveKeys, node_below, first_of}
use Rattle.stream_tree.specs.Forest.{forked_by, live_by, key_fork, AllBare, IsFork, ForksRepresent, BelowRepresents}
use Rattle.stream_tree.specs.Forest.{PartsRepresent, NodeRepresents, ForestRepresents}
use Rattle.stream_tree.specs.Fresh.{ForestIsFresh, NodeIsFresh}
use Rattle.stream_tree.proofs.BareLaws.{no_patterns}
use Rattle.stream_tree.proofs.KeptLaws.{keys_of_kept}
use Rattle.stream_tree.proofs.KindLaws.{kind_range, sound_in_range}
use Rattle.stream_tree.proofs.LiveLaws.{none_alone}

abbrev Texts : Type 0
Texts = List (List ℕ)

-- ---- the patterns of a stream, of its children, and of those of `else`

sizes : (before mine c o after : Texts)
    → length (before ++ ((mine ++ (c ++ o)) ++ after))
    ≡ length before + (length mine + (length c + length o) + length after)
sizes before mine c o after =
    omega (
      arith,
      length-append before ((mine ++ (c ++ o)) ++ after),
      length-append (mine ++ (c ++ o)) after,
      length-append mine (c ++ o),
      length-append c o,
    )

own_part : (before mine c o after : Texts)
    → before ++ (mine ++ ((c ++ o) ++ after)) ≡ before ++ ((mine ++ (c ++ o)) ++ after)
own_part before mine c o after = ap (λ (l : Texts). before ++ l) (sym (append_assoc mine (c ++ o) after))

children_part : (before mine c o after : Texts)
    → (before ++ mine) ++ (c ++ (o ++ after)) ≡ before ++ ((mine ++ (c ++ o)) ++ after)
children_part before mine c o after =
    append_assoc before mine (c ++ (o ++ after))
    ∙ ap (λ (l : Texts). before ++ l)
    (ap (λ (l : Texts). mine ++ l) (sym (append_assoc c o after)) ∙ sym (append_assoc mine (c ++ o) after))

otherwise_part : (before mine c o after : Texts)
    → ((before ++ mine) ++ c) ++ (o ++ after) ≡ before ++ ((mine ++ (c ++ o)) ++ after)
otherwise_part before mine c o after =
    append_assoc (before ++ mine) c (o ++ after) ∙ children_part before mine c o after

-- ---- one node

abbrev StateStands : KindTree → State → ℕ → ℕ → Type 0
StateStands kind state start first =
    (before after : Texts) (h : History) → TicksAlone h → begun h ≡ start → is_in_range kind ≡ true →
    length before ≡ first → length (kind_patterns kind) ≤ greatest →
    StateRepresents (before ++ (kind_patterns kind ++ after)) kind state h

abbrev PartsFresh : KindTree → StreamTrees → StreamTrees → State → Below → ℕ → ℕ → Type 0
PartsFresh kind children otherwise state below start first =
    (before after : Texts) (in_fork : Bool) (h : History) → TicksAlone h → begun h ≡ start →
    IsStreamInRange (stream kind children otherwise) → EndsOutermost in_fork (stream kind children otherwise) →
    length before ≡ first →
    length (before ++ ((kind_patterns kind ++ (plan_patterns children ++ plan_patterns otherwise)) ++ after))
    ≤ greatest →
    PartsRepresent (before ++ ((kind_patterns kind ++ (plan_patterns children ++ plan_patterns otherwise)) ++ after))
    (stream kind children otherwise) state below h

state_part : (kind : KindTree) (children otherwise : StreamTrees) (state : State) (start first : ℕ) →
    StateStands kind state start first → (before after : Texts) (h : History) → TicksAlone h → begun h ≡ start →
    is_in_range kind ≡ true →
    length before ≡ first →
    length (before ++ ((kind_patterns kind ++ (plan_patterns children ++ plan_patterns otherwise)) ++ after))
    ≤ greatest →
    StateRepresents (before ++ ((kind_patterns kind ++ (plan_patterns children ++ plan_patterns otherwise)) ++ after))
    kind state h
state_part kind children otherwise state start first own before after h alone begins range at small =
    let mine = kind_patterns kind in
    let c = plan_patterns children in
    let o = plan_patterns otherwise in
    subst (λ (ts : Texts). StateRepresents ts kind state h) (own_part before mine c o after)
    (own before ((c ++ o) ++ after) h alone begins range at (omega (arith, small, sizes before mine c o after)))

-- a stream without forks
plain_below : (texts : Texts) (plan : StreamTrees) (first : ℕ) (Means Beside : Meaning) (shape : Option (Option ℕ))
    (live : LiveKeys) (received : Branch → History) (below : Below) →
    is_some shape ≡ false →
    Means below.children (received Children) → Beside below.otherwise (received Otherwise) →
    IsTable below.forks →
    kept_forks below.forks ≡ [] → BelowRepresents texts plan first Means Beside shape live received below
plain_below texts plan first Means Beside None live received below plain one two is_table empty =
    record { children = one; otherwise = two; is_table = is_table; no_forks = empty }
plain_below texts plan first Means Beside (Some idle) live received below plain one two is_table empty = absurd (cc)

plain_fresh : (kind : KindTree) (children otherwise : StreamTrees) (state : State) (below : Below)
    (start first second third fourth : ℕ) →
    is_some (forked_by kind) ≡ false → StateStands kind state start first →
    (first + length (kind_patterns kind) ≤ greatest → second ≡ first + length (kind_patterns kind)) →
    ForestIsFresh children start second third below.children →
    ForestIsFresh otherwise start third fourth below.otherwise → IsTable below.forks → kept_forks below.forks ≡ [] →
    PartsFresh kind children otherwise state below start first
plain_fresh kind children otherwise state below start first second third fourth plain own next children_fresh
    otherwise_fresh is_table empty before after in_fork h alone begins ranges nested at small =
    let mine = kind_patterns kind in
    let c = plan_patterns children in
    let o = plan_patterns otherwise in
    let texts : Texts = before ++ ((mine ++ (c ++ o)) ++ after) in
    let size = sizes before mine c o after in
    let second_is : second ≡ first + length mine = next (omega (arith, small, size, at)) in
    let third_is : third ≡ second + length c = children_fresh.following (omega (arith, small, size, at, second_is)) in
    let one : ForestRepresents texts children below.children h =
    subst (λ (ts : Texts). ForestRepresents ts children below.children h) (children_part before mine c o after)
    (children_fresh.represents (before ++ mine) (o ++ after) (is_by kind || in_fork) h alone begins ranges.1 nested.1
    (omega (arith, length-append before mine, at, second_is))
    (subst (λ (ts : Texts). length ts ≤ greatest) (sym (children_part before mine c o after)) small)) in
    let two : ForestRepresents texts otherwise below.otherwise h =
    subst (λ (ts : Texts). ForestRepresents ts otherwise below.otherwise h) (otherwise_part before mine c o after)
    (otherwise_fresh.represents ((before ++ mine) ++ c) after (is_by kind || in_fork) h alone begins ranges.2 nested.2
    (omega (arith, length-append (before ++ mine) c, length-append before mine, at, second_is, third_is))
    (subst (λ (ts : Texts). length ts ≤ greatest) (sym (otherwise_part before mine c o after)) small)) in (
      state_part kind children otherwise state start first own before after h alone begins ranges.0 at small,
      plain_below texts children (first_of state) (ForestRepresents texts children) (ForestRepresents texts otherwise)
          (forked_by kind) (live_by kind h) (λ branch. child_history kind branch h) below plain
          (subst (λ (g : History). ForestRepresents texts children below.children g)
          (sym (ticks_handed_on kind Children h alone)) one)
          (subst (λ (g : History). ForestRepresents texts otherwise below.otherwise g)
          (sym (ticks_handed_on kind Otherwise h alone)) two)
          is_table empty,
    )

-- a `by` without forks
no_forks : (Means : Meaning) (deadline : History → Option ℕ) (idle : Option ℕ) (keys : List (List Value))
    (last : List Value → Option ℕ) (received : List Value → History) (forks : ForkTable Forest) →
    IsTable forks → kept_forks forks ≡ [] → keys ≡ [] →
    ForksRepresent Means deadline idle keys last received forks
no_forks Means deadline idle keys last received forks is_table empty are = record {
  is_table = is_table;
  keys_are = ap keys_of_kept empty ∙ sym are;
  each = subst (AllByRecursion (λ k. IsFork Means deadline idle (last k.key) (received k.key) k)) (sym empty) tt;
}

by_fresh : (kind : KindTree) (children otherwise : StreamTrees) (state : State) (below : Below) (start first : ℕ) →
    is_some (forked_by kind) ≡ true → StateStands kind state start first →
    ((fields : List Field) (idle : Option ℕ) → kind ≡ By fields idle → state ≡ Forks first) →
    IsTable below.forks →
    kept_forks below.forks ≡ [] → below.children ≡ [] → below.otherwise ≡ [] →
    PartsFresh kind children otherwise state below start first
by_fresh (By fields idle) children otherwise state below start first forked own keeps is_table empty no_children
    no_otherwise before after in_fork h alone begins ranges nested at small =
    let c = plan_patterns children in
    let o = plan_patterns otherwise in
    let texts : Texts = before ++ ((c ++ o) ++ after) in
    let live = live_by (By fields idle) h in (
      state_part (By fields idle) children otherwise state start first own before after h alone begins ranges.0 at
          small,
      record {
        can_fork = record {
          in_range = ranges.1;
          endless = nested.1;
          before = before;
          after = o ++ after;
          begins = at ∙ ap first_of (sym (keeps fields idle refl));
          among = ap (λ (l : Texts). before ++ l) (append_assoc c o after);
          few = small;
        };
        lasts = kind_range (By fields idle) ranges.0;
        forks =
            no_forks (ForestRepresents texts children) (plan_deadline children) idle live.keys live.last
            (λ key. child_history (By fields idle) (key_fork live key) h) below.forks is_table empty
            (none_alone fields idle h alone);
        no_children = no_children;
        no_otherwise = no_otherwise;
      },
    )
by_fresh kind children otherwise state below start first forked own keeps is_table empty no_children no_otherwise before
    after in_fork h alone begins ranges nested at small =
    absurd (cc)

-- ---- the node of a stream

abbrev OpenedFresh : Stream → State → Below → ℕ → ℕ → Type 0
OpenedFresh s state below start first =
    (before after : Texts) (in_fork : Bool) (h : History) → TicksAlone h → begun h ≡ start →
    IsStreamInRange (opened s) → EndsOutermost in_fork (opened s) → length before ≡ first →
    length (before ++ (stream_patterns (opened s) ++ after)) ≤ greatest →
    PartsRepresent (before ++ (stream_patterns (opened s) ++ after)) (opened s) state below h

pub node_holds : (s : Stream) (children otherwise : List Stream) (state : State) (below : Below)
    (start first second third fourth : ℕ) →
    children ≡ (out-Stream s).children.items → otherwise ≡ (out-Stream s).otherwise.items →
    is_some (forked_by (kind_tree (out-Stream s).kind)) ≡ false →
    StateStands (kind_tree (out-Stream s).kind) state start first →
    (first + length (kind_patterns (kind_tree (out-Stream s).kind)) ≤ greatest →
    second ≡ first + length (kind_patterns (kind_tree (out-Stream s).kind))) →
    ForestIsFresh (list_trees children) start second third below.children →
    ForestIsFresh (list_trees otherwise) start third fourth below.otherwise → IsTable below.forks →
    kept_forks below.forks ≡ [] →
    OpenedFresh s state below start first
unfolding opened stream_patterns
node_holds s children otherwise state below start first second third fourth children_is otherwise_is plain own next
    children_fresh otherwise_fresh is_table empty =
    plain_fresh (kind_tree (out-Stream s).kind) (list_trees (out-Stream s).children.items)
    (list_trees (out-Stream s).otherwise.items) state below start first second third fourth plain own next
    (subst (λ (l : List Stream). ForestIsFresh (list_trees l) start second third below.children) children_is
    children_fresh)
    (subst (λ (l : List Stream). ForestIsFresh (list_trees l) start third fourth below.otherwise) otherwise_is
    otherwise_fresh)
    is_table empty

pub unforked_holds : (s : Stream) (state : State) (below : Below) (start first : ℕ) →
    is_some (forked_by (kind_tree (out-Stream s).kind)) ≡ true →
    StateStands (kind_tree (out-Stream s).kind) state start first →
    ((fields : List Field) (idle : Option ℕ) → kind_tree (out-Stream s).kind ≡ By fields idle → state ≡ Forks first) →
    IsTable below.forks → kept_forks below.forks ≡ [] → below.children ≡ [] → below.otherwise ≡ [] →
    OpenedFresh s state below start first
unfolding opened stream_patterns
unforked_holds s state below start first forked own keeps is_table empty no_children no_otherwise =
    by_fresh (kind_tree (out-Stream s).kind) (list_trees (out-Stream s).children.items)
    (list_trees (out-Stream s).otherwise.items) state below start first forked own keeps is_table empty no_children
    no_otherwise

abbrev OpenedSize : Stream → ℕ
OpenedSize s =
    length (kind_patterns (kind_tree (out-Stream s).kind))
    + (length (plan_patterns (list_trees (out-Stream s).children.items))
    + length (plan_patterns (list_trees (out-Stream s).otherwise.items)))

opened_size : (s : Stream) → length (stream_patterns (opened s)) ≡ OpenedSize s
opened_size s =
    let mine = kind_patterns (kind_tree (out-Stream s).kind) in
    let c = plan_patterns (list_trees (out-Stream s).children.items) in
    let o = plan_patterns (list_trees (out-Stream s).otherwise.items) in
    omega
    (arith, ap (λ (ts : Texts). length ts) (stream_patterns-opened s), length-append mine (c ++ o), length-append c o)

pub node_following : (s : Stream) (children otherwise : List Stream) (below beside : List Node)
    (start first second third fourth : ℕ) →
    children ≡ (out-Stream s).children.items → otherwise ≡ (out-Stream s).otherwise.items →
    (first + length (kind_patterns (kind_tree (out-Stream s).kind)) ≤ greatest →
    second ≡ first + length (kind_patterns (kind_tree (out-Stream s).kind))) →
    ForestIsFresh (list_trees children) start second third below →
    ForestIsFresh (list_trees otherwise) start third fourth beside →
    first + length (stream_patterns (opened s)) ≤ greatest → fourth ≡ first + length (stream_patterns (opened s))
node_following s children otherwise below beside start first second third fourth children_is otherwise_is next
    children_fresh otherwise_fresh small =
    let mine = kind_patterns (kind_tree (out-Stream s).kind) in
    let c = plan_patterns (list_trees children) in
    let o = plan_patterns (list_trees otherwise) in
    let size = opened_size s in
    let c_is = ap (λ (l : List Stream). length (plan_patterns (list_trees l))) children_is in
    let o_is = ap (λ (l : List Stream). length (plan_patterns (list_trees l))) otherwise_is in
    let second_is : second ≡ first + length mine = next (omega (arith, small, size)) in
    let third_is : third ≡ second + length c = children_fresh.following (omega (arith, small, size, second_is, c_is)) in
    omega (
      arith,
      otherwise_fresh.following (omega (arith, small, size, second_is, third_is, c_is, o_is)),
      size,
      second_is,
      third_is,
      c_is,
      o_is,
    )

pub unforked_following : (s : Stream) (first second fourth : ℕ) →
    (first + length (kind_patterns (kind_tree (out-Stream s).kind)) ≤ greatest →
    second ≡ first + length (kind_patterns (kind_tree (out-Stream s).kind))) →
    (second + length (plan_patterns (list_trees (out-Stream s).children.items))
    + length (plan_patterns (list_trees (out-Stream s).otherwise.items))
    ≤ greatest
    → fourth
    ≡ second + length (plan_patterns (list_trees (out-Stream s).children.items))
    + length (plan_patterns (list_trees (out-Stream s).otherwise.items))) →
    first + length (stream_patterns (opened s)) ≤ greatest → fourth ≡ first + length (stream_patterns (opened s))
unforked_following s first second fourth next over small =
    let size = opened_size s in
    let second_is : second ≡ first + length (kind_patterns (kind_tree (out-Stream s).kind)) =
    next (omega (arith, small, size)) in
    omega (arith, over (omega (arith, small, size, second_is)), size, second_is)

-- what is said of the parts of a node is said of it
pub node_fresh : (s : Stream) (node : Node) (state : State) (below : Below) (start first next : ℕ) →
    (out-Node node).state ≡ state → node_below node ≡ below → OpenedFresh s state below start first →
    (first + length (stream_patterns (opened s)) ≤ greatest → next ≡ first + length (stream_patterns (opened s))) →
    NodeIsFresh (opened s) start first next node
node_fresh s node state below start first next state_is below_is represents following = record {
  represents = λ before after in_fork h alone begins ranges nested at small.
      subst
      (λ (st : State).
      PartsRepresent (before ++ (stream_patterns (opened s) ++ after)) (opened s) st (node_below node) h)
      (sym state_is)
      (subst (λ (b : Below). PartsRepresent (before ++ (stream_patterns (opened s) ++ after)) (opened s) state b h)
      (sym below_is) (represents before after in_fork h alone begins ranges nested at small));
  following = following;
}

-- ---- one node more

represents-snoc : (texts : Texts) (front : List Stream) (s : Stream) (nodes : List Node) (node : Node) (h : History) →
    length nodes ≡ length front →
    ForestRepresents texts (list_trees front) nodes h → NodeRepresents texts (stream_tree s) node h →
    ForestRepresents texts (list_trees (front ++ s ∷ [])) (nodes ++ node ∷ []) h
represents-snoc texts [] s [] node h same represents one = (one, tt)
represents-snoc texts [] s (other ∷ nodes) node h same represents one = absurd represents
represents-snoc texts (first ∷ front) s [] node h same represents one = absurd (omega (arith, same))
represents-snoc texts (first ∷ front) s (other ∷ nodes) node h same represents one =
    (represents.0, represents-snoc texts front s nodes node h (omega (arith, same)) represents.1 one)

patterns-snoc : (front : List Stream) (s : Stream)
    → plan_patterns (list_trees (front ++ s ∷ [])) ≡ plan_patterns (list_trees front) ++ stream_patterns (stream_tree s)
unfolding plan_patterns
patterns-snoc [] s = append-nil (stream_patterns (stream_tree s))
patterns-snoc (first ∷ front) s =
    ap (λ (ts : Texts). stream_patterns (stream_tree first) ++ ts) (patterns-snoc front s)
    ∙ sym (append_assoc (stream_patterns (stream_tree first)) (plan_patterns (list_trees front))
    (stream_patterns (stream_tree s)))

in_range-snoc : (front : List Stream) (s : Stream) → AreInRange (list_trees (front ++ s ∷ []))
    → AreInRange (list_trees front) × IsStreamInRange (stream_tree s)
in_range-snoc [] s ranges = (tt, ranges.0)
in_range-snoc (first ∷ front) s ranges = let more = in_range-snoc front s ranges.1 in ((ranges.0, more.0), more.1)

outermost-snoc : (in_fork : Bool) (front : List Stream) (s : Stream)
    → AllEndOutermost in_fork (list_trees (front ++ s ∷ []))
    → AllEndOutermost in_fork (list_trees front) × EndsOutermost in_fork (stream_tree s)
outermost-snoc in_fork [] s nested = (tt, nested.0)
outermost-snoc in_fork (first ∷ front) s nested =
    let more = outermost-snoc in_fork front s nested.1 in ((nested.0, more.0), more.1)

no_nodes : (start first : ℕ) → ForestIsFresh none start first first []
unfolding plan_patterns
no_nodes start first =
    record {
      represents = λ before after in_fork h alone begins ranges nested at small. tt;
      following = λ small. omega arith;
    }

fresh-snoc : (front : List Stream) (s : Stream) (nodes : List Node) (node : Node) (start first second third : ℕ) →
    length nodes ≡ length front →
    ForestIsFresh (list_trees front) start first second nodes → NodeIsFresh (stream_tree s) start second third node →
    ForestIsFresh (list_trees (front ++ s ∷ [])) start first third (nodes ++ node ∷ [])
fresh-snoc front s nodes node start first second third same fresh one =
    let ts = plan_patterns (list_trees front) in
    let more = stream_patterns (stream_tree s) in
    let all = patterns-snoc front s in
    let size : length (plan_patterns (list_trees (front ++ s ∷ []))) ≡ length ts + length more =
    omega (arith, ap (λ (ts : Texts). length ts) all, length-append ts more) in
    record {
      represents = λ before after in_fork h alone begins ranges nested at small.
          let parts = in_range-snoc front s ranges in
          let ends = outermost-snoc in_fork front s nested in
          let small' : length (before ++ ((ts ++ more) ++ after)) ≤ greatest =
          subst (λ (l : Texts). length (before ++ (l ++ after)) ≤ greatest) all small in
          let total = length-append before ((ts ++ more) ++ after) in
          let inner = length-append (ts ++ more) after in
          let both = length-append ts more in
          let second_is : second ≡ first + length ts =
          fresh.following (omega (arith, small', total, inner, both, at)) in
          let before_is : (before ++ ts) ++ (more ++ after) ≡ before ++ ((ts ++ more) ++ after) =
          append_assoc before ts (more ++ after) ∙ ap (λ (l : Texts). before ++ l) (sym (append_assoc ts more after)) in
          let front_is : before ++ (ts ++ (more ++ after)) ≡ before ++ ((ts ++ more) ++ after) =
          ap (λ (l : Texts). before ++ l) (sym (append_assoc ts more after)) in
          let front_holds =
          fresh.represents before (more ++ after) in_fork h alone begins parts.0 ends.0 at
          (subst (λ (l : Texts). length l ≤ greatest) (sym front_is) small') in
          let one_holds =
          one.represents (before ++ ts) after in_fork h alone begins parts.1 ends.1
          (omega (arith, length-append before ts, at, second_is))
          (subst (λ (l : Texts). length l ≤ greatest) (sym before_is) small') in
          subst
          (λ (l : Texts).
          ForestRepresents (before ++ (l ++ after)) (list_trees (front ++ s ∷ [])) (nodes ++ node ∷ []) h)
          (sym all)
          (represents-snoc (before ++ ((ts ++ more) ++ after)) front s nodes node h same
          (subst (λ (l : Texts). ForestRepresents l (list_trees front) nodes h) front_is front_holds)
          (subst (λ (l : Texts). NodeRepresents l (stream_tree s) node h) before_is one_holds));
      following = λ small.
          let second_is : second ≡ first + length ts = fresh.following (omega (arith, small, size)) in
          omega (arith, one.following (omega (arith, small, size, second_is)), second_is, size);
    }

pub one_more_fresh : (streams : List Stream) (i : ℕ) (s : Stream) (nodes nodes' : List Node) (node : Node)
    (start first second third : ℕ) →
    i < length streams → s ≡ get_or streams i s → nodes' ≡ nodes ++ node ∷ [] → length nodes ≡ i →
    ForestIsFresh (list_trees (take i streams)) start first second nodes →
    NodeIsFresh (opened s) start second third node →
    ForestIsFresh (list_trees (take (i + 1) streams)) start first third nodes'
one_more_fresh streams i s nodes nodes' node start first second third within is pushed same fresh one =
    let here : NodeIsFresh (stream_tree s) start second third node =
    subst (λ (t : StreamTree). NodeIsFresh t start second third node) (sym (stream_tree-opened s)) one in
    let more : take i streams ++ s ∷ [] ≡ take (i + 1) streams =
    ap (λ (t : Stream). take i streams ++ t ∷ []) is ∙ sym (take_more streams i s within) in
    subst (λ (l : List Node). ForestIsFresh (list_trees (take (i + 1) streams)) start first third l) (sym pushed)
    (subst (λ (l : List Stream). ForestIsFresh (list_trees l) start first third (nodes ++ node ∷ [])) more
    (fresh-snoc (take i streams) s nodes node start first second third
    (omega (arith, same, within, length-take i streams)) fresh here))

pub all_fresh : (streams : List Stream) (i : ℕ) (nodes : List Node) (start first second : ℕ) → length streams ≤ i →
    ForestIsFresh (list_trees (take i streams)) start first second nodes →
    ForestIsFresh (list_trees streams) start first second nodes
all_fresh streams i nodes start first second past fresh =
    subst (λ (l : List Stream). ForestIsFresh (list_trees l) start first second nodes) (take_all i streams past) fresh

pub none_fresh : (start first : ℕ) (nodes : List Node) → nodes ≡ [] → ForestIsFresh none start first first nodes
none_fresh start first nodes is =
    subst (λ (l : List Node). ForestIsFresh none start first first l) (sym is) (no_nodes start first)

-- bare streams need no nodes
pub bare_fresh : (streams : StreamTrees) (start first : ℕ) (nodes : List Node) → nodes ≡ [] → AllBare streams
    → ForestIsFresh streams start first first nodes
bare_fresh streams start first nodes is bare = record {
  represents = λ before after in_fork h alone begins ranges nested at small.
      subst (λ (l : List Node). ForestRepresents (before ++ (plan_patterns streams ++ after)) streams l h) (sym is)
      bare;
  following = λ small. omega (arith, ap (λ (l : Texts). length l) (no_patterns streams bare));
}

-- ---- the whole plan

pub plan_fresh : (plan : StreamTrees) (streams : List Stream) (nodes : List Node) (start next : ℕ) →
    list_trees streams ≡ plan → IsSound plan →
    length (plan_patterns plan) ≤ greatest → ForestIsFresh (list_trees streams) start 0 next nodes → (h : History) →
    TicksAlone h → begun h ≡ start → ForestRepresents (plan_patterns plan) plan nodes h
plan_fresh plan streams nodes start next is sound few fresh h alone begins =
    let fresh' : ForestIsFresh plan start 0 next nodes =
    subst (λ (trees : StreamTrees). ForestIsFresh trees start 0 next nodes) is fresh in
    subst (λ (ts : Texts). ForestRepresents ts plan nodes h) (append-nil (plan_patterns plan))
    (fresh'.represents [] [] false h alone begins (sound_in_range plan sound) (ends_outermost plan sound) refl
    (subst (λ (ts : Texts). length ts ≤ greatest) (sym (append-nil (plan_patterns plan))) few))
