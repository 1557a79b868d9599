-- An entry that comes to one fork.
use Rattle.std.proofs.Common.{◌≡◌, ℕ, ◌+◌, ◌≤◌, ◌^◌, Bool, true, false, cond, eqb, List, [], ◌∷◌, map, Option, Some}
use Rattle.std.proofs.Common.{None, IsSome, refl, sym, ap, ◌∙◌, subst, arith}
use Rattle.std.specs.Prelude.{IfSome}
use Rattle.std.specs.List.{AllByRecursion}
use Rattle.std.proofs.lemmas.List.{append-nil}
use Rattle.ev_types.specs.declared.item.Output.{Output}
use Rattle.fork_by.specs.declared.table.ForkTable.{ForkTable}
use Rattle.fork_by.specs.Table.{kept_forks, kept_at, with_fork, fork_dated, fork_replaced, HasFork, IsTable}
use Rattle.fork_by.proofs.Laws.{forks_apart, numbers_reach, written_is_table, written_has_forks, written_is_replaced}
use Rattle.step_count.specs.Count.{StepCount}
use Rattle.regex.specs.declared.string.regex.Regex.{Regex}
use Rattle.stream_plan.specs.declared.plan.Stream.{Stream, out-Stream}
use Rattle.stream_plan.specs.Search.{opened}
use Rattle.stream_plan.specs.Tree.{StreamTrees, kind_tree, list_trees}
use Rattle.stream_meaning.specs.declared.entry.Entry.{Entry}
use Rattle.stream_meaning.specs.Deadlines.{until, plan_deadline}
use Rattle.stream_meaning.specs.Ends.{idle_after}
use Rattle.stream_meaning.specs.History.{History, ◌▸◌, moment_of}
use Rattle.stream_meaning.specs.Outputs.{Effect, Given, plan_effects}
use Rattle.stream_meaning.proofs.KeptEvents.{all-weaker}
use Rattle.stream_tree.specs.declared.forest.Forest.{Forest}
use Rattle.stream_tree.specs.declared.forest.Node.{Node}
use Rattle.stream_tree.specs.Ends.{idle_by}
use Rattle.stream_tree.specs.Forest.{nodes_of, ForestRepresents}
use Rattle.stream_tree.specs.Running.{ComesAt, ForestRuns, ForestStops, kind_of, children_of, fork_after, ForkRan}
use Rattle.stream_tree.specs.Running.{ForkComes, ForkRuns, ForkStops}
use Rattle.stream_tree.specs.Tree.{Performs, PerformsPart}
use Rattle.stream_tree.proofs.ReceivedLaws.{kind_of-opened, children_of-opened}
use Rattle.stream_tree.proofs.KeptLaws.{Kept, eqb-self, all-from_map, map-map, map-pointwise, at_number, only_kept}
use Rattle.stream_tree.proofs.PerformLaws.{part_none, part_then}

-- ---- the fork that is lent, and what the table keeps after it

-- what is so of each fork of the number is so of the one that is lent
module _ (forks : ForkTable Forest) (number : ℕ) (is_table : IsTable forks) (has_fork : HasFork number forks) where
  pub lent : (P : Forest → Type 0) (fork : Forest)
      → IfSome (kept_at number (kept_forks forks)) (λ kept. fork ≡ kept.fork)
      → AllByRecursion (λ (k : Kept). eqb k.number number ≡ true → P k.fork) (kept_forks forks) → P fork
  lent P fork is all =
      by_known (kept_at number (kept_forks forks)) refl is (numbers_reach forks is_table number has_fork)
    where
      by_known : (known : Option Kept) → kept_at number (kept_forks forks) ≡ known
          → IfSome known (λ kept. fork ≡ kept.fork) → IsSome known → P fork
      by_known None at is some = absurd (cc)
      by_known (Some kept) at is some =
          let here =
          at_number (λ (k : Kept). eqb k.number number ≡ true → P k.fork) number (kept_forks forks) kept all at in
          subst P (sym is) (here.0 (ap (λ (n : ℕ). eqb n number) here.1 ∙ eqb-self number))

  -- the moment that is read is that of the fork of the number
  moments_are : (moment : ℕ) → IfSome (kept_at number (kept_forks forks)) (λ kept. moment ≡ kept.moment)
      → AllByRecursion (λ (k : Kept). eqb k.number number ≡ true → moment ≡ k.moment) (kept_forks forks)
  moments_are moment is =
      by_known (kept_at number (kept_forks forks)) refl is (numbers_reach forks is_table number has_fork)
    where
      by_known : (known : Option Kept) → kept_at number (kept_forks forks) ≡ known
          → IfSome known (λ kept. moment ≡ kept.moment) → IsSome known
          → AllByRecursion (λ (k : Kept). eqb k.number number ≡ true → moment ≡ k.moment) (kept_forks forks)
      by_known None at is some = absurd (cc)
      by_known (Some kept) at is some =
          all-weaker (λ (k : Kept). eqb k.number number ≡ true → k ≡ kept)
          (λ (k : Kept). eqb k.number number ≡ true → moment ≡ k.moment)
          (λ k only same. is ∙ ap (λ (other : Kept). other.moment) (sym (only same))) (kept_forks forks)
          (only_kept number (kept_forks forks) kept (forks_apart forks is_table).numbers at)

-- a fork that was written and then got a due moment
written : (idle : Option ℕ) (number : ℕ) (fork : Forest) (moment : ℕ) (due deadline : Option ℕ) (k : Kept) →
    due ≡ until (idle_after idle (Some moment)) deadline →
    (eqb k.number number ≡ true → moment ≡ k.moment) →
    fork_dated number due (fork_replaced number fork k) ≡ fork_after idle number fork deadline k
written idle number fork moment due deadline k due_is moment_is = step (eqb k.number number) refl
  where
    replaced : Bool → Kept
    replaced b = cond b (record k { fork = fork }) k

    dated : Bool → Kept → Kept
    dated b other = cond b (record other { due = due }) other

    after : Bool → Kept
    after b = cond b (record k { fork = fork; due = until (idle_after idle (Some k.moment)) deadline }) k

    step : (b : Bool) → eqb k.number number ≡ b
        → fork_dated number due (fork_replaced number fork k) ≡ fork_after idle number fork deadline k
    step true e =
        ap (fork_dated number due) (ap replaced e) ∙ ap (λ (b : Bool). dated b (record k { fork = fork })) e
        ∙ ap (λ (d : Option ℕ). record k { fork = fork; due = d })
        (due_is ∙ ap (λ (m : ℕ). until (idle_after idle (Some m)) deadline) (moment_is e))
        ∙ sym (ap after e)
    step false e =
        ap (fork_dated number due) (ap replaced e) ∙ ap (λ (b : Bool). dated b k) e ∙ sym (ap after e)

-- the table with another fork in place of that of the number, and what was read of it
fork_replaced_is : (texts : List (List ℕ)) (streams : StreamTrees) (idle : Option ℕ) (number : ℕ)
    (forks forks' : ForkTable Forest) (fork : Forest) (moment : ℕ) (due : Option ℕ) (h : History) →
    IsTable forks → HasFork number forks →
    IfSome (kept_at number (kept_forks (with_fork forks number fork))) (λ kept. moment ≡ kept.moment) →
    kept_forks forks' ≡ map (fork_dated number due) (kept_forks (with_fork forks number fork)) →
    (IsTable (with_fork forks number fork) → IsTable forks') →
    ((other : ℕ) → HasFork other (with_fork forks number fork) → HasFork other forks') →
    ForestRepresents texts streams (nodes_of fork) h →
    due ≡ until (idle_after idle (Some moment)) (plan_deadline streams h) →
    ForkRan texts streams idle number forks forks' h
fork_replaced_is texts streams idle number forks forks' fork moment due h is_table has_fork read dated table has_on
    represents due_is =
    let ks = kept_forks forks in
    let middle = with_fork forks number fork in
    let middle_table : IsTable middle = written_is_table forks is_table number fork in
    let put : kept_forks middle ≡ map (fork_replaced number fork) ks =
    written_is_replaced forks is_table number fork has_fork in
    let moments : AllByRecursion (λ (k : Kept). eqb k.number number ≡ true → moment ≡ k.moment) ks =
    all-weaker
    (λ (k : Kept). eqb (fork_replaced number fork k).number number ≡ true
    → moment ≡ (fork_replaced number fork k).moment)
    (λ (k : Kept). eqb k.number number ≡ true → moment ≡ k.moment) (replaced_moment number fork moment) ks
    (all-from_map (λ (k : Kept). eqb k.number number ≡ true → moment ≡ k.moment) (fork_replaced number fork) ks
    (subst (AllByRecursion (λ (k : Kept). eqb k.number number ≡ true → moment ≡ k.moment)) put
    (moments_are middle number middle_table (written_has_forks forks number fork number has_fork) moment
    read))) in record {
      is_table = table middle_table;
      has_forks = λ other there. has_on other (written_has_forks forks number fork other there);
      fork = fork;
      represents = represents;
      kept =
          dated ∙ ap (map (fork_dated number due)) put
          ∙ map-map (fork_dated number due) (fork_replaced number fork) ks
          ∙ map-pointwise (λ k. fork_dated number due (fork_replaced number fork k))
          (fork_after idle number fork (plan_deadline streams h)) ks
          (all-weaker (λ (k : Kept). eqb k.number number ≡ true → moment ≡ k.moment)
          (λ k. fork_dated number due (fork_replaced number fork k)
          ≡ fork_after idle number fork (plan_deadline streams h) k)
          (λ k is. written idle number fork moment due (plan_deadline streams h) k due_is is) ks moments);
    }
  where
    replaced_moment : (number : ℕ) (fork : Forest) (moment : ℕ) (k : Kept) →
        (eqb (fork_replaced number fork k).number number ≡ true → moment ≡ (fork_replaced number fork k).moment) →
        eqb k.number number ≡ true → moment ≡ k.moment
    replaced_moment number fork moment k is same =
        let now : fork_replaced number fork k ≡ record k { fork = fork } =
        ap (λ (b : Bool). cond b (record k { fork = fork }) k) same in
        is (ap (λ (other : Kept). eqb other.number number) now ∙ same) ∙ ap (λ (other : Kept). other.moment) now

-- the same idle time read twice
pub idle_opened : (s : Stream) → idle_by (kind_tree (out-Stream s).kind) ≡ idle_by (kind_of (opened s))
idle_opened s = ap idle_by (sym (kind_of-opened s))

whole_part : {G : Type 0} (a b : List Output) (t u : StepCount G) (es : List Effect) → Performs a t b u es
    → PerformsPart a t b u es
whole_part a b t u es p =
    subst (λ (hs : List Effect). PerformsPart a t b u hs) (append-nil es)
    (part_then a b b t u u es [] p (part_none b u []))

moment_small : (start moment : ℕ) (h : History) (x : Entry) → ComesAt start moment h x → moment_of (h ▸ x) ≤ 2 ^ 40
moment_small start moment h x comes = subst (λ (m : ℕ). m ≤ 2 ^ 40) (sym comes.comes) comes.small

module _ {G : Type 0} (patterns : List Regex) (start moment : ℕ) (s : Stream) (streams : List Stream)
    (is : streams ≡ (out-Stream s).children.items) (number : ℕ) (forks : ForkTable Forest) (fork : Forest) (x : Entry)
    (has_fork : HasFork number forks)
    (here : IsTable forks → IfSome (kept_at number (kept_forks forks)) (λ kept. fork ≡ kept.fork))
    (a b : List Output) (t t' u : StepCount G)
    (entered : t'.forks ≡ t.forks + 1) (visited : t'.entries ≡ t.entries) (goes_on : t'.began ≡ t.began) where
  trees : list_trees streams ≡ children_of (opened s)
  trees = ap list_trees is ∙ sym (children_of-opened s)

  holds_here : (texts : List (List ℕ)) (h : History)
      → ForkComes start moment texts (children_of (opened s)) number forks h x
      → ForestRepresents texts (list_trees streams) (nodes_of fork) h
  holds_here texts h represents =
      subst (λ (ts : StreamTrees). ForestRepresents texts ts (nodes_of fork) h) (sym trees)
      (lent forks number represents.is_table has_fork
      (λ (f : Forest). ForestRepresents texts (children_of (opened s)) (nodes_of f) h) fork (here represents.is_table)
      represents.fork)

  -- the entry that is given to the fork counts one
  counted : (es : List Effect) → Performs a t' b u es → Performs a t b u (Given ∷ es)
  counted es p = record {
    outputs = p.outputs;
    forks = omega (arith, p.forks, entered);
    entries = omega (arith, p.entries, visited);
    began = p.began ∙ goes_on;
  }

  performed : (h : History) → Performs a t' b u (plan_effects (list_trees streams) (h ▸ x))
      → Performs a t b u (Given ∷ plan_effects (children_of (opened s)) (h ▸ x))
  performed h p =
      subst (λ (ts : StreamTrees). Performs a t b u (Given ∷ plan_effects ts (h ▸ x))) trees
      (counted (plan_effects (list_trees streams) (h ▸ x)) p)

  pub fork_runs : (fork' : Forest) (forks' : ForkTable Forest) (read : ℕ) (deadline due : Option ℕ) →
      ForestRuns patterns start moment a t' b u x (list_trees streams) (nodes_of fork) (nodes_of fork') →
      ((texts : List (List ℕ)) (h : History) → ForestRepresents texts (list_trees streams) (nodes_of fork') h →
      moment_of h ≤ 2 ^ 40 → deadline ≡ plan_deadline (list_trees streams) h) →
      due ≡ until (idle_after (idle_by (kind_tree (out-Stream s).kind)) (Some read)) deadline →
      (IsTable (with_fork forks number fork') →
      IfSome (kept_at number (kept_forks (with_fork forks number fork'))) (λ kept. read ≡ kept.moment)) →
      kept_forks forks' ≡ map (fork_dated number due) (kept_forks (with_fork forks number fork')) →
      (IsTable (with_fork forks number fork') → IsTable forks') →
      ((other : ℕ) → HasFork other (with_fork forks number fork') → HasFork other forks') →
      ForkRuns patterns start moment a t b u x (children_of (opened s)) (idle_by (kind_of (opened s)))
      number forks forks'
  fork_runs fork' forks' read deadline due runs deadline_is due_is read_is dated table has_on texts h from represents =
      let ran = runs texts h from (holds_here texts h represents) represents.comes in
      let deadline_so : deadline ≡ plan_deadline (children_of (opened s)) (h ▸ x) =
      deadline_is texts (h ▸ x) ran.0 (moment_small start moment h x represents.comes)
      ∙ ap (λ (ts : StreamTrees). plan_deadline ts (h ▸ x)) trees in (
        fork_replaced_is texts (children_of (opened s)) (idle_by (kind_of (opened s)))
            number forks forks' fork' read due
            (h ▸ x) represents.is_table has_fork
            (read_is (written_is_table forks represents.is_table number fork')) dated table has_on
            (subst (λ (ts : StreamTrees). ForestRepresents texts ts (nodes_of fork') (h ▸ x)) trees ran.0)
            (due_is ∙ ap (λ (i : Option ℕ). until (idle_after i (Some read)) deadline) (idle_opened s)
            ∙ ap (until (idle_after (idle_by (kind_of (opened s))) (Some read))) deadline_so),
        performed h ran.1,
      )

  -- the due moment was not set
  pub fork_unset : (fork' : Forest)
      → ForestRuns patterns start moment a t' b u x (list_trees streams) (nodes_of fork) (nodes_of fork')
      → ForkStops patterns start moment a t b u x (children_of (opened s)) number forks
  fork_unset fork' runs texts h from represents =
      let ran = runs texts h from (holds_here texts h represents) represents.comes in
      whole_part a b t u (Given ∷ plan_effects (children_of (opened s)) (h ▸ x)) (performed h ran.1)

  -- the fork stopped
  pub fork_stops : ForestStops patterns start moment a t' b u x (list_trees streams) (nodes_of fork)
      → ForkStops patterns start moment a t b u x (children_of (opened s)) number forks
  fork_stops stops texts h from represents =
      let part = (stops texts h from (holds_here texts h represents) represents.comes).part in
      subst (λ (ts : StreamTrees). PerformsPart a t b u (Given ∷ plan_effects ts (h ▸ x))) trees (record {
        begins = part.begins;
        within = part.within;
        forks = omega (arith, part.forks, entered);
        entries = omega (arith, part.entries, visited);
        no_fewer_forks = omega (arith, part.no_fewer_forks, entered);
        no_fewer_entries = omega (arith, part.no_fewer_entries, visited);
        began = part.began ∙ goes_on;
      })

-- there is no such fork
pub fork_missing_runs : {G : Type 0} (patterns : List Regex) (start moment : ℕ) (a : List Output) (t : StepCount G)
    (x : Entry) (streams : StreamTrees) (idle : Option ℕ) (number : ℕ) (forks : ForkTable Forest) →
    (HasFork number forks → ⊥) →
    ForkRuns patterns start moment a t a t x streams idle number forks forks
fork_missing_runs patterns start moment a t x streams idle number forks missing texts h from represents =
    absurd (missing represents.has_fork)

-- the same streams read twice
pub due_same : (streams streams' : List Stream) (nodes : List Node) (due : Option ℕ) → streams ≡ streams' →
    ((texts : List (List ℕ)) (h : History) → ForestRepresents texts (list_trees streams) nodes h →
    moment_of h ≤ 2 ^ 40 → due ≡ plan_deadline (list_trees streams) h) →
    (texts : List (List ℕ)) (h : History) → ForestRepresents texts (list_trees streams') nodes h →
    moment_of h ≤ 2 ^ 40 → due ≡ plan_deadline (list_trees streams') h
due_same streams streams' nodes due same is =
    subst
    (λ (l : List Stream). (texts : List (List ℕ)) (h : History) → ForestRepresents texts (list_trees l) nodes h
    → moment_of h ≤ 2 ^ 40 → due ≡ plan_deadline (list_trees l) h)
    same is
