-- What the branches below a stream received, and where their nodes are then.
use Rattle.std.proofs.Common.{◌≡◌, ℕ, ◌<◌, true, cond, eqb, List, [], ◌∷◌, ◌++◌, Option, Some, None, refl, sym, ap, ◌∙◌}
use Rattle.std.proofs.Common.{subst, arith}
use Rattle.std.specs.Prelude.{IfSome}
use Rattle.std.proofs.lemmas.List.{append-nil, append_assoc}
use Rattle.ev_types.specs.declared.item.Item.{Item}
use Rattle.ev_types.specs.declared.value.Value.{Value}
use Rattle.fork_by.specs.declared.table.ForkTable.{ForkTable}
use Rattle.fork_by.specs.Table.{kept_forks}
use Rattle.stream_plan.specs.declared.plan.Stream.{Stream, out-Stream}
use Rattle.stream_plan.specs.Search.{opened}
use Rattle.stream_plan.specs.Tree.{KindTree, By, StreamTrees, kind_tree, list_trees}
use Rattle.stream_meaning.specs.Branches.{same_branch, after_emissions}
use Rattle.stream_meaning.specs.declared.entry.Entry.{Entry}
use Rattle.stream_meaning.specs.declared.entry.Entry.TheVariants.{Item as In}
use Rattle.stream_meaning.specs.Deadlines.{plan_deadline}
use Rattle.stream_meaning.specs.Emission.{Branch, Children, Otherwise, Fork, Emission}
use Rattle.stream_meaning.specs.History.{History, ◌▸◌, begun}
use Rattle.stream_meaning.specs.Outputs.{Effect, BranchEffects, at_emissions, received_more}
use Rattle.stream_meaning.proofs.KeptEvents.{all-weaker}
use Rattle.stream_meaning.proofs.MomentLaws.{after_emissions-moments}
use Rattle.stream_tree.specs.declared.forest.Forest.{Forest}
use Rattle.stream_tree.specs.declared.forest.Node.{Node}
use Rattle.stream_tree.specs.Ends.{idle_by}
use Rattle.stream_tree.specs.Forest.{Meaning, nodes_of, Below, LiveKeys, below_of, forked_by, key_fork, CanFork}
use Rattle.stream_tree.specs.Forest.{ForksRepresent, BelowRepresents, ForestRepresents}
use Rattle.stream_tree.specs.Forks.{IsFound, FoundAt, Finds}
use Rattle.stream_tree.specs.Running.{ComesAt, kind_of, children_of, otherwise_of, Received, BelowIs, FitsBranch}
use Rattle.stream_tree.specs.Running.{FitAll, with_branch, with_branches, after_tick, UnseenHaveTicks, NonePast}
use Rattle.stream_tree.specs.Running.{extended, ForkComes, AllAreAt}
use Rattle.stream_tree.proofs.ForkLaws.{unseen_goes_on, unseen_fits}
use Rattle.stream_tree.proofs.KeptLaws.{Kept}

-- ---- one level of a stream

pub kind_of-opened : (s : Stream) → kind_of (opened s) ≡ kind_tree (out-Stream s).kind
unfolding opened
kind_of-opened s = refl

pub children_of-opened : (s : Stream) → children_of (opened s) ≡ list_trees (out-Stream s).children.items
unfolding opened
children_of-opened s = refl

pub otherwise_of-opened : (s : Stream) → otherwise_of (opened s) ≡ list_trees (out-Stream s).otherwise.items
unfolding opened
otherwise_of-opened s = refl

abbrev pub branch_of_key : List Value → ℕ → Branch
branch_of_key key ended = Fork (record { key = key; number = ended })

-- ---- the nodes of one branch

-- after how many seconds forks end, of a stream that has some
abbrev pub idle_in : Option (Option ℕ) → Option ℕ
idle_in None = None
idle_in (Some idle) = idle

pub item_leaves : (shape : Option (Option ℕ)) (now : ℕ) (item : Item) (live : LiveKeys)
    → after_tick shape now (In item) live ≡ live
item_leaves None now item live = refl
item_leaves (Some idle) now item live = refl

pub idle_same : (kind : KindTree) → idle_in (forked_by kind) ≡ idle_by kind
idle_same (By fields idle) = refl
idle_same kind = refl

module _ (texts : List (List ℕ)) (plan : StreamTrees) (first : ℕ) (Means Beside : Meaning) where
  pub children_stand : (shape : Option (Option ℕ)) (live : LiveKeys) (received : Received) (below : Below) →
      FitsBranch shape live.ended Children →
      BelowRepresents texts plan first Means Beside shape live received below → Means below.children (received Children)
  children_stand None live received below fits represents = represents.children
  children_stand (Some idle) live received below fits represents = absurd fits

  pub otherwise_stand : (shape : Option (Option ℕ)) (live : LiveKeys) (received : Received) (below : Below) →
      FitsBranch shape live.ended Otherwise →
      BelowRepresents texts plan first Means Beside shape live received below →
      Beside below.otherwise (received Otherwise)
  otherwise_stand None live received below fits represents = represents.otherwise
  otherwise_stand (Some idle) live received below fits represents = absurd fits

  pub children_put : (shape : Option (Option ℕ)) (live : LiveKeys) (received : Received) (x : Entry)
      (children otherwise : List Node) (forks : ForkTable Forest) (children' : List Node) →
      FitsBranch shape live.ended Children →
      BelowRepresents texts plan first Means Beside shape live received
      (record { children = children; otherwise = otherwise; forks = forks }) →
      Means children' (received Children ▸ x) →
      BelowRepresents texts plan first Means Beside shape live (extended Children x received)
      (record { children = children'; otherwise = otherwise; forks = forks })
  children_put None live received x children otherwise forks children' fits represents now = record {
    children = now;
    otherwise = represents.otherwise;
    is_table = represents.is_table;
    no_forks = represents.no_forks;
  }
  children_put (Some idle) live received x children otherwise forks children' fits represents now = absurd fits

  pub otherwise_put : (shape : Option (Option ℕ)) (live : LiveKeys) (received : Received) (x : Entry)
      (children otherwise : List Node) (forks : ForkTable Forest) (otherwise' : List Node) →
      FitsBranch shape live.ended Otherwise →
      BelowRepresents texts plan first Means Beside shape live received
      (record { children = children; otherwise = otherwise; forks = forks }) →
      Beside otherwise' (received Otherwise ▸ x) →
      BelowRepresents texts plan first Means Beside shape live (extended Otherwise x received)
      (record { children = children; otherwise = otherwise'; forks = forks })
  otherwise_put None live received x children otherwise forks otherwise' fits represents now = record {
    children = represents.children;
    otherwise = now;
    is_table = represents.is_table;
    no_forks = represents.no_forks;
  }
  otherwise_put (Some idle) live received x children otherwise forks otherwise' fits represents now = absurd fits

  pub forks_represent : (shape : Option (Option ℕ)) (live : LiveKeys) (received : Received) (key : List Value)
      (number : ℕ)
      (below : Below) →
      FitsBranch shape live.ended (Fork (record { key = key; number = number })) →
      BelowRepresents texts plan first Means Beside shape live received below →
      CanFork texts plan first × IfSome (idle_in shape) (λ secs. 0 < secs)
      × ForksRepresent Means (plan_deadline plan) (idle_in shape) live.keys live.last (λ k. received (key_fork live k))
      below.forks
      × (number ≡ live.ended key)
  forks_represent None live received key number below fits represents = absurd fits
  forks_represent (Some idle) live received key number below fits represents =
      (represents.can_fork, represents.lasts, represents.forks, fits)

  pub forks_put : (shape : Option (Option ℕ)) (now : ℕ) (live : LiveKeys) (received received' : Received)
      (key : List Value) (number : ℕ) (children otherwise : List Node) (forks forks' : ForkTable Forest) →
      FitsBranch shape live.ended (Fork (record { key = key; number = number })) →
      BelowRepresents texts plan first Means Beside shape live received
      (record { children = children; otherwise = otherwise; forks = forks }) →
      (let after = with_branch now (Fork (record { key = key; number = number })) live in
      ForksRepresent Means (plan_deadline plan) (idle_in shape) after.keys after.last (λ k. received' (key_fork live k))
      forks') →
      BelowRepresents texts plan first Means Beside shape
      (with_branch now (Fork (record { key = key; number = number })) live) received'
      (record { children = children; otherwise = otherwise; forks = forks' })
  forks_put None now live received received' key number children otherwise forks forks' fits represents done =
      absurd fits
  forks_put (Some idle) now live received received' key number children otherwise forks forks' fits represents done =
      record {
        can_fork = represents.can_fork;
        lasts = represents.lasts;
        forks = done;
        no_children = represents.no_children;
        no_otherwise = represents.no_otherwise;
      }

pub fit_front : (shape : Option (Option ℕ)) (ended : List Value → ℕ) (es more : List Emission)
    → FitAll shape ended (es ++ more) → FitAll shape ended es
fit_front shape ended [] more fit = tt
fit_front shape ended (emission ∷ es) more fit = (fit.0, fit_front shape ended es more fit.1)

pub fit_back : (shape : Option (Option ℕ)) (ended : List Value → ℕ) (es more : List Emission)
    → FitAll shape ended (es ++ more) → FitAll shape ended more
fit_back shape ended [] more fit = fit
fit_back shape ended (emission ∷ es) more fit = fit_back shape ended es more fit.1

pub live-snoc : (now : ℕ) (es : List Emission) (emission : Emission) (live : LiveKeys)
    → with_branches now (es ++ emission ∷ []) live ≡ with_branch now emission.branch (with_branches now es live)
live-snoc now [] emission live = refl
live-snoc now (first ∷ es) emission live = live-snoc now es emission (with_branch now first.branch live)

-- an item ends no key
pub branch_ended : (now : ℕ) (branch : Branch) (live : LiveKeys) → (with_branch now branch live).ended ≡ live.ended
branch_ended now Children live = refl
branch_ended now Otherwise live = refl
branch_ended now (Fork fork) live = refl

pub items_ended : (now : ℕ) (es : List Emission) (live : LiveKeys) → (with_branches now es live).ended ≡ live.ended
items_ended now [] live = refl
items_ended now (emission ∷ es) live =
    items_ended now es (with_branch now emission.branch live) ∙ branch_ended now emission.branch live

pub after_emissions-snoc : (branch : Branch) (es : List Emission) (emission : Emission) (h : History) →
    after_emissions branch (es ++ emission ∷ []) h
    ≡ cond (same_branch emission.branch branch) (after_emissions branch es h ▸ In emission.item)
    (after_emissions branch es h)
after_emissions-snoc branch [] emission h = refl
after_emissions-snoc branch (first ∷ es) emission h =
    after_emissions-snoc branch es emission (cond (same_branch first.branch branch) (h ▸ In first.item) h)

pub at_emissions-snoc : (effects_in : BranchEffects) (received : Received) (es : List Emission) (emission : Emission) →
    at_emissions effects_in received (es ++ emission ∷ [])
    ≡ at_emissions effects_in received es
    ++ effects_in emission.branch (after_emissions emission.branch es (received emission.branch) ▸ In emission.item)
at_emissions-snoc effects_in received [] emission =
    append-nil (effects_in emission.branch (received emission.branch ▸ In emission.item))
at_emissions-snoc effects_in received (first ∷ es) emission =
    let said = effects_in first.branch (received first.branch ▸ In first.item) in
    let next = received_more first received in
    ap (λ (l : List Effect). said ++ l) (at_emissions-snoc effects_in next es emission)
    ∙ sym (append_assoc said (at_emissions effects_in next es)
    (effects_in emission.branch (after_emissions emission.branch es (next emission.branch) ▸ In emission.item)))

pub at_emissions-append : (effects_in : BranchEffects) (received : Received) (es more : List Emission)
    → (rest : List Effect)
    × (at_emissions effects_in received (es ++ more) ≡ at_emissions effects_in received es ++ rest)
at_emissions-append effects_in received [] more = (at_emissions effects_in received more, refl)
at_emissions-append effects_in received (first ∷ es) more =
    let said = effects_in first.branch (received first.branch ▸ In first.item) in
    let rest = at_emissions-append effects_in (received_more first received) es more in (
      rest.0,
      ap (λ (l : List Effect). said ++ l) rest.1
          ∙ sym (append_assoc said (at_emissions effects_in (received_more first received) es) rest.0),
    )

-- what is not there still has ticks alone
pub unseen_after : (shape : Option (Option ℕ)) (now : ℕ) (es : List Emission) (live : LiveKeys) (received : Received) →
    FitAll shape live.ended es →
    UnseenHaveTicks shape live received →
    UnseenHaveTicks shape (with_branches now es live) (λ branch. after_emissions branch es (received branch))
unseen_after shape now [] live received fit unseen = unseen
unseen_after shape now (emission ∷ es) live received fit unseen =
    unseen_after shape now es (with_branch now emission.branch live)
    (extended emission.branch (In emission.item) received)
    (subst (λ (ended : List Value → ℕ). FitAll shape ended es) (sym (branch_ended now emission.branch live)) fit.1)
    (unseen_goes_on shape now emission.branch (In emission.item) live received fit.0 unseen)

module _ (start moment : ℕ) where
  pub comes_here : (received : Received) (branch : Branch) (item : Item) → AllAreAt start moment received
      → ComesAt start moment (received branch) (In item)
  comes_here received branch item stand =
      record { begins = stand.begins branch; comes = stand.represents branch; small = stand.small }

  pub stand_after : (es : List Emission) (received : Received) → AllAreAt start moment received
      → AllAreAt start moment (λ branch. after_emissions branch es (received branch))
  stand_after es received stand = record {
    begins = λ branch. (after_emissions-moments branch es (received branch)).begins ∙ stand.begins branch;
    represents = λ branch. (after_emissions-moments branch es (received branch)).ends ∙ stand.represents branch;
    small = stand.small;
  }

  -- none has come past this moment
  pub none_past : (received : Received) → AllAreAt start moment received → NonePast moment received
  none_past received at branch = let here = at.represents branch in omega (arith, here)

  module _ (s : Stream) (streams : List Stream) (is : streams ≡ (out-Stream s).children.items) (first : ℕ)
      (key : List Value) (ended : ℕ) (x : Entry) (children otherwise : Forest) (forks found : ForkTable Forest)
      (number : ℕ)
      (finds : Finds (list_trees streams) first start moment key forks found number) where
    -- the fork of the key is found
    pub fork_found : (texts : List (List ℕ)) (live : LiveKeys) (received : Received) →
        FitsBranch (forked_by (kind_of (opened s))) live.ended (branch_of_key key ended) →
        BelowIs texts (opened s) first live received (below_of children otherwise forks) →
        UnseenHaveTicks (forked_by (kind_of (opened s))) live received → NonePast moment received →
        ComesAt start moment (received (branch_of_key key ended)) x →
        FoundAt texts (children_of (opened s)) (idle_in (forked_by (kind_of (opened s)))) key moment live.keys live.last
        (λ k. received (key_fork live k)) found number
    fork_found texts live received fits represents unseen past comes =
        let plan = children_of (opened s) in
        let trees : list_trees streams ≡ children_of (opened s) = ap list_trees is ∙ sym (children_of-opened s) in
        let here =
        forks_represent texts plan first (ForestRepresents texts plan)
        (ForestRepresents texts (otherwise_of (opened s))) (forked_by (kind_of (opened s))) live received key ended
        (below_of children otherwise forks) fits represents in
        let own : (branch_of_key key ended) ≡ key_fork live key =
        ap (λ (n : ℕ). Fork (record { key = key; number = n })) here.3 in
        subst (λ (trees : StreamTrees). Finds trees first start moment key forks found number) trees finds texts
        (idle_in (forked_by (kind_of (opened s)))) live.keys live.last
        (λ k. received (key_fork live k)) here.0 here.2
        (unseen_fits (forked_by (kind_of (opened s))) live received key ended fits unseen)
        (ap (λ (b : Branch). begun (received b)) (sym own) ∙ comes.begins) (λ k. past (key_fork live k))

    pub holds_there : (texts : List (List ℕ)) (live : LiveKeys) (received : Received) →
        (branch_of_key key ended) ≡ key_fork live key →
        FoundAt texts (children_of (opened s)) (idle_in (forked_by (kind_of (opened s)))) key moment live.keys live.last
        (λ k. received (key_fork live k)) found number →
        ComesAt start moment (received (branch_of_key key ended)) x →
        ForkComes start moment texts (children_of (opened s)) number found (received (branch_of_key key ended)) x
    holds_there texts live received own at comes = record {
      is_table = at.is_table;
      has_fork = at.has_fork;
      fork =
          all-weaker
          (IsFound (ForestRepresents texts (children_of (opened s))) (plan_deadline (children_of (opened s)))
          (idle_in (forked_by (kind_of (opened s)))) key moment number live.last (λ k. received (key_fork live k)))
          (λ (k : Kept). eqb k.number number ≡ true
          → ForestRepresents texts (children_of (opened s)) (nodes_of k.fork) (received (branch_of_key key ended)))
          (λ k found same.
          subst (λ (b : Branch). ForestRepresents texts (children_of (opened s)) (nodes_of k.fork) (received b))
          (sym own)
          (found.here (sym found.numbered ∙ same)).0)
          (kept_forks found) at.each;
      comes = comes;
    }
