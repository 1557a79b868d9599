-- The texts of a plan's regular expressions, one level and one stream at a time.
use Rattle.std.proofs.lemmas.List.{drop_all, append-nil}
use Rattle.std.proofs.Common.{length-append, arith, min, ◌≡◌, ℕ, ◌+◌, ◌<◌, ◌≤◌, subst, List, [], ◌++◌, length, drop}
use Rattle.std.proofs.Common.{get_or, refl, sym, ap, ◌∙◌, append_assoc, add-one}
use Rattle.std.proofs.Math.Seq.{drop-cons}
use Rattle.stream_plan.specs.declared.plan.Stream.{Stream, out-Stream}
use Rattle.list_laws.specs.Counts.{greatest}
use Rattle.list_laws.specs.Prefix.{IsPrefix}
use Rattle.stream_plan.specs.Ready.{kind_patterns, stream_patterns, plan_patterns}
use Rattle.stream_plan.specs.Search.{opened}
use Rattle.stream_plan.specs.Tree.{kind_tree, list_trees}
use Rattle.stream_plan.proofs.Trees.{stream_tree-opened}

pub stream_patterns-opened : (s : Stream) →
    stream_patterns (opened s)
    ≡ kind_patterns (kind_tree (out-Stream s).kind)
    ++ (plan_patterns (list_trees (out-Stream s).children.items)
    ++ plan_patterns (list_trees (out-Stream s).otherwise.items))
unfolding opened stream_patterns
stream_patterns-opened s = refl

-- the streams from place i on are the one there and those after it
pub plan_patterns-drop : (streams : List Stream) (i : ℕ) (s : Stream) → i < length streams →
    plan_patterns (list_trees (drop i streams))
    ≡ stream_patterns (opened (get_or streams i s)) ++ plan_patterns (list_trees (drop (i + 1) streams))
unfolding plan_patterns
plan_patterns-drop streams i s within =
    rw (drop-cons streams i s within, add-one i, stream_tree-opened (get_or streams i s)) refl

abbrev Texts : Type 0
Texts = List (List ℕ)

-- the stream's own are appended, and then those of the streams below it
pub stream_appended : (s : Stream) (children otherwise : List Stream) (first second third fourth : Texts) →
    children ≡ (out-Stream s).children.items → otherwise ≡ (out-Stream s).otherwise.items →
    second ≡ first ++ kind_patterns (kind_tree (out-Stream s).kind) →
    third ≡ second ++ plan_patterns (list_trees children) →
    fourth ≡ third ++ plan_patterns (list_trees otherwise) →
    fourth ≡ first ++ stream_patterns (opened s)
stream_appended s children otherwise first second third fourth children_is otherwise_is own below beside =
    let own' = kind_patterns (kind_tree (out-Stream s).kind) in
    let below' = plan_patterns (list_trees (out-Stream s).children.items) in
    let beside' = plan_patterns (list_trees (out-Stream s).otherwise.items) in
    let third_is : third ≡ (first ++ own') ++ below' = (rw (own, children_is) at below) in
    let fourth_is : fourth ≡ ((first ++ own') ++ below') ++ beside' = (rw (third_is, otherwise_is) at beside) in
    fourth_is ∙ append_assoc (first ++ own') below' beside' ∙ append_assoc first own' (below' ++ beside')
    ∙ ap (λ (texts : Texts). first ++ texts) (sym (stream_patterns-opened s))

-- a prefix stays one when more is added at the end
pub prefix_added : (front before more after : Texts) → IsPrefix front before → after ≡ before ++ more
    → IsPrefix front after
prefix_added front before more after (rest, is) added =
    (rest ++ more, added ∙ ap (λ (texts : Texts). texts ++ more) is ∙ append_assoc front rest more)

-- one more stream's are appended
pub one_more_appended : (streams : List Stream) (i : ℕ) (s : Stream) (before after whole : Texts) → i < length streams →
    s ≡ get_or streams i s →
    before ++ plan_patterns (list_trees (drop i streams)) ≡ whole → after ≡ before ++ stream_patterns (opened s) →
    after ++ plan_patterns (list_trees (drop (i + 1) streams)) ≡ whole
one_more_appended streams i s before after whole within is so_far more =
    let rest = plan_patterns (list_trees (drop (i + 1) streams)) in
    let here : plan_patterns (list_trees (drop i streams)) ≡ stream_patterns (opened s) ++ rest =
    plan_patterns-drop streams i s within ∙ ap (λ (t : Stream). stream_patterns (opened t) ++ rest) (sym is) in
    ap (λ (texts : Texts). texts ++ rest) more ∙ append_assoc before (stream_patterns (opened s)) rest
    ∙ ap (λ (texts : Texts). before ++ texts) (sym here) ∙ so_far

pub all_appended : (streams : List Stream) (i : ℕ) (before whole : Texts) → length streams ≤ i →
    before ++ plan_patterns (list_trees (drop i streams)) ≡ whole → before ≡ whole
unfolding plan_patterns
all_appended streams i before whole past so_far =
    let over : before ++ plan_patterns (list_trees []) ≡ whole =
    subst (λ (left : List Stream). before ++ plan_patterns (list_trees left) ≡ whole) (drop_all i streams past)
    so_far in
    sym (append-nil before) ∙ over

-- ---- their numbers

pub stream_counted : (s : Stream) (children otherwise : List Stream) (own below beside first total : ℕ) →
    children ≡ (out-Stream s).children.items → otherwise ≡ (out-Stream s).otherwise.items →
    own ≡ min (length (kind_patterns (kind_tree (out-Stream s).kind))) greatest →
    below ≡ min (length (plan_patterns (list_trees children))) greatest →
    beside ≡ min (length (plan_patterns (list_trees otherwise))) greatest →
    first ≡ min (own + below) greatest → total ≡ min (first + beside) greatest →
    total ≡ min (length (stream_patterns (opened s))) greatest
stream_counted s children otherwise own below beside first total children_is otherwise_is own_is below_is beside_is
    first_is total_is =
    let own' = kind_patterns (kind_tree (out-Stream s).kind) in
    let below' = plan_patterns (list_trees (out-Stream s).children.items) in
    let beside' = plan_patterns (list_trees (out-Stream s).otherwise.items) in
    let below_is' : below ≡ min (length below') greatest = (rw children_is at below_is) in
    let beside_is' : beside ≡ min (length beside') greatest = (rw otherwise_is at beside_is) in
    rw (stream_patterns-opened s)
    (count_three own' below' beside' own below beside first total own_is below_is' beside_is' first_is total_is)
  where
    count_three : (a b c : Texts) (own below beside first total : ℕ) →
        own ≡ min (length a) greatest → below ≡ min (length b) greatest → beside ≡ min (length c) greatest →
        first ≡ min (own + below) greatest → total ≡ min (first + beside) greatest →
        total ≡ min (length (a ++ (b ++ c))) greatest
    count_three a b c own below beside first total own_is below_is beside_is first_is total_is =
        omega (arith, length-append a (b ++ c), length-append b c, own_is, below_is, beside_is, first_is, total_is)

pub one_more_counted : (streams : List Stream) (i : ℕ) (s : Stream) (count one next whole : ℕ) → i < length streams →
    s ≡ get_or streams i s →
    one ≡ min (length (stream_patterns (opened s))) greatest → next ≡ min (count + one) greatest →
    min (count + length (plan_patterns (list_trees (drop i streams)))) greatest ≡ whole →
    min (next + length (plan_patterns (list_trees (drop (i + 1) streams)))) greatest ≡ whole
one_more_counted streams i s count one next whole within is one_is next_is so_far =
    let rest = plan_patterns (list_trees (drop (i + 1) streams)) in
    let here : plan_patterns (list_trees (drop i streams)) ≡ stream_patterns (opened s) ++ rest =
    plan_patterns-drop streams i s within ∙ ap (λ (t : Stream). stream_patterns (opened t) ++ rest) (sym is) in
    omega (
      arith,
      one_is,
      next_is,
      so_far,
      ap (λ (texts : Texts). length texts) here,
      length-append (stream_patterns (opened s)) rest,
    )

pub all_counted : (streams : List Stream) (i count whole : ℕ) → length streams ≤ i → count ≤ greatest →
    min (count + length (plan_patterns (list_trees (drop i streams)))) greatest ≡ whole → count ≡ whole
unfolding plan_patterns
all_counted streams i count whole past small so_far =
    let over : min (count + length (plan_patterns (list_trees []))) greatest ≡ whole =
    subst (λ (left : List Stream). min (count + length (plan_patterns (list_trees left))) greatest ≡ whole)
    (drop_all i streams past) so_far in
    omega (arith, over, small)
