-- What is to be known of each kind of stream.
use Rattle.std.proofs.Common.{◌≡◌, ℕ, ◌+◌, ◌<◌, Bool, true, false, ◌&&◌, cond, nat_le, List, [], ◌∷◌, ◌++◌, Option}
use Rattle.std.proofs.Common.{Some, None, refl, ap, ◌∙◌, arith}
use Rattle.std.specs.List.{AllByRecursion}
use Rattle.std.proofs.lemmas.Bool.Decides.{nat_tests}
use Rattle.ev_types.specs.declared.event.Event.{Event}
use Rattle.ev_types.specs.declared.field.Field.{Field}
use Rattle.ev_types.specs.declared.item.Item.{Item}
use Rattle.ev_types.specs.declared.item.Item.TheVariants.{One, Many}
use Rattle.ev_types.specs.declared.settings.Fold.{Fold}
use Rattle.ev_types.specs.declared.value.Value.{Value}
use Rattle.pred_eval.specs.Tree.{Tree}
use Rattle.pred_eval.specs.Truth.{holds}
use Rattle.stream_plan.specs.Faults.{preorder_at, preorder_in, count_of}
use Rattle.stream_plan.specs.Kinds.{is_count, is_secs, is_in_range, passes_on}
use Rattle.stream_plan.specs.Sound.{IsInRange, IsSound}
use Rattle.stream_plan.specs.Tree.{KindTree, Index, Notice, Sdo, Where, With, Default, Tag, By, Rollup, Batch, Coalesce}
use Rattle.stream_plan.specs.Tree.{Smap, StreamTree, StreamTrees, stream, none, also}
use Rattle.stream_meaning.specs.declared.entry.Entry.{Entry}
use Rattle.stream_meaning.specs.declared.entry.Entry.TheVariants.{Tick, Item as In}
use Rattle.stream_meaning.specs.DeadlineLaws.{HasRange}
use Rattle.stream_meaning.specs.DueLaws.{HasStreamRanges, HasRanges}
use Rattle.stream_meaning.specs.Emission.{Branch, Children, Otherwise, Fork, Emission, to_children, image_of, passed}
use Rattle.stream_meaning.specs.Emission.{routed, forked, one_of, fold_of, emissions}
use Rattle.stream_meaning.specs.History.{History, ◌▸◌}
use Rattle.stream_meaning.specs.Images.{folded}
use Rattle.stream_meaning.specs.Outputs.{Effect, BranchEffects, own_effects, emits_if_any, at_tick, at_emissions}
use Rattle.stream_meaning.specs.Outputs.{received_more}
use Rattle.stream_tree.specs.Forest.{IsStreamInRange, AreInRange, forked_by}
use Rattle.stream_tree.specs.Running.{Received, FitsBranch, FitAll, given_to, entering}
use Rattle.stream_tree.proofs.LiveLaws.{live_ticked}
use Rattle.stream_tree.proofs.PerformLaws.{nil_left, acted}

-- ---- ranges

both : (a b : Bool) → (a && b) ≡ true → (a ≡ true) × (b ≡ true)
both true b h = (refl, h)
both false b h = cc

positive : (n : ℕ) (b : Bool) → (nat_le 1 n && b) ≡ true → 0 < n
positive n b h = let one : nat_le 1 n ≡ true = (both (nat_le 1 n) b h).0 in grind (arith, nat_tests)

pub kind_range : (kind : KindTree) → is_in_range kind ≡ true → HasRange kind
kind_range (By fields None) h = tt
kind_range (By fields (Some secs)) h = positive secs _ h
kind_range (Rollup n secs) h =
    let parts = both (is_count n) (is_secs secs) h in (positive n _ parts.0, positive secs _ parts.1)
kind_range (Batch n secs) h = let parts = both (is_count n) (is_secs secs) h in positive secs _ parts.1
kind_range (Coalesce secs) h = positive secs _ h
kind_range kind h = tt

mutual
  stream_ranges : (s : StreamTree) → IsStreamInRange s → HasStreamRanges s
  stream_ranges (stream kind children otherwise) ranges =
      (kind_range kind ranges.0, plan_ranges children ranges.1, plan_ranges otherwise ranges.2)

  pub plan_ranges : (plan : StreamTrees) → AreInRange plan → HasRanges plan
  plan_ranges none ranges = tt
  plan_ranges (also first more) ranges = (stream_ranges first ranges.0, plan_ranges more ranges.1)

front-all : {A : Type 0} (P : A → Type 0) (xs ys : List A) → AllByRecursion P (xs ++ ys) → AllByRecursion P xs
front-all P [] ys all = tt
front-all P (x ∷ xs) ys all = (all.0, front-all P xs ys all.1)

back-all : {A : Type 0} (P : A → Type 0) (xs ys : List A) → AllByRecursion P (xs ++ ys) → AllByRecursion P ys
back-all P [] ys all = all
back-all P (x ∷ xs) ys all = back-all P xs ys all.1

mutual
  unfolding preorder_at preorder_in

  stream_in_range : (s : StreamTree) (path : List ℕ) (flow : _) → AllByRecursion IsInRange (preorder_at path flow s)
      → IsStreamInRange s
  stream_in_range (stream kind children otherwise) path flow ranges =
      let first = preorder_in path 0 (passes_on kind flow) children in
      let second = preorder_in path (count_of children) (passes_on kind flow) otherwise in (
        ranges.0,
        plan_in_range children path 0 (passes_on kind flow) (front-all IsInRange first second ranges.1),
        plan_in_range otherwise path (count_of children) (passes_on kind flow)
            (back-all IsInRange first second ranges.1),
      )

  plan_in_range : (streams : StreamTrees) (path : List ℕ) (number : ℕ) (flow : _)
      → AllByRecursion IsInRange (preorder_in path number flow streams) → AreInRange streams
  plan_in_range none path number flow ranges = tt
  plan_in_range (also s streams) path number flow ranges =
      let first = preorder_at (path ++ number ∷ []) flow s in
      let second = preorder_in path (number + 1) flow streams in (
        stream_in_range s (path ++ number ∷ []) flow (front-all IsInRange first second ranges),
        plan_in_range streams path (number + 1) flow (back-all IsInRange first second ranges),
      )

pub sound_in_range : (plan : StreamTrees) → IsSound plan → AreInRange plan
sound_in_range plan sound = plan_in_range plan [] 0 _ sound.in_range

-- ---- branches

-- how often each key ended
abbrev Ended : Type 0
Ended = List Value → ℕ

children_fit : (ended : Ended) (items : List Item) → FitAll None ended (to_children items)
children_fit ended [] = tt
children_fit ended (item ∷ items) = (tt, children_fit ended items)

one_fits : (ended : Ended) (event : Option Event) → FitAll None ended (one_of event)
one_fits ended None = tt
one_fits ended (Some event) = (tt, tt)

test_fits : (ended : Ended) (t : Bool) → FitsBranch None ended (cond t Children Otherwise)
test_fits ended true = tt
test_fits ended false = tt

image_fits : (ended : Ended) (change : Event → Event) (x : Entry) → FitAll None ended (image_of change x)
image_fits ended change Tick = tt
image_fits ended change (In (One event)) = (tt, tt)
image_fits ended change (In (Many es)) = tt

passed_fits : (ended : Ended) (x : Entry) → FitAll None ended (passed x)
passed_fits ended Tick = tt
passed_fits ended (In item) = (tt, tt)

routed_fits : (ended : Ended) (rule : Tree) (x : Entry) → FitAll None ended (routed rule x)
routed_fits ended rule Tick = tt
routed_fits ended rule (In (One event)) = (test_fits ended (holds rule event), tt)
routed_fits ended rule (In (Many es)) = tt

fold_fits : (ended : Ended) (fold : Fold) (x : Entry) → FitAll None ended (fold_of fold x)
fold_fits ended fold Tick = tt
fold_fits ended fold (In (One event)) = tt
fold_fits ended fold (In (Many es)) = one_fits ended (folded fold es)

forked_fits : (fields : List Field) (idle : Option ℕ) (h : History) (x : Entry)
    → FitAll (Some idle) (live_ticked (By fields idle) x h).ended (forked idle fields (h ▸ x))
forked_fits fields idle h Tick = tt
forked_fits fields idle h (In (One event)) = (refl, tt)
forked_fits fields idle h (In (Many es)) = tt

pub emissions_fit : (kind : KindTree) (h : History) (x : Entry)
    → FitAll (forked_by kind) (live_ticked kind x h).ended (emissions kind (h ▸ x))
emissions_fit Index h x = tt
emissions_fit (Notice name) h x = tt
emissions_fit Sdo h x = passed_fits (live_ticked Sdo x h).ended x
emissions_fit (Where rule) h x = routed_fits (live_ticked (Where rule) x h).ended rule x
emissions_fit (With sets) h x = image_fits (live_ticked (With sets) x h).ended _ x
emissions_fit (Default sets) h x = image_fits (live_ticked (Default sets) x h).ended _ x
emissions_fit (Tag tags) h x = image_fits (live_ticked (Tag tags) x h).ended _ x
emissions_fit (By fields idle) h x = forked_fits fields idle h x
emissions_fit (Smap fold) h x = fold_fits (live_ticked (Smap fold) x h).ended fold x
emissions_fit kind h x = children_fit (live_ticked kind x h).ended _

-- ---- effects

none_given : (ended : Ended) (branch : Branch) → FitsBranch None ended branch → given_to branch ≡ []
none_given ended Children fits = refl
none_given ended Otherwise fits = refl
none_given ended (Fork fork) fits = absurd fits

plain_emissions : (ended : Ended) (effects_in : BranchEffects) (received : Received) (es : List Emission)
    → FitAll None ended es
    → at_emissions (entering effects_in) received es ≡ at_emissions effects_in received es
plain_emissions ended effects_in received [] fit = refl
plain_emissions ended effects_in received (emission ∷ es) fit =
    let said = effects_in emission.branch (received emission.branch ▸ In emission.item) in
    let next = received_more emission received in
    ap (λ (given : List Effect). (given ++ said) ++ at_emissions (entering effects_in) next es)
    (none_given ended emission.branch fit.0)
    ∙ ap (λ (l : List Effect). said ++ l) (plain_emissions ended effects_in next es fit.1)

-- what a stream performs itself, and then what is performed below it, is all that it brings about
pub all_effects : (kind : KindTree) (h : History) (x : Entry) (effects_in : BranchEffects) (before after : Received)
    (bs : List Branch) →
    acted (forked_by kind) (own_effects kind (h ▸ x)) ++ at_tick x effects_in before bs
    ++ at_emissions (entering effects_in) after (emissions kind (h ▸ x))
    ≡ own_effects kind (h ▸ x) ++ at_tick x effects_in before bs
    ++ at_emissions effects_in after (emissions kind (h ▸ x))
all_effects (By fields idle) h Tick effects_in before after bs = refl
all_effects (By fields idle) h (In (One event)) effects_in before after bs = refl
all_effects (By fields idle) h (In (Many es)) effects_in before after bs = refl
all_effects kind h x effects_in before after bs =
    ap (λ (l : List Effect). own_effects kind (h ▸ x) ++ at_tick x effects_in before bs ++ l)
    (plain_emissions (live_ticked kind x h).ended effects_in after (emissions kind (h ▸ x)) (emissions_fit kind h x))

-- at a quiet tick nothing is passed on
pub no_emission : (kind : KindTree) (h : History) (rest more : List Effect)
    → own_effects kind (h ▸ Tick) ++ rest ++ more ≡ [] → emissions kind (h ▸ Tick) ≡ []
no_emission kind h rest more quiet =
    is_none (emissions kind (h ▸ Tick))
    (nil_left (own_effects kind (h ▸ Tick)) rest (nil_left (own_effects kind (h ▸ Tick) ++ rest) more quiet))
  where
    is_none : (es : List Emission) → emits_if_any es ≡ [] → es ≡ []
    is_none [] e = refl
    is_none (emission ∷ es) e = cc
