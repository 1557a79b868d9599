-- The plan that is read of forms at most 64 brackets deep is well built, and that of a configuration has no fault.
use Rattle.std.proofs.Common.{◌≡◌, ℕ, suc, ◌+◌, ◌≤◌, false, List, [], ◌∷◌, ◌++◌, length, Some, None, Ok, refl, ap, sym}
use Rattle.std.proofs.Common.{subst, arith}
use Rattle.std.proofs.lemmas.Bool.{le-ltb}
use Rattle.std.specs.List.{AllByRecursion}
use Rattle.sexp_read.proofs.WrittenTrees.{depth_is}
use Rattle.sexp_read.specs.Grammar.{depth}
use Rattle.sexp_read.specs.Tree.{FormTrees}
use Rattle.sexp_read.specs.Written.{bare_trees}
use Rattle.stream_plan.specs.declared.fault.PlanWhy.{PlanWhy}
use Rattle.stream_plan.specs.declared.fault.PlanWhy.TheVariants.{Many, Deep, Children, Range, Kind}
use Rattle.stream_plan.specs.Faults.{preorder_at, preorder_in, preorder_of, count_of, counts, ends_in_fork, first_fault}
use Rattle.stream_plan.specs.Faults as faults
use Rattle.stream_plan.specs.Kinds.{passes_on, at_top, is_in_range}
use Rattle.stream_plan.specs.Sound.{IsShallow, HasStreamsThatMayFollow, IsInRange, IsEndlessInForks}
use Rattle.stream_plan.specs.Tree.{StreamTree, stream, StreamTrees}
use Rattle.stream_plan.specs.Tree as plan
use Rattle.stream_plan.proofs.SoundLaws.{faultless_is_sound, neither, all_both}
use Rattle.sexp_config.specs.Tops.{Draft, fresh_draft, run, tops_in}
use Rattle.sexp_config.specs.WellBuilt.{IsWellBuilt, IsLeft, ReadPlansHaveNoFault}
use Rattle.config_terms.proofs.Outcomes.{ok_read}
use Rattle.sexp_config.proofs.StreamsBuilt.{FitsAt, AllFitAt, tops_fit}
use Rattle.sexp_config.proofs.PlanLaws.{At, one, first, why_reported}
use Rattle.sexp_config.proofs.PlanPasses.{all_are, passes_none}
use Rattle.sexp_config.proofs.GrammarTops.{TopsMean, tops_mean}

-- ---- each stream of the plan

abbrev Right : faults.Placed → Type 0
Right s = IsShallow s × HasStreamsThatMayFollow s × IsInRange s × IsEndlessInForks s

both : {A : Type 0} (P : A → Type 0) (xs ys : List A) → AllByRecursion P xs → AllByRecursion P ys
    → AllByRecursion P (xs ++ ys)
both P [] ys front back = back
both P (x ∷ xs) ys front back = (front.0, both P xs ys front.1 back)

one_longer : (path : List ℕ) (n : ℕ) → suc (length path) ≡ length (path ++ n ∷ [])
one_longer [] n = refl
one_longer (m ∷ path) n = ap suc (one_longer path n)

-- `passes_on plan.Sdo flow` is this flow, whose type has no name here
mutual
  unfolding preorder_at preorder_in

  right_at : (path : List ℕ) (flow : _) (s : StreamTree) → FitsAt (length path) (passes_on plan.Sdo flow).in_fork s
      → AllByRecursion Right (preorder_at path flow s)
  right_at path flow (stream kind children otherwise) holds = (
    (holds.0, holds.1, holds.2, holds.3),
    both Right (preorder_in path 0 (passes_on kind flow) children)
        (preorder_in path (count_of children) (passes_on kind flow) otherwise)
        (right_in path 0 (passes_on kind flow) children holds.4)
        (right_in path (count_of children) (passes_on kind flow) otherwise holds.5),
  )

  right_in : (path : List ℕ) (number : ℕ) (flow : _) (streams : StreamTrees)
      → AllFitAt (suc (length path)) (passes_on plan.Sdo flow).in_fork streams
      → AllByRecursion Right (preorder_in path number flow streams)
  right_in path number flow plan.none all = tt
  right_in path number flow (plan.also s streams) all =
      both Right (preorder_at (path ++ number ∷ []) flow s) (preorder_in path (number + 1) flow streams)
      (right_at (path ++ number ∷ []) flow s (subst (λ (n : ℕ). FitsAt n (passes_on plan.Sdo flow).in_fork s)
      (one_longer path number) all.0))
      (right_in path (number + 1) flow streams all.1)

well_built : (streams : StreamTrees) → AllFitAt 1 false streams → IsWellBuilt streams
well_built streams all =
    let right = right_in [] 0 at_top streams all in
    record {
      shallow = all_are Right IsShallow (λ s known. known.0) (preorder_of streams) right;
      followed = all_are Right HasStreamsThatMayFollow (λ s known. known.1) (preorder_of streams) right;
      in_range = all_are Right IsInRange (λ s known. known.2) (preorder_of streams) right;
      endless = all_are Right IsEndlessInForks (λ s known. known.3) (preorder_of streams) right;
    }

-- the draft that the forms give
pub read_is_built : (forms : FormTrees) (draft : Draft) → depth forms ≤ 64
    → run [] fresh_draft (tops_in forms) ≡ Ok draft → IsWellBuilt draft.below.children.streams
read_is_built forms draft h is =
    let known =
    ok_read (TopsMean [] (bare_trees forms) fresh_draft) (run [] fresh_draft (tops_in forms)) draft is
    ((tops_mean forms).0 [] fresh_draft) in
    subst (λ (streams : StreamTrees). IsWellBuilt streams) (sym known.more.streams)
    (well_built known.said.streams
    (tops_fit [] (bare_trees forms) known.said known.are (omega (arith, h, depth_is forms))))

-- ---- three of the causes have no place

record HasNone (streams : StreamTrees) : Type 0 where
  deep : faults.place_of Deep (preorder_of streams) ≡ None
  children : faults.place_of Children (preorder_of streams) ≡ None
  range : faults.place_of Range (preorder_of streams) ≡ None

has_none : (streams : StreamTrees) → IsWellBuilt streams → HasNone streams
has_none streams built =
    let all = preorder_of streams in
    record {
      deep =
          passes_none (counts Deep) all
          (all_are IsShallow (λ s. counts Deep s ≡ false) (λ s shallow. le-ltb 64 (length s.path) shallow) all
          built.shallow);
      children = passes_none (counts Children) all built.followed;
      range =
          passes_none (counts Range) all
          (all_both IsInRange IsEndlessInForks (λ s. counts Range s ≡ false)
          (λ s. neither (is_in_range (faults.kind_of s.tree)) (ends_in_fork s)) all built.in_range built.endless);
    }

-- a refusal is for one of the other two
left_of : (a b c d e : At) (path : List ℕ) (cause : PlanWhy) → b ≡ None → c ≡ None → d ≡ None
    → first a b c d e ≡ one path cause → IsLeft cause
left_of a b c d e path Many nb nc nd is = tt
left_of a b c d e path Kind nb nc nd is = tt
left_of (Some s) b c d e path Deep nb nc nd is = let other : Many ≡ Deep = ap why_reported is in cc
left_of (Some s) b c d e path Children nb nc nd is = let other : Many ≡ Children = ap why_reported is in cc
left_of (Some s) b c d e path Range nb nc nd is = let other : Many ≡ Range = ap why_reported is in cc
left_of None None None None (Some s) path Deep nb nc nd is = let other : Kind ≡ Deep = ap why_reported is in cc
left_of None None None None (Some s) path Children nb nc nd is = let other : Kind ≡ Children = ap why_reported is in cc
left_of None None None None (Some s) path Range nb nc nd is = let other : Kind ≡ Range = ap why_reported is in cc
left_of None None None None None path cause nb nc nd is = cc
left_of None (Some s) c d e path cause nb nc nd is = cc
left_of None None (Some s) d e path cause nb nc nd is = cc
left_of None None None (Some s) e path cause nb nc nd is = cc

pub is_left : (streams : StreamTrees) (path : List ℕ) (cause : PlanWhy) → IsWellBuilt streams
    → first_fault streams ≡ one path cause → IsLeft cause
unfolding first_fault
is_left streams path cause built is =
    let none = has_none streams built in
    let all = preorder_of streams in
    left_of (faults.place_of Many all) (faults.place_of Deep all) (faults.place_of Children all)
    (faults.place_of Range all) (faults.place_of Kind all) path cause none.deep none.children none.range is

-- ---- a plan that is few enough and takes what comes has no fault

pub read_plans : ReadPlansHaveNoFault
read_plans text config is =
    let shallow : depth is.forms ≤ 64 = is.read.shallow in
    let built =
    well_built config.plan
    (tops_fit [] (bare_trees is.forms) _ is.holds.said (omega (arith, shallow, depth_is is.forms))) in
    (faultless_is_sound config.plan).1
    (record {
      few = is.holds.few;
      shallow = built.shallow;
      followed = built.followed;
      in_range = built.in_range;
      endless = built.endless;
      taken = is.holds.taken;
    })
