-- The path of each stream leads to it.
use Rattle.std.proofs.Common.{◌≡◌, ℕ, zero, suc, ◌+◌, List, [], ◌∷◌, ◌++◌, Option, Some, refl, ap, ◌∙◌, subst}
use Rattle.std.proofs.Common.{append_assoc, arith}
use Rattle.std.proofs.lemmas.List.{append-nil}
use Rattle.std.specs.Prelude.{slice_get}
use Rattle.std.specs.List.{AllByRecursion}
use Rattle.std.specs.Option.{option_and_then}
use Rattle.stream_plan.specs.declared.kinds.Flow.{Flow}
use Rattle.stream_plan.specs.Faults.{preorder_at, preorder_in, count_of}
use Rattle.stream_plan.specs.Kinds.{passes_on, at_top}
use Rattle.stream_plan.specs.Paths.{listed, following, stream_below, stream_at, IsStreamAt, PathsLeadToStreams}
use Rattle.stream_plan.specs.Tree.{StreamTree, stream, StreamTrees, none, also}

both : {A : Type 0} (P : A → Type 0) (xs ys : List A) → AllByRecursion P xs → AllByRecursion P ys
    → AllByRecursion P (xs ++ ys)
both P [] ys front back = back
both P (x ∷ xs) ys front back = (front.0, both P xs ys front.1 back)

among_front : (xs ys : List StreamTree) (i : ℕ) (s : StreamTree) → slice_get xs i ≡ Some s
    → slice_get (xs ++ ys) i ≡ Some s
among_front [] ys i s is = cc
among_front (x ∷ xs) ys zero s is = is
among_front (x ∷ xs) ys (suc i) s is = among_front xs ys i s is

among_back : (streams : StreamTrees) (ys : List StreamTree) (i n : ℕ) (s : StreamTree) → n ≡ count_of streams + i
    → slice_get ys i ≡ Some s → slice_get (listed streams ++ ys) n ≡ Some s
among_back none ys i n s number is = let same : n ≡ i = omega arith in rw same is
among_back (also x streams) ys i zero s number is = absurd (omega arith)
among_back (also x streams) ys i (suc n) s number is = among_back streams ys i n s (omega arith) is

-- the path leads to the stream, and so does each longer one through it
abbrev Leads : StreamTrees → List ℕ → StreamTree → Type 0
Leads top path s = (rest : List ℕ) → stream_at top (path ++ rest) ≡ stream_below s rest

step_down : (top : StreamTrees) (path : List ℕ) (s next : StreamTree) (n : ℕ) → Leads top path s
    → slice_get (following s) n ≡ Some next → Leads top (path ++ n ∷ []) next
step_down top path s next n leads is rest =
    ap (stream_at top) (append_assoc path (n ∷ []) rest) ∙ leads (n ∷ rest)
    ∙ ap (λ (found : Option StreamTree). option_and_then (λ other. stream_below other rest) found) is

-- the numbers from this one on lead to the streams
abbrev LeadTo : StreamTrees → List ℕ → ℕ → StreamTrees → Type 0
LeadTo top path number streams =
    (i n : ℕ) (s : StreamTree) → n ≡ number + i → slice_get (listed streams) i ≡ Some s → Leads top (path ++ n ∷ []) s

mutual
  unfolding preorder_at preorder_in

  there_at : (top : StreamTrees) (path : List ℕ) (flow : Flow) (s : StreamTree) → Leads top path s
      → AllByRecursion (IsStreamAt top) (preorder_at path flow s)
  there_at top path flow (stream kind children otherwise) leads =
      let s = stream kind children otherwise in
      let here : stream_at top path ≡ Some s =
      subst (λ (p : List ℕ). stream_at top p ≡ Some s) (append-nil path) (leads []) in (
        here,
        both (IsStreamAt top) (preorder_in path 0 (passes_on kind flow) children)
            (preorder_in path (count_of children) (passes_on kind flow) otherwise)
            (there_in top path 0 (passes_on kind flow) children (λ i n next number is. let same : n ≡ i = omega arith in
            step_down top path s next n leads (rw same (among_front (listed children) (listed otherwise) i next is))))
            (there_in top path (count_of children) (passes_on kind flow) otherwise (λ i n next number is.
            step_down top path s next n leads (among_back children (listed otherwise) i n next number is))),
      )

  there_in : (top : StreamTrees) (path : List ℕ) (number : ℕ) (flow : Flow) (streams : StreamTrees)
      → LeadTo top path number streams → AllByRecursion (IsStreamAt top) (preorder_in path number flow streams)
  there_in top path number flow none lead = tt
  there_in top path number flow (also s streams) lead =
      both (IsStreamAt top) (preorder_at (path ++ number ∷ []) flow s) (preorder_in path (number + 1) flow streams)
      (there_at top (path ++ number ∷ []) flow s (lead 0 number s (omega arith) refl))
      (there_in top path (number + 1) flow streams (λ i n next is. lead (suc i) n next (omega arith)))

pub paths_lead : PathsLeadToStreams
paths_lead streams = there_in streams [] 0 at_top streams (λ i n s number is rest.
    let same : n ≡ i = omega arith in
    rw same (ap (λ (found : Option StreamTree). option_and_then (λ other. stream_below other rest) found) is))
