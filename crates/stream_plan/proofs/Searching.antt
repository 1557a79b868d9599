-- A search over some streams, and then over others.
use Rattle.std.proofs.Common.{◌≡◌, ℕ, ◌+◌, ◌-◌, ◌<◌, ◌≤◌, Bool, true, false, List, [], ◌∷◌, ◌++◌, length, take, drop}
use Rattle.std.proofs.Common.{get_or, Some, None, append-nil, refl, sym, ap, ◌∙◌, subst, append_assoc, arith}
use Rattle.std.proofs.Common.{length-append}
use Rattle.std.proofs.Math.Seq.{take-append_seam}
use Rattle.std.proofs.lemmas.List.{drop_all}
use Rattle.std.specs.declared.alloc.Global.{Global}
use Rattle.std.specs.declared.vec.Vec.{Vec}
use Rattle.stream_plan.specs.declared.kinds.Flow.{Flow}
use Rattle.stream_plan.specs.declared.plan.Stream.{Stream, out-Stream}
use Rattle.stream_plan.specs.declared.search.Search.{Search}
use Rattle.std.specs.Prelude.{slice_get}
use Rattle.std.specs.List.{filter}
use Rattle.std.specs.Option.{option_map}
use Rattle.stream_plan.specs.Faults.{Placed, preorder_at, preorder_in, preorder_of, counts, allowed, place_of}
use Rattle.stream_plan.specs.Kinds.{passes_on, at_top}
use Rattle.stream_plan.specs.Search.{opened, ends_at, Passes, Searches}
use Rattle.stream_plan.specs.Tree.{kind_tree, list_trees}
use Rattle.stream_plan.proofs.Trees.{count_of-list_trees, preorder_in-drop}

-- ---- one part and then another

pub passes_then : (found : Bool) (a b c : Search) (front streams : List Placed) →
    Searches false a b front → Searches found b c streams → Searches found a c (front ++ streams)
passes_then true a b c front streams first second =
    λ later. ap (ends_at a) (append_assoc front streams later) ∙ first.ends_at (streams ++ later) ∙ second later
passes_then false a b c front streams first second = record {
  path = second.path ∙ first.path;
  why = second.why ∙ first.why;
  ends_at =
      λ later.
      ap (ends_at a) (append_assoc front streams later) ∙ first.ends_at (streams ++ later) ∙ second.ends_at later;
}

pub found_first : (a b : Search) (front streams : List Placed) → Searches true a b front
    → Searches true a b (front ++ streams)
found_first a b front streams found =
    λ later. ap (ends_at a) (append_assoc front streams later) ∙ found (streams ++ later)

-- ---- a stream and those below it

abbrev here : Search → Flow → Stream → Placed
here a flow s = record { path = a.path.items; flow = flow; tree = opened s }

abbrev below : Search → Flow → Stream → List Placed
below a flow s =
    preorder_in a.path.items 0 (passes_on (kind_tree (out-Stream s).kind) flow)
    (list_trees (out-Stream s).children.items)

abbrev beside : Search → Flow → Stream → List Placed
beside a flow s =
    preorder_in a.path.items (length (out-Stream s).children.items) (passes_on (kind_tree (out-Stream s).kind) flow)
    (list_trees (out-Stream s).otherwise.items)

preorder_at-opened : (a : Search) (flow : Flow) (s : Stream) →
    preorder_at a.path.items flow (opened s) ≡ (here a flow s ∷ []) ++ (below a flow s ++ beside a flow s)
unfolding preorder_at opened
preorder_at-opened a flow s = rw (count_of-list_trees (out-Stream s).children.items) refl

pub ends_here : (a b : Search) (flow : Flow) (s : Stream) →
    Searches true a b (here a flow s ∷ []) → Searches true a b (preorder_at a.path.items flow (opened s))
ends_here a b flow s found =
    rw (preorder_at-opened a flow s) (found_first a b (here a flow s ∷ []) (below a flow s ++ beside a flow s) found)

module _ (a b c : Search) (flow passed : Flow) (s : Stream) (children : List Stream)
    (passed_is : passed ≡ passes_on (kind_tree (out-Stream s).kind) flow)
    (children_is : children ≡ (out-Stream s).children.items) where
  -- the streams below were searched from the path where the search came to them
  lies_below : (found : Bool) → b.path.items ≡ a.path.items →
      Searches found b c (preorder_in b.path.items 0 passed (list_trees children)) →
      Searches found b c (below a flow s)
  lies_below found same second =
      let here : Searches found b c (preorder_in a.path.items 0 passed (list_trees children)) =
      subst (λ (path : List ℕ). Searches found b c (preorder_in path 0 passed (list_trees children))) same second in
      rw (passed_is, children_is) at here

  pub ends_below : Searches false a b (here a flow s ∷ []) →
      Searches true b c (preorder_in b.path.items 0 passed (list_trees children)) →
      Searches true a c (preorder_at a.path.items flow (opened s))
  ends_below first second =
      rw (preorder_at-opened a flow s)
      (passes_then true a b c (here a flow s ∷ []) (below a flow s ++ beside a flow s) first
      (found_first b c (below a flow s) (beside a flow s) (lies_below true first.path second)))

  pub goes_beside : (found : Bool) (d : Search) (before otherwise : List Stream) →
      before ≡ (out-Stream s).children.items → otherwise ≡ (out-Stream s).otherwise.items →
      Searches false a b (here a flow s ∷ []) →
      Searches false b c (preorder_in b.path.items 0 passed (list_trees children)) →
      Searches found c d (preorder_in c.path.items (length before) passed (list_trees otherwise)) →
      Searches found a d (preorder_at a.path.items flow (opened s))
  goes_beside found d before otherwise before_is otherwise_is first second third =
      let gone : Searches false b c (below a flow s) = lies_below false first.path second in
      let there : Searches found c d (preorder_in a.path.items (length before) passed (list_trees otherwise)) =
      subst (λ (path : List ℕ). Searches found c d (preorder_in path (length before) passed (list_trees otherwise)))
      (gone.path ∙ first.path) third in
      let last : Searches found c d (beside a flow s) = rw (passed_is, before_is, otherwise_is) at there in
      rw (preorder_at-opened a flow s)
      (passes_then found a b d (here a flow s ∷ []) (below a flow s ++ beside a flow s) first
      (passes_then found b c d (below a flow s) (beside a flow s) gone last))

-- ---- streams, one after the other

-- the streams of a list from place i on, as they were numbered where a search began
abbrev from : Search → ℕ → Flow → List Stream → ℕ → List Placed
from a number flow streams i = preorder_in a.path.items (number + i) flow (list_trees (drop i streams))

-- the search with another path
abbrev moved : Search → Vec ℕ Global → Search
moved a path = record { why = a.why; allowed = a.allowed; path = path }

abbrev at : Search → Flow → Stream → List Placed
at a flow s = preorder_at a.path.items flow (opened s)

-- what is searched next lies one number further down
next_at : (a b : Search) (number : ℕ) (flow : Flow) (streams : List Stream) (i : ℕ) (s : Stream) (path : Vec ℕ Global) →
    i < length streams → b.path.items ≡ a.path.items → path.items ≡ b.path.items ++ (number + i) ∷ [] →
    from a number flow streams i ≡ at (moved b path) flow (get_or streams i s) ++ from a number flow streams (i + 1)
next_at a b number flow streams i s path within same pushed =
    preorder_in-drop a.path.items number flow streams i s within
    ∙ ap (λ (p : List ℕ). preorder_at p flow (opened (get_or streams i s)) ++ from a number flow streams (i + 1))
    (sym (pushed ∙ ap (λ (p : List ℕ). p ++ (number + i) ∷ []) same))

pub ends_in : (a b c : Search) (whole : List Placed) (number : ℕ) (flow : Flow) (streams : List Stream) (i : ℕ)
    (s : Stream) (path : Vec ℕ Global) →
    i < length streams → Passes a b whole (from a number flow streams i) →
    path.items ≡ b.path.items ++ (number + i) ∷ [] →
    s ≡ get_or streams i s → Searches true (moved b path) c (at (moved b path) flow s) →
    Searches true a c whole
ends_in a b c whole number flow streams i s path within passed pushed is found =
    let found' : Searches true (moved b path) c (at (moved b path) flow (get_or streams i s)) =
    subst (λ (t : Stream). Searches true (moved b path) c (at (moved b path) flow t)) is found in
    let rest =
    found_first (moved b path) c (at (moved b path) flow (get_or streams i s)) (from a number flow streams (i + 1))
    found' in
    λ later. passed.ends_at later
    ∙ ap (λ (left : List Placed). ends_at b (left ++ later))
    (next_at a b number flow streams i s path within passed.path pushed)
    ∙ rest later

pub goes_on : (a b c : Search) (whole : List Placed) (number : ℕ) (flow : Flow) (streams : List Stream) (i : ℕ)
    (s : Stream) (path popped : Vec ℕ Global) →
    i < length streams → Passes a b whole (from a number flow streams i) →
    path.items ≡ b.path.items ++ (number + i) ∷ [] →
    s ≡ get_or streams i s → Searches false (moved b path) c (at (moved b path) flow s) →
    popped.items ≡ b.path.items →
    Passes a (moved c popped) whole (from a number flow streams (i + 1))
goes_on a b c whole number flow streams i s path popped within passed pushed is second back =
    let second' : Passes (moved b path) c (at (moved b path) flow (get_or streams i s)) [] =
    subst (λ (t : Stream). Searches false (moved b path) c (at (moved b path) flow t)) is second in
    record {
      path = back ∙ passed.path;
      why = second.why ∙ passed.why;
      ends_at = λ later. passed.ends_at later
          ∙ ap (λ (left : List Placed). ends_at b (left ++ later))
          (next_at a b number flow streams i s path within passed.path pushed)
          ∙ ap (ends_at b)
          (append_assoc (at (moved b path) flow (get_or streams i s)) (from a number flow streams (i + 1)) later)
          ∙ second'.ends_at (from a number flow streams (i + 1) ++ later);
    }

-- the number that was pushed last is popped
pub popped_again : (before middle after : List ℕ) (n len : ℕ) → middle ≡ before ++ n ∷ [] → len ≡ length middle
    → after ≡ take (len - 1) middle → after ≡ before
popped_again before middle after n len pushed is taken =
    let count : len - 1 ≡ length before = omega (arith, is ∙ ap length pushed, length-append before (n ∷ [])) in
    taken ∙ ap (λ (k : ℕ). take k middle) count ∙ ap (take (length before)) pushed ∙ take-append_seam before (n ∷ [])

pub goes_through : (a b : Search) (whole : List Placed) (number : ℕ) (flow : Flow) (streams : List Stream) (i : ℕ) →
    length streams ≤ i → Passes a b whole (from a number flow streams i) → Searches false a b whole
unfolding preorder_in
goes_through a b whole number flow streams i past passed =
    subst (λ (left : List Stream). Passes a b whole (preorder_in a.path.items (number + i) flow (list_trees left)))
    (drop_all i streams past) passed

-- ---- a whole plan

abbrev all_of : List Stream → List Placed
all_of streams = preorder_of (list_trees streams)

whole_at : (a : Search) (streams : List Stream) → a.path.items ≡ []
    → preorder_in a.path.items 0 at_top (list_trees streams) ≡ all_of streams
whole_at a streams top = ap (λ (path : List ℕ). preorder_in path 0 at_top (list_trees streams)) top

end_is : (a : Search) (streams : List Placed) → a.allowed ≡ allowed a.why
    → ends_at a streams ≡ option_map (λ s. s.path) (place_of a.why streams)
end_is a streams is =
    ap (λ (n : ℕ). option_map (λ (s : Placed). s.path) (slice_get (filter (counts a.why) streams) n)) is

module _ (a b : Search) (streams held : List Stream) (held_is : held ≡ streams) (top : a.path.items ≡ [])
    (is : a.allowed ≡ allowed a.why) where
  pub found_whole : Searches true a b (preorder_in a.path.items 0 at_top (list_trees held)) →
      Some b.path.items ≡ option_map (λ s. s.path) (place_of a.why (all_of streams))
  found_whole found =
      sym (found [])
      ∙ ap (ends_at a)
      (append-nil (preorder_in a.path.items 0 at_top (list_trees held)) ∙ whole_at a held top ∙ ap all_of held_is)
      ∙ end_is a (all_of streams) is

  pub passed_whole : Searches false a b (preorder_in a.path.items 0 at_top (list_trees held)) →
      None ≡ option_map (λ s. s.path) (place_of a.why (all_of streams))
  passed_whole passed =
      sym (passed.ends_at [])
      ∙ ap (ends_at a)
      (append-nil (preorder_in a.path.items 0 at_top (list_trees held)) ∙ whole_at a held top ∙ ap all_of held_is)
      ∙ end_is a (all_of streams) is
