-- Where paths lead.
use Rattle.std.proofs.Common.{◌≡◌, ℕ, zero, suc, ◌+◌, ◌-◌, ◌<◌, ◌≤◌, List, [], ◌∷◌, drop, length, get_or, Option, Some}
use Rattle.std.proofs.Common.{None, refl, ap, sym, ◌∙◌, subst, arith, add-one}
use Rattle.std.proofs.Math.Seq.{drop-cons}
use Rattle.config_streams.specs.declared.source.Source.{Source, out-Source}
use Rattle.config_streams.specs.Sources.{SourceTree, SourceTrees, source, none, also, with_sources, nth_source}
use Rattle.config_streams.specs.Sources.{place_of, sources_of, place_along}
use Rattle.config_streams.specs.Made.{source_tree, source_list}
use Rattle.config_streams.proofs.StreamLaws.{source_tree-opened}

nth_within : (sources : List Source) (n : ℕ) (s : Source) → n < length sources → s ≡ get_or sources n s
    → nth_source n (source_list sources) ≡ Some (source_tree s)
nth_within [] n s within is = absurd (omega arith)
nth_within (first ∷ sources) zero s within is = ap (λ (x : Source). some_tree x) (sym is)
  where
    some_tree : Source → Option SourceTree
    some_tree x = Some (source_tree x)
nth_within (first ∷ sources) (suc n) s within is = nth_within sources n s (omega arith) is

pub nth_child : (children otherwise : List Source) (n : ℕ) (s : Source) → n < length children →
    s ≡ get_or children n s →
    nth_source n (with_sources (source_list children) (source_list otherwise)) ≡ Some (source_tree s)
nth_child [] otherwise n s within is = absurd (omega arith)
nth_child (first ∷ children) otherwise zero s within is = ap (λ (x : Source). some_tree x) (sym is)
  where
    some_tree : Source → Option SourceTree
    some_tree x = Some (source_tree x)
nth_child (first ∷ children) otherwise (suc n) s within is = nth_child children otherwise n s (omega arith) is

nth_other : (children otherwise : List Source) (n k : ℕ) (s : Source) → length children + k ≡ n → k < length otherwise →
    s ≡ get_or otherwise k s →
    nth_source n (with_sources (source_list children) (source_list otherwise)) ≡ Some (source_tree s)
nth_other [] otherwise n k s e within is =
    let same : k ≡ n = omega arith in
    subst (λ (m : ℕ). nth_source m (source_list otherwise) ≡ Some (source_tree s)) same
    (nth_within otherwise k s within is)
nth_other (first ∷ children) otherwise zero k s e within is = absurd (omega arith)
nth_other (first ∷ children) otherwise (suc n) k s e within is =
    nth_other children otherwise n k s (omega arith) within is

pub nth_otherwise : (children otherwise : List Source) (n : ℕ) (s : Source) → length children ≤ n →
    n - length children < length otherwise → s ≡ get_or otherwise (n - length children) s →
    nth_source n (with_sources (source_list children) (source_list otherwise)) ≡ Some (source_tree s)
nth_otherwise children otherwise n s past within is =
    nth_other children otherwise n (n - length children) s (omega arith) within is

nth_past : (sources : List Source) (n : ℕ) → length sources ≤ n → nth_source n (source_list sources) ≡ None
nth_past [] n past = refl
nth_past (first ∷ sources) zero past = absurd (omega arith)
nth_past (first ∷ sources) (suc n) past = nth_past sources n (omega arith)

nth_over : (children otherwise : List Source) (n k : ℕ) → length children + k ≡ n → length otherwise ≤ k
    → nth_source n (with_sources (source_list children) (source_list otherwise)) ≡ None
nth_over [] otherwise n k e past = nth_past otherwise n (omega arith)
nth_over (first ∷ children) otherwise zero k e past = absurd (omega arith)
nth_over (first ∷ children) otherwise (suc n) k e past = nth_over children otherwise n k (omega arith) past

pub nth_neither : (children otherwise : List Source) (n : ℕ) → length children ≤ n
    → length otherwise ≤ n - length children
    → nth_source n (with_sources (source_list children) (source_list otherwise)) ≡ None
nth_neither children otherwise n past over = nth_over children otherwise n (n - length children) (omega arith) over

-- ---- paths

pub with_none : (sources : SourceTrees) → with_sources sources none ≡ sources
with_none none = refl
with_none (also first sources) = ap (also first) (with_none sources)

nowhere : (here : ℕ) (path : List ℕ) → place_along here none path ≡ here
nowhere here [] = refl
nowhere here (n ∷ path) = nowhere here path

pub path_ends : (sources : SourceTrees) (here : ℕ) (path : List ℕ) (i : ℕ) (whole : ℕ) → i < length path →
    nth_source (get_or path i 0) sources ≡ None →
    place_along here sources (drop i path) ≡ whole → here ≡ whole
path_ends sources here path i whole within is so_far =
    let split : drop i path ≡ get_or path i 0 ∷ drop (i + 1) path = rw add-one (drop-cons path i 0 within) in
    let at : place_along here sources (get_or path i 0 ∷ drop (i + 1) path) ≡ here =
    ap (λ (found : Option SourceTree). place_along (place_of here found) (sources_of found) (drop (i + 1) path)) is
    ∙ nowhere here (drop (i + 1) path) in
    sym at ∙ ap (place_along here sources) (sym split) ∙ so_far

pub path_goes : (sources : SourceTrees) (here : ℕ) (path : List ℕ) (i : ℕ) (whole : ℕ) (s : Source)
    (children otherwise : List Source) →
    i < length path → nth_source (get_or path i 0) sources ≡ Some (source_tree s) →
    children ≡ (out-Source s).children.items → otherwise ≡ (out-Source s).otherwise.items →
    place_along here sources (drop i path) ≡ whole →
    place_along (out-Source s).place (with_sources (source_list children) (source_list otherwise)) (drop (i + 1) path)
    ≡ whole
path_goes sources here path i whole s children otherwise within is c o so_far =
    let split : drop i path ≡ get_or path i 0 ∷ drop (i + 1) path = rw add-one (drop-cons path i 0 within) in
    let found : nth_source (get_or path i 0) sources
    ≡ Some (source (out-Source s).place (source_list (out-Source s).children.items)
    (source_list (out-Source s).otherwise.items)) =
    is ∙ ap some_source (source_tree-opened s) in
    let at : place_along here sources (get_or path i 0 ∷ drop (i + 1) path)
    ≡ place_along (out-Source s).place
    (with_sources (source_list (out-Source s).children.items) (source_list (out-Source s).otherwise.items))
    (drop (i + 1) path) =
    ap (λ (f : Option SourceTree). place_along (place_of here f) (sources_of f) (drop (i + 1) path)) found in
    rw (c, o) (sym at ∙ ap (place_along here sources) (sym split) ∙ so_far)
  where
    some_source : SourceTree → Option SourceTree
    some_source x = Some x
