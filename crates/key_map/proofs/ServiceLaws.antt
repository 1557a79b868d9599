-- What a look-up finds among the services of a host.
use Rattle.std.proofs.Common.{◌≡◌, ℕ, cond, List, [], ◌∷◌, ◌++◌, map, Option, None, Some, refl, sym, ap}
use Rattle.std.proofs.Common.{◌∙◌}
use Rattle.std.specs.declared.cmp.Ordering.{Ordering}
use Rattle.std.specs.declared.cmp.Ordering.TheVariants.{Less, Equal, Greater}
use Rattle.std.specs.Ordering.{nat_cmp, is_eq, ordering_then}
use Rattle.std.specs.Cmp.{IsTotalOrder}
use Rattle.std.specs.Cmp.Lexicographic.{slice_cmp}
use Rattle.std.specs.BTreeMap.{is_at}
use Rattle.std.specs.Map.{lookup, keys_of, values_of}
use Rattle.std.specs.List.{AllByRecursion}
use Rattle.std.specs.List.Sorted.{IsStrictlySortedBy}
use Rattle.std.proofs.lemmas.Cmp.{nat_list_cmp_total, lists_total, on_total}
use Rattle.index_log.specs.IndexKey.{listed, text_cmp}
use Rattle.key_map.specs.Sections.{Services, service_at, services_of, ServicesRise, SetsService}

abbrev pub bytes_cmp : List ℕ → List ℕ → Ordering
bytes_cmp = slice_cmp nat_cmp

pub text_total : IsTotalOrder text_cmp
text_total = on_total listed (lists_total nat_list_cmp_total)

then_equal : (o : Ordering) → ordering_then o Equal ≡ o
then_equal Less = refl
then_equal Equal = refl
then_equal Greater = refl

pub present-cmp : (t u : List ℕ) → text_cmp (Some t) (Some u) ≡ bytes_cmp t u
present-cmp t u = then_equal (bytes_cmp t u)

abbrev pub as_services : List (List ℕ × ℕ) → Services
as_services present = map (λ entry. (Some entry.0, entry.1)) present

present-at : (t : List ℕ) (es : List (List ℕ × ℕ))
    → service_at (Some t) (as_services es) ≡ lookup (is_at (bytes_cmp t)) es
present-at t [] = refl
present-at t (e ∷ es) =
    ap (λ o. cond (is_eq o) (Some e.1) (service_at (Some t) (as_services es))) (present-cmp t e.0)
    ∙ ap (λ r. cond (is_at (bytes_cmp t) e.0) (Some e.1) r) (present-at t es)

absent-at : (es : List (List ℕ × ℕ)) → service_at None (as_services es) ≡ None
absent-at [] = refl
absent-at (e ∷ es) = absent-at es

abbrev pub kept_at : Option (List ℕ) → Option ℕ → List (List ℕ × ℕ) → Option ℕ
kept_at None absent present = absent
kept_at (Some t) absent present = lookup (is_at (bytes_cmp t)) present

pub services-at : (absent : Option ℕ) (es : List (List ℕ × ℕ)) (q : Option (List ℕ))
    → service_at q (services_of absent es) ≡ kept_at q absent es
services-at None es None = absent-at es
services-at None es (Some t) = present-at t es
services-at (Some n) es None = refl
services-at (Some n) es (Some t) = present-at t es

-- the present services with one more, or without one
pub put-present : (absent : Option ℕ) (es es' : List (List ℕ × ℕ)) (t : List ℕ) (w : Option ℕ)
    → ((q : List ℕ)
    → lookup (is_at (bytes_cmp q)) es' ≡ cond (is_at (bytes_cmp t) q) w (lookup (is_at (bytes_cmp q)) es))
    → SetsService (services_of absent es) (services_of absent es') (Some t) w
put-present absent es es' t w h None = services-at absent es' None ∙ sym (services-at absent es None)
put-present absent es es' t w h (Some q) =
    services-at absent es' (Some q) ∙ h q
    ∙ sym (ap (λ o. cond (is_eq o) w (service_at (Some q) (services_of absent es))) (present-cmp t q)
    ∙ ap (λ r. cond (is_at (bytes_cmp t) q) w r) (services-at absent es (Some q)))

pub put-absent : (absent absent' : Option ℕ) (es : List (List ℕ × ℕ))
    → SetsService (services_of absent es) (services_of absent' es) None absent'
put-absent absent absent' es None = services-at absent' es None
put-absent absent absent' es (Some q) = services-at absent' es (Some q) ∙ sym (services-at absent es (Some q))

-- ---- in rising order

all-present : (t : List ℕ) (es : List (List ℕ × ℕ)) → AllByRecursion (λ u. bytes_cmp t u ≡ Less) (keys_of es)
    → AllByRecursion (λ q. text_cmp (Some t) q ≡ Less) (keys_of (as_services es))
all-present t [] k = tt
all-present t (e ∷ es) k = (present-cmp t e.0 ∙ k.0, all-present t es k.1)

all-absent : (es : List (List ℕ × ℕ)) → AllByRecursion (λ q. text_cmp None q ≡ Less) (keys_of (as_services es))
all-absent [] = tt
all-absent (e ∷ es) = (refl, all-absent es)

rise-present : (es : List (List ℕ × ℕ)) → IsStrictlySortedBy bytes_cmp (keys_of es) → ServicesRise (as_services es)
unfolding IsStrictlySortedBy
rise-present [] k = tt
rise-present (e ∷ es) k = (all-present e.0 es k.0, rise-present es k.1)

pub rise-services : (absent : Option ℕ) (es : List (List ℕ × ℕ)) → IsStrictlySortedBy bytes_cmp (keys_of es)
    → ServicesRise (services_of absent es)
unfolding IsStrictlySortedBy
rise-services None es k = rise-present es k
rise-services (Some n) es k = (all-absent es, rise-present es k)

-- ---- the numbers

values-present : (es : List (List ℕ × ℕ)) → values_of (as_services es) ≡ values_of es
values-present [] = refl
values-present (e ∷ es) = ap (λ ns. e.1 ∷ ns) (values-present es)

pub values-services : (absent : Option ℕ) (es : List (List ℕ × ℕ))
    → values_of (services_of absent es) ≡ values_of (services_of absent []) ++ values_of es
values-services None es = values-present es
values-services (Some n) es = ap (λ ns. n ∷ ns) (values-present es)
