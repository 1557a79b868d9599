-- The keys of all hosts rise.
use Rattle.std.proofs.Common.{◌≡◌, ℕ, List, [], ◌∷◌, ◌++◌, Option, None, Some, refl, ap, ◌∙◌}
use Rattle.std.specs.declared.cmp.Ordering.TheVariants.{Less}
use Rattle.std.specs.Ordering.{ordering_then}
use Rattle.std.specs.Map.{keys_of, values_of}
use Rattle.std.specs.List.{All, AllByRecursion}
use Rattle.std.specs.List.Sorted.{IsStrictlySortedBy}
use Rattle.std.proofs.lemmas.Cmp.{tied_itself}
use Rattle.std.proofs.lemmas.List.Elements.{All-nil, All-head, All-tail}
use Rattle.index_log.specs.IndexKey.{text_cmp}
use Rattle.key_map.specs.Keys.{IndexKey, key_cmp, Numbers, IsRising}
use Rattle.key_map.specs.Sections.{Services, ServicesRise, SectionsRise, AreSections, with_host, by_key, numbers_of}
use Rattle.key_map.proofs.ServiceLaws.{bytes_cmp, present-cmp, text_total}

-- each key comes after this one
abbrev AllAfter : IndexKey → Numbers → Type 0
AllAfter key numbers = AllByRecursion (λ other. key_cmp key other ≡ Less) (keys_of numbers)

after-append : (key : IndexKey) (xs ys : Numbers) → AllAfter key xs → AllAfter key ys → AllAfter key (xs ++ ys)
after-append key [] ys h k = k
after-append key (x ∷ xs) ys h k = (h.0, after-append key xs ys h.1 k)

after-same : (h s : Option (List ℕ)) (ss : Services) → AllByRecursion (λ q. text_cmp s q ≡ Less) (keys_of ss)
    → AllAfter (h, s) (with_host h ss)
after-same h s [] k = tt
after-same h s (a ∷ ss) k =
    (ap (λ o. ordering_then o (text_cmp s a.0)) (tied_itself text_total h) ∙ k.0, after-same h s ss k.1)

after-later : (h s h' : Option (List ℕ)) (ss : Services) → text_cmp h h' ≡ Less → AllAfter (h, s) (with_host h' ss)
after-later h s h' [] e = tt
after-later h s h' (a ∷ ss) e = (ap (λ o. ordering_then o (text_cmp s a.0)) e, after-later h s h' ss e)

after-hosts : (h : List ℕ) (s : Option (List ℕ)) (hosts : List (List ℕ × Services))
    → AllByRecursion (λ y. bytes_cmp h y ≡ Less) (keys_of hosts) → AllAfter (Some h, s) (by_key hosts)
after-hosts h s [] k = tt
after-hosts h s (x ∷ hosts) k =
    after-append (Some h, s) (with_host (Some x.0) x.1) (by_key hosts)
    (after-later (Some h) s (Some x.0) x.1 (present-cmp h x.0 ∙ k.0)) (after-hosts h s hosts k.1)

after-absent : (s : Option (List ℕ)) (hosts : List (List ℕ × Services)) → AllAfter (None, s) (by_key hosts)
after-absent s [] = tt
after-absent s (x ∷ hosts) =
    after-append (None, s) (with_host (Some x.0) x.1) (by_key hosts) (after-later None s (Some x.0) x.1 refl)
    (after-absent s hosts)

rise-section : (h : Option (List ℕ)) (ss : Services) (rest : Numbers) → ServicesRise ss → IsRising rest
    → ((s : Option (List ℕ)) → AllAfter (h, s) rest) → IsRising (with_host h ss ++ rest)
unfolding IsStrictlySortedBy
rise-section h [] rest k r a = r
rise-section h (x ∷ ss) rest k r a =
    (after-append (h, x.0) (with_host h ss) rest (after-same h x.0 ss k.0) (a x.0), rise-section h ss rest k.1 r a)

rise-hosts : (hosts : List (List ℕ × Services)) → IsStrictlySortedBy bytes_cmp (keys_of hosts)
    → All ServicesRise (values_of hosts) → IsRising (by_key hosts)
unfolding IsStrictlySortedBy
rise-hosts [] k a = tt
rise-hosts (x ∷ hosts) k a =
    rise-section (Some x.0) x.1 (by_key hosts) (All-head ServicesRise x.1 (values_of hosts) a)
    (rise-hosts hosts k.1 (All-tail ServicesRise x.1 (values_of hosts) a)) (λ s. after-hosts x.0 s hosts k.0)

pub rise-all : (w : Services) (hosts : List (List ℕ × Services)) → ServicesRise w → SectionsRise hosts
    → IsRising (numbers_of w hosts)
rise-all w hosts first sections =
    rise-section None w (by_key hosts) first (rise-hosts hosts sections.rising sections.each)
    (λ s. after-absent s hosts)

pub empty-sections : (w : Services) (hosts : List (List ℕ × Services)) → w ≡ [] → hosts ≡ [] → AreSections w hosts
unfolding IsStrictlySortedBy
empty-sections [] [] e f =
    record { first = tt; sections = record { rising = tt; each = All-nil ServicesRise }; full = λ host h. cc }
empty-sections [] (x ∷ hosts) e f = absurd (cc)
empty-sections (x ∷ w) hosts e f = absurd (cc)
