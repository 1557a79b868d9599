-- The ends of forks, as the code tests them.
use Rattle.std.proofs.Common.{◌≡◌, ℕ, ◌+◌, ◌<◌, true, false, not, nat_le, List, [], ◌∷◌, filter, Some, None, refl, sym}
use Rattle.std.proofs.Common.{ap, ◌∙◌, arith}
use Rattle.std.proofs.lemmas.Bool.Decides.{nat_tests}
use Rattle.std.proofs.lemmas.List.Elements.{filter_agree}
use Rattle.stream_tree.specs.Ends.{has_ended, not_ended}
use Rattle.stream_tree.proofs.KeptLaws.{Kept}

all_kept : (ks : List Kept) → ks ≡ filter (λ (k : Kept). true) ks
all_kept [] = refl
all_kept (k ∷ ks) = ap (λ (l : List Kept). k ∷ l) (all_kept ks)

-- without `idle` no fork has ended
pub none_ended : (now : ℕ) (ks : List Kept) → ks ≡ not_ended None now ks
none_ended now ks = all_kept ks

-- nor has one before so many seconds have passed since moment 0
pub none_early : (secs now : ℕ) (ks : List Kept) → now < secs → ks ≡ not_ended (Some secs) now ks
none_early secs now ks early =
    all_kept ks
    ∙ filter_agree (λ (k : Kept). true) (λ (k : Kept). not (has_ended (Some secs) now k.moment))
    (λ k. sym (ap not (later k.moment))) ks
  where
    later : (last : ℕ) → nat_le (last + secs) now ≡ false
    later last = grind (arith, nat_tests, early)
