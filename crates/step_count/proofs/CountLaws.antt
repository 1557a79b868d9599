-- A count from zero on, which stays at its greatest number.
use Rattle.std.proofs.Common.{◌≡◌, ℕ, suc, zero, ◌+◌, min, Option, Some, arith, refl, sym, ap, ◌∙◌}
use Rattle.list_laws.specs.Counts.{greatest}
use Rattle.step_count.specs.Count.{one_more, more_by}

next_least : (n most : ℕ) → min (min n most + 1) most ≡ min (suc n) most
next_least n most = omega arith

pub more_from_zero : (n : ℕ) → more_by n (Some 0) ≡ Some (min n greatest)
more_from_zero zero = refl
more_from_zero (suc n) = ap one_more (more_from_zero n) ∙ ap Some (next_least n greatest)

-- the count of a ledger that was at zero, where the steps were too
pub from_zero : (reported n start counted : ℕ) → Some reported ≡ more_by n (Some 0) → start ≡ 0 → counted ≡ start + n
    → reported ≡ min counted greatest
from_zero reported n start counted reports fresh counts =
    let same : Some reported ≡ Some (min n greatest) = reports ∙ more_from_zero n in
    let is : reported ≡ min n greatest = cc in
    let all : counted ≡ n = omega (arith, fresh, counts) in
    is ∙ ap (λ n. min n greatest) (sym all)

-- one more was counted
pub count_on : (n m : ℕ) (known before after : Option ℕ) → m ≡ n + 1 → before ≡ more_by n known
    → after ≡ one_more before → after ≡ more_by m known
count_on n m known before after next was is =
    let on : m ≡ suc n = omega (arith, next) in is ∙ ap one_more was ∙ sym (ap (λ m. more_by m known) on)

-- none was counted
pub count_same : (n m : ℕ) (known before after : Option ℕ) → m ≡ n → before ≡ more_by n known → after ≡ before
    → after ≡ more_by m known
count_same n m known before after same was is = is ∙ was ∙ sym (ap (λ m. more_by m known) same)

more_add : (n m : ℕ) (known : Option ℕ) → more_by (n + m) known ≡ more_by n (more_by m known)
more_add zero m known = let same : zero + m ≡ m = omega arith in ap (λ k. more_by k known) same
more_add (suc n) m known =
    let next : suc n + m ≡ suc (n + m) = omega arith in
    ap (λ k. more_by k known) next ∙ ap one_more (more_add n m known)

-- what was counted between two moments of one count
pub between : (n m later : ℕ) (known before after : Option ℕ) → before ≡ more_by m known → after ≡ more_by later known
    → later ≡ n + m → after ≡ more_by n before
between n m later known before after was is count =
    is ∙ ap (λ k. more_by k known) count ∙ more_add n m known ∙ ap (more_by n) (sym was)
