-- Moments, and the windows in which they lie.
use Rattle.std.proofs.Common.{◌≡◌, ℕ, ◌+◌, ◌-◌, ◌*◌, ◌/◌, ◌%◌, ◌<◌, ◌≤◌, ◌==◌, ◌⊎◌, inl, inr, Bool, true, false, cond}
use Rattle.std.proofs.Common.{List, [], ◌∷◌, refl, sym, ap, subst, ◌∙◌, arith}
use Rattle.std.proofs.Math.Nat.{div-eq_of_lt-le, mod-lt}
use Rattle.std.proofs.lemmas.Nat.{div-add-mod'}
use Rattle.std.proofs.lemmas.Bool.Decides.{nat_tests}
use Rattle.ev_types.specs.declared.item.Item.{Item}
use Rattle.stream_plan.specs.Tree.{KindTree}
use Rattle.stream_meaning.specs.History.{History, since, ◌▸◌, Tick, In, begun, moment_of, window_of}
use Rattle.stream_meaning.specs.Emission.{Branch, Emission, emissions}
use Rattle.stream_meaning.specs.Branches.{same_branch, after_emissions, child_history}
use Rattle.stream_meaning.specs.Laws.{tick_count, SameMoments, WindowsAreMultiples}

pub moments_counted : (h : History) → moment_of h ≡ begun h + tick_count h
moments_counted (since start) = omega arith
moments_counted (h ▸ Tick) = let before = moments_counted h in omega arith
moments_counted (h ▸ In item) = moments_counted h

pub begun-≤ : (h : History) → begun h ≤ moment_of h
begun-≤ h = let count = moments_counted h in omega arith

given-moments : (t : Bool) (item : Item) (h : History) → SameMoments (cond t (h ▸ In item) h) h
given-moments true item h = record { begins = refl; ends = refl }
given-moments false item h = record { begins = refl; ends = refl }

pub after_emissions-moments : (branch : Branch) (es : List Emission) (h : History)
    → SameMoments (after_emissions branch es h) h
after_emissions-moments branch [] h = record { begins = refl; ends = refl }
after_emissions-moments branch (emission ∷ more) h =
    let t = same_branch emission.branch branch in
    let first = given-moments t emission.item h in
    let later = after_emissions-moments branch more (cond t (h ▸ In emission.item) h) in
    record { begins = later.begins ∙ first.begins; ends = later.ends ∙ first.ends }

pub branch_moments : (kind : KindTree) (branch : Branch) (h : History) → SameMoments (child_history kind branch h) h
branch_moments kind branch (since start) = record { begins = refl; ends = refl }
branch_moments kind branch (h ▸ Tick) =
    let before = branch_moments kind branch h in
    let now = after_emissions-moments branch (emissions kind (h ▸ Tick)) (child_history kind branch h ▸ Tick) in
    record { begins = now.begins ∙ before.begins; ends = now.ends ∙ ap (λ m. m + 1) before.ends }
branch_moments kind branch (h ▸ In item) =
    let before = branch_moments kind branch h in
    let now = after_emissions-moments branch (emissions kind (h ▸ In item)) (child_history kind branch h) in
    record { begins = now.begins ∙ before.begins; ends = now.ends ∙ before.ends }

pub eq-zero : (n : ℕ) → n ≡ 0 → (n == 0) ≡ true
eq-zero n e = ap (λ m. m == 0) e

pub ne-zero : (n : ℕ) → 0 < n → (n == 0) ≡ false
ne-zero n h = grind (arith, nat_tests)

-- the quotient and the rest of one more than q times secs and r
pub within-parts : (q r secs : ℕ) → r + 1 < secs → ((q * secs + r + 1) / secs ≡ q) × (0 < (q * secs + r + 1) % secs)
within-parts q r secs h =
    let d : ℕ = q * secs + r + 1 in
    let quotient : d / secs ≡ q = div-eq_of_lt-le secs (omega arith) (omega arith) in
    let parts = div-add-mod' d secs in
    let times : d / secs * secs ≡ q * secs = ap (λ k. k * secs) quotient in
    (quotient, omega arith)

pub reached-parts : (q r secs : ℕ) → r + 1 ≡ secs
    → ((q * secs + r + 1) / secs ≡ q + 1) × ((q * secs + r + 1) % secs ≡ 0)
reached-parts q r secs h =
    let d : ℕ = q * secs + r + 1 in
    let quotient : d / secs ≡ q + 1 = div-eq_of_lt-le secs (omega arith) (omega arith) in
    let parts = div-add-mod' d secs in
    let times : d / secs * secs ≡ (q + 1) * secs = ap (λ k. k * secs) quotient in
    (quotient, omega arith)

within : (q r secs : ℕ) → r + 1 < secs → (q * secs + r + 1) / secs ≡ cond ((q * secs + r + 1) % secs == 0) (q + 1) q
within q r secs h =
    let parts = within-parts q r secs h in
    parts.0 ∙ sym (ap (λ t. cond t (q + 1) q) (ne-zero ((q * secs + r + 1) % secs) parts.1))

reached : (q r secs : ℕ) → r + 1 ≡ secs → (q * secs + r + 1) / secs ≡ cond ((q * secs + r + 1) % secs == 0) (q + 1) q
reached q r secs h =
    let parts = reached-parts q r secs h in
    parts.0 ∙ sym (ap (λ t. cond t (q + 1) q) (eq-zero ((q * secs + r + 1) % secs) parts.1))

pub next_quotient : (d secs : ℕ) → 0 < secs → (d + 1) / secs ≡ cond ((d + 1) % secs == 0) (d / secs + 1) (d / secs)
next_quotient d secs pos =
    let q : ℕ = d / secs in
    let r : ℕ = d % secs in
    let parts : q * secs + r + 1 ≡ d + 1 = ap (λ m. m + 1) (div-add-mod' d secs) in
    let bound : r < secs = mod-lt d pos in
    let way : (r + 1 < secs) ⊎ (r + 1 ≡ secs) = grind arith in
    subst (λ (m : ℕ). m / secs ≡ cond (m % secs == 0) (q + 1) q) parts
    (elim way [ inl h ↦ within q r secs h | inr h ↦ reached q r secs h ])

pub windows : WindowsAreMultiples
windows secs h pos =
    let after = begun-≤ h in
    let one_more : moment_of h + 1 - begun h ≡ moment_of h - begun h + 1 = omega arith in
    ap (λ m. m / secs) one_more ∙ next_quotient (moment_of h - begun h) secs pos
    ∙ ap (λ m. cond (m % secs == 0) (window_of secs h + 1) (window_of secs h)) (sym one_more)
