-- Where one window ends and the next begins.
use Rattle.std.proofs.Common.{◌≡◌, ℕ, zero, suc, ◌+◌, ◌-◌, ◌*◌, ◌/◌, ◌%◌, ◌<◌, ◌≤◌, ◌==◌, ◌⊎◌, inl, inr, Bool, true}
use Rattle.std.proofs.Common.{false, not, cond, List, [], ◌∷◌, ◌++◌, nat_lt, refl, sym, ap, subst, ◌∙◌, arith}
use Rattle.std.proofs.Math.Nat.{mod-lt}
use Rattle.std.proofs.lemmas.Nat.{div-add-mod'}
use Rattle.std.proofs.lemmas.Bool.Decides.{nat_tests}
use Rattle.std.proofs.lemmas.Bool.{eq-eqb}
use Rattle.ev_types.specs.declared.event.Event.{Event}
use Rattle.ev_types.specs.declared.item.Item.TheVariants.{One, Many}
use Rattle.stream_meaning.specs.History.{History, since, ◌▸◌, Tick, In, begun, moment_of, window_of}
use Rattle.stream_meaning.specs.Came.{events_in}
use Rattle.stream_meaning.specs.Rates.{rolls_into, count_in, one_if}
use Rattle.stream_meaning.specs.Deadlines.{next_window}
use Rattle.stream_meaning.proofs.MomentLaws.{begun-≤, eq-zero, ne-zero, within-parts, reached-parts, windows}

pub ne-test : (a b : ℕ) → a < b → (a == b) ≡ false
ne-test a b h = grind (arith, nat_tests)

pub ne-test-suc : (a : ℕ) → (a + 1 == a) ≡ false
ne-test-suc a = grind (arith, nat_tests)

-- the seconds that have passed are a multiple of the length exactly where they reach the end of the window
turned : (d secs : ℕ) → 0 < secs → ((d + 1) % secs == 0) ≡ (d + 1 == (d / secs + 1) * secs)
turned d secs pos =
    let q : ℕ = d / secs in
    let r : ℕ = d % secs in
    let parts : q * secs + r + 1 ≡ d + 1 = ap (λ m. m + 1) (div-add-mod' d secs) in
    let bound : r < secs = mod-lt d pos in
    let way : (r + 1 < secs) ⊎ (r + 1 ≡ secs) = grind arith in
    subst (λ (m : ℕ). (m % secs == 0) ≡ (m == (q + 1) * secs)) parts
    (elim way [ inl h ↦ before q r secs h | inr h ↦ at_end q r secs h ])
  where
    before : (q r secs : ℕ) → r + 1 < secs → ((q * secs + r + 1) % secs == 0) ≡ (q * secs + r + 1 == (q + 1) * secs)
    before q r secs h =
        ne-zero ((q * secs + r + 1) % secs) (within-parts q r secs h).1
        ∙ sym (ne-test (q * secs + r + 1) ((q + 1) * secs) (omega arith))

    at_end : (q r secs : ℕ) → r + 1 ≡ secs → ((q * secs + r + 1) % secs == 0) ≡ (q * secs + r + 1 == (q + 1) * secs)
    at_end q r secs h =
        eq-zero ((q * secs + r + 1) % secs) (reached-parts q r secs h).1
        ∙ sym (eq-eqb (q * secs + r + 1) ((q + 1) * secs) (omega arith))

shifted-test : (a b c : ℕ) → (a == b) ≡ (c + a == c + b)
shifted-test a b c = grind (arith, nat_tests)

-- the next tick is the first of a window exactly where the seconds passed are a multiple of its length
pub turns_at : (secs : ℕ) (h : History) → 0 < secs
    → ((moment_of h + 1 - begun h) % secs == 0) ≡ (moment_of h + 1 == next_window secs h)
turns_at secs h pos =
    let after = begun-≤ h in
    let d : ℕ = moment_of h - begun h in
    let passed : moment_of h + 1 - begun h ≡ d + 1 = omega arith in
    let now : begun h + (d + 1) ≡ moment_of h + 1 = omega arith in
    ap (λ m. m % secs == 0) passed ∙ turned d secs pos ∙ shifted-test (d + 1) ((d / secs + 1) * secs) (begun h)
    ∙ ap (λ m. m == next_window secs h) now

-- at it the window's number is one more
pub next_at : (secs : ℕ) (h : History) → 0 < secs
    → window_of secs (h ▸ Tick) ≡ cond (moment_of h + 1 == next_window secs h) (window_of secs h + 1) (window_of secs h)
next_at secs h pos =
    windows secs h pos ∙ ap (λ t. cond t (window_of secs h + 1) (window_of secs h)) (turns_at secs h pos)

same_test : (u : Bool) (w : ℕ) → (cond u (w + 1) w == w) ≡ not u
same_test true w = ne-test-suc w
same_test false w = eq-eqb w w refl

pub stays_at : (secs : ℕ) (h : History) → 0 < secs
    → (window_of secs (h ▸ Tick) == window_of secs h) ≡ not (moment_of h + 1 == next_window secs h)
stays_at secs h pos =
    ap (λ w. w == window_of secs h) (next_at secs h pos)
    ∙ same_test (moment_of h + 1 == next_window secs h) (window_of secs h)

within_one : (u : Bool) (w : ℕ) → w ≤ cond u (w + 1) w
within_one true w = omega arith
within_one false w = omega arith

pub window-≤ : (secs : ℕ) (h : History) → 0 < secs → window_of secs h ≤ window_of secs (h ▸ Tick)
window-≤ secs h pos =
    subst (λ (w : ℕ). window_of secs h ≤ w) (sym (next_at secs h pos))
    (within_one (moment_of h + 1 == next_window secs h) (window_of secs h))

later_step : (t : Bool) (event : Event) (es : List Event) → t ≡ false → es ≡ [] → cond t (es ++ event ∷ []) es ≡ []
later_step t event es e f = ap (λ t. cond t (es ++ event ∷ []) es) e ∙ f

-- no event has come in a later window
pub no_later_events : (secs window : ℕ) (h : History) → 0 < secs → window_of secs h < window
    → events_in secs window h ≡ []
no_later_events secs window (since start) pos later = refl
no_later_events secs window (h ▸ Tick) pos later =
    let up = window-≤ secs h pos in no_later_events secs window h pos (omega arith)
no_later_events secs window (h ▸ In (One event)) pos later =
    later_step (window_of secs h == window) event (events_in secs window h) (ne-test (window_of secs h) window later)
    (no_later_events secs window h pos later)
no_later_events secs window (h ▸ In (Many es)) pos later = no_later_events secs window h pos later

-- a tick brings no event, so what is rolled up stays
pub rolls_into-tick : (n secs window : ℕ) (h : History)
    → rolls_into n secs window (h ▸ Tick) ≡ rolls_into n secs window h
rolls_into-tick n secs zero h = refl
rolls_into-tick n secs (suc window) h =
    ap (λ t. nat_lt n (count_in secs window h + one_if t)) (rolls_into-tick n secs window h)
