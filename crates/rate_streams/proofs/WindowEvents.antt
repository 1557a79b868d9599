-- The events of a window.
use Rattle.std.proofs.Common.{◌≡◌, ℕ, ◌+◌, ◌-◌, ◌*◌, ◌/◌, ◌^◌, ◌<◌, ◌≤◌, ◌==◌, ◌⊎◌, Bool, true, false, not, ◌&&◌}
use Rattle.std.proofs.Common.{nat_lt, cond, List, [], ◌∷◌, ◌++◌, length, refl, sym, ap, subst, ◌∙◌, arith}
use Rattle.std.proofs.lemmas.Bool.{eq-eqb}
use Rattle.std.proofs.lemmas.Bool.Decides.{nat_tests}
use Rattle.std.proofs.lemmas.Nat.{div-add-mod'}
use Rattle.ev_types.specs.declared.event.Event.{Event}
use Rattle.ev_types.specs.declared.item.Item.TheVariants.{One}
use Rattle.stream_meaning.specs.declared.entry.Entry.TheVariants.{Tick, Item as In}
use Rattle.stream_meaning.specs.History.{History, since, ◌▸◌, begun, moment_of, window_of, TicksAlone}
use Rattle.stream_meaning.specs.Came.{events_in, vector}
use Rattle.stream_meaning.specs.Deadlines.{is_there, next_window}
use Rattle.stream_meaning.specs.Rates.{events_now}
use Rattle.stream_meaning.proofs.MomentLaws.{begun-≤}
use Rattle.stream_meaning.proofs.WindowLaws.{window-≤}
use Rattle.rate_streams.specs.Windows.{number_at, end_at}
use Rattle.rate_streams.specs.declared.windows.Windows.{Windows}

-- where nothing has come but ticks, no window has events
pub alone_events : (secs window : ℕ) (h : History) → TicksAlone h → events_in secs window h ≡ []
alone_events secs window (since start) alone = refl
alone_events secs window (h ▸ Tick) alone = alone_events secs window h alone
alone_events secs window (h ▸ In item) alone = absurd alone

-- the window of a moment is that of the last entry
pub number_now : (windows : Windows) (h : History) (now : ℕ) → windows.start ≡ begun h → moment_of h ≡ now
    → number_at windows now ≡ window_of windows.secs h
number_now windows h now start moment =
    ap (λ m. (m - windows.start) / windows.secs) (sym moment) ∙ ap (λ s. (moment_of h - s) / windows.secs) start

-- an event that comes is the last of the present window
pub now_more : (secs : ℕ) (h : History) (event : Event)
    → events_now secs (h ▸ In (One event)) ≡ events_now secs h ++ event ∷ []
now_more secs h event =
    ap (λ t. cond t (events_now secs h ++ event ∷ []) (events_now secs h))
    (eq-eqb (window_of secs h) (window_of secs h) refl)

-- at a tick the window stays, or a later one begins
pub tick_ways : (windows : Windows) (h : History)
    → (window_of windows.secs (h ▸ Tick) ≡ window_of windows.secs h)
    ⊎ (window_of windows.secs h < window_of windows.secs (h ▸ Tick))
tick_ways windows h = let up = window-≤ windows.secs h windows.positive in grind arith

-- the end of the present window is far below 2^64
pub end_bound : (windows : Windows) (h : History) (window : ℕ) → windows.start ≡ begun h
    → window ≡ window_of windows.secs h → moment_of h ≤ 2 ^ 40 → end_at windows window < 2 ^ 64
end_bound windows h window start here bound =
    let after = begun-≤ h in
    let parts = div-add-mod' (moment_of h - begun h) windows.secs in
    let small : windows.secs < 2 ^ 32 = windows.bounded in
    let all : begun h + (window_of windows.secs h + 1) * windows.secs < 2 ^ 64 = omega arith in
    subst (λ (s : ℕ). s + (window + 1) * windows.secs < 2 ^ 64) (sym start)
    (subst (λ (w : ℕ). begun h + (w + 1) * windows.secs < 2 ^ 64) (sym here) all)

pub end_now : (windows : Windows) (h : History) (window : ℕ) → windows.start ≡ begun h
    → window ≡ window_of windows.secs h → end_at windows window ≡ next_window windows.secs h
end_now windows h window start here =
    ap (λ s. s + (window + 1) * windows.secs) start ∙ ap (λ w. begun h + (w + 1) * windows.secs) here

pub there : (es : List Event) → 0 < length es → is_there es ≡ true
there [] some = absurd (omega arith)
there (event ∷ es) some = refl

pub vector_some : (es : List Event) → 0 < length es → vector es ≡ [] → ⊥
vector_some [] some none = omega arith
vector_some (event ∷ es) some none = cc

pub by_test : (t : Bool) (P : Type 0) → (t ≡ true → P) → (t ≡ false → P) → P
by_test true P yes_then no_then = yes_then refl
by_test false P yes_then no_then = no_then refl

-- some wait, and their window has ended
pub due_parts : (n number window : ℕ) → nat_lt 0 n && not (number == window) ≡ true → (0 < n) × (number ≡ window → ⊥)
due_parts n number window e = (grind (arith, nat_tests), λ same. grind (arith, nat_tests))

-- none waits, or their window has not ended
pub not_due : (n number window : ℕ) → nat_lt 0 n && not (number == window) ≡ false → 0 < n → number ≡ window
not_due n number window e some = grind (arith, nat_tests)
