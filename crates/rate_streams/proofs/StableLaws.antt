-- What a `stable` keeps at an entry.
use Rattle.std.proofs.Common.{◌≡◌, ℕ, ◌+◌, ◌^◌, ◌<◌, ◌≤◌, Bool, true, false, ◌&&◌, nat_lt, cond, List, [], ◌∷◌, length}
use Rattle.std.proofs.Common.{Some, None, refl, sym, ap, subst, ◌∙◌, arith}
use Rattle.ev_types.specs.declared.event.Event.{Event}
use Rattle.ev_types.specs.declared.field.Field.{Field}
use Rattle.ev_types.specs.declared.item.Item.TheVariants.{One, Many}
use Rattle.stream_meaning.specs.declared.entry.Entry.TheVariants.{Tick, Item as In}
use Rattle.stream_meaning.specs.History.{History, since, ◌▸◌, begun, moment_of, TicksAlone}
use Rattle.stream_meaning.specs.Deadlines.{is_there, next_deadline, some_if}
use Rattle.stream_meaning.specs.Runs.{differs_from, last_value, run, run_began}
use Rattle.rate_streams.specs.declared.stable.StableState.{StableState}
use Rattle.rate_streams.specs.Stable.{stable_kind, StableRepresents}

began_step : (t : Bool) (now began : ℕ) → began ≤ now → cond t now began ≤ now
began_step true now began before = omega arith
began_step false now began before = before

began_before : (field : Field) (h : History) → run_began field h ≤ moment_of h
began_before field (since start) = omega arith
began_before field (h ▸ Tick) = let before = began_before field h in omega arith
began_before field (h ▸ In (One event)) =
    began_step (differs_from field (last_value field None h) event) (moment_of h) (run_began field h)
    (began_before field h)
began_before field (h ▸ In (Many es)) = began_before field h

alone_last : (field : Field) (h : History) → TicksAlone h → last_value field None h ≡ None
alone_last field (since start) alone = refl
alone_last field (h ▸ Tick) alone = alone_last field h alone
alone_last field (h ▸ In item) alone = absurd alone

alone_began : (field : Field) (h : History) → TicksAlone h → run_began field h ≡ begun h
alone_began field (since start) alone = refl
alone_began field (h ▸ Tick) alone = alone_began field h alone
alone_began field (h ▸ In item) alone = absurd alone

alone_run : (field : Field) (h : History) → TicksAlone h → run field h ≡ []
alone_run field (since start) alone = refl
alone_run field (h ▸ Tick) alone = alone_run field h alone
alone_run field (h ▸ In item) alone = absurd alone

same_either : (t : Bool) → cond {A = List Event} t [] [] ≡ []
same_either true = refl
same_either false = refl

pub fresh_represents : (state : StableState) (h : History) → state.poisoned ≡ false → 0 < state.secs → state.last ≡ None
    → state.began ≡ begun h → state.waiting ≡ [] → TicksAlone h → StableRepresents state h
fresh_represents state h sound positive last began nothing alone =
    let holds : Bool = nat_lt (moment_of h) (run_began state.field h + state.secs) in
    record {
      sound = sound;
      positive = positive;
      last = last ∙ sym (alone_last state.field h alone);
      began = began ∙ sym (alone_began state.field h alone);
      waiting = nothing ∙ sym (ap (λ es. cond holds es []) (alone_run state.field h alone) ∙ same_either holds);
    }

-- where some wait, the run has not held long enough, and they are its events
some_wait : (t : Bool) (es : List Event) → 0 < length (cond t es []) → is_there es && t ≡ true
some_wait true (event ∷ es) some = refl
some_wait true [] some = absurd (omega arith)
some_wait false es some = absurd (omega arith)

pub due_at : (state : StableState) (h : History) (due : ℕ) → StableRepresents state h → moment_of h ≤ 2 ^ 40 →
    state.secs < 2 ^ 32 → 0 < length state.waiting →
    (state.began + state.secs < 2 ^ 64 → due ≡ state.began + state.secs) →
    Some due ≡ next_deadline (stable_kind state) h
due_at state h due before bound small some is =
    let deadline : ℕ = run_began state.field h + state.secs in
    let early = began_before state.field h in
    let began = before.began in
    let waits : 0 < length (cond (nat_lt (moment_of h) deadline) (run state.field h) []) =
    subst (λ (es : List Event). 0 < length es) before.waiting some in
    ap (λ (m : ℕ). Some m) (is (omega arith) ∙ ap (λ m. m + state.secs) began)
    ∙ sym (ap (λ t. some_if t deadline) (some_wait (nat_lt (moment_of h) deadline) (run state.field h) waits))
