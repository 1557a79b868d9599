-- What was noticed once more arrived.
use Rattle.std.proofs.Common.{◌≡◌, ℕ, suc, ◌+◌, ◌<◌, List, ◌∷◌, ◌++◌, length, drop, get_or, drop-cons, add-one}
use Rattle.std.proofs.Common.{replicate, ap, sym, ◌∙◌, subst, append_assoc}
use Rattle.std.proofs.lemmas.List.{replicate-append-replicate}
use Rattle.std.specs.Prelude.{Result, Ok, Err, OnOk}
use Rattle.ev_types.specs.declared.item.Notice.{Notice}
use Rattle.list_laws.specs.declared.memory.Memory.{Memory}
use Rattle.step_count.specs.Count.{StepCount}
use Rattle.stream_meaning.specs.Arrivals.{Arrival, Elapsed}
use Rattle.event_core.specs.declared.arrivals.Core.{Core}
use Rattle.event_core.specs.Core.{CoreConfig, Receives, config_of, notices_by}
use Rattle.config_tests.specs.declared.entry.Entry.{Entry}
use Rattle.config_tests.specs.Events.{seconds_in, seconds_of}
use Rattle.stream_tests.specs.Playing.{Played}
use Rattle.stream_tests.specs.Verdicts.{arrivals_by, arrivals_in}

-- what a core received was played
pub played_more : {G : Type 0} (more : List Arrival) (core core' : Core) (old new : List Notice)
    (before after : StepCount G) (result : Result (Unit {0}) Memory)
    → Receives more core core' old new before after result
    → OnOk result ((arrivals : List Arrival) → Played core arrivals old → Played core' (arrivals ++ more) new)
played_more more core core' old new before after (Ok done) received = λ arrivals played.
    let heard = received.heard arrivals played.state in
    record {
      state = received.represents arrivals played.state;
      heard =
          heard.reported ∙ ap (λ (all : List Notice). all ++ heard.made) played.heard ∙ sym heard.notices
          ∙ ap (λ (config : CoreConfig). notices_by config (arrivals ++ more)) (sym received.config);
    }
played_more more core core' old new before after (Err memory) received = tt

-- some seconds, and then more
pub seconds_then : (core : Core) (arrivals : List Arrival) (notices : List Notice) (some more : ℕ) →
    Played core ((arrivals ++ replicate some Elapsed) ++ replicate more Elapsed) notices →
    Played core (arrivals ++ replicate (some + more) Elapsed) notices
seconds_then core arrivals notices some more played =
    subst (λ (all : List Arrival). Played core all notices)
    (append_assoc arrivals (replicate some Elapsed) (replicate more Elapsed)
    ∙ ap (λ (seconds : List Arrival). arrivals ++ seconds) (replicate-append-replicate some more Elapsed))
    played

-- ---- entries one after another

pub entry_at : (entries : List Entry) (i : ℕ) (one : Entry) → i < length entries → one ≡ get_or entries i one
    → drop i entries ≡ one ∷ drop (i + 1) entries
entry_at entries i one less is =
    drop-cons entries i one less ∙ ap (λ (first : Entry). first ∷ drop (suc i) entries) (sym is)
    ∙ ap (λ (n : ℕ). one ∷ drop n entries) (sym (add-one i))

pub arrivals_at : (entries : List Entry) (i : ℕ) (one : Entry) → drop i entries ≡ one ∷ drop (i + 1) entries
    → arrivals_in (drop i entries) ≡ arrivals_by one ++ arrivals_in (drop (i + 1) entries)
arrivals_at entries i one at = ap (λ (those : List Entry). arrivals_in those) at

pub seconds_at : (entries : List Entry) (i : ℕ) (one : Entry) → drop i entries ≡ one ∷ drop (i + 1) entries
    → seconds_in (drop i entries) ≡ seconds_of one + seconds_in (drop (i + 1) entries)
seconds_at entries i one at = ap (λ (those : List Entry). seconds_in those) at
