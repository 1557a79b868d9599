-- What a core represents after more arrivals.
use Rattle.std.proofs.Common.{◌≡◌, ℕ, ◌+◌, false, List, ◌++◌, sym, ap, subst, ◌∙◌}
use Rattle.ev_types.specs.declared.item.Notice.{Notice}
use Rattle.stream_meaning.specs.History.{begun, moment_of}
use Rattle.stream_meaning.specs.Arrivals.{Arrival, CoreState, state_from}
use Rattle.stream_meaning.proofs.ArrivalMoments.{arrivals_in_order, arrivals_are_moments}
use Rattle.event_core.specs.declared.arrivals.Core.{Core}
use Rattle.event_core.specs.declared.streams.IndexedStreams.{IndexedStreams}
use Rattle.event_core.specs.Core.{CoreConfig, config_of, now_of, is_poisoned, state_by, Represents, Heard}
use Rattle.event_core.specs.Counts.{notices_in, forks_in}
use Rattle.event_core.specs.Streams.{Holds, Moved}

-- the state that more arrivals leave
abbrev pub later : CoreConfig → List Arrival → List Arrival → CoreState
later config arrivals more = state_from config.plan config.expiry more (state_by config arrivals)

pub in_order : (config : CoreConfig) (arrivals more : List Arrival)
    → state_by config (arrivals ++ more) ≡ later config arrivals more
in_order config arrivals more = arrivals_in_order config.plan config.expiry config.start arrivals more

pub begins : (config : CoreConfig) (arrivals : List Arrival) → begun (state_by config arrivals).history ≡ config.start
begins config arrivals = (arrivals_are_moments config.plan config.expiry config.start arrivals).begins

pub longer-represents : (core : Core) (config : CoreConfig) (arrivals more : List Arrival) → is_poisoned core ≡ false →
    config_of core ≡ config →
    Holds core.streams (later config arrivals more) → now_of core ≡ moment_of (later config arrivals more).history →
    Represents core (arrivals ++ more)
longer-represents core config arrivals more sound same holds now =
    let ends : later config arrivals more ≡ state_by (config_of core) (arrivals ++ more) =
    sym (in_order config arrivals more) ∙ ap (λ (s : CoreConfig). state_by s (arrivals ++ more)) (sym same) in
    record {
      sound = sound;
      holds = subst (λ (state : CoreState). Holds core.streams state) ends holds;
      now = now ∙ ap (λ (state : CoreState). moment_of state.history) ends;
    }

pub longer-heard : (config : CoreConfig) (streams : IndexedStreams) (arrivals more : List Arrival) (old : List Notice)
    (forks_before : ℕ) (new : List Notice) (forks_after : ℕ) →
    Moved config.plan streams (state_by config arrivals) (later config arrivals more) old forks_before new forks_after →
    Heard config arrivals more old forks_before new forks_after
longer-heard config streams arrivals more old forks_before new forks_after moved = record {
  made = moved.made;
  reported = moved.reported;
  notices =
      ap (λ (state : CoreState). notices_in config.plan state.history) (in_order config arrivals more) ∙ moved.grew;
  forks =
      ap (λ (state : CoreState). forks_before + forks_in config.plan state.history) (in_order config arrivals more)
      ∙ moved.forks;
}
