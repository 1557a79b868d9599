-- How a core receives more arrivals: it is poisoned, or memory runs out, or they are received.
use Rattle.std.proofs.Common.{◌≡◌, true, false, List, [], refl, sym, ◌∙◌}
use Rattle.std.specs.Prelude.{Ok, Err}
use Rattle.std.proofs.lemmas.Bool.{false≢true}
use Rattle.std.proofs.lemmas.List.{append-nil}
use Rattle.ev_types.specs.declared.item.Notice.{Notice}
use Rattle.list_laws.specs.declared.memory.Memory.{Memory}
use Rattle.list_laws.specs.Prefix.{IsPrefix}
use Rattle.step_count.specs.Count.{StepCount}
use Rattle.stream_meaning.specs.History.{moment_of}
use Rattle.stream_meaning.specs.Arrivals.{Arrival}
use Rattle.event_core.specs.declared.arrivals.Core.{Core}
use Rattle.event_core.specs.Core.{config_of, now_of, is_poisoned, state_by, Represents, Receives}
use Rattle.event_core.specs.Streams.{Moved, Visited}
use Rattle.event_core.proofs.Longer.{later, longer-represents, longer-heard}
use Rattle.event_core.proofs.Visits.{longer-visited}

module _ {G : Type 0} (more : List Arrival) (core : Core) (old : List Notice) (before : StepCount G) where
  -- a poisoned core represents no arrivals
  pub receives-nothing : (memory : Memory) → is_poisoned core ≡ true
      → Receives more core core old old before before (Err memory)
  receives-nothing memory poisoned = record {
    config = refl;
    represents = tt;
    heard = tt;
    entries = λ arrivals is. absurd (false≢true (sym is.sound ∙ poisoned));
    began = λ arrivals is. refl;
    poisoned = λ _. refl;
    sound = tt;
    err = poisoned;
    prefix = ([], sym (append-nil old));
  }

  module _ (core' : Core) (new : List Notice) (after : StepCount G) (same : config_of core' ≡ config_of core)
      (prefix : IsPrefix old new)
      (visited : (arrivals : List Arrival) → Represents core arrivals
      → Visited (config_of core).plan (state_by (config_of core) arrivals) (later (config_of core) arrivals more)
      before.entries after.entries)
      (began : (arrivals : List Arrival) → Represents core arrivals → after.began ≡ before.began) where
    pub receives-part : (memory : Memory) → is_poisoned core' ≡ true
        → Receives more core core' old new before after (Err memory)
    receives-part memory poisoned = record {
      config = same;
      represents = tt;
      heard = tt;
      entries =
          λ arrivals is.
          longer-visited (config_of core) arrivals more before.entries after.entries (visited arrivals is);
      began = began;
      poisoned = λ _. refl;
      sound = tt;
      err = poisoned;
      prefix = prefix;
    }

    pub receives-all : is_poisoned core ≡ false → is_poisoned core' ≡ false
        → ((arrivals : List Arrival) → Represents core arrivals
        → Moved (config_of core).plan core'.streams (state_by (config_of core) arrivals)
        (later (config_of core) arrivals more) old before.forks new after.forks)
        → ((arrivals : List Arrival) → Represents core arrivals
        → now_of core' ≡ moment_of (later (config_of core) arrivals more).history)
        → Receives more core core' old new before after (Ok tt)
    receives-all alive sound moved now = record {
      config = same;
      represents =
          λ arrivals is.
          longer-represents core' (config_of core) arrivals more sound same (moved arrivals is).holds (now arrivals is);
      heard =
          λ arrivals is. longer-heard (config_of core) core'.streams arrivals more old before.forks new after.forks
          (moved arrivals is);
      entries =
          λ arrivals is.
          longer-visited (config_of core) arrivals more before.entries after.entries (visited arrivals is);
      began = began;
      poisoned = λ poisoned. absurd (false≢true (sym alive ∙ poisoned));
      sound = sound;
      err = tt;
      prefix = prefix;
    }
