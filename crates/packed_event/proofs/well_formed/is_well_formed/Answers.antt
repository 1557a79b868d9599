use Rattle.std.proofs.Common.{rules, ◌≡◌, ℤ, Option, Some, None}
use Rattle.std.specs.Prelude.{FitsSigned, IfSome}
use Rattle.std.specs.Int.{w64}
use Rattle.riemann_msg.specs.Value.{second_of}
use Rattle.packed_event.proofs.well_formed.is_well_formed.Goals as goal

timely : (time : ℤ) (micros : Option ℤ) → IfSome micros (FitsSigned w64)
    → IfSome micros (λ micros. time ≡ second_of micros)
    → IfSome micros (λ micros. FitsSigned w64 micros × (time ≡ second_of micros))
timely time None fits is = tt
timely time (Some micros) fits is = (fits, is)

only_timely : (time : ℤ) (micros : Option ℤ)
    → IfSome micros (λ micros. FitsSigned w64 micros × (time ≡ second_of micros))
    → IfSome micros (λ micros. time ≡ second_of micros)
only_timely time None good = tt
only_timely time (Some micros) good = good.1

pub returns-then-is_spellable_ttl : goal.returns-then-is_spellable_ttl
returns-then-is_spellable_ttl c =
    let types = c.has_types.ensures in
    let event = c.args.event.now in (
      λ yes. record {
        host = types.host;
        service = types.service;
        state = types.state;
        description = types.description;
        tags = types.tags;
        time = types.time;
        time_micros = timely event.time event.time_micros types.time_micros (c.is_timely.ensures.0 yes);
        ttl = c.is_spellable_ttl.ensures.0 (search rules);
        metric = types.metric;
        raw_d = types.raw_d;
        raw_f = types.raw_f;
        attributes = types.attributes;
      },
      λ good. c.is_timely.ensures.1 (only_timely event.time event.time_micros good.time_micros),
    )
