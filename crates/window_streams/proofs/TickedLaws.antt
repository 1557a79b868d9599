-- Where nothing but ticks has come, no event has.
use Rattle.std.proofs.Common.{◌≡◌, [], refl}
use Rattle.stream_meaning.specs.Came.{events}
use Rattle.stream_meaning.specs.declared.entry.Entry.TheVariants.{Tick, Item as In}
use Rattle.stream_meaning.specs.History.{History, since, ◌▸◌, TicksAlone}

pub events-ticks : (h : History) → TicksAlone h → events h ≡ []
events-ticks (since start) alone = refl
events-ticks (h ▸ Tick) alone = events-ticks h alone
events-ticks (h ▸ In item) alone = absurd alone
