-- What an index is once an event that it lent is given back.
use Rattle.std.specs.Prelude.{◌≡◌}
use Rattle.std.specs.Borrow.{MutBor, Fml}
use Rattle.std.specs.Io.BufRead.{Rests}
use Rattle.stored_event.specs.contracts.measured.MeasuredEvent.{the_row as measured}
use Rattle.live_index.specs.Index.{Index}
use Rattle.live_index.specs.contracts.index.EventIndex.{the_row}

-- it is as it was
abbrev pub StaysTheSame : MutBor Index → Fml
StaysTheSame index = Rests (the_row measured (record { event = λ event. event })) index (λ after. after ≡ index.now)
