-- The turn that links gave last.
use Rattle.std.specs.Prelude.{◌≡◌, ◌⊎◌, ℕ, if◌then◌else◌, List, [], fold, Option, Some, None}
use Rattle.std.specs.Option.{ForSome}
use Rattle.journal_format.specs.declared.turn_record.TurnRecord.{TurnRecord}
use Rattle.ports.specs.Calls.{LinksReport}
use Rattle.ports.specs.declared.entry.Entry.{Entry}
use Rattle.ports.specs.declared.entry.Entry.TheVariants.{Listen, Next, Send, Close}
use Rattle.ports.specs.declared.links.ListenAnswer.TheVariants as listen
use Rattle.ports.specs.declared.links.Turn.{Turn}
use Rattle.ports.specs.declared.links.What.TheVariants.{Broken}
use Rattle.recorded_links.specs.Keeping.{entry_of, is_recorded, listen_entry}
use Rattle.recorded_links.specs.Numbers.{own_turn}

-- a record without the sends before it
abbrev pub unsent : TurnRecord → TurnRecord
unsent entry = record { summaries = []; secs = entry.secs; event = entry.event }

-- the record of a turn of inner links, whose numbers begin with `first`, or the one of before if it is not recorded
abbrev pub own_record : ℕ → Turn → List ℕ → Option TurnRecord → Option TurnRecord
own_record first turn piece before =
    let own = own_turn first turn in if is_recorded own.what then Some (entry_of [] own piece) else before

abbrev pub given_after : ℕ → Option TurnRecord → Entry → Option TurnRecord
given_after first before (Listen address (listen.Ready secs)) = Some (listen_entry [] secs)
given_after first before (Listen address listen.Failed) = before
given_after first before (Listen address listen.Memory) = before
given_after first before (Next wants turn piece) = own_record first turn piece before
given_after first before (Send link bytes answer) = before
given_after first before (Close link) = before

-- the record of the last turn that these calls gave
abbrev pub last_given : ℕ → List Entry → Option TurnRecord
last_given first calls = fold (given_after first) None calls

-- the record is that of the turn that links gave last, if they report their calls
abbrev pub IsLast : ℕ → LinksReport → TurnRecord → Type 0
IsLast first links entry = ForSome links.log (λ calls. last_given first calls ≡ Some (unsent entry))

-- the record is that of a turn in which a link broke at this second, if there is one
abbrev pub IsBreak : Option ℕ → TurnRecord → Type 0
IsBreak None entry = ⊥
IsBreak (Some secs) entry =
    (link : ℕ) × (unsent entry ≡ entry_of [] (record { secs = secs; what = Broken link }) [])

-- The record may come next after those of turns that were handed out: it is that of the turn that links gave last, or
-- of one in which a link of a resumed journal broke, of which all break at this second.
abbrev pub MayFollow : Option ℕ → ℕ → LinksReport → TurnRecord → Type 0
MayFollow breaks first links entry = IsLast first links entry ⊎ IsBreak breaks entry
