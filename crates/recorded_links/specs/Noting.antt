-- The records of the turns that were handed out in a run.
use Rattle.std.specs.Prelude.{ℕ, if◌then◌else◌, List, [], ◌∷◌, ◌++◌, fold}
use Rattle.journal_format.specs.declared.turn_record.Summary.{Summary}
use Rattle.journal_format.specs.declared.turn_record.TurnRecord.{TurnRecord}
use Rattle.ports.specs.declared.entry.Entry.{Entry}
use Rattle.ports.specs.declared.entry.Entry.TheVariants.{Listen, Next, Send, Close}
use Rattle.ports.specs.declared.links.ListenAnswer.{ListenAnswer}
use Rattle.ports.specs.declared.links.ListenAnswer.TheVariants as listen
use Rattle.ports.specs.declared.links.Turn.{Turn}
use Rattle.recorded_links.specs.Keeping.{entry_of, is_recorded, listen_entry}
use Rattle.recorded_links.specs.Sending.{after_send}

-- the records of the calls so far, and what came of the sends since the last of them
pub record Noted : Type 0 where
  pub records : List TurnRecord
  pub sends : List Summary

-- a record more, after which nothing was sent yet
abbrev pub with_entry : TurnRecord → Noted → Noted
with_entry entry so_far = record { records = so_far.records ++ entry ∷ []; sends = [] }

-- a `listen` that succeeded has a record
abbrev pub after_listen : Noted → ListenAnswer → Noted
after_listen so_far (listen.Ready secs) = with_entry (listen_entry so_far.sends secs) so_far
after_listen so_far listen.Failed = so_far
after_listen so_far listen.Memory = so_far

-- so has each turn, but for one that stopped the run, and an answer that is no turn
abbrev pub after_turn : Noted → Turn → List ℕ → Noted
after_turn so_far turn piece =
    if is_recorded turn.what then with_entry (entry_of so_far.sends turn piece) so_far else so_far

abbrev pub after_call : Noted → Entry → Noted
after_call so_far (Listen address answer) = after_listen so_far answer
after_call so_far (Next wants turn piece) = after_turn so_far turn piece
after_call so_far (Send link bytes answer) =
    record { records = so_far.records; sends = after_send link answer so_far.sends }
after_call so_far (Close link) = so_far

abbrev pub noted : List Entry → Noted
noted calls = fold after_call (record { records = []; sends = [] }) calls
