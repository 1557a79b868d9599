-- The records of the turns that were handed out, after one call more.
use Rattle.std.proofs.Common.{◌≡◌, ℕ, Bool, true, false, cond, List, [], ◌∷◌, ◌++◌, fold, refl, ◌∙◌, ap}
use Rattle.std.proofs.lemmas.List.Sums.{fold-append}
use Rattle.ports.specs.Links.{listen_entries, next_entries, piece_of, send_entries}
use Rattle.ports.specs.declared.entry.Entry.{Entry}
use Rattle.ports.specs.declared.entry.Entry.TheVariants.{Listen, Send, Close}
use Rattle.ports.specs.declared.links.ListenAnswer.{ListenAnswer}
use Rattle.ports.specs.declared.links.ListenAnswer.TheVariants as listen
use Rattle.ports.specs.declared.links.SendAnswer.{SendAnswer}
use Rattle.ports.specs.declared.links.SendAnswer.TheVariants as send
use Rattle.ports.specs.declared.links.Turn.{Turn}
use Rattle.ports.specs.declared.links.Want.{Want}
use Rattle.ports.specs.declared.links.What.{What}
use Rattle.ports.specs.declared.links.What.TheVariants.{Idle, Opened, Read, Ended, Broken, Room, Stopped, Failed}
use Rattle.ports.specs.declared.links.What.TheVariants.{Memory}
use Rattle.recorded_links.specs.Keeping.{entry_of, is_ready, is_recorded}
use Rattle.recorded_links.specs.Noting.{Noted, after_call, after_listen, after_turn, noted, with_entry}
use Rattle.recorded_links.specs.Sending.{after_send}

pub noted_more : (calls more : List Entry) → noted (calls ++ more) ≡ fold after_call (noted calls) more
noted_more calls more = fold-append after_call (record { records = []; sends = [] }) calls more

-- ---- `next`

-- the entry of a turn, if it has one
noted_turn : (so_far : Noted) (wants : List Want) (buf : List ℕ) (turn : Turn)
    → fold after_call so_far (next_entries wants buf turn) ≡ after_turn so_far turn (piece_of turn.what buf)
noted_turn so_far wants buf turn = by_what turn.what refl
  where
    by_what : (what : What) → turn.what ≡ what → fold after_call so_far (next_entries wants buf turn) ≡ after_turn
        so_far turn (piece_of turn.what buf)
    by_what Idle is = rw is refl
    by_what (Opened other) is = rw is refl
    by_what (Read other count) is = rw is refl
    by_what (Ended other) is = rw is refl
    by_what (Broken other) is = rw is refl
    by_what (Room other) is = rw is refl
    by_what Stopped is = rw is refl
    by_what Failed is = rw is refl
    by_what Memory is = rw is refl

turn_noted : (calls calls' : List Entry) (wants : List Want) (buf : List ℕ) (turn : Turn)
    → calls' ≡ calls ++ next_entries wants buf turn
    → noted calls' ≡ cond (is_recorded turn.what) (with_entry
    (entry_of (noted calls).sends turn (piece_of turn.what buf)) (noted calls)) (noted calls)
turn_noted calls calls' wants buf turn log = ap noted log ∙ noted_more calls (next_entries wants buf turn)
    ∙ noted_turn (noted calls) wants buf turn

pub turn_added : (calls calls' : List Entry) (wants : List Want) (buf : List ℕ) (turn : Turn)
    → calls' ≡ calls ++ next_entries wants buf turn → is_recorded turn.what ≡ true
    → noted calls' ≡ with_entry (entry_of (noted calls).sends turn (piece_of turn.what buf)) (noted calls)
turn_added calls calls' wants buf turn log is =
    turn_noted calls calls' wants buf turn log ∙ ap (λ (flag : Bool). cond flag
    (with_entry (entry_of (noted calls).sends turn (piece_of turn.what buf)) (noted calls)) (noted calls)) is

pub turn_quiet : (calls calls' : List Entry) (wants : List Want) (buf : List ℕ) (turn : Turn)
    → calls' ≡ calls ++ next_entries wants buf turn → is_recorded turn.what ≡ false → noted calls' ≡ noted calls
turn_quiet calls calls' wants buf turn log is =
    turn_noted calls calls' wants buf turn log ∙ ap (λ (flag : Bool). cond flag
    (with_entry (entry_of (noted calls).sends turn (piece_of turn.what buf)) (noted calls)) (noted calls)) is

-- ---- `listen`

pub listen_noted : (calls calls' : List Entry) (address : List ℕ) (answer : ListenAnswer)
    → calls' ≡ calls ++ listen_entries address answer → noted calls' ≡ after_listen (noted calls) answer
listen_noted calls calls' address (listen.Ready secs) log = ap noted log
    ∙ noted_more calls (Listen address (listen.Ready secs) ∷ [])
listen_noted calls calls' address listen.Failed log = ap noted log
    ∙ noted_more calls (Listen address listen.Failed ∷ [])
listen_noted calls calls' address listen.Memory log = ap noted log ∙ noted_more calls []

pub listen_quiet : (calls calls' : List Entry) (address : List ℕ) (answer : ListenAnswer)
    → calls' ≡ calls ++ listen_entries address answer → is_ready answer ≡ false → noted calls' ≡ noted calls
listen_quiet calls calls' address (listen.Ready secs) log is = absurd (cc is)
listen_quiet calls calls' address listen.Failed log is = listen_noted calls calls' address listen.Failed log
listen_quiet calls calls' address listen.Memory log is = listen_noted calls calls' address listen.Memory log

-- ---- `send` and `close`

-- the record after next has one send more
abbrev pub with_send : ℕ → SendAnswer → Noted → Noted
with_send link answer so_far = record { records = so_far.records; sends = after_send link answer so_far.sends }

pub send_noted : (calls calls' : List Entry) (link : ℕ) (bytes : List ℕ) (answer : SendAnswer)
    → calls' ≡ calls ++ send_entries link bytes answer → noted calls' ≡ with_send link answer (noted calls)
send_noted calls calls' link bytes (send.Took count) log = ap noted log
    ∙ noted_more calls (Send link bytes (send.Took count) ∷ [])
send_noted calls calls' link bytes send.Later log = ap noted log ∙ noted_more calls (Send link bytes send.Later ∷ [])
send_noted calls calls' link bytes send.Failed log = ap noted log ∙ noted_more calls (Send link bytes send.Failed ∷ [])
send_noted calls calls' link bytes send.Memory log = ap noted log ∙ noted_more calls []

pub close_noted : (calls calls' : List Entry) (link : ℕ) → calls' ≡ calls ++ Close link ∷ []
    → noted calls' ≡ noted calls
close_noted calls calls' link log = ap noted log ∙ noted_more calls (Close link ∷ [])
