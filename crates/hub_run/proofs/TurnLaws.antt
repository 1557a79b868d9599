-- How a turn is asked for, and then taken.
use Rattle.std.proofs.Common.{◌≡◌, ◌≢◌, ℕ, ◌<◌, List, [], ◌∷◌, ◌++◌, Result, Ok, refl, ap, sym, ◌∙◌, subst, arith}
use Rattle.std.specs.Prelude.{Bool, Option, Some, None}
use Rattle.conn_core.specs.hub_link.Added.{Added}
use Rattle.ports.specs.declared.entry.Entry.{Entry}
use Rattle.ports.specs.declared.entry.Entry.TheVariants.{Next}
use Rattle.ports.specs.declared.links.Turn.{Turn}
use Rattle.ports.specs.declared.links.Want.{Want}
use Rattle.ports.specs.declared.links.What.{What}
use Rattle.ports.specs.declared.links.What.TheVariants.{Idle, Opened, Read, Ended, Broken, Room, Stopped, Failed}
use Rattle.ports.specs.declared.links.What.TheVariants.{Memory as NoMemory}
use Rattle.ports.specs.Calls.{LinksReport}
use Rattle.ports.proofs.CallLemmas.{calls_then}
use Rattle.ports.specs.Links.{entries_of_turn, grown, next_entries, piece_of}
use Rattle.conn_core.specs.Hub.{wants_in}
use Rattle.conn_core.specs.Known.{Answered, AreUnclosed, EndsWith}
use Rattle.conn_core.specs.Turning.{TurnsFrom}
use Rattle.conn_core.specs.declared.hub.Hub.{Hub}
use Rattle.conn_core.specs.declared.stop.Stop.{Stop}
use Rattle.conn_core.specs.hub_meaning.Verdicts.{PatternsReport}
use Rattle.conn_core.proofs.KnownLaws.{known_next}
use Rattle.conn_core.proofs.TurnLaws.{turn_is}
use Rattle.hub_run.specs.Runs.{AddsRun, RunReport, run_report}
use Rattle.hub_run.specs.Taking.{AsksFor, DoesTurn, GoTo}
use Rattle.ports.specs.Counts.{Rose}
use Rattle.ports.specs.Writing.{SinkReport}
use Rattle.hub_run.proofs.TakenLaws.{Turned}

-- ---- the call

next_as : (wants : List Want) (buf : List ℕ) (turn : Turn) (what : What) → what ≢ NoMemory
    → entries_of_turn wants buf turn what ≡ Next wants turn (piece_of what buf) ∷ []
next_as wants buf turn Idle not_memory = refl
next_as wants buf turn (Opened number) not_memory = refl
next_as wants buf turn (Read number count) not_memory = refl
next_as wants buf turn (Ended number) not_memory = refl
next_as wants buf turn (Broken number) not_memory = refl
next_as wants buf turn (Room number) not_memory = refl
next_as wants buf turn Stopped not_memory = refl
next_as wants buf turn Failed not_memory = refl
next_as wants buf turn NoMemory not_memory = absurd (not_memory refl)

pub next_is : (wants : List Want) (buf : List ℕ) (turn : Turn) → turn.what ≢ NoMemory
    → next_entries wants buf turn ≡ Next wants turn (piece_of turn.what buf) ∷ []
next_is wants buf turn not_memory = next_as wants buf turn turn.what not_memory

-- ---- a turn was asked for

module _ (before after : LinksReport) (asked : List Want) (buf : List ℕ) (turn : Turn)
    (asks : AddsRun before after (AsksFor asked buf (Ok turn))) where
  asked_log : after.log ≡ grown before.log (Next asked turn (piece_of turn.what buf) ∷ [])
  asked_log = asks.grew.log ∙ ap (grown before.log) asks.holds

  pub asked_known : (wants : List Want) → AreUnclosed before.log wants → AreUnclosed after.log wants
  asked_known wants known =
      subst (λ (l : Option (List Entry)). AreUnclosed l wants) (sym asked_log)
      (known_next before.log wants asked turn (piece_of turn.what buf) known)

  pub asked_answered : Answered after.log turn
  asked_answered = subst (λ (l : Option (List Entry)). Answered l turn) (sym asked_log) (ends_with before.log)
    where
      ends_with : (log : Option (List Entry)) (entries : List Entry)
          → grown log (Next asked turn (piece_of turn.what buf) ∷ []) ≡ Some entries → EndsWith turn entries
      ends_with None entries is = absurd (cc is)
      ends_with (Some log) entries is =
          let same : log ++ Next asked turn (piece_of turn.what buf) ∷ [] ≡ entries = cc in
          record { before = log; wants = asked; piece = piece_of turn.what buf; is = sym same }

-- ---- the turn that came

module _ (a b c : LinksReport) (quiet : Bool) (hub hub' : Hub) (old new : RunReport) (wants : List Want)
    (buf piece : List ℕ) (turn : Turn) (result : Result (Unit {0}) Stop) where
  pub turn_done : AddsRun a b (AsksFor wants buf (Ok turn)) → wants ≡ wants_in hub → turn.what ≢ Failed
      → turn.what ≢ NoMemory → piece ≡ piece_of turn.what buf
      → Added b c (DoesTurn quiet turn piece hub hub' old new result)
      → AddsRun a c (Turned quiet hub hub' old new turn result)
  turn_done asks wants_are not_failed not_memory is does = record {
    run = asks.run ++ does.run;
    grew = calls_then a b c asks.run does.run asks.grew does.grew;
    holds = record {
      piece = piece;
      calls = does.run;
      are =
          ap (λ (run : List Entry). run ++ does.run) asks.holds
          ∙ ap (λ (asked : List Want). Next asked turn (piece_of turn.what buf) ∷ does.run) wants_are
          ∙ ap (λ (bytes : List ℕ). Next (wants_in hub) turn bytes ∷ does.run) (sym is);
      came = turn_is turn.what not_failed not_memory;
      once = does.calls;
      one = does.holds;
    };
  }

-- a turn of the hub, whose lines went to this sink or another
pub done_into : (a b : LinksReport) (turn : Turn) (piece : List ℕ) (hub hub' : Hub) (patterns patterns' : PatternsReport)
    (forks forks' : ℕ) (sink sink' into into' : SinkReport) (result : Result (Unit {0}) Stop) (quiet : Bool)
    → GoTo quiet sink sink' into into'
    → Added a b (TurnsFrom turn piece hub hub' patterns patterns' forks forks' into into' result)
    → Added a b (DoesTurn quiet turn piece hub hub' (run_report patterns forks sink) (run_report patterns' forks' sink')
    result)
done_into a b turn piece hub hub' patterns patterns' forks forks' sink sink' into into' result quiet lines does = record {
  run = does.run;
  grew = does.grew;
  no_fault = does.no_fault;
  calls = does.calls;
  holds = record { into = into; into' = into'; lines = lines; does = does.holds };
}

-- a sink that counts no faults does not fail
pub never_rose : Rose 0 0 → ⊥
never_rose rose = let less : 0 < 0 = rose (omega arith) in omega (arith, less)
