-- How a run goes on, turn after turn, and how it ends.
use Rattle.std.proofs.Common.{◌≡◌, ◌≢◌, ℕ, false, ◌+◌, ◌<◌, inl, inr, List, [], ◌∷◌, ◌++◌, length, Ok, Err}
use Rattle.std.proofs.Common.{refl, ap, sym, ◌∙◌, subst, arith, length-append, ◌↔◌}
use Rattle.std.specs.Prelude.{Bool, Option, Result, nat_lt, IsTrue}
use Rattle.std.proofs.lemmas.Bool.{false≢true}
use Rattle.std.specs.List.{AllByRecursion}
use Rattle.conn_core.specs.Hub.{Follows, wants_in}
use Rattle.conn_core.specs.Known.{AreUnclosed}
use Rattle.conn_core.specs.declared.hub.Hub.{Hub}
use Rattle.conn_core.specs.declared.stop.Stop.{Stop}
use Rattle.conn_core.specs.declared.stop.Stop.TheVariants.{SinkFault, Memory as StopMemory}
use Rattle.conn_core.specs.event_core.Core.{CoreConfig}
use Rattle.ports.specs.Calls.{LinksReport}
use Rattle.ports.specs.declared.entry.Entry.{Entry}
use Rattle.ports.specs.declared.links.Turn.{Turn}
use Rattle.ports.specs.declared.links.Want.{Want}
use Rattle.ports.specs.declared.links.What.TheVariants.{Stopped}
use Rattle.hub_run.specs.Runs.{AddsRun, AskFails, CutShort, FailsAfter, Ran, RunReport, RunsQuietly, StopsShort}
use Rattle.hub_run.specs.Runs.{TakesAll, TakesTurns, TurnsTo, config_at}
use Rattle.hub_run.specs.Taken.{GoesOn, MayGoOn, TakenTurn, entries_of, entries_of_turn, steps_of}
use Rattle.hub_run.specs.Taking.{AsksFor, ListensOn, TurnsOn, fault_of}
use Rattle.hub_run.specs.declared.fault.RunFault.{RunFault}
use Rattle.hub_run.specs.declared.fault.RunFault.TheVariants.{Links, Sink, Memory}
use Rattle.hub_run.specs.declared.setup.Setup.{Setup}
use Rattle.hub_run.proofs.AddsLaws.{adds_nothing, adds_then, adds_weaken}
use Rattle.hub_run.proofs.TakenLaws.{OneMore, Turned, all_more, cut_short, entries_more, one_more, takes_nothing}

-- ---- turns, none of them the last

pub record Took (config : CoreConfig) (quiet : ℕ) (hub : Hub) (old new : RunReport) (count : ℕ)
    (run : List Entry) : Type 0 where
  pub turns : List TakenTurn
  pub are : run ≡ entries_of turns
  pub takes : TakesTurns config quiet old new turns
  pub follows : Follows hub config (steps_of turns)
  pub count_is : length turns ≡ count
  pub going : AllByRecursion GoesOn turns

abbrev pub TookFrom : ℕ → Hub → Hub → RunReport → RunReport → ℕ → List Entry → Type 0
TookFrom quiet hub hub' old new count run =
    (config : CoreConfig) → Follows hub config [] → Took config quiet hub' old new count run

module _ (config : CoreConfig) (quiet : ℕ) (hub : Hub) (old mid : RunReport) (count : ℕ) (first : List Entry)
    (took : Took config quiet hub old mid count first) where
  may_go_on : (limit : ℕ) → count < limit → MayGoOn limit took.turns
  may_go_on limit fewer = record { fewer = omega (arith, took.count_is, fewer); going = took.going }

  stops : (limit : ℕ) → count < limit → (new : RunReport) (fault : RunFault) (rest : List Entry)
      → FailsAfter config quiet took.turns mid new fault rest
      → StopsShort config limit quiet old new fault (first ++ rest)
  stops limit fewer new fault rest fails = record {
    turns = took.turns;
    rest = rest;
    are = ap (λ (run : List Entry). run ++ rest) took.are;
    mid = mid;
    takes = took.takes;
    going = may_go_on limit fewer;
    fails = fails;
  }

  -- no turn came
  unasked : (buf : List ℕ) (fault : RunFault) (rest : List Entry) → AsksFor (wants_in hub) buf (Err fault) rest
      → FailsAfter config quiet took.turns mid mid fault rest
  unasked buf Links rest asks =
      (subst (λ (wants : List Want). AskFails wants rest) took.follows.state.links.wants asks, refl)
  unasked buf Sink rest asks = absurd asks
  unasked buf Memory rest asks = inl (record { is = asks; same = refl })

  module _ (hub' : Hub) (new : RunReport) (turn : Turn) (second : List Entry) where
    -- a turn was not finished
    cut : (stop : Stop) → Turned (nat_lt count quiet) hub hub' mid new turn (Err stop) second
        → FailsAfter config quiet took.turns mid new (fault_of stop) second
    cut stop turned =
        at stop
        (cut_short config quiet hub hub' old mid new took.turns turn (Err stop) second took.takes took.follows
        (subst (λ (n : ℕ). Turned (nat_lt n quiet) hub hub' mid new turn (Err stop) second) (sym took.count_is) turned)
        stop refl)
      where
        at : (s : Stop) → CutShort config quiet (fault_of s) took.turns mid new second
            → FailsAfter config quiet took.turns mid new (fault_of s) second
        at SinkFault short = short
        at StopMemory short = inr short

    module _ (turned : Turned (nat_lt count quiet) hub hub' mid new turn (Ok tt) second) where
      more : OneMore config quiet hub' old new took.turns turn second
      more =
          one_more config quiet hub hub' old mid new took.turns turn (Ok tt) second took.takes took.follows
          (subst (λ (n : ℕ). Turned (nat_lt n quiet) hub hub' mid new turn (Ok tt) second) (sym took.count_is) turned)
          refl

      entries_with : (last : TakenTurn) → second ≡ entries_of_turn last
          → first ++ second ≡ entries_of (took.turns ++ last ∷ [])
      entries_with last are =
          ap (λ (run : List Entry). run ++ second) took.are
          ∙ ap (λ (run : List Entry). entries_of took.turns ++ run) are ∙ sym (entries_more took.turns last)

      took_more : turn.what ≢ Stopped → Took config quiet hub' old new (count + 1) (first ++ second)
      took_more goes_on =
          let m = more in
          record {
            turns = took.turns ++ m.last ∷ [];
            are = entries_with m.last m.are;
            takes = m.takes;
            follows = m.follows;
            count_is = omega (arith, length-append took.turns (m.last ∷ []), took.count_is);
            going =
                all_more GoesOn took.turns m.last took.going
                (λ stopped. goes_on (sym (ap (λ (t : Turn). t.what) m.is) ∙ stopped));
          }

      ends_stopped : (limit : ℕ) → count < limit → turn.what ≡ Stopped
          → TakesAll config limit quiet old new hub' (first ++ second)
      ends_stopped limit fewer stopped =
          let m = more in
          record {
            turns = took.turns ++ m.last ∷ [];
            are = entries_with m.last m.are;
            takes = m.takes;
            ended = inl (record {
              before = took.turns;
              last = m.last;
              are = refl;
              went_on = may_go_on limit fewer;
              stopped = ap (λ (t : Turn). t.what) m.is ∙ stopped;
            });
            follows = m.follows;
          }

-- ---- the loop

pub record SoFar (before now : LinksReport) (quiet : ℕ) (hub hub' : Hub) (old new : RunReport)
    (count : ℕ) : Type 0 where
  pub known : AreUnclosed now.log (wants_in hub')
  pub took : AddsRun before now (TookFrom quiet hub hub' old new count)

pub so_far_nothing : (links : LinksReport) (quiet : ℕ) (hub : Hub) (report : RunReport)
    → AreUnclosed links.log (wants_in hub)
    → SoFar links links quiet hub hub report report 0
so_far_nothing links quiet hub report known = record {
  known = known;
  took =
      adds_nothing links (TookFrom quiet hub hub report report 0)
      (λ config follows. record {
        turns = [];
        are = refl;
        takes = takes_nothing config quiet report;
        follows = follows;
        count_is = refl;
        going = tt;
      });
}

module _ (a b c : LinksReport) (quiet limit : ℕ) (hub one two : Hub) (old mid new : RunReport) (count : ℕ)
    (so_far : SoFar a b quiet hub one old mid count) (turn : Turn) where
  -- one more turn, which was not the last
  pub so_far_more : AddsRun b c (Turned (nat_lt count quiet) one two mid new turn (Ok tt)) → turn.what ≢ Stopped
      → AreUnclosed c.log (wants_in two) → SoFar a c quiet hub two old new (count + 1)
  so_far_more turned goes_on known = record {
    known = known;
    took =
        adds_then a b c (TookFrom quiet hub one old mid count)
        (Turned (nat_lt count quiet) one two mid new turn (Ok tt)) (TookFrom quiet hub two old new (count + 1))
        so_far.took turned
        (λ first second took does config follows.
        took_more config quiet one old mid count first (took config follows) two new turn second does goes_on);
  }

  -- the last turn
  pub so_far_stopped : AddsRun b c (Turned (nat_lt count quiet) one two mid new turn (Ok tt)) → turn.what ≡ Stopped
      → count < limit → AddsRun a c (TurnsOn hub limit quiet old new (Ok two))
  so_far_stopped turned stopped fewer =
      adds_then a b c (TookFrom quiet hub one old mid count)
      (Turned (nat_lt count quiet) one two mid new turn (Ok tt)) (TurnsOn hub limit quiet old new (Ok two))
      so_far.took turned
      (λ first second took does config follows.
      ends_stopped config quiet one old mid count first (took config follows) two new turn second does limit fewer
      stopped)

  -- a turn that was not finished
  pub so_far_cut : (stop : Stop) → AddsRun b c (Turned (nat_lt count quiet) one two mid new turn (Err stop))
      → count < limit → AddsRun a c (TurnsOn hub limit quiet old new (Err (fault_of stop)))
  so_far_cut stop turned fewer =
      adds_then a b c (TookFrom quiet hub one old mid count)
      (Turned (nat_lt count quiet) one two mid new turn (Err stop))
      (TurnsOn hub limit quiet old new (Err (fault_of stop))) so_far.took turned
      (λ first second took does config follows.
      let before = took config follows in
      stops config quiet one old mid count first before limit fewer new (fault_of stop) second
      (cut config quiet one old mid count first before two new turn second stop does))

-- no turn came
pub so_far_unasked : (a b c : LinksReport) (quiet limit : ℕ) (hub one : Hub) (old mid : RunReport) (count : ℕ)
    (buf : List ℕ) (wants : List Want) (fault : RunFault) → SoFar a b quiet hub one old mid count
    → wants ≡ wants_in one → AddsRun b c (AsksFor wants buf (Err fault)) → count < limit
    → AddsRun a c (TurnsOn hub limit quiet old mid (Err fault))
so_far_unasked a b c quiet limit hub one old mid count buf wants fault so_far wants_are asks fewer =
    adds_then a b c (TookFrom quiet hub one old mid count) (AsksFor wants buf (Err fault))
    (TurnsOn hub limit quiet old mid (Err fault)) so_far.took asks
    (λ first second took asked config follows.
    let before = took config follows in
    stops config quiet one old mid count first before limit fewer mid fault second
    (unasked config quiet one old mid count first before buf fault second
    (subst (λ (w : List Want). AsksFor w buf (Err fault) second) wants_are asked)))

-- as many turns were taken as may be
pub so_far_at_limit : (a b : LinksReport) (quiet : ℕ) (hub one : Hub) (old new : RunReport) (count limit : ℕ)
    → count ≡ limit → SoFar a b quiet hub one old new count → AddsRun a b (TurnsOn hub limit quiet old new (Ok one))
so_far_at_limit a b quiet hub one old new count limit same so_far =
    adds_weaken a b (TookFrom quiet hub one old new count) (TurnsOn hub limit quiet old new (Ok one))
    (λ run took config follows.
    let all = took config follows in
    record {
      turns = all.turns;
      are = all.are;
      takes = all.takes;
      ended = inr (record { all = all.count_is ∙ same; going = all.going });
      follows = all.follows;
    })
    so_far.took

pub not_last : (t : Bool) (turn : Turn) → (IsTrue t ↔ turn.what ≡ Stopped) → t ≡ false → turn.what ≢ Stopped
not_last t turn tells is stopped = false≢true (sym is ∙ tells.1 stopped)

-- ---- the whole run

-- without links nothing has to be known of them
pub unclosed_nothing : (log : Option (List Entry)) (wants : List Want) → wants ≡ [] → AreUnclosed log wants
unclosed_nothing log wants is =
    subst (AreUnclosed log) (sym is) (λ entries reported i within. absurd (omega (arith, within)))

module _ (setup : Setup) (limit quiet : ℕ) where
  pub unheard : (report : RunReport) (fault : RunFault) (run : List Entry) → ListensOn setup.address (Err fault) run
      → RunsQuietly setup limit quiet report report (Err fault) run
  unheard report Links run is = inl (record { is = is; same = refl })
  unheard report Sink run is = absurd is
  unheard report Memory run is = inl (record { is = is; same = refl })

  pub unopened : (report : RunReport) (secs : ℕ) (run : List Entry) → ListensOn setup.address (Ok secs) run
      → RunsQuietly setup limit quiet report report (Err Memory) run
  unopened report secs run is = inr (inl (record { secs = secs; is = is; same = refl }))

  pub ran : (old new : RunReport) (secs : ℕ) (result : Result Hub RunFault) (first second : List Entry)
      → ListensOn setup.address (Ok secs) first → TurnsTo (config_at setup secs) limit quiet old new result second
      → RunsQuietly setup limit quiet old new result (first ++ second)
  ran old new secs result first second listens takes = at result (record {
    secs = secs;
    after = second;
    opens = ap (λ (run : List Entry). run ++ second) listens;
    took = takes;
  })
    where
      at : (r : Result Hub RunFault) → Ran setup limit quiet old new r (first ++ second)
          → RunsQuietly setup limit quiet old new r (first ++ second)
      at (Ok hub) done = done
      at (Err Links) done = inr done
      at (Err Sink) done = done
      at (Err Memory) done = inr (inr done)
