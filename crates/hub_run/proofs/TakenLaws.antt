-- What one more turn adds to those that were taken.
use Rattle.std.proofs.Common.{◌≡◌, ℕ, ◌+◌, true, List, [], ◌∷◌, ◌++◌, length, Ok, Err, refl, ap, sym}
use Rattle.std.proofs.Common.{◌∙◌, subst, arith, append-nil}
use Rattle.std.specs.Prelude.{Bool, Option, OnErr, OnOk, Result, nat_lt}
use Rattle.std.specs.List.{AllByRecursion}
use Rattle.std.proofs.lemmas.Grind.{flat_map-append}
use Rattle.conn_core.specs.event_core.Core.{CoreConfig, forks_by, notices_by}
use Rattle.conn_core.specs.hub_link.Added.{IsSendOrClose}
use Rattle.conn_core.specs.hub_meaning.Legal.{IsLegal}
use Rattle.ports.specs.Playing.{is_turn_answer}
use Rattle.conn_core.specs.hub_meaning.Runs.{Step, notices_after, state_after}
use Rattle.conn_core.specs.hub_meaning.Verdicts.{AfterVerdicts, Refusal}
use Rattle.conn_core.proofs.MsgRepliesVerdictLaws.{no_verdicts, verdicts_then}
use Rattle.ports.specs.declared.entry.Entry.{Entry}
use Rattle.ports.specs.declared.entry.Entry.TheVariants.{Next}
use Rattle.ports.specs.declared.links.Turn.{Turn}
use Rattle.conn_core.specs.Hub.{Follows, wants_in}
use Rattle.conn_core.specs.Turning.{Turns, longer, turn_step}
use Rattle.conn_core.specs.declared.hub.Hub.{Hub}
use Rattle.conn_core.specs.declared.stop.Stop.{Stop}
use Rattle.conn_core.specs.declared.stop.Stop.TheVariants.{SinkFault, Memory as StopMemory}
use Rattle.hub_run.specs.declared.fault.RunFault.TheVariants.{Sink}
use Rattle.key_laws.proofs.PartLaws.{keys_have_notices, notices_of_one}
use Rattle.stream_meaning.specs.Arrivals.{Arrival}
use Rattle.hub_run.specs.Apart.{KeysHaveTheirOwn}
use Rattle.hub_run.specs.Runs.{CutShort, RunReport, TakesTurns}
use Rattle.hub_run.specs.Taken.{IsOneTurn, TakenTurn, entries_of, entries_of_turn, steps_of, steps_of_turn, verdicts_of}
use Rattle.hub_run.specs.Taken.{verdicts_of_turn}
use Rattle.hub_run.specs.Taking.{DoesTurn, fault_of}
use Rattle.hub_run.proofs.PutLaws.{first_lines, puts_nothing, puts_step, stays_quiet}

-- ---- lists

pub all_more : {X : Type 0} (P : X → Type 0) (xs : List X) (last : X) → AllByRecursion P xs → P last
    → AllByRecursion P (xs ++ last ∷ [])
all_more P [] last all one = (one, tt)
all_more P (x ∷ xs) last all one = (all.0, all_more P xs last all.1 one)

pub steps_more : (turns : List TakenTurn) (last : TakenTurn)
    → steps_of (turns ++ last ∷ [])
    ≡ longer (steps_of turns) (turn_step last.wants last.turn last.piece last.verdicts) last.calls
steps_more turns last =
    flat_map-append steps_of_turn turns (last ∷ [])
    ∙ ap (λ (steps : List Step). steps_of turns ++ steps) (append-nil (steps_of_turn last))

pub entries_more : (turns : List TakenTurn) (last : TakenTurn)
    → entries_of (turns ++ last ∷ []) ≡ entries_of turns ++ entries_of_turn last
entries_more turns last =
    flat_map-append entries_of_turn turns (last ∷ [])
    ∙ ap (λ (run : List Entry). entries_of turns ++ run) (append-nil (entries_of_turn last))

pub verdicts_more : (turns : List TakenTurn) (last : TakenTurn)
    → verdicts_of (turns ++ last ∷ []) ≡ verdicts_of turns ++ last.verdicts
verdicts_more turns last =
    flat_map-append verdicts_of_turn turns (last ∷ [])
    ∙ ap (λ (verdicts : List (Option Refusal)). verdicts_of turns ++ verdicts) (append-nil last.verdicts)

-- ---- keys

pub keys_have_own : (config : CoreConfig) (arrivals : List Arrival)
    → KeysHaveTheirOwn config arrivals (notices_by config arrivals)
keys_have_own config arrivals fields apart = record {
  one = notices_of_one fields config.plan config.expiry config.start arrivals apart;
  own = λ key. keys_have_notices fields config.plan config.expiry config.start arrivals key apart;
}

-- ---- turns

pub takes_nothing : (config : CoreConfig) (quiet : ℕ) (report : RunReport) → TakesTurns config quiet report report []
takes_nothing config quiet report =
    let none : forks_by config (state_after config []).arrivals ≡ 0 = refl in
    record {
      legal = tt;
      settled = tt;
      each = tt;
      verdicts = no_verdicts report.patterns;
      lines = puts_nothing config quiet report.sink;
      apart = keys_have_own config [];
      forks = omega (arith, none);
    }

-- a turn was asked for, and then it was done, or the hub stopped in the middle of it
pub record Turned (quiet : Bool) (hub hub' : Hub) (old new : RunReport) (turn : Turn) (result : Result (Unit {0}) Stop)
    (run : List Entry) : Type 0 where
  pub piece : List ℕ
  pub calls : List Entry
  pub are : run ≡ Next (wants_in hub) turn piece ∷ calls
  pub came : is_turn_answer turn.what ≡ true
  pub once : AllByRecursion IsSendOrClose calls
  pub one : DoesTurn quiet turn piece hub hub' old new result calls

-- it was done after these, of which nothing else changed
pub record OneMore (config : CoreConfig) (quiet : ℕ) (hub : Hub) (old new : RunReport) (turns : List TakenTurn)
    (turn : Turn) (run : List Entry) : Type 0 where
  pub last : TakenTurn
  pub is : last.turn ≡ turn
  pub are : run ≡ entries_of_turn last
  pub takes : TakesTurns config quiet old new (turns ++ last ∷ [])
  pub follows : Follows hub config (steps_of (turns ++ last ∷ []))

when_ok : {T E P : Type 0} (result : Result T E) (value : T) → result ≡ Ok value → OnOk result P → P
when_ok (Ok given) value is fact = fact
when_ok (Err error) value is fact = absurd (cc is)

when_err : {T E P : Type 0} (result : Result T E) (error : E) → result ≡ Err error → OnErr result P → P
when_err (Ok value) error is fact = absurd (cc is)
when_err (Err given) error is fact = fact

is_sink : (stop : Stop) → fault_of stop ≡ Sink → stop ≡ SinkFault
is_sink SinkFault is = refl
is_sink StopMemory is = absurd (cc is)

module _ (config : CoreConfig) (quiet : ℕ) (hub hub' : Hub) (old mid new : RunReport) (turns : List TakenTurn)
    (turn : Turn) (result : Result (Unit {0}) Stop) (run : List Entry)
    (takes : TakesTurns config quiet old mid turns) (follows : Follows hub config (steps_of turns))
    (turned : Turned (nat_lt (length turns) quiet) hub hub' mid new turn result run) where
  abbrev does : Turns turn turned.piece hub hub' mid.patterns new.patterns mid.forks new.forks turned.one.into
      turned.one.into' result config (steps_of turns) turned.calls
  does = turned.one.does config (steps_of turns) follows

  abbrev last : TakenTurn
  last = record {
    wants = wants_in hub;
    turn = turn;
    piece = turned.piece;
    verdicts = does.verdicts;
    calls = turned.calls;
  }

  abbrev arrivals : List Arrival
  arrivals = (state_after config (steps_of (turns ++ last ∷ []))).arrivals

  steps_are : steps_of (turns ++ last ∷ [])
      ≡ longer (steps_of turns) (turn_step (wants_in hub) turn turned.piece does.verdicts) turned.calls
  steps_are = steps_more turns last

  notices_are : notices_by config arrivals ≡ notices_after config (steps_of turns) ++ does.made
  notices_are = ap (notices_after config) steps_are ∙ does.notices

  pub one_more : result ≡ Ok tt → OneMore config quiet hub' old new turns turn run
  one_more is =
      let follows' : Follows hub' config (steps_of (turns ++ last ∷ [])) =
      subst (Follows hub' config) (sym steps_are) (when_ok result tt is does.follows) in
      record {
        last = last;
        is = refl;
        are = turned.are;
        takes = record {
          legal = follows'.legal;
          settled = follows'.settled;
          each = all_more IsOneTurn turns last takes.each (record { came = turned.came; once = turned.once });
          verdicts = subst (AfterVerdicts old.patterns new.patterns) (sym (verdicts_more turns last))
              (verdicts_then old.patterns mid.patterns new.patterns (verdicts_of turns) does.verdicts takes.verdicts
              does.reported);
          lines = puts_step config quiet turns does.made old.sink mid.sink new.sink turned.one.into turned.one.into'
              takes.lines last notices_are (nat_lt (length turns) quiet) refl turned.one.lines
              (when_ok result tt is does.lines);
          apart = keys_have_own config arrivals;
          forks =
              subst (λ (steps : List Step). new.forks ≡ old.forks + forks_by config (state_after config steps).arrivals)
              (sym steps_are)
              (let counted = when_ok result tt is does.counted in omega (arith, takes.forks, counted));
        };
        follows = follows';
      }

  pub cut_short : (stop : Stop) → result ≡ Err stop → CutShort config quiet (fault_of stop) turns mid new run
  cut_short stop is = record {
    last = last;
    are = turned.are;
    one = record { came = turned.came; once = turned.once };
    legal = subst (IsLegal config) (sym steps_are) does.legal;
    verdicts = does.reported;
    made = does.made;
    notices = notices_are;
    lines = first_lines (nat_lt (length turns) quiet) does.made mid.sink new.sink turned.one.into turned.one.into'
        turned.one.lines (when_err result stop is does.first_lines);
    still =
        stays_quiet (length turns) quiet mid.sink new.sink turned.one.into turned.one.into' turned.one.lines;
    apart = subst (KeysHaveTheirOwn config arrivals) notices_are (keys_have_own config arrivals);
    some = λ fault. does.some (is ∙ ap Err (is_sink stop fault));
  }
