-- How a turn is put together from its seconds, its occurrence and its lines.
use Rattle.std.proofs.Common.{◌≡◌, ◌≢◌, ℕ, ◌+◌, ◌-◌, arith, Bool, true, false, cond, List, [], ◌∷◌, ◌++◌, replicate}
use Rattle.std.proofs.Common.{Result, Ok, Err, refl, ap, sym, ◌∙◌, subst, append_assoc}
use Rattle.std.specs.Prelude.{IsErr, Option, Some, None, OnErr, OnOk}
use Rattle.ev_types.specs.declared.item.Notice.{Notice}
use Rattle.hub_link.specs.event_core.declared.arrivals.Core.{Core}
use Rattle.hub_link.specs.event_core.Core.{CoreConfig, Heard, Represents, forks_by, notices_by, now_of}
use Rattle.ev_types.specs.Clock.{next_moment}
use Rattle.hub_link.specs.hub_meaning.Legal.{AreSettled, IsLegal, IsLegalFrom, VerdictsIf, VerdictsIn, VerdictsOn}
use Rattle.hub_link.specs.hub_meaning.Links.{Link, find_link, is_open}
use Rattle.hub_link.specs.hub_meaning.Runs.{RunState, Step, after_step, first_state, new_frames, notices_after}
use Rattle.hub_link.specs.hub_meaning.Runs.{occurred, passed, plain, state_after, state_from, talk_of}
use Rattle.ports.specs.Playing.{is_turn_answer}
use Rattle.hub_link.specs.hub_meaning.Verdicts.{PatternsReport, Refusal}
use Rattle.hub_link.proofs.HubMeaningRunLaws.{legal_append, state_append}
use Rattle.hub_link.proofs.HearLaws.{none_refused}
use Rattle.list_laws.specs.declared.memory.Memory.{Memory}
use Rattle.hub_link.specs.msg_replies.Arriving.{Arrives, Reported, reported}
use Rattle.hub_link.proofs.MsgRepliesAnswerLaws.{heard_then}
use Rattle.hub_link.proofs.MsgRepliesVerdictLaws.{no_verdicts}
use Rattle.notice_sink.specs.Lines.{lines_of}
use Rattle.ports.specs.declared.entry.Entry.{Entry}
use Rattle.ports.specs.declared.links.Turn.{Turn}
use Rattle.ports.specs.declared.links.What.{What}
use Rattle.ports.specs.declared.links.What.TheVariants.{Idle, Opened, Read, Ended, Broken, Room, Stopped, Failed}
use Rattle.ports.specs.declared.links.What.TheVariants.{Memory as NoMemory}
use Rattle.ports.specs.Writing.{GotPrefix, SinkReport}
use Rattle.stream_meaning.specs.Arrivals.{Arrival, Elapsed}
use Rattle.conn_core.specs.Hub.{Follows, RepresentsState, wants_in}
use Rattle.conn_core.specs.Occurring.{OccursFrom}
use Rattle.conn_core.specs.Turning.{GotFirstLines, GotLines, Turns, longer, turn_step}
use Rattle.conn_core.specs.declared.hub.Hub.{Hub}
use Rattle.conn_core.specs.declared.stop.Stop.{Stop}
use Rattle.conn_core.specs.declared.stop.Stop.TheVariants.{SinkFault, Memory as StopMemory}
use Rattle.conn_core.proofs.LineLaws.{first_nothing, front_nothing}
use Rattle.conn_core.proofs.NoticeLaws.{more_notices}

pub turn_is : (what : What) → what ≢ Failed → what ≢ NoMemory → is_turn_answer what ≡ true
turn_is Idle fails none = refl
turn_is (Opened number) fails none = refl
turn_is (Read number count) fails none = refl
turn_is (Ended number) fails none = refl
turn_is (Broken number) fails none = refl
turn_is (Room number) fails none = refl
turn_is Stopped fails none = refl
turn_is Failed fails none = absurd (fails refl)
turn_is NoMemory fails none = absurd (none refl)

on_ok_from : {T E P : Type 0} (r : Result T E) → P → OnOk r P
on_ok_from (Ok x) fact = fact
on_ok_from (Err e) fact = tt

pub none_ok : {T E : Type 0} (P : Type 0) (r : Result T E) → IsErr r → OnOk r P
none_ok P (Ok x) failed = absurd (cc failed)
none_ok P (Err e) failed = tt

-- where memory ran out the sink did not fail
pub no_sink : (stop : Stop) (result : Result (Unit {0}) Stop) → result ≡ Err stop → stop ≡ StopMemory
    → result ≢ Err SinkFault
no_sink stop result is memory sink = absurd (cc)

err_front : {T E P : Type 0} (r : Result T E) → P → OnErr r P
err_front (Ok x) fact = tt
err_front (Err e) fact = fact

-- ---- no verdict is always possible

none_if : (config : CoreConfig) (piece : List ℕ) (state : RunState) (link : Link) (t : Bool)
    → VerdictsIf t config piece [] state link
none_if config piece state link true = record {
  few = omega arith;
  possible = none_refused config state.now (new_frames link.came piece) (talk_of piece state link);
}
none_if config piece state link false = refl

none_on : (config : CoreConfig) (piece : List ℕ) (state : RunState) (found : Option Link)
    → VerdictsOn config piece [] state found
none_on config piece state None = refl
none_on config piece state (Some link) = none_if config piece state link (is_open link)

none_in : (config : CoreConfig) (what : What) (piece : List ℕ) (state : RunState)
    → VerdictsIn config what piece [] state
none_in config Idle piece state = refl
none_in config (Opened number) piece state = refl
none_in config (Read number count) piece state = none_on config piece state (find_link number state.links)
none_in config (Ended number) piece state = refl
none_in config (Broken number) piece state = refl
none_in config (Room number) piece state = refl
none_in config Stopped piece state = refl
none_in config Failed piece state = refl
none_in config NoMemory piece state = refl

-- that a turn stopped is no part of what a hub represents
pub stopped_or_not : (hub : Hub) (t : Bool) (config : CoreConfig) (state : RunState) → RepresentsState hub config state
    → RepresentsState (record hub { stopped = t }) config state
stopped_or_not hub t config state at =
    record { arrivals = at.arrivals; config_is = at.config_is; now = at.now; links = at.links }

module _ (turn : Turn) (piece : List ℕ) (hub : Hub) (config : CoreConfig) (steps : List Step)
    (is : is_turn_answer turn.what ≡ true) (follows : Follows hub config steps) where
  turned_is : (verdicts : List (Option Refusal))
      → after_step config (turn_step (wants_in hub) turn piece verdicts) (state_after config steps)
      ≡ occurred config turn.what piece verdicts
      (passed (next_moment (state_after config steps).now turn.secs) (state_after config steps))
  turned_is verdicts =
      ap
      (λ (t : Bool). cond t
      (occurred config turn.what piece verdicts
      (passed (next_moment (state_after config steps).now turn.secs) (state_after config steps)))
      (state_after config steps))
      is

  pub longer_is : (verdicts : List (Option Refusal)) (run : List Entry)
      → state_after config (longer steps (turn_step (wants_in hub) turn piece verdicts) run)
      ≡ state_from config (plain run)
      (occurred config turn.what piece verdicts
      (passed (next_moment (state_after config steps).now turn.secs) (state_after config steps)))
  longer_is verdicts run =
      state_append config steps (turn_step (wants_in hub) turn piece verdicts ∷ plain run) (first_state config)
      ∙ ap (state_from config (plain run)) (turned_is verdicts)

  pub longer_legal : (verdicts : List (Option Refusal)) (run : List Entry)
      → VerdictsIn config turn.what piece verdicts
      (passed (next_moment (state_after config steps).now turn.secs) (state_after config steps))
      → IsLegalFrom config (plain run)
      (occurred config turn.what piece verdicts
      (passed (next_moment (state_after config steps).now turn.secs) (state_after config steps)))
      → IsLegal config (longer steps (turn_step (wants_in hub) turn piece verdicts) run)
  longer_legal verdicts run possible legal =
      legal_append config steps (turn_step (wants_in hub) turn piece verdicts ∷ plain run) (first_state config)
      follows.legal (
        record { wanted = follows.state.links.wants; settled = follows.settled; verdicts = possible },
        subst (IsLegalFrom config (plain run)) (sym (turned_is verdicts)) legal,
      )

  -- out of memory while the seconds passed
  pub turns_unpassed : (hub' : Hub) (patterns : PatternsReport) (forks forks' : ℕ) (text : SinkReport)
      (result : Result (Unit {0}) Stop)
      → IsErr result → result ≢ Err SinkFault
      → Turns turn piece hub hub' patterns patterns forks forks' text text result config steps []
  turns_unpassed hub' patterns forks forks' text result failed no_sink =
      let tells = more_notices config steps (turn_step (wants_in hub) turn piece [] ∷ []) in
      record {
        verdicts = [];
        reported = no_verdicts patterns;
        legal =
            longer_legal [] []
            (none_in config turn.what piece
            (passed (next_moment (state_after config steps).now turn.secs) (state_after config steps)))
            tt;
        made = tells.made;
        notices = tells.is;
        lines = none_ok _ result failed;
        prefix = err_front result (front_nothing text.text (lines_of tells.made));
        first_lines = err_front result (first_nothing text tells.made);
        some = λ sink. absurd (no_sink sink);
        follows = none_ok _ result failed;
        counted = none_ok _ result failed;
      }

  -- the hub once the seconds have passed
  pub passed_at : (core' : Core) (old new : Reported) → now_of core' ≡ next_moment (now_of hub.core) turn.secs
      → ((arrivals : List Arrival) → Represents hub.core arrivals
      → Arrives hub.core core' arrivals (replicate (next_moment (now_of hub.core) turn.secs - now_of hub.core) Elapsed)
      old new)
      → RepresentsState (record hub { core = core'; stopped = true }) config
      (passed (next_moment (state_after config steps).now turn.secs) (state_after config steps))
  passed_at core' old new now arrives =
      let at = follows.state in
      let comes = arrives (state_after config steps).arrivals at.arrivals in
      record {
        arrivals =
            subst
            (λ (n : ℕ).
            Represents core' ((state_after config steps).arrivals ++ replicate (next_moment n turn.secs - n) Elapsed))
            at.now comes.represents;
        config_is = comes.config ∙ at.config_is;
        now = now ∙ ap (λ (n : ℕ). next_moment n turn.secs) at.now;
        links = at.links;
      }

  -- out of memory at its occurrence
  pub turns_unfinished : (one hub' : Hub) (patterns patterns' : PatternsReport) (old new : Reported) (forks forks' : ℕ)
      (text : SinkReport) (result : Result (Unit {0}) Stop) (failure : Result (Unit {0}) Memory) (run : List Entry)
      → IsErr result → result ≢ Err SinkFault
      → RepresentsState one config
      (passed (next_moment (state_after config steps).now turn.secs) (state_after config steps))
      → OccursFrom turn.what piece one hub' patterns patterns' old new failure run
      → Turns turn piece hub hub' patterns patterns' forks forks' text text result config steps run
  turns_unfinished one hub' patterns patterns' old new forks forks' text result failure run failed no_sink at occurs =
      let occurred_so =
      occurs config (passed (next_moment (state_after config steps).now turn.secs) (state_after config steps)) at
      follows.settled in
      let tells = more_notices config steps (turn_step (wants_in hub) turn piece occurred_so.verdicts ∷ plain run) in
      record {
        verdicts = occurred_so.verdicts;
        reported = occurred_so.reported;
        legal = longer_legal occurred_so.verdicts run occurred_so.possible occurred_so.legal;
        made = tells.made;
        notices = tells.is;
        lines = none_ok _ result failed;
        prefix = err_front result (front_nothing text.text (lines_of tells.made));
        first_lines = err_front result (first_nothing text tells.made);
        some = λ sink. absurd (no_sink sink);
        follows = none_ok _ result failed;
        counted = none_ok _ result failed;
      }

  -- all was done but the lines
  pub turns_reported : (one two hub' : Hub) (patterns patterns' : PatternsReport) (middle : Reported)
      (notices : List Notice) (forks forks' : ℕ) (text text' : SinkReport) (result : Result (Unit {0}) Stop)
      (run : List Entry)
      → ((arrivals : List Arrival) → Represents hub.core arrivals
      → Arrives hub.core one.core arrivals
      (replicate (next_moment (now_of hub.core) turn.secs - now_of hub.core) Elapsed) (reported [] forks) middle)
      → RepresentsState one config
      (passed (next_moment (state_after config steps).now turn.secs) (state_after config steps))
      → OccursFrom turn.what piece one two patterns patterns' middle (reported notices forks') (Ok tt) run
      → ((after : RunState) → RepresentsState two config after → RepresentsState hub' config after)
      → OnOk result (GotLines text notices text') → OnErr result (GotPrefix text.text (lines_of notices) text'.text)
      → OnErr result (GotFirstLines text notices text') → (result ≡ Err SinkFault → notices ≢ [])
      → Turns turn piece hub hub' patterns patterns' forks forks' text text' result config steps run
  turns_reported one two hub' patterns patterns' middle notices forks forks' text text' result run arrives at occurs
      keeps lines front first_lines some =
      let occurred_so =
      occurs config (passed (next_moment (state_after config steps).now turn.secs) (state_after config steps)) at
      follows.settled in
      let verdicts : List (Option Refusal) = occurred_so.verdicts in
      let done = occurred_so.done in
      let state : RunState = state_after config steps in
      let seconds : List Arrival = replicate (next_moment state.now turn.secs - state.now) Elapsed in
      let first : Heard config state.arrivals seconds [] forks middle.notices middle.forks =
      subst
      (λ (n : ℕ). Heard config state.arrivals (replicate (next_moment n turn.secs - n) Elapsed) [] forks middle.notices
      middle.forks)
      follows.state.now
      (subst
      (λ (c : CoreConfig). Heard c state.arrivals
      (replicate (next_moment (now_of hub.core) turn.secs - now_of hub.core) Elapsed) [] forks middle.notices
      middle.forks)
      follows.state.config_is
      (arrives state.arrivals follows.state.arrivals).heard) in
      let both : Heard config state.arrivals (seconds ++ done.more) [] forks notices forks' =
      heard_then config state.arrivals seconds done.more (reported [] forks) middle (reported notices forks') first
      done.heard in
      let is = longer_is verdicts run in
      let arrivals : (state_after config (longer steps (turn_step (wants_in hub) turn piece verdicts) run)).arrivals
      ≡ state.arrivals ++ (seconds ++ done.more) =
      ap (λ (s : RunState). s.arrivals) is ∙ done.arrivals ∙ append_assoc state.arrivals seconds done.more in
      record {
        verdicts = verdicts;
        reported = occurred_so.reported;
        legal = longer_legal verdicts run occurred_so.possible occurred_so.legal;
        made = notices;
        notices =
            ap (notices_by config) arrivals ∙ both.notices
            ∙ ap (λ (ns : List Notice). notices_after config steps ++ ns) (sym both.reported);
        lines = lines;
        prefix = front;
        first_lines = first_lines;
        some = some;
        follows = on_ok_from result (record {
          legal = longer_legal verdicts run occurred_so.possible occurred_so.legal;
          state = subst (RepresentsState hub' config) (sym is) (keeps _ done.at);
          settled = subst (λ (s : RunState). AreSettled s.links) (sym is) done.settled;
        });
        counted = on_ok_from result (ap (λ (xs : List Arrival). forks + forks_by config xs) arrivals ∙ both.forks);
      }
