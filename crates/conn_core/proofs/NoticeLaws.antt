-- More steps give more notices, after those that were given.
use Rattle.std.proofs.Common.{◌≡◌, ℕ, ◌-◌, ◌%◌, ◌==◌, Bool, true, false, cond, List, [], ◌∷◌, ◌++◌, replicate, refl, ap}
use Rattle.std.proofs.Common.{sym, ◌∙◌, append-nil, append_assoc}
use Rattle.std.specs.Prelude.{Option, Some, None}
use Rattle.ev_types.specs.declared.event.Event.{Event}
use Rattle.ev_types.specs.declared.item.Item.TheVariants.{One}
use Rattle.ev_types.specs.declared.item.Notice.{Notice}
use Rattle.ev_types.specs.declared.settings.Expiry.{Expiry}
use Rattle.hub_link.specs.event_core.Core.{CoreConfig, notices_by}
use Rattle.hub_link.specs.event_core.Counts.{notices_in}
use Rattle.hub_link.proofs.EventCoreMoves.{notices-append}
use Rattle.ev_types.specs.Clock.{next_moment}
use Rattle.hub_link.specs.hub_meaning.Links.{Link, find_link, is_open}
use Rattle.hub_link.specs.hub_meaning.Messages.{posts_of}
use Rattle.hub_link.specs.hub_meaning.Runs.{RunState, Step, Talk, after_entry, after_step, all_answered, answered}
use Rattle.hub_link.specs.hub_meaning.Runs.{first_state, messages_in, notices_after, occurred, passed, read_by}
use Rattle.hub_link.specs.hub_meaning.Runs.{state_after, state_from, talk_of, turned, with_talk}
use Rattle.ports.specs.Playing.{is_turn_answer}
use Rattle.hub_link.specs.hub_meaning.Verdicts.{Message, Refusal}
use Rattle.hub_link.proofs.HubMeaningRunLaws.{state_append}
use Rattle.ports.specs.declared.entry.Entry.{Entry}
use Rattle.ports.specs.declared.entry.Entry.TheVariants.{Listen, Next, Send, Close}
use Rattle.ports.specs.declared.links.Turn.{Turn}
use Rattle.ports.specs.declared.links.What.{What}
use Rattle.ports.specs.declared.links.What.TheVariants.{Idle, Opened, Read, Ended, Broken, Room, Stopped, Failed}
use Rattle.ports.specs.declared.links.What.TheVariants.{Memory}
use Rattle.stream_plan.specs.Tree.{StreamTrees}
use Rattle.stream_meaning.specs.declared.entry.Entry.{Entry as StreamEntry}
use Rattle.stream_meaning.specs.declared.entry.Entry.TheVariants.{Tick, Item as In}
use Rattle.stream_meaning.specs.History.{History, since, ◌▸◌, begun, moment_of}
use Rattle.stream_meaning.specs.Outputs.{outputs_at, outputs_of}
use Rattle.stream_meaning.specs.Arrivals.{Arrival, CoreState, Elapsed, Post, arrived, entered, expired_copies, fed_back}
use Rattle.stream_meaning.specs.Arrivals.{notices_among, state_from as core_state_from, streamed, swept, with_reap}
use Rattle.stream_meaning.proofs.ArrivalMoments.{arrivals_in_order}

-- ---- longer histories

pub record Gives (plan : StreamTrees) (before after : History) : Type 0 where
  pub made : List Notice
  pub is : notices_in plan after ≡ notices_in plan before ++ made

gives_nothing : (plan : StreamTrees) (h : History) → Gives plan h h
gives_nothing plan h = record { made = []; is = sym (append-nil (notices_in plan h)) }

gives_then : (plan : StreamTrees) (a b c : History) → Gives plan a b → Gives plan b c → Gives plan a c
gives_then plan a b c one two = record {
  made = one.made ++ two.made;
  is = two.is ∙ ap (λ (ns : List Notice). ns ++ two.made) one.is ∙ append_assoc (notices_in plan a) one.made two.made;
}

gives_entry : (plan : StreamTrees) (h : History) (x : StreamEntry) → Gives plan h (h ▸ x)
gives_entry plan h x = record {
  made = notices_among (outputs_at plan (h ▸ x));
  is = notices-append (outputs_of plan h) (outputs_at plan (h ▸ x));
}

gives_streamed : (plan : StreamTrees) (es : List Event) (state : CoreState)
    → Gives plan state.history (streamed plan es state).history
gives_streamed plan [] state = gives_nothing plan state.history
gives_streamed plan (event ∷ es) state =
    gives_then plan state.history (state.history ▸ In (One event))
    (streamed plan es (entered plan (In (One event)) state)).history
    (gives_entry plan state.history (In (One event))) (gives_streamed plan es (entered plan (In (One event)) state))

gives_swept : (plan : StreamTrees) (expiry : Option Expiry) (state : CoreState)
    → Gives plan state.history (swept plan expiry state).history
gives_swept plan None state = gives_nothing plan state.history
gives_swept plan (Some expiry) state = at_test ((moment_of state.history - begun state.history) % expiry.interval == 0)
  where
    at_test : (t : Bool) → Gives plan state.history (cond t (fed_back plan expiry.keep state) state).history
    at_test true = gives_streamed plan (expired_copies expiry.keep state) (with_reap state)
    at_test false = gives_nothing plan state.history

gives_arrived : (plan : StreamTrees) (expiry : Option Expiry) (arrival : Arrival) (state : CoreState)
    → Gives plan state.history (arrived plan expiry arrival state).history
gives_arrived plan expiry Elapsed state =
    gives_then plan state.history (state.history ▸ Tick) (swept plan expiry (entered plan Tick state)).history
    (gives_entry plan state.history Tick)
    (gives_swept plan expiry (entered plan Tick state))
gives_arrived plan expiry (Post event) state = gives_entry plan state.history (In (One event))

gives_from : (plan : StreamTrees) (expiry : Option Expiry) (arrivals : List Arrival) (state : CoreState)
    → Gives plan state.history (core_state_from plan expiry arrivals state).history
gives_from plan expiry [] state = gives_nothing plan state.history
gives_from plan expiry (arrival ∷ arrivals) state =
    gives_then plan state.history (arrived plan expiry arrival state).history
    (core_state_from plan expiry arrivals (arrived plan expiry arrival state)).history
    (gives_arrived plan expiry arrival state) (gives_from plan expiry arrivals (arrived plan expiry arrival state))

-- ---- more arrivals

pub record Grows (before after : List Arrival) : Type 0 where
  pub more : List Arrival
  pub is : after ≡ before ++ more

pub grows_nothing : (arrivals : List Arrival) → Grows arrivals arrivals
grows_nothing arrivals = record { more = []; is = sym (append-nil arrivals) }

pub grows_then : (a b c : List Arrival) → Grows a b → Grows b c → Grows a c
grows_then a b c one two = record {
  more = one.more ++ two.more;
  is = two.is ∙ ap (λ (xs : List Arrival). xs ++ two.more) one.is ∙ append_assoc a one.more two.more;
}

grows_answered : (config : CoreConfig) (now : ℕ) (messages : List Message) (talk : Talk)
    → Grows talk.arrivals (all_answered config now messages talk).arrivals
grows_answered config now [] talk = grows_nothing talk.arrivals
grows_answered config now (message ∷ messages) talk =
    grows_then talk.arrivals (answered config now message talk).arrivals
    (all_answered config now messages (answered config now message talk)).arrivals
    (record { more = posts_of now message.body; is = refl })
    (grows_answered config now messages (answered config now message talk))

grows_read : (config : CoreConfig) (piece : List ℕ) (verdicts : List (Option Refusal)) (state : RunState)
    (found : Option Link)
    → Grows state.arrivals (read_by config piece verdicts state found).arrivals
grows_read config piece verdicts state None = grows_nothing state.arrivals
grows_read config piece verdicts state (Some link) = at_test (is_open link)
  where
    at_test : (t : Bool)
        → Grows state.arrivals
        (cond t
        (with_talk state (all_answered config state.now (messages_in piece verdicts link) (talk_of piece state link)))
        state).arrivals
    at_test true = grows_answered config state.now (messages_in piece verdicts link) (talk_of piece state link)
    at_test false = grows_nothing state.arrivals

grows_occurred : (config : CoreConfig) (what : What) (piece : List ℕ) (verdicts : List (Option Refusal))
    (state : RunState)
    → Grows state.arrivals (occurred config what piece verdicts state).arrivals
grows_occurred config Idle piece verdicts state = grows_nothing state.arrivals
grows_occurred config (Opened number) piece verdicts state = grows_nothing state.arrivals
grows_occurred config (Read number count) piece verdicts state =
    grows_read config piece verdicts state (find_link number state.links)
grows_occurred config (Ended number) piece verdicts state = grows_nothing state.arrivals
grows_occurred config (Broken number) piece verdicts state = grows_nothing state.arrivals
grows_occurred config (Room number) piece verdicts state = grows_nothing state.arrivals
grows_occurred config Stopped piece verdicts state = grows_nothing state.arrivals
grows_occurred config Failed piece verdicts state = grows_nothing state.arrivals
grows_occurred config Memory piece verdicts state = grows_nothing state.arrivals

grows_turned : (config : CoreConfig) (turn : Turn) (piece : List ℕ) (verdicts : List (Option Refusal))
    (state : RunState)
    → Grows state.arrivals (turned config turn piece verdicts state).arrivals
grows_turned config turn piece verdicts state = at_test (is_turn_answer turn.what)
  where
    at_test : (t : Bool)
        → Grows state.arrivals
        (cond t (occurred config turn.what piece verdicts (passed (next_moment state.now turn.secs) state))
        state).arrivals
    at_test true =
        grows_then state.arrivals (passed (next_moment state.now turn.secs) state).arrivals
        (occurred config turn.what piece verdicts (passed (next_moment state.now turn.secs) state)).arrivals
        (record { more = replicate (next_moment state.now turn.secs - state.now) Elapsed; is = refl })
        (grows_occurred config turn.what piece verdicts (passed (next_moment state.now turn.secs) state))
    at_test false = grows_nothing state.arrivals

grows_entry : (config : CoreConfig) (entry : Entry) (verdicts : List (Option Refusal)) (state : RunState)
    → Grows state.arrivals (after_entry config entry verdicts state).arrivals
grows_entry config (Listen address answer) verdicts state = grows_nothing state.arrivals
grows_entry config (Next wants turn piece) verdicts state = grows_turned config turn piece verdicts state
grows_entry config (Send number bytes answer) verdicts state = grows_nothing state.arrivals
grows_entry config (Close number) verdicts state = grows_nothing state.arrivals

grows_from : (config : CoreConfig) (steps : List Step) (state : RunState)
    → Grows state.arrivals (state_from config steps state).arrivals
grows_from config [] state = grows_nothing state.arrivals
grows_from config (step ∷ steps) state =
    grows_then state.arrivals (after_step config step state).arrivals
    (state_from config steps (after_step config step state)).arrivals
    (grows_entry config step.entry step.verdicts state) (grows_from config steps (after_step config step state))

-- ---- more steps

pub record Tells (config : CoreConfig) (steps longer : List Step) : Type 0 where
  pub made : List Notice
  pub is : notices_after config longer ≡ notices_after config steps ++ made

pub more_notices : (config : CoreConfig) (steps more : List Step) → Tells config steps (steps ++ more)
more_notices config steps more =
    let before : List Arrival = (state_after config steps).arrivals in
    let grows = grows_from config more (state_after config steps) in
    let gives =
    gives_from config.plan config.expiry grows.more
    (core_state_from config.plan config.expiry before (record { history = since config.start; log = [] })) in
    record {
      made = gives.made;
      is = ap (λ (s : RunState). notices_by config s.arrivals) (state_append config steps more (first_state config))
          ∙ ap (notices_by config) grows.is
          ∙ ap (λ (s : CoreState). notices_in config.plan s.history)
          (arrivals_in_order config.plan config.expiry config.start before grows.more)
          ∙ gives.is;
    }
