-- Events that are posted one by one to an index alone.
use Rattle.std.proofs.Common.{◌≡◌, ℕ, ◌+◌, ◌<◌, ◌≤◌, Bool, true, false, cond, not, ◌||◌, List, [], ◌∷◌, ◌++◌, length, map}
use Rattle.std.proofs.Common.{Result, Ok, Err, refl, ap, sym, ◌∙◌, subst, arith, append-nil, append_assoc}
use Rattle.std.specs.Prelude.{Option, Some, None, filter_map}
use Rattle.std.specs.List.{AllByRecursion, cons_option, flat_map, list_any}
use Rattle.command_files.specs.Runs.{most_turns}
use Rattle.command_setup.specs.hub_meaning.Messages.{events_of, posts_of, read_as, reading_of}
use Rattle.command_setup.specs.hub_meaning.Runs.{state_after}
use Rattle.command_setup.specs.hub_run.Laws.{FeedsArePosted}
use Rattle.command_setup.specs.hub_run.Runs.{config_at, opening}
use Rattle.command_setup.specs.hub_run.Taken.{steps_of}
use Rattle.ports.specs.declared.entry.Entry.{Entry}
use Rattle.ports.specs.Pieces.{feed_script}
use Rattle.ports.specs.Playing.{IsScriptedRun}
use Rattle.ports.specs.declared.links.TheConstants.{PIECE_LIMIT}
use Rattle.stream_plan.specs.Tree.{StreamTrees}
use Rattle.ev_types.specs.Expiry.{ends_key}
use Rattle.ev_types.specs.declared.event.Event.{Event}
use Rattle.ev_types.specs.declared.item.Item.TheVariants.{One}
use Rattle.ev_types.specs.declared.settings.Expiry.{Expiry}
use Rattle.framing.specs.Frames.{frames_of}
use Rattle.graphite_lines.specs.Frames.{FramesAreReadBack, accepted, accepted_in, frames_in, message_with}
use Rattle.graphite_lines.specs.Lines.{event_of, first_cause, line_says, lines_of, said_by, unless}
use Rattle.graphite_lines.specs.Words.{words_of}
use Rattle.graphite_lines.specs.declared.fault.LineWhy.{LineWhy}
use Rattle.index_log.specs.IndexKey.{same_index_key}
use Rattle.index_log.specs.Live.{IndexLog, Write, ends, is_live, kept, live_events, placed_onto}
use Rattle.riemann_msg.specs.Fault.{Fault, first_fault}
use Rattle.riemann_msg.specs.Value.{message_of}
use Rattle.riemann_msg.specs.declared.msg.Msg.{Msg}
use Rattle.stream_meaning.specs.Arrivals.{Arrival, CoreConfig, CoreState, Post, entered, state_by, state_from}
use Rattle.stream_meaning.specs.History.{since}
use Rattle.stream_meaning.specs.declared.entry.Entry.TheVariants.{Item as In}
use Rattle.riemann_commands.specs.Indexed.{LastLinesAreLeft, index_alone, last_of_keys}

-- ---- what is posted

post_is : (body : List ℕ) (event : Event) → first_fault body ≡ None → message_of 0 body ≡ message_with event
    → posts_of 0 body ≡ Post event ∷ []
unfolding posts_of reading_of
post_is body event faultless is =
    ap (λ (fault : Option Fault). map Post (events_of (read_as fault (message_of 0 body)))) faultless
    ∙ ap (λ (msg : Msg). map Post (events_of (Ok msg))) is

posts_are : (bodies : List (List ℕ)) (events : List Event) → AllByRecursion (λ body. first_fault body ≡ None) bodies
    → map (message_of 0) bodies ≡ map message_with events
    → flat_map (posts_of 0) bodies ≡ map Post events
posts_are [] [] faultless same = refl
posts_are [] (event ∷ events) faultless same = absurd (cc same)
posts_are (body ∷ bodies) [] faultless same = absurd (cc same)
posts_are (body ∷ bodies) (event ∷ events) faultless same =
    let one : message_of 0 body ≡ message_with event = cc same in
    let more : map (message_of 0) bodies ≡ map message_with events = cc same in
    ap (λ (xs : List Arrival). xs ++ flat_map (posts_of 0) bodies) (post_is body event faultless.0 one)
    ∙ ap (λ (xs : List Arrival). Post event ∷ xs) (posts_are bodies events faultless.1 more)

-- ---- what is written

log_from : (expiry : Option Expiry) (events : List Event) (state : CoreState)
    → (state_from index_alone expiry (map Post events) state).log ≡ state.log ++ map Write events
log_from expiry [] state = sym (append-nil state.log)
log_from expiry (event ∷ events) state =
    log_from expiry events (entered index_alone (In (One event)) state)
    ∙ append_assoc state.log (Write event ∷ []) (map Write events)

-- ---- what is live

ends_any : (event : Event) (later : List Event)
    → list_any (ends event) (map Write later) ≡ list_any (same_index_key event) later
ends_any event [] = refl
ends_any event (other ∷ later) = ap (λ (t : Bool). same_index_key event other || t) (ends_any event later)

either : (t : Bool) (event : Event) (xs ys : List Event) → xs ≡ ys
    → cond (not t) (event ∷ xs) xs ≡ cond t ys (event ∷ ys)
either true event xs ys same = same
either false event xs ys same = ap (λ (es : List Event). event ∷ es) same

last_are_kept : (events : List Event) → AllByRecursion (λ event. ends_key event ≡ false) events
    → kept (map Write events) ≡ last_of_keys events
last_are_kept [] stay = refl
last_are_kept (event ∷ later) stay =
    ap
    (λ (t : Bool). cond (not (t || list_any (ends event) (map Write later))) (event ∷ kept (map Write later))
    (kept (map Write later)))
    stay.0
    ∙ ap
    (λ (t : Bool). cond (not t) (event ∷ kept (map Write later)) (kept (map Write later)))
    (ends_any event later)
    ∙ either (list_any (same_index_key event) later) event (kept (map Write later)) (last_of_keys later)
    (last_are_kept later stay.1)

live_are : (log : IndexLog) → live_events log ≡ placed_onto [] (kept log)
unfolding live_events
live_are log = refl

-- ---- no accepted line ends its key

said_stays : (host_part : Option ℕ) (words : List (List ℕ)) (event : Event)
    → accepted_in (said_by host_part words) ≡ Some event → ends_key event ≡ false
said_stays host_part [] event is = absurd (cc is)
said_stays host_part (word ∷ words) event is = of (first_cause (word ∷ words)) is
  where
    of : (cause : Option LineWhy)
        → accepted_in (unless cause (event_of host_part (word ∷ words))) ≡ Some event → ends_key event ≡ false
    of None accepts =
        let same : event_of host_part (word ∷ words) ≡ event = cc accepts in
        subst (λ (e : Event). ends_key e ≡ false) same refl
    of (Some why) accepts = absurd (cc accepts)

line_stays : (host_part : Option ℕ) (line : List ℕ) (event : Event)
    → accepted_in (line_says host_part line) ≡ Some event → ends_key event ≡ false
unfolding line_says
line_stays host_part line event is = said_stays host_part (words_of line) event is

accepted_stay : (host_part : Option ℕ) (lines : List (List ℕ))
    → AllByRecursion (λ event. ends_key event ≡ false) (accepted host_part lines)
unfolding accepted
accepted_stay host_part [] = tt
accepted_stay host_part (line ∷ lines) =
    by (accepted_in (line_says host_part line)) (line_stays host_part line) (accepted_stay host_part lines)
  where
    rest : List Event
    rest = filter_map (λ line. accepted_in (line_says host_part line)) lines

    by : (found : Option Event) → ((event : Event) → found ≡ Some event → ends_key event ≡ false)
        → AllByRecursion (λ event. ends_key event ≡ false) rest
        → AllByRecursion (λ event. ends_key event ≡ false) (cons_option found rest)
    by None stays more = more
    by (Some event) stays more = (stays event refl, more)

-- ---- a text that is fed

pub last_lines : FramesAreReadBack → FeedsArePosted → LastLinesAreLeft
last_lines reads posts setup host_part text old new plan few fed =
    let events : List Event = accepted host_part (lines_of text) in
    let bytes : List ℕ = frames_in host_part text in
    let back = reads host_part text in
    let ran = fed.ran in
    let took = ran.took in
    let takes = took.takes in
    let config : CoreConfig = config_at setup ran.secs in
    let fresh : CoreState = record { history = since config.start; log = [] } in
    let within : length bytes ≤ 67108864 = few in
    let some : 0 < 65536 = omega arith in
    let fewer : length bytes + 2 < 18446744073709551615 = omega (arith, within) in
    let run =
    subst (IsScriptedRun (feed_script PIECE_LIMIT bytes))
    (ran.opens ∙ ap (λ (calls : List Entry). opening setup ran.secs ∷ calls) took.are) fed.scripted in
    let arrivals : (state_after config (steps_of took.turns)).arrivals ≡ map Post events =
    posts setup PIECE_LIMIT most_turns bytes ran.secs took.turns some fewer back.whole run
    takes.legal takes.each took.ended
    ∙ posts_are (frames_of bytes) events back.faultless (back.same 0) in
    let log : (state_by config (state_after config (steps_of took.turns)).arrivals).log ≡ map Write events =
    ap (λ (xs : List Arrival). (state_by config xs).log) arrivals
    ∙ ap (λ (streams : StreamTrees). (state_from streams setup.expiry (map Post events) fresh).log) plan
    ∙ log_from setup.expiry events fresh in
    ap live_events log ∙ live_are (map Write events)
    ∙ ap (placed_onto []) (last_are_kept events (accepted_stay host_part (lines_of text)))
