-- Links that feed bytes, of which nothing is left after the last whole frame: the events of all messages are posted.
use Rattle.std.proofs.Common.{◌≡◌, ◌≢◌, ℕ, zero, suc, ◌+◌, ◌-◌, ◌<◌, ◌≤◌, ◌==◌, Bool, true, false, cond, inl, inr, List, [], ◌∷◌}
use Rattle.std.proofs.Common.{◌++◌, length, map, filter, fold, min, take, drop, replicate, refl, ap, sym, ◌∙◌, subst, arith}
use Rattle.std.proofs.Common.{append-nil, append_assoc, length-append}
use Rattle.std.specs.Prelude.{◌⊎◌, Option, Some, None}
use Rattle.std.specs.List.{AllByRecursion, flat_map}
use Rattle.std.proofs.lemmas.Bool.Decides.{nat_tests}
use Rattle.std.proofs.lemmas.Grind.{flat_map-append}
use Rattle.std.proofs.lemmas.List.{length-map, take-append-drop}
use Rattle.conn_core.specs.event_core.Core.{CoreConfig, state_by}
use Rattle.conn_core.specs.hub_link.Added.{IsSendOrClose}
use Rattle.conn_core.specs.hub_meaning.Legal.{IsLegal, IsLegalFrom, MayClose, MayCome, OnLink}
use Rattle.conn_core.specs.hub_meaning.declared.stage.Stage.TheVariants.{Open, ReadClosed}
use Rattle.conn_core.specs.hub_meaning.Links.{Link, changed, closed, find_link, sent, unsent, with_stage}
use Rattle.conn_core.specs.hub_meaning.Messages.{posts_of}
use Rattle.conn_core.specs.hub_meaning.Replies.{reply_to, reply_to_oversized}
use Rattle.conn_core.specs.hub_meaning.Runs.{RunState, Step, Talk, after_entry, after_step, all_answered, entry_of}
use Rattle.conn_core.specs.hub_meaning.Runs.{first_state, is_oversized, messages_in, new_frames, occurred, passed}
use Rattle.conn_core.specs.hub_meaning.Runs.{state_after, state_from, turned, with_links, with_reply, with_talk}
use Rattle.conn_core.specs.hub_meaning.Verdicts.{Message, Refusal, judged}
use Rattle.conn_core.proofs.HubMeaningRunLaws.{frames_whole}
use Rattle.framing.specs.Frames.{IsOversized, frames_of, length_at, partial}
use Rattle.framing.proofs.FrameLaws.{frames_of_nothing, partial_append, partial_oversized}
use Rattle.ports.specs.Pieces.{feed_script, pieces_of, pieces_within, read_step}
use Rattle.ports.specs.Playing.{AreAnswered, IsAnswered, Playing, begun, bytes_of, first_turn, played}
use Rattle.ports.specs.Playing.{succeeded, what_of}
use Rattle.ports.proofs.PieceLemmas.{piece_more, pieces_none}
use Rattle.ports.specs.declared.entry.Entry.{Entry}
use Rattle.ports.specs.declared.entry.Entry.TheVariants.{Listen, Next, Send, Close}
use Rattle.ports.specs.declared.links.SendAnswer.{SendAnswer}
use Rattle.ports.specs.declared.links.SendAnswer.TheVariants.{Took}
use Rattle.ports.specs.declared.links.Turn.{Turn}
use Rattle.ports.specs.declared.links.Want.{Want}
use Rattle.ports.specs.declared.links.What.{What}
use Rattle.ports.specs.declared.links.What.TheVariants as what
use Rattle.ports.specs.declared.script.LinkEvent.{LinkEvent}
use Rattle.ports.specs.declared.script.LinkEvent.TheVariants as event
use Rattle.ports.specs.declared.script.Step as script_step
use Rattle.ports.specs.declared.script.Step.TheVariants.{Turn as turn_step, Take, Fail}
use Rattle.stream_meaning.specs.Arrivals.{Arrival, Elapsed}
use Rattle.ev_types.specs.Clock.{next_moment}
use Rattle.hub_run.specs.Taken.{GoesOn, HasEnded, IsOneTurn, TakenTurn, entries_of, entries_of_turn, steps_of}
use Rattle.hub_run.proofs.EntryLaws.{steps_entries}
use Rattle.hub_run.proofs.FeedLaws.{IsGentleStep, IsQuiet, begun_quiet, quiet_played, took_all}

-- ---- what bytes post at moment 0

abbrev pub posted : List ℕ → List Arrival
posted bytes = flat_map (posts_of 0) (frames_of bytes)

posted_nothing : posted [] ≡ []
posted_nothing = ap (flat_map (posts_of 0)) frames_of_nothing

posted_more : (came piece : List ℕ)
    → posted (came ++ piece) ≡ posted came ++ flat_map (posts_of 0) (new_frames came piece)
posted_more came piece =
    ap (flat_map (posts_of 0)) (frames_whole came piece)
    ∙ flat_map-append (posts_of 0) (frames_of came) (new_frames came piece)

abbrev posts_in : Message → List Arrival
posts_in message = posts_of 0 message.body

judged_posts : (bodies : List (List ℕ)) (verdicts : List (Option Refusal))
    → flat_map posts_in (judged bodies verdicts) ≡ flat_map (posts_of 0) bodies
judged_posts [] verdicts = refl
judged_posts (body ∷ bodies) [] = ap (λ (xs : List Arrival). posts_of 0 body ++ xs) (judged_posts bodies [])
judged_posts (body ∷ bodies) (verdict ∷ verdicts) =
    ap (λ (xs : List Arrival). posts_of 0 body ++ xs) (judged_posts bodies verdicts)

-- ---- link 0 while it is open

abbrev open_link : List ℕ → Bool → List ℕ → List ℕ → Link
open_link came blocked replies taken =
    record { number = 0; stage = Open; blocked = blocked; came = came; replies = replies; taken = taken }

abbrev talk_with : List Arrival → List ℕ → Bool → List ℕ → List ℕ → Talk
talk_with arrivals came blocked replies taken =
    record { arrivals = arrivals; link = open_link came blocked replies taken }

abbrev state_at : ℕ → List Arrival → List Link → RunState
state_at now arrivals links = record { now = now; arrivals = arrivals; links = links }

abbrev state_with : List Arrival → List Link → RunState
state_with arrivals links = state_at 0 arrivals links

abbrev reading : List ℕ → Bool → List ℕ → List ℕ → RunState
reading came blocked replies taken = state_with (posted came) (open_link came blocked replies taken ∷ [])

record AllAnswered (config : CoreConfig) (messages : List Message) (arrivals : List Arrival) (came : List ℕ)
    (blocked : Bool) (replies taken : List ℕ) : Type 0 where
  pub after : List ℕ
  pub is : all_answered config 0 messages (talk_with arrivals came blocked replies taken)
      ≡ talk_with (arrivals ++ flat_map posts_in messages) came blocked after taken

all_posted : (config : CoreConfig) (messages : List Message) (arrivals : List Arrival) (came : List ℕ) (blocked : Bool)
    (replies taken : List ℕ)
    → AllAnswered config messages arrivals came blocked replies taken
all_posted config [] arrivals came blocked replies taken = record {
  after = replies;
  is = ap (λ (xs : List Arrival). talk_with xs came blocked replies taken) (sym (append-nil arrivals));
}
all_posted config (message ∷ messages) arrivals came blocked replies taken =
    let longer : List Arrival = arrivals ++ posts_in message in
    let reply : List ℕ =
    reply_to 0 (state_by config longer).log (length (unsent (open_link came blocked replies taken))) message in
    let rest = all_posted config messages longer came blocked (replies ++ reply) taken in
    record {
      after = rest.after;
      is =
          rest.is
          ∙ ap (λ (xs : List Arrival). talk_with xs came blocked rest.after taken)
          (append_assoc arrivals (posts_in message) (flat_map posts_in messages));
    }

tells_oversized : (bytes : List ℕ) → is_oversized bytes ≡ true → IsOversized bytes
tells_oversized bytes test = record { head = grind (arith, nat_tests); over = grind (arith, nat_tests) }

-- nothing would be left of no length over the limit
not_over : (came more : List ℕ) → partial (came ++ more) ≡ [] → is_oversized (partial came) ≡ false
not_over came more whole = by (is_oversized (partial came)) refl
  where
    by : (t : Bool) → is_oversized (partial came) ≡ t → t ≡ false
    by false is = refl
    by true is =
        let over = tells_oversized (partial came) is in
        let head = over.head in
        let same : partial came ++ more ≡ [] =
        sym (partial_oversized (partial came) more over) ∙ sym (partial_append came more) ∙ whole in
        let none = ap length same in
        absurd (omega (arith, head, none, length-append (partial came) more))

abbrev turn_at : ℕ → What → Turn
turn_at secs occurrence = record { secs = secs; what = occurrence }

record ReadsOn (config : CoreConfig) (piece : List ℕ) (verdicts : List (Option Refusal)) (came : List ℕ)
    (blocked : Bool) (replies taken : List ℕ) : Type 0 where
  pub after : List ℕ
  pub is : turned config (turn_at 0 (what.Read 0 (length piece))) piece verdicts (reading came blocked replies taken)
      ≡ reading (came ++ piece) blocked after taken

reads_on : (config : CoreConfig) (piece : List ℕ) (verdicts : List (Option Refusal)) (came : List ℕ) (blocked : Bool)
    (replies taken : List ℕ)
    → is_oversized (partial (came ++ piece)) ≡ false
    → ReadsOn config piece verdicts came blocked replies taken
reads_on config piece verdicts came blocked replies taken within =
    let messages : List Message = messages_in piece verdicts (open_link came blocked replies taken) in
    let all = all_posted config messages (posted came ++ []) (came ++ piece) blocked replies taken in
    let arrivals : List Arrival = (posted came ++ []) ++ flat_map posts_in messages in
    let link : Link = open_link (came ++ piece) blocked all.after taken in
    let over : Link =
    with_stage ReadClosed (with_reply (reply_to_oversized (length_at (partial (came ++ piece)))) link) in
    record {
      after = all.after;
      is =
          ap (λ (talk : Talk). with_talk (passed 0 (reading came blocked replies taken)) talk) all.is
          ∙ ap (λ (t : Bool). state_with arrivals (cond t over link ∷ [])) within
          ∙ ap (λ (xs : List Arrival). state_with xs (link ∷ []))
          (ap (λ (xs : List Arrival). xs ++ flat_map posts_in messages) (append-nil (posted came))
          ∙ ap (λ (xs : List Arrival). posted came ++ xs) (judged_posts (new_frames came piece) verdicts)
          ∙ sym (posted_more came piece));
    }

-- ---- the next turn of a script

record NextIs (play : Playing) (wants : List Want) (turn : Turn) (piece : List ℕ) (happening : LinkEvent)
    (rest : List script_step.Step) : Type 0 where
  pub turn_is : turn ≡ turn_at 0 (what_of happening)
  pub piece_is : piece ≡ bytes_of happening
  pub steps : (played play (Next wants turn piece)).steps ≡ rest
  pub secs : (played play (Next wants turn piece)).secs ≡ 0

next_is : (play : Playing) (wants : List Want) (turn : Turn) (piece : List ℕ) (happening : LinkEvent)
    (rest : List script_step.Step)
    → play.steps ≡ turn_step 0 happening ∷ rest → IsAnswered play (Next wants turn piece)
    → NextIs play wants turn piece happening rest
next_is play wants turn piece happening rest steps is =
    let one : turn ≡ turn_at 0 (what_of happening) =
    is.0 ∙ ap (λ (s : List script_step.Step). (first_turn s play.secs).turn) steps in
    record {
      turn_is = one;
      piece_is = is.1 ∙ ap (λ (s : List script_step.Step). (first_turn s play.secs).piece) steps;
      steps = ap (λ (s : List script_step.Step). (first_turn s play.secs).rest) steps;
      secs = ap (λ (t : Turn). t.secs) one;
    }

-- a call that failed changes nothing
failed_same : (config : CoreConfig) (entry : Entry) (verdicts : List (Option Refusal)) (state : RunState)
    → succeeded entry ≡ false → after_entry config entry verdicts state ≡ state
failed_same config (Listen address answer) verdicts state is = refl
failed_same config (Next wants turn piece) verdicts state is =
    ap
    (λ (t : Bool). cond t
    (occurred config turn.what piece verdicts (passed (next_moment state.now turn.secs) state)) state)
    is
failed_same config (Send number sending answer) verdicts state is = absurd (cc is)
failed_same config (Close number) verdicts state is = absurd (cc is)

-- ---- where a run is that is fed these bytes

abbrev reads_of : ℕ → List ℕ → List script_step.Step
reads_of limit left = map read_step (pieces_of limit left) ++ turn_step 0 (event.Ended 0) ∷ []

module _ (limit : ℕ) (bytes : List ℕ) where
  -- link 0 is not open yet
  record Unopened (play : Playing) (state : RunState) : Type 0 where
    pub steps : play.steps ≡ turn_step 0 (event.Opened 0) ∷ reads_of limit bytes
    pub is : state ≡ state_with [] []

  -- of its bytes these came, and those are left
  record Reading (play : Playing) (state : RunState) : Type 0 where
    pub came : List ℕ
    pub left : List ℕ
    pub all : came ++ left ≡ bytes
    pub blocked : Bool
    pub replies : List ℕ
    pub taken : List ℕ
    pub steps : play.steps ≡ reads_of limit left
    pub is : state ≡ reading came blocked replies taken

  -- all came
  record Over (play : Playing) (state : RunState) : Type 0 where
    pub steps : play.steps ≡ []
    pub secs : play.secs ≡ 0
    pub now : state.now ≡ 0
    pub arrivals : state.arrivals ≡ posted bytes

  abbrev At : Playing → RunState → Type 0
  At play state = Unopened play state ⊎ (Reading play state ⊎ Over play state)

  module _ (config : CoreConfig) (verdicts : List (Option Refusal)) (play : Playing) (state : RunState) where
    module _ (wants : List Want) (turn : Turn) (piece : List ℕ) (answered : IsAnswered play (Next wants turn piece)) where
      opens : Unopened play state → At (played play (Next wants turn piece)) (turned config turn piece verdicts state)
      opens before =
          let next =
          next_is play wants turn piece (event.Opened 0) (reads_of limit bytes) before.steps answered in
          inr (inl (record {
            came = [];
            left = bytes;
            all = refl;
            blocked = false;
            replies = [];
            taken = [];
            steps = next.steps;
            is =
                ap (λ (t : Turn). turned config t piece verdicts state) next.turn_is
                ∙ ap (turned config (turn_at 0 (what.Opened 0)) piece verdicts) before.is
                ∙ ap (λ (xs : List Arrival). state_with xs (open_link [] false [] [] ∷ [])) (sym posted_nothing);
          }))

      reads : 0 < limit → partial bytes ≡ [] → Reading play state
          → At (played play (Next wants turn piece)) (turned config turn piece verdicts state)
      reads some whole before = by before.left refl
        where
          by : (left : List ℕ) → before.left ≡ left
              → At (played play (Next wants turn piece)) (turned config turn piece verdicts state)
          by [] none =
              let last : play.steps ≡ turn_step 0 (event.Ended 0) ∷ [] =
              before.steps ∙ ap (reads_of limit) none
              ∙ ap (λ (s : List script_step.Step). s ++ turn_step 0 (event.Ended 0) ∷ [])
              (pieces_none limit [] (omega arith)) in
              let next = next_is play wants turn piece (event.Ended 0) [] last answered in
              let is =
              ap (λ (t : Turn). turned config t piece verdicts state) next.turn_is
              ∙ ap (turned config (turn_at 0 (what.Ended 0)) piece verdicts) before.is in
              inr (inr (record {
                steps = next.steps;
                secs = next.secs;
                now = ap (λ (s : RunState). s.now) is;
                arrivals =
                    ap (λ (s : RunState). s.arrivals) is ∙ append-nil (posted before.came)
                    ∙ ap posted
                    (sym (append-nil before.came) ∙ ap (λ (left : List ℕ). before.came ++ left) (sym none) ∙ before.all);
              }))
          by (byte ∷ more) is_left =
              let same = ap length is_left in
              let first : List ℕ = take (min limit (length before.left)) before.left in
              let later : List ℕ = drop (min limit (length before.left)) before.left in
              let cut : first ++ later ≡ before.left =
              take-append-drop (min limit (length before.left)) before.left in
              let all : (before.came ++ first) ++ later ≡ bytes =
              append_assoc before.came first later ∙ ap (λ (left : List ℕ). before.came ++ left) cut ∙ before.all in
              let next =
              next_is play wants turn piece (event.Read 0 first) (reads_of limit later)
              (before.steps
              ∙ ap (λ (s : List script_step.Step). s ++ turn_step 0 (event.Ended 0) ∷ [])
              (sym (piece_more [] limit before.left first later some (omega (arith, same)) refl refl)))
              answered in
              let on =
              reads_on config first verdicts before.came before.blocked before.replies before.taken
              (not_over (before.came ++ first) later (ap partial all ∙ whole)) in
              inr (inl (record {
                came = before.came ++ first;
                left = later;
                all = all;
                blocked = before.blocked;
                replies = on.after;
                taken = before.taken;
                steps = next.steps;
                is =
                    ap (λ (t : Turn). turned config t piece verdicts state) next.turn_is
                    ∙ ap (λ (p : List ℕ). turned config (turn_at 0 (what.Read 0 (length first))) p verdicts state)
                    next.piece_is
                    ∙ ap (turned config (turn_at 0 (what.Read 0 (length first))) first verdicts) before.is
                    ∙ on.is;
              }))

      stays_over : Over play state
          → At (played play (Next wants turn piece)) (turned config turn piece verdicts state)
      stays_over before =
          let turn_is : turn ≡ turn_at 0 what.Stopped =
          answered.0 ∙ ap (λ (s : List script_step.Step). (first_turn s play.secs).turn) before.steps
          ∙ ap (λ (secs : ℕ). turn_at secs what.Stopped) before.secs in
          let is = ap (λ (t : Turn). turned config t piece verdicts state) turn_is in
          inr (inr (record {
            steps = ap (λ (s : List script_step.Step). (first_turn s play.secs).rest) before.steps;
            secs = ap (λ (t : Turn). t.secs) turn_is;
            now = ap (λ (s : RunState). s.now) is ∙ ap (λ (n : ℕ). next_moment n 0) before.now;
            arrivals =
                ap (λ (s : RunState). s.arrivals) is
                ∙ ap (λ (n : ℕ). state.arrivals ++ replicate (next_moment n 0 - n) Elapsed) before.now
                ∙ append-nil state.arrivals ∙ before.arrivals;
          }))

    -- a send takes all that it is offered
    sends : (number : ℕ) (sending : List ℕ) (answer : SendAnswer) → answer ≡ Took (length sending) → Reading play state
        → At (played play (Send number sending answer)) (after_entry config (Send number sending answer) verdicts state)
    sends number sending answer took before = by (0 == number) refl
      where
        link : Link
        link = open_link before.came before.blocked before.replies before.taken

        by : (t : Bool) → (0 == number) ≡ t
            → At (played play (Send number sending answer))
            (after_entry config (Send number sending answer) verdicts state)
        by t at =
            let is =
            ap (λ (s : RunState). with_links (changed number (sent sending answer) s.links) s) before.is
            ∙ ap
            (λ (a : SendAnswer).
            state_with (posted before.came) (changed number (sent sending a) (link ∷ [])))
            took
            ∙ ap
            (λ (b : Bool).
            state_with (posted before.came) (cond b (sent sending (Took (length sending)) link) link ∷ []))
            at in
            of t is
          where
            of : (b : Bool)
                → after_entry config (Send number sending answer) verdicts state
                ≡ state_with (posted before.came) (cond b (sent sending (Took (length sending)) link) link ∷ [])
                → At (played play (Send number sending answer))
                (after_entry config (Send number sending answer) verdicts state)
            of true is = inr (inl (record {
              came = before.came;
              left = before.left;
              all = before.all;
              blocked = length sending == 0;
              replies = before.replies;
              taken = before.taken ++ take (length sending) sending;
              steps = before.steps;
              is = is;
            }))
            of false is = inr (inl (record {
              came = before.came;
              left = before.left;
              all = before.all;
              blocked = before.blocked;
              replies = before.replies;
              taken = before.taken;
              steps = before.steps;
              is = is;
            }))

    -- an open link is not closed
    closes : (number : ℕ) → OnLink number state.links MayClose → Reading play state
        → At (played play (Close number)) (after_entry config (Close number) verdicts state)
    closes number on before =
        of (0 == number)
        (sym (ap (λ (s : RunState). find_link number s.links) before.is) ∙ on.1)
        (ap (λ (s : RunState). with_links (changed number closed s.links) s) before.is)
      where
        link : Link
        link = open_link before.came before.blocked before.replies before.taken

        of : (b : Bool) → cond b (Some link) None ≡ Some on.0
            → after_entry config (Close number) verdicts state
            ≡ state_with (posted before.came) (cond b (closed link) link ∷ [])
            → At (played play (Close number)) (after_entry config (Close number) verdicts state)
        of true found is =
            let same : link ≡ on.0 = cc in
            let may : MayClose link = subst MayClose (sym same) on.2 in
            absurd may
        of false found is = absurd (cc found)

  -- a call that may come then, and is answered as the script says
  at_entry : (config : CoreConfig) (entry : Entry) (verdicts : List (Option Refusal)) (play : Playing) (state : RunState)
      → 0 < limit → partial bytes ≡ [] → MayCome config entry verdicts state → IsQuiet play → IsAnswered play entry
      → At play state
      → At (played play entry) (after_entry config entry verdicts state)
  at_entry config (Listen address answer) verdicts play state some whole may quiet answered at = absurd may
  at_entry config (Next wants turn piece) verdicts play state some whole may quiet answered (inl before) =
      opens config verdicts play state wants turn piece answered before
  at_entry config (Next wants turn piece) verdicts play state some whole may quiet answered (inr (inl before)) =
      reads config verdicts play state wants turn piece answered some whole before
  at_entry config (Next wants turn piece) verdicts play state some whole may quiet answered (inr (inr before)) =
      stays_over config verdicts play state wants turn piece answered before
  at_entry config (Send number sending answer) verdicts play state some whole may quiet answered (inl before) =
      let on = may.1 in
      let none = sym (ap (λ (s : RunState). find_link number s.links) before.is) ∙ on.1 in absurd (cc none)
  at_entry config (Send number sending answer) verdicts play state some whole may quiet answered (inr (inl before)) =
      sends config verdicts play state number sending answer (took_all play number sending answer quiet answered) before
  at_entry config (Send number sending answer) verdicts play state some whole may quiet answered (inr (inr before)) =
      inr (inr (record { steps = before.steps; secs = before.secs; now = before.now; arrivals = before.arrivals }))
  at_entry config (Close number) verdicts play state some whole may quiet answered (inl before) =
      let on = may.1 in
      let none = sym (ap (λ (s : RunState). find_link number s.links) before.is) ∙ on.1 in absurd (cc none)
  at_entry config (Close number) verdicts play state some whole may quiet answered (inr (inl before)) =
      closes config verdicts play state number may.1 before
  at_entry config (Close number) verdicts play state some whole may quiet answered (inr (inr before)) =
      inr (inr (record { steps = before.steps; secs = before.secs; now = before.now; arrivals = before.arrivals }))

  at_from : (config : CoreConfig) (steps : List Step) (state : RunState) (play : Playing) → 0 < limit
      → partial bytes ≡ [] → IsLegalFrom config steps state → IsQuiet play
      → AreAnswered play (filter succeeded (map entry_of steps)) → At play state
      → At (fold played play (filter succeeded (map entry_of steps))) (state_from config steps state)
  at_from config [] state play some whole legal quiet answered at = at
  at_from config (step ∷ steps) state play some whole legal quiet answered at =
      by (succeeded step.entry) refl answered
      (λ next still more here. at_from config steps after next some whole legal.1 still more here)
    where
      after : RunState
      after = after_step config step state

      rest : List Entry
      rest = filter succeeded (map entry_of steps)

      by : (t : Bool) → succeeded step.entry ≡ t → AreAnswered play (cond t (step.entry ∷ rest) rest)
          → ((next : Playing) → IsQuiet next → AreAnswered next rest → At next after
          → At (fold played next rest) (state_from config steps after))
          → At (fold played play (cond t (step.entry ∷ rest) rest)) (state_from config steps after)
      by true is answers later =
          later (played play step.entry) (quiet_played play step.entry quiet) answers.1
          (at_entry config step.entry step.verdicts play state some whole legal.0 quiet answers.0 at)
      by false is answers later =
          later play quiet answers
          (subst (At play) (sym (failed_same config step.entry step.verdicts state is)) at)

  at_end : (play : Playing) (state : RunState) → At play state → play.steps ≡ [] → state.arrivals ≡ posted bytes
  at_end play state (inl before) none = let is = sym before.steps ∙ none in absurd (cc is)
  at_end play state (inr (inl before)) none =
      let is = ap length (sym before.steps ∙ none) in
      absurd (omega (
        arith,
        is,
        length-append (map read_step (pieces_of limit before.left))
            (turn_step 0 (event.Ended 0) ∷ []),
      ))
  at_end play state (inr (inr before)) none = before.arrivals

-- ---- how many turns a script has

-- after the first turn of a run
record AfterTurn (taken : TakenTurn) (rest : List Entry) (play : Playing) : Type 0 where
  pub is : taken.turn ≡ (first_turn play.steps play.secs).turn
  pub later : Playing
  pub quiet : IsQuiet later
  pub steps : later.steps ≡ (first_turn play.steps play.secs).rest
  pub answered : AreAnswered later (filter succeeded rest)
  pub same : fold played play (filter succeeded (entries_of_turn taken ++ rest))
      ≡ fold played later (filter succeeded rest)

record AfterCalls (calls rest : List Entry) (play : Playing) : Type 0 where
  pub later : Playing
  pub quiet : IsQuiet later
  pub steps : later.steps ≡ play.steps
  pub answered : AreAnswered later (filter succeeded rest)
  pub same : fold played play (filter succeeded (calls ++ rest)) ≡ fold played later (filter succeeded rest)

after_calls : (calls rest : List Entry) (play : Playing) → AllByRecursion IsSendOrClose calls → IsQuiet play
    → AreAnswered play (filter succeeded (calls ++ rest)) → AfterCalls calls rest play
after_calls [] rest play once quiet answered =
    record { later = play; quiet = quiet; steps = refl; answered = answered; same = refl }
after_calls (Listen address answer ∷ calls) rest play once quiet answered = absurd once.0
after_calls (Next wants turn piece ∷ calls) rest play once quiet answered = absurd once.0
after_calls (Send number sending answer ∷ calls) rest play once quiet answered =
    let after =
    after_calls calls rest (played play (Send number sending answer)) once.1
    (quiet_played play (Send number sending answer) quiet) answered.1 in
    record {
      later = after.later;
      quiet = after.quiet;
      steps = after.steps;
      answered = after.answered;
      same = after.same;
    }
after_calls (Close number ∷ calls) rest play once quiet answered =
    let after =
    after_calls calls rest (played play (Close number)) once.1 (quiet_played play (Close number) quiet) answered.1 in
    record {
      later = after.later;
      quiet = after.quiet;
      steps = after.steps;
      answered = after.answered;
      same = after.same;
    }

after_turn : (taken : TakenTurn) (rest : List Entry) (play : Playing) → IsOneTurn taken → IsQuiet play
    → AreAnswered play (filter succeeded (entries_of_turn taken ++ rest)) → AfterTurn taken rest play
after_turn taken rest play one quiet answered =
    let next : Entry = Next taken.wants taken.turn taken.piece in
    let calls : List Entry = filter succeeded (taken.calls ++ rest) in
    let answers : AreAnswered play (next ∷ calls) =
    subst (λ (t : Bool). AreAnswered play (cond t (next ∷ calls) calls)) one.came answered in
    let after =
    after_calls taken.calls rest (played play next) one.once (quiet_played play next quiet) answers.1 in
    let is = answers.0 in
    record {
      is = is.0;
      later = after.later;
      quiet = after.quiet;
      steps = after.steps;
      answered = after.answered;
      same =
          ap (λ (t : Bool). fold played play (cond t (next ∷ calls) calls)) one.came ∙ after.same;
    }

not_stopped : (happening : LinkEvent) → what_of happening ≢ what.Stopped
not_stopped event.Idle is = absurd (cc is)
not_stopped (event.Opened link) is = absurd (cc is)
not_stopped (event.Read link piece) is = absurd (cc is)
not_stopped (event.Ended link) is = absurd (cc is)
not_stopped (event.Broken link) is = absurd (cc is)
not_stopped (event.Room link) is = absurd (cc is)

stopped_rest : (steps : List script_step.Step) (secs : ℕ) → AllByRecursion IsGentleStep steps
    → (first_turn steps secs).turn.what ≡ what.Stopped → (first_turn steps secs).rest ≡ []
stopped_rest [] secs gentle is = refl
stopped_rest (turn_step at happening ∷ steps) secs gentle is = absurd (not_stopped happening is)
stopped_rest (Take link count ∷ steps) secs gentle is = absurd gentle.0
stopped_rest (Fail link ∷ steps) secs gentle is = absurd gentle.0

going_rest : (steps : List script_step.Step) (secs : ℕ) → AllByRecursion IsGentleStep steps
    → (first_turn steps secs).turn.what ≢ what.Stopped
    → length steps ≡ length (first_turn steps secs).rest + 1
going_rest [] secs gentle goes = absurd (goes refl)
going_rest (turn_step at happening ∷ steps) secs gentle goes = omega arith
going_rest (Take link count ∷ steps) secs gentle goes = absurd gentle.0
going_rest (Fail link ∷ steps) secs gentle goes = absurd gentle.0

-- the last turn was Stopped: nothing of the script is left
stopped_at_end : (before : List TakenTurn) (last : TakenTurn) (play : Playing)
    → AllByRecursion IsOneTurn (before ++ last ∷ []) → last.turn.what ≡ what.Stopped → IsQuiet play
    → AreAnswered play (filter succeeded (entries_of (before ++ last ∷ [])))
    → (fold played play (filter succeeded (entries_of (before ++ last ∷ [])))).steps ≡ []
stopped_at_end [] last play each stopped quiet answered =
    let after = after_turn last [] play each.0 quiet answered in
    ap (λ (p : Playing). p.steps) after.same ∙ after.steps
    ∙ stopped_rest play.steps play.secs quiet.gentle (sym (ap (λ (t : Turn). t.what) after.is) ∙ stopped)
stopped_at_end (turn ∷ before) last play each stopped quiet answered =
    let after = after_turn turn (entries_of (before ++ last ∷ [])) play each.0 quiet answered in
    ap (λ (p : Playing). p.steps) after.same
    ∙ stopped_at_end before last after.later each.1 stopped after.quiet after.answered

-- turns that are not Stopped are no more than those of the script
going_turns : (turns : List TakenTurn) (play : Playing) → AllByRecursion IsOneTurn turns → AllByRecursion GoesOn turns
    → IsQuiet play → AreAnswered play (filter succeeded (entries_of turns)) → length turns ≤ length play.steps
going_turns [] play each going quiet answered = omega arith
going_turns (turn ∷ turns) play each going quiet answered =
    let after = after_turn turn (entries_of turns) play each.0 quiet answered in
    let fewer = going_turns turns after.later each.1 going.1 after.quiet after.answered in
    let same = ap length after.steps in
    let one =
    going_rest play.steps play.secs quiet.gentle
    (λ stopped. going.0 (ap (λ (t : Turn). t.what) after.is ∙ stopped)) in
    omega (arith, fewer, same, one)

few_pieces : (limit n : ℕ) (bytes : List ℕ) → length (pieces_within limit n bytes) ≤ n
unfolding pieces_within
few_pieces limit zero bytes = omega arith
few_pieces limit (suc n) bytes = by (length bytes == 0) (few_pieces limit n (drop limit bytes))
  where
    by : (t : Bool) → length (pieces_within limit n (drop limit bytes)) ≤ n
        → length (cond t [] (take limit bytes ∷ pieces_within limit n (drop limit bytes))) ≤ suc n
    by true few = omega arith
    by false few = omega (arith, few)

few_steps : (limit : ℕ) (bytes : List ℕ) → length (begun (feed_script limit bytes)).steps ≤ length bytes + 2
few_steps limit bytes =
    let few = few_pieces limit (length bytes) bytes in
    let all : length (begun (feed_script limit bytes)).steps
    ≡ suc (length (map read_step (pieces_of limit bytes) ++ turn_step 0 (event.Ended 0) ∷ [])) =
    refl in
    omega (
      arith,
      few,
      all,
      length-map (pieces_of limit bytes) read_step,
      length-append (map read_step (pieces_of limit bytes))
          (turn_step 0 (event.Ended 0) ∷ []),
    )

-- ---- a run that came to its last turn

module _ (config : CoreConfig) (limit most : ℕ) (bytes : List ℕ) (turns : List TakenTurn) where
  played_out : length bytes + 2 < most
      → AreAnswered (begun (feed_script limit bytes)) (filter succeeded (entries_of turns))
      → AllByRecursion IsOneTurn turns → HasEnded most turns
      → (fold played (begun (feed_script limit bytes)) (filter succeeded (entries_of turns))).steps ≡ []
  played_out few answered each (inl ended) =
      let are = ended.are in
      subst
      (λ (ts : List TakenTurn). (fold played (begun (feed_script limit bytes)) (filter succeeded (entries_of ts))).steps
      ≡ [])
      (sym are)
      (stopped_at_end ended.before ended.last (begun (feed_script limit bytes)) (subst (AllByRecursion IsOneTurn) are each)
      ended.stopped (begun_quiet limit bytes)
      (subst (λ (ts : List TakenTurn). AreAnswered (begun (feed_script limit bytes)) (filter succeeded (entries_of ts))) are
      answered))
  played_out few answered each (inr ended) =
      let fewer =
      going_turns turns (begun (feed_script limit bytes)) each ended.going (begun_quiet limit bytes) answered in
      let all = ended.all in absurd (omega (arith, fewer, all, few, few_steps limit bytes))

  pub posted_from : 0 < limit → length bytes + 2 < most → partial bytes ≡ [] → config.start ≡ 0
      → AreAnswered (begun (feed_script limit bytes)) (filter succeeded (entries_of turns))
      → IsLegal config (steps_of turns) → AllByRecursion IsOneTurn turns → HasEnded most turns
      → (state_after config (steps_of turns)).arrivals ≡ posted bytes
  posted_from some few whole start answered legal each ended =
      let script : Playing = begun (feed_script limit bytes) in
      at_end limit bytes (fold played script (filter succeeded (entries_of turns))) (state_after config (steps_of turns))
      (subst
      (λ (entries : List Entry).
      At limit bytes (fold played script (filter succeeded entries)) (state_after config (steps_of turns)))
      (steps_entries turns)
      (at_from limit bytes config (steps_of turns) (first_state config) script some whole legal (begun_quiet limit bytes)
      (subst (λ (entries : List Entry). AreAnswered script (filter succeeded entries)) (sym (steps_entries turns))
      answered)
      (inl (record { steps = refl; is = ap (λ (n : ℕ). state_at n [] []) start }))))
      (played_out few answered each ended)
