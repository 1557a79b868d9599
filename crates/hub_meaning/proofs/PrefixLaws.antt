-- A link was sent a prefix of its replies.
use Rattle.std.proofs.Common.{◌≡◌, ℕ, Bool, true, false, cond, List, [], ◌∷◌, ◌++◌, length, take, drop, refl, ap, sym}
use Rattle.std.proofs.Common.{◌∙◌, append_assoc}
use Rattle.std.specs.Prelude.{Option, Some, None}
use Rattle.std.specs.List.{AllByRecursion}
use Rattle.std.proofs.lemmas.List.{drop_at, take-append-drop}
use Rattle.stream_meaning.specs.Arrivals.{CoreConfig}
use Rattle.framing.specs.Frames.{partial, length_at}
use Rattle.ports.specs.declared.entry.Entry.{Entry}
use Rattle.ports.specs.declared.entry.Entry.TheVariants.{Listen, Next, Send, Close}
use Rattle.ports.specs.declared.links.SendAnswer.{SendAnswer}
use Rattle.ports.specs.declared.links.SendAnswer.TheVariants.{Took, Later, Failed, Memory}
use Rattle.ports.specs.declared.links.Turn.{Turn}
use Rattle.ports.specs.declared.links.What.{What}
use Rattle.ports.specs.declared.links.What.TheVariants as what
use Rattle.ev_types.specs.Clock.{next_moment}
use Rattle.hub_meaning.specs.Links.{Link, ReadClosed, Closing, closed, broken, ended, find_link, is_above, is_connected}
use Rattle.hub_meaning.specs.Links.{is_open, new_link, opened, sent, unblocked, unsent, with_stage}
use Rattle.hub_meaning.specs.Replies.{reply_to_oversized}
use Rattle.hub_meaning.specs.Runs.{RunState, Step, Talk, after_entry, after_step, all_answered, answered, cut_off}
use Rattle.hub_meaning.specs.Runs.{first_state, is_oversized, messages_in, occurred, passed, read_by, read_from}
use Rattle.hub_meaning.specs.Runs.{state_from, talk_of, turned, with_reply, with_talk}
use Rattle.ports.specs.Playing.{is_turn_answer}
use Rattle.hub_meaning.specs.Verdicts.{Message, Refusal}
use Rattle.hub_meaning.specs.Legal.{IsLegalFrom, MayCome, MaySend}
use Rattle.hub_meaning.specs.Laws.{AreRising, NumbersRise, PrefixesAreSent, SentPrefix}
use Rattle.hub_meaning.proofs.LinkLaws.{all_append, all_changed, all_found, all_replaced, rising_changed, rising_opened}
use Rattle.hub_meaning.proofs.LinkLaws.{ended_number, broken_number, unblocked_number}

-- ---- one link

choice : (P : Link → Type 0) (t : Bool) (a b : Link) → P a → P b → P (cond t a b)
choice P true a b first second = first
choice P false a b first second = second

prefix_reply : (reply : List ℕ) (link : Link) → SentPrefix link → SentPrefix (with_reply reply link)
prefix_reply reply link sent = (sent.0 ++ reply, ap (λ all. all ++ reply) sent.1 ∙ append_assoc link.taken sent.0 reply)

prefix_answered : (config : CoreConfig) (now : ℕ) (messages : List Message) (talk : Talk) → SentPrefix talk.link
    → SentPrefix (all_answered config now messages talk).link
prefix_answered config now [] talk sent = sent
prefix_answered config now (message ∷ messages) talk sent =
    prefix_answered config now messages (answered config now message talk) (prefix_reply _ talk.link sent)

prefix_cut_off : (link : Link) → SentPrefix link → SentPrefix (cut_off link)
prefix_cut_off link sent =
    choice SentPrefix (is_oversized (partial link.came))
    (with_stage ReadClosed (with_reply (reply_to_oversized (length_at (partial link.came))) link)) link
    (prefix_reply (reply_to_oversized (length_at (partial link.came))) link sent) sent

-- bytes that come next, of which some are taken
prefix_took : (count : ℕ) (bytes : List ℕ) (link : Link) → bytes ≡ take (length bytes) (unsent link) → SentPrefix link
    → SentPrefix (sent bytes (Took count) link)
prefix_took count bytes link next before =
    let rest : List ℕ = before.0 in
    let left : unsent link ≡ rest =
    ap (drop (length link.taken)) before.1 ∙ drop_at link.taken rest (length link.taken) refl in
    let is : bytes ≡ take (length bytes) rest = next ∙ ap (take (length bytes)) left in
    let n : ℕ = length bytes in
    let whole : rest ≡ bytes ++ drop n rest =
    sym (take-append-drop n rest) ∙ ap (λ front. front ++ drop n rest) (sym is) in
    let parts : bytes ≡ take count bytes ++ drop count bytes = sym (take-append-drop count bytes) in (
      drop count bytes ++ drop n rest,
      before.1
          ∙ ap (λ more. link.taken ++ more)
          (whole ∙ ap (λ front. front ++ drop n rest) parts
          ∙ append_assoc (take count bytes) (drop count bytes) (drop n rest))
          ∙ sym (append_assoc link.taken (take count bytes) (drop count bytes ++ drop n rest)),
    )

prefix_sent : (bytes : List ℕ) (answer : SendAnswer) (link : Link) → bytes ≡ take (length bytes) (unsent link)
    → SentPrefix link → SentPrefix (sent bytes answer link)
prefix_sent bytes (Took count) link next before = prefix_took count bytes link next before
prefix_sent bytes Later link next before = before
prefix_sent bytes Failed link next before = before
prefix_sent bytes Memory link next before = before

-- ---- a run

pub record IsSound (state : RunState) : Type 0 where
  pub rising : AreRising state.links
  pub sent : AllByRecursion SentPrefix state.links

cut_off_number : (link : Link) → (cut_off link).number ≡ link.number
cut_off_number link =
    choice (λ l. l.number ≡ link.number) (is_oversized (partial link.came))
    (with_stage ReadClosed (with_reply (reply_to_oversized (length_at (partial link.came))) link)) link refl refl

rising_read : (config : CoreConfig) (piece : List ℕ) (verdicts : List (Option Refusal)) (state : RunState) (link : Link)
    → AreRising state.links → AreRising (read_from config piece verdicts state link).links
rising_read config piece verdicts state link rising = if_open (is_open link)
  where
    if_open : (t : Bool)
        → AreRising (cond t
        (with_talk state (all_answered config state.now (messages_in piece verdicts link) (talk_of piece state link)))
        state).links
    if_open true =
        let talk : Talk = all_answered config state.now (messages_in piece verdicts link) (talk_of piece state link) in
        rising_changed talk.link.number (λ _. cut_off talk.link) (λ other is. cut_off_number talk.link ∙ sym is)
        state.links rising
    if_open false = rising

rising_read_by : (config : CoreConfig) (piece : List ℕ) (verdicts : List (Option Refusal)) (state : RunState)
    (found : Option Link)
    → AreRising state.links → AreRising (read_by config piece verdicts state found).links
rising_read_by config piece verdicts state None rising = rising
rising_read_by config piece verdicts state (Some link) rising = rising_read config piece verdicts state link rising

rising_occurred : (config : CoreConfig) (occurrence : What) (piece : List ℕ) (verdicts : List (Option Refusal))
    (state : RunState)
    → AreRising state.links → AreRising (occurred config occurrence piece verdicts state).links
rising_occurred config what.Idle piece verdicts state rising = rising
rising_occurred config (what.Opened number) piece verdicts state rising = rising_opened number state.links rising
rising_occurred config (what.Read number count) piece verdicts state rising =
    rising_read_by config piece verdicts state (find_link number state.links) rising
rising_occurred config (what.Ended number) piece verdicts state rising =
    rising_changed number ended (λ link _. ended_number link) state.links rising
rising_occurred config (what.Broken number) piece verdicts state rising =
    rising_changed number broken (λ link _. broken_number link) state.links rising
rising_occurred config (what.Room number) piece verdicts state rising =
    rising_changed number unblocked (λ link _. unblocked_number link) state.links rising
rising_occurred config what.Stopped piece verdicts state rising = rising
rising_occurred config what.Failed piece verdicts state rising = rising
rising_occurred config what.Memory piece verdicts state rising = rising

sent_number : (bytes : List ℕ) (answer : SendAnswer) (link : Link) → (sent bytes answer link).number ≡ link.number
sent_number bytes (Took count) link = refl
sent_number bytes Later link = refl
sent_number bytes Failed link = refl
sent_number bytes Memory link = refl

rising_turned : (config : CoreConfig) (turn : Turn) (piece : List ℕ) (verdicts : List (Option Refusal))
    (state : RunState)
    → AreRising state.links → AreRising (turned config turn piece verdicts state).links
rising_turned config turn piece verdicts state rising = if_turn (is_turn_answer turn.what)
  where
    if_turn : (t : Bool)
        → AreRising
        (cond t (occurred config turn.what piece verdicts (passed (next_moment state.now turn.secs) state)) state).links
    if_turn true =
        rising_occurred config turn.what piece verdicts (passed (next_moment state.now turn.secs) state) rising
    if_turn false = rising

pub rising_entry : (config : CoreConfig) (entry : Entry) (verdicts : List (Option Refusal)) (state : RunState)
    → AreRising state.links → AreRising (after_entry config entry verdicts state).links
rising_entry config (Listen address answer) verdicts state rising = rising
rising_entry config (Next wants turn piece) verdicts state rising =
    rising_turned config turn piece verdicts state rising
rising_entry config (Send number bytes answer) verdicts state rising =
    rising_changed number (sent bytes answer) (λ link _. sent_number bytes answer link) state.links rising
rising_entry config (Close number) verdicts state rising =
    rising_changed number closed (λ link _. refl) state.links rising

pub rising_from : (config : CoreConfig) (steps : List Step) (state : RunState) → AreRising state.links
    → AreRising (state_from config steps state).links
rising_from config [] state rising = rising
rising_from config (step ∷ steps) state rising =
    rising_from config steps (after_step config step state) (rising_entry config step.entry step.verdicts state rising)

pub numbers_rise_lem : NumbersRise
numbers_rise_lem config steps = rising_from config steps (first_state config) tt

-- ---- what was taken, along a run

sent_read : (config : CoreConfig) (piece : List ℕ) (verdicts : List (Option Refusal)) (state : RunState) (link : Link)
    → SentPrefix link → AllByRecursion SentPrefix state.links
    → AllByRecursion SentPrefix (read_from config piece verdicts state link).links
sent_read config piece verdicts state link one all = if_open (is_open link)
  where
    if_open : (t : Bool)
        → AllByRecursion SentPrefix
        (cond t
        (with_talk state (all_answered config state.now (messages_in piece verdicts link) (talk_of piece state link)))
        state).links
    if_open true =
        let talk : Talk = all_answered config state.now (messages_in piece verdicts link) (talk_of piece state link) in
        let fits : SentPrefix talk.link =
        prefix_answered config state.now (messages_in piece verdicts link) (talk_of piece state link) one in
        all_changed SentPrefix talk.link.number (λ _. cut_off talk.link) (λ other is old. prefix_cut_off talk.link fits)
        state.links all
    if_open false = all

sent_read_by : (config : CoreConfig) (piece : List ℕ) (verdicts : List (Option Refusal)) (state : RunState)
    (found : Option Link)
    → ((link : Link) → found ≡ Some link → SentPrefix link)
    → AllByRecursion SentPrefix state.links
    → AllByRecursion SentPrefix (read_by config piece verdicts state found).links
sent_read_by config piece verdicts state None one all = all
sent_read_by config piece verdicts state (Some link) one all =
    sent_read config piece verdicts state link (one link refl) all

sent_opened : (number : ℕ) (links : List Link) → AllByRecursion SentPrefix links
    → AllByRecursion SentPrefix (opened number links)
sent_opened number links all = if_above (is_above number links)
  where
    if_above : (t : Bool) → AllByRecursion SentPrefix (cond t (links ++ new_link number links ∷ []) links)
    if_above true = all_append SentPrefix links (new_link number links ∷ []) all (([], refl), tt)
    if_above false = all

sent_occurred : (config : CoreConfig) (occurrence : What) (piece : List ℕ) (verdicts : List (Option Refusal))
    (state : RunState)
    → AllByRecursion SentPrefix state.links
    → AllByRecursion SentPrefix (occurred config occurrence piece verdicts state).links
sent_occurred config what.Idle piece verdicts state all = all
sent_occurred config (what.Opened number) piece verdicts state all = sent_opened number state.links all
sent_occurred config (what.Read number count) piece verdicts state all =
    sent_read_by config piece verdicts state (find_link number state.links)
    (λ link found. all_found SentPrefix number state.links link found all) all
sent_occurred config (what.Ended number) piece verdicts state all =
    all_changed SentPrefix number ended
    (λ link _ old. choice SentPrefix (is_open link) (with_stage ReadClosed link) link old old) state.links all
sent_occurred config (what.Broken number) piece verdicts state all =
    all_changed SentPrefix number broken
    (λ link _ old. choice SentPrefix (is_connected link) (with_stage Closing link) link old old) state.links all
sent_occurred config (what.Room number) piece verdicts state all =
    all_changed SentPrefix number unblocked
    (λ link _ old. choice SentPrefix (is_connected link) (record link { blocked = false }) link old old) state.links all
sent_occurred config what.Stopped piece verdicts state all = all
sent_occurred config what.Failed piece verdicts state all = all
sent_occurred config what.Memory piece verdicts state all = all

sent_turned : (config : CoreConfig) (turn : Turn) (piece : List ℕ) (verdicts : List (Option Refusal)) (state : RunState)
    → AllByRecursion SentPrefix state.links
    → AllByRecursion SentPrefix (turned config turn piece verdicts state).links
sent_turned config turn piece verdicts state all = if_turn (is_turn_answer turn.what)
  where
    if_turn : (t : Bool)
        → AllByRecursion SentPrefix
        (cond t (occurred config turn.what piece verdicts (passed (next_moment state.now turn.secs) state)) state).links
    if_turn true = sent_occurred config turn.what piece verdicts (passed (next_moment state.now turn.secs) state) all
    if_turn false = all

sent_entry : (config : CoreConfig) (entry : Entry) (verdicts : List (Option Refusal)) (state : RunState)
    → MayCome config entry verdicts state → AreRising state.links
    → AllByRecursion SentPrefix state.links → AllByRecursion SentPrefix (after_entry config entry verdicts state).links
sent_entry config (Listen address answer) verdicts state may rising all = all
sent_entry config (Next wants turn piece) verdicts state may rising all =
    sent_turned config turn piece verdicts state all
sent_entry config (Send number bytes answer) verdicts state may rising all =
    let on = may.1 in
    let may_send : MaySend bytes on.0 = on.2 in
    all_replaced SentPrefix number (sent bytes answer) state.links on.0 rising on.1
    (prefix_sent bytes answer on.0 may_send.next (all_found SentPrefix number state.links on.0 on.1 all)) all
sent_entry config (Close number) verdicts state may rising all =
    all_changed SentPrefix number closed (λ link _ old. old) state.links all

sent_from : (config : CoreConfig) (steps : List Step) (state : RunState) → IsLegalFrom config steps state
    → AreRising state.links → AllByRecursion SentPrefix state.links
    → AllByRecursion SentPrefix (state_from config steps state).links
sent_from config [] state legal rising all = all
sent_from config (step ∷ steps) state legal rising all =
    sent_from config steps (after_step config step state) legal.1
    (rising_entry config step.entry step.verdicts state rising)
    (sent_entry config step.entry step.verdicts state legal.0 rising all)

pub prefixes_are_sent_lem : PrefixesAreSent
prefixes_are_sent_lem config steps legal = sent_from config steps (first_state config) legal tt tt
