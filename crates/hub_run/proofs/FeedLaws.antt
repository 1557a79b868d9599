-- Links that feed bytes: every send is taken whole, and once all links are settled all replies were taken.
use Rattle.std.proofs.Common.{◌≡◌, ℕ, ◌==◌, Bool, true, false, cond, List, [], ◌∷◌, ◌++◌, length, map, drop, filter}
use Rattle.std.proofs.Common.{refl, ap, sym, ◌∙◌, subst, append-nil}
use Rattle.std.specs.Prelude.{Option, Some, None}
use Rattle.std.specs.List.{AllByRecursion}
use Rattle.std.proofs.lemmas.List.{drop_at}
use Rattle.conn_core.specs.event_core.Core.{CoreConfig}
use Rattle.list_laws.specs.Prefix.{IsPrefix}
use Rattle.ports.specs.Pieces.{feed_script, pieces_of, read_step}
use Rattle.ports.specs.Playing.{AreAnswered, IsAnswered, Playing, begun, bytes_taken, first_turn, is_turn_answer}
use Rattle.ports.specs.Playing.{played, rule_after, rules_at_turn, send_answer, succeeded, takes_all, what_of}
use Rattle.ports.specs.declared.entry.Entry.{Entry}
use Rattle.ports.specs.declared.entry.Entry.TheVariants.{Listen, Next, Send, Close}
use Rattle.ports.specs.declared.links.SendAnswer.{SendAnswer}
use Rattle.ports.specs.declared.links.SendAnswer.TheVariants.{Took}
use Rattle.ports.specs.declared.links.Turn.{Turn}
use Rattle.ports.specs.declared.links.What.TheVariants as what
use Rattle.ports.specs.declared.rules.SendRule.{SendRule}
use Rattle.ports.specs.declared.script.LinkEvent.TheVariants as event
use Rattle.ports.specs.declared.script.Step as script_step
use Rattle.ports.specs.declared.script.Step.TheVariants.{Turn as turn_step, Take, Fail}
use Rattle.ev_types.specs.Clock.{next_moment}
use Rattle.conn_core.specs.hub_meaning.Laws.{AreRising, SentPrefix}
use Rattle.conn_core.specs.hub_meaning.Legal.{AreSettled, IsLegal, IsLegalFrom, MayCome}
use Rattle.conn_core.specs.hub_meaning.Links.{Link, changed, find_link, sent, unsent}
use Rattle.conn_core.specs.hub_meaning.Runs.{RunState, Step, after_entry, after_step, entry_of, first_state, occurred}
use Rattle.conn_core.specs.hub_meaning.Runs.{passed, state_after, state_from, turned}
use Rattle.conn_core.specs.hub_meaning.Verdicts.{Refusal}
use Rattle.conn_core.proofs.HubMeaningLinkLaws.{all_found}
use Rattle.conn_core.proofs.HubMeaningPrefixLaws.{prefixes_are_sent_lem, rising_entry}
use Rattle.hub_run.specs.TakenBytes.{replies_of, replies_on, taken_of, taken_on}
use Rattle.hub_run.proofs.FreeLaws.{AreFree, IsAllSent, IsGentle, free_after_close, free_after_send, free_occurred}
use Rattle.hub_run.proofs.FreeLaws.{settled_sent}
use Rattle.hub_run.proofs.PrefixLaws.{taken_from}

-- ---- where a script is that takes all

-- a turn in which no link breaks, and none is opened but link 0
abbrev pub IsGentleStep : script_step.Step → Type 0
IsGentleStep (turn_step secs happening) = IsGentle (what_of happening)
IsGentleStep (Take link count) = ⊥
IsGentleStep (Fail link) = ⊥

pub record IsQuiet (play : Playing) : Type 0 where
  pub gentle : AllByRecursion IsGentleStep play.steps
  pub takes : (link : ℕ) → play.rules link ≡ takes_all

gentle_first : (steps : List script_step.Step) (secs : ℕ) → AllByRecursion IsGentleStep steps
    → IsGentle (first_turn steps secs).turn.what
gentle_first [] secs all = tt
gentle_first (turn_step at happening ∷ steps) secs all = all.0
gentle_first (Take link count ∷ steps) secs all = absurd all.0
gentle_first (Fail link ∷ steps) secs all = absurd all.0

gentle_rest : (steps : List script_step.Step) (secs : ℕ) → AllByRecursion IsGentleStep steps
    → AllByRecursion IsGentleStep (first_turn steps secs).rest
gentle_rest [] secs all = tt
gentle_rest (turn_step at happening ∷ steps) secs all = all.1
gentle_rest (Take link count ∷ steps) secs all = absurd all.0
gentle_rest (Fail link ∷ steps) secs all = absurd all.0

rules_same : (steps : List script_step.Step) (rules : ℕ → SendRule) (link : ℕ) → AllByRecursion IsGentleStep steps
    → rules_at_turn steps rules link ≡ rules link
rules_same [] rules link all = refl
rules_same (turn_step at happening ∷ steps) rules link all = refl
rules_same (Take other count ∷ steps) rules link all = absurd all.0
rules_same (Fail other ∷ steps) rules link all = absurd all.0

rule_same : (t : Bool) (count : ℕ) (rule other : SendRule) → rule ≡ takes_all → other ≡ takes_all
    → cond t (rule_after rule count) other ≡ takes_all
rule_same true count rule other is same = ap (λ (r : SendRule). rule_after r count) is
rule_same false count rule other is same = same

pub quiet_played : (play : Playing) (entry : Entry) → IsQuiet play → IsQuiet (played play entry)
quiet_played play (Listen address answer) quiet = quiet
quiet_played play (Next wants turn piece) quiet = record {
  gentle = gentle_rest play.steps play.secs quiet.gentle;
  takes = λ link. rules_same play.steps play.rules link quiet.gentle ∙ quiet.takes link;
}
quiet_played play (Send link bytes answer) quiet = record {
  gentle = quiet.gentle;
  takes =
      λ other. rule_same (link == other) (length bytes) (play.rules link) (play.rules other) (quiet.takes link)
      (quiet.takes other);
}
quiet_played play (Close link) quiet = quiet

pub took_all : (play : Playing) (link : ℕ) (bytes : List ℕ) (answer : SendAnswer) → IsQuiet play
    → IsAnswered play (Send link bytes answer) → answer ≡ Took (length bytes)
took_all play link bytes answer quiet is = is ∙ ap (λ (r : SendRule). send_answer r (length bytes)) (quiet.takes link)

-- ---- one call

free_turned : (config : CoreConfig) (turn : Turn) (piece : List ℕ) (verdicts : List (Option Refusal)) (state : RunState)
    (play : Playing)
    → IsQuiet play
    → (is_turn_answer turn.what ≡ true → turn ≡ (first_turn play.steps play.secs).turn) → AreFree state.links
    → AreFree (turned config turn piece verdicts state).links
free_turned config turn piece verdicts state play quiet answered all = by (is_turn_answer turn.what) (λ is. is)
  where
    by : (t : Bool) → (t ≡ true → is_turn_answer turn.what ≡ true)
        → AreFree
        (cond t (occurred config turn.what piece verdicts (passed (next_moment state.now turn.secs) state)) state).links
    by true is =
        let gentle : IsGentle turn.what =
        subst (λ (t : Turn). IsGentle t.what) (sym (answered (is refl)))
        (gentle_first play.steps play.secs quiet.gentle) in
        free_occurred config turn.what piece verdicts (passed (next_moment state.now turn.secs) state) gentle all
    by false is = all

free_entry : (config : CoreConfig) (entry : Entry) (verdicts : List (Option Refusal)) (state : RunState)
    (play : Playing)
    → MayCome config entry verdicts state → AreRising state.links
    → IsQuiet play → (succeeded entry ≡ true → IsAnswered play entry) → AreFree state.links
    → AreFree (after_entry config entry verdicts state).links
free_entry config (Listen address answer) verdicts state play may rising quiet answered all = all
free_entry config (Next wants turn piece) verdicts state play may rising quiet answered all =
    free_turned config turn piece verdicts state play quiet (λ is. (answered is).0) all
free_entry config (Send number bytes answer) verdicts state play may rising quiet answered all =
    let on = may.1 in
    subst (λ (a : SendAnswer). AreFree (changed number (sent bytes a) state.links))
    (sym (took_all play number bytes answer quiet (answered refl)))
    (free_after_send number bytes state.links on.0 rising on.1 on.2 all)
free_entry config (Close number) verdicts state play may rising quiet answered all =
    let on = may.1 in free_after_close number state.links on.0 rising on.1 on.2 all

-- ---- a run

free_from : (config : CoreConfig) (steps : List Step) (state : RunState) (play : Playing)
    → IsLegalFrom config steps state → AreRising state.links → IsQuiet play
    → AreAnswered play (filter succeeded (map entry_of steps)) → AreFree state.links
    → AreFree (state_from config steps state).links
free_from config [] state play legal rising quiet answered all = all
free_from config (step ∷ steps) state play legal rising quiet answered all =
    by (succeeded step.entry) refl answered
    (λ next is more free. free_from config steps after next legal.1 after_rising is more free)
  where
    after : RunState
    after = after_step config step state

    after_rising : AreRising after.links
    after_rising = rising_entry config step.entry step.verdicts state rising

    rest : List Entry
    rest = filter succeeded (map entry_of steps)

    by : (t : Bool) → succeeded step.entry ≡ t → AreAnswered play (cond t (step.entry ∷ rest) rest)
        → ((next : Playing) → IsQuiet next → AreAnswered next rest → AreFree after.links
        → AreFree (state_from config steps after).links)
        → AreFree (state_from config steps after).links
    by true is answers later =
        later (played play step.entry) (quiet_played play step.entry quiet) answers.1
        (free_entry config step.entry step.verdicts state play legal.0 rising quiet (λ _. answers.0) all)
    by false is answers later =
        later play quiet answers
        (free_entry config step.entry step.verdicts state play legal.0 rising quiet (λ yes. absurd (cc (is, yes))) all)

reads_are_gentle : (pieces : List (List ℕ))
    → AllByRecursion IsGentleStep (map read_step pieces ++ turn_step 0 (event.Ended 0) ∷ [])
reads_are_gentle [] = (tt, tt)
reads_are_gentle (piece ∷ pieces) = (tt, reads_are_gentle pieces)

pub begun_quiet : (limit : ℕ) (bytes : List ℕ) → IsQuiet (begun (feed_script limit bytes))
begun_quiet limit bytes = record {
  gentle = (refl, reads_are_gentle (pieces_of limit bytes));
  takes = λ link. refl;
}

-- what is a prefix with nothing after it is the whole
all_taken : (link : Link) → SentPrefix link → unsent link ≡ [] → link.taken ≡ link.replies
all_taken link before none =
    let rest : List ℕ = before.0 in
    let left : rest ≡ [] =
    sym (ap (drop (length link.taken)) before.1 ∙ drop_at link.taken rest (length link.taken) refl) ∙ none in
    sym (before.1 ∙ ap (λ (bytes : List ℕ). link.taken ++ bytes) left ∙ append-nil link.taken)

on_all : (number : ℕ) (links : List Link) → AllByRecursion SentPrefix links → AllByRecursion IsAllSent links
    → taken_on number links ≡ replies_on number links
on_all number links before sent = at (find_link number links) refl
  where
    at : (found : Option Link) → find_link number links ≡ found → taken_of found ≡ replies_of found
    at None is = refl
    at (Some link) is =
        all_taken link (all_found SentPrefix number links link is before)
        (all_found IsAllSent number links link is sent)

pub fed_from : (config : CoreConfig) (limit : ℕ) (bytes : List ℕ) (steps : List Step)
    → AreAnswered (begun (feed_script limit bytes)) (filter succeeded (map entry_of steps)) → IsLegal config steps
    → AreSettled (state_after config steps).links
    → bytes_taken 0 (map entry_of steps) ≡ replies_on 0 (state_after config steps).links
fed_from config limit bytes steps answered legal settled =
    let links : List Link = (state_after config steps).links in
    let free : AreFree links =
    free_from config steps (first_state config) (begun (feed_script limit bytes)) legal tt (begun_quiet limit bytes)
    answered tt in
    sym (taken_from config 0 steps (first_state config) legal)
    ∙ on_all 0 links (prefixes_are_sent_lem config steps legal) (settled_sent links free settled)

-- what was taken of a link is a prefix of its replies
pub prefix_from : (config : CoreConfig) (number : ℕ) (steps : List Step) → IsLegal config steps
    → IsPrefix (bytes_taken number (map entry_of steps)) (replies_on number (state_after config steps).links)
prefix_from config number steps legal =
    subst (λ (bytes : List ℕ). IsPrefix bytes (replies_on number links))
    (taken_from config number steps (first_state config) legal) (at (find_link number links) refl)
  where
    links : List Link
    links = (state_after config steps).links

    at : (found : Option Link) → find_link number links ≡ found → IsPrefix (taken_of found) (replies_of found)
    at None is = ([], refl)
    at (Some link) is = all_found SentPrefix number links link is (prefixes_are_sent_lem config steps legal)
