-- What a run took of a link is what its sends took.
use Rattle.std.proofs.Common.{◌≡◌, ℕ, ◌==◌, Bool, true, false, cond, List, [], ◌∷◌, ◌++◌, map, refl, ap, sym, ◌∙◌}
use Rattle.std.proofs.Common.{subst, append-nil, append_assoc}
use Rattle.std.specs.Prelude.{Option, Some, None}
use Rattle.std.specs.Option.{option_map}
use Rattle.std.proofs.lemmas.Bool.{eqb-true, eq-eqb}
use Rattle.conn_core.specs.event_core.Core.{CoreConfig}
use Rattle.framing.specs.Frames.{length_at, partial}
use Rattle.ports.specs.Playing.{bytes_taken, is_turn_answer, taken_by, taken_by_send}
use Rattle.ports.specs.declared.entry.Entry.{Entry}
use Rattle.ports.specs.declared.entry.Entry.TheVariants.{Listen, Next, Send, Close}
use Rattle.ports.specs.declared.links.SendAnswer.{SendAnswer}
use Rattle.ports.specs.declared.links.SendAnswer.TheVariants.{Took, Later, Failed, Memory}
use Rattle.ports.specs.declared.links.Turn.{Turn}
use Rattle.ports.specs.declared.links.What.{What}
use Rattle.ports.specs.declared.links.What.TheVariants as what
use Rattle.ev_types.specs.Clock.{next_moment}
use Rattle.conn_core.specs.hub_meaning.Legal.{IsLegalFrom, MayCome}
use Rattle.conn_core.specs.hub_meaning.declared.stage.Stage.TheVariants.{ReadClosed, Closing}
use Rattle.conn_core.specs.hub_meaning.Links.{Link, changed, closed, broken, ended, find_link, has_number, is_above}
use Rattle.conn_core.specs.hub_meaning.Links.{is_connected, is_open, new_link, opened, sent, unblocked, with_stage}
use Rattle.conn_core.specs.hub_meaning.Replies.{reply_to_oversized}
use Rattle.conn_core.specs.hub_meaning.Runs.{RunState, Step, Talk, after_entry, after_step, all_answered, answered}
use Rattle.conn_core.specs.hub_meaning.Runs.{cut_off, entry_of, is_oversized, messages_in, occurred, passed, read_by}
use Rattle.conn_core.specs.hub_meaning.Runs.{read_from, state_from, talk_of, turned, with_reply, with_talk}
use Rattle.conn_core.specs.hub_meaning.Verdicts.{Message, Refusal}
use Rattle.conn_core.proofs.HubMeaningLinkLaws.{KeepsNumber, broken_number, ended_number, found_number, unblocked_number}
use Rattle.hub_run.specs.TakenBytes.{taken_of, taken_on}

-- ---- a link, after one was changed

abbrev changed_one : ℕ → (Link → Link) → Link → Link
changed_one number f link = cond (has_number number link) (f link) link

one_number : (number : ℕ) (f : Link → Link) → KeepsNumber number f → (link : Link)
    → (changed_one number f link).number ≡ link.number
one_number number f keeps link = by (has_number number link) (eqb-true link.number number)
  where
    by : (t : Bool) → (t ≡ true → link.number ≡ number) → (cond t (f link) link).number ≡ link.number
    by true is = keeps link (is refl)
    by false is = refl

find_changed : (number other : ℕ) (f : Link → Link) → KeepsNumber other f → (links : List Link)
    → find_link number (changed other f links) ≡ option_map (changed_one other f) (find_link number links)
find_changed number other f keeps [] = refl
find_changed number other f keeps (link ∷ links) =
    ap (λ (n : ℕ). cond (n == number) (Some (changed_one other f link)) (find_link number (changed other f links)))
    (one_number other f keeps link)
    ∙ at (has_number number link) (find_changed number other f keeps links)
  where
    at : (t : Bool)
        → find_link number (changed other f links) ≡ option_map (changed_one other f) (find_link number links)
        → cond t (Some (changed_one other f link)) (find_link number (changed other f links))
        ≡ option_map (changed_one other f) (cond t (Some link) (find_link number links))
    at true rest = refl
    at false rest = rest

-- nothing is taken
taken_same : (number other : ℕ) (f : Link → Link) → KeepsNumber other f → (links : List Link)
    → ((link : Link) → find_link other links ≡ Some link → (f link).taken ≡ link.taken)
    → taken_on number (changed other f links) ≡ taken_on number links
taken_same number other f keeps links same =
    ap taken_of (find_changed number other f keeps links) ∙ at (find_link number links) refl
  where
    at : (found : Option Link) → find_link number links ≡ found
        → taken_of (option_map (changed_one other f) found) ≡ taken_of found
    at None is = refl
    at (Some link) is = in_one (has_number other link) (eqb-true link.number other)
      where
        in_one : (t : Bool) → (t ≡ true → link.number ≡ other) → (cond t (f link) link).taken ≡ link.taken
        in_one true is_other =
            same link (subst (λ (n : ℕ). find_link n links ≡ Some link)
            (sym (found_number number links link is) ∙ is_other refl) is)
        in_one false is_other = refl

-- bytes are sent
sent_number : (bytes : List ℕ) (answer : SendAnswer) (link : Link) → (sent bytes answer link).number ≡ link.number
sent_number bytes (Took count) link = refl
sent_number bytes Later link = refl
sent_number bytes Failed link = refl
sent_number bytes Memory link = refl

sent_taken : (bytes : List ℕ) (answer : SendAnswer) (link : Link)
    → (sent bytes answer link).taken ≡ link.taken ++ taken_by_send bytes answer
sent_taken bytes (Took count) link = refl
sent_taken bytes Later link = sym (append-nil link.taken)
sent_taken bytes Failed link = sym (append-nil link.taken)
sent_taken bytes Memory link = sym (append-nil link.taken)

taken_sent : (number other : ℕ) (bytes : List ℕ) (answer : SendAnswer) (links : List Link) (link : Link)
    → find_link other links ≡ Some link
    → taken_on number (changed other (sent bytes answer) links)
    ≡ taken_on number links ++ taken_by number (Send other bytes answer)
taken_sent number other bytes answer links link found =
    ap taken_of (find_changed number other f (λ l _. sent_number bytes answer l) links) ∙ by (other == number) refl
  where
    f : Link → Link
    f = sent bytes answer

    more : List ℕ
    more = taken_by_send bytes answer

    at_other : (l : Link) → find_link number links ≡ Some l → other == number ≡ false → (t : Bool)
        → (t ≡ true → l.number ≡ other) → (cond t (f l) l).taken ≡ l.taken
    at_other l is apart true is_other =
        let same : other == number ≡ true =
        eq-eqb other number (sym (is_other refl) ∙ found_number number links l is) in
        absurd (cc (same, apart))
    at_other l is apart false is_other = refl

    elsewhere : other == number ≡ false → (o : Option Link) → find_link number links ≡ o
        → taken_of (option_map (changed_one other f) o) ≡ taken_of o
    elsewhere apart None is = refl
    elsewhere apart (Some l) is = at_other l is apart (has_number other l) (eqb-true l.number other)

    by : (t : Bool) → other == number ≡ t
        → taken_of (option_map (changed_one other f) (find_link number links)) ≡ taken_on number links ++ cond t more []
    by true is =
        let here : find_link number links ≡ Some link =
        subst (λ (n : ℕ). find_link n links ≡ Some link) (eqb-true other number is) found in
        let one : has_number other link ≡ true = eq-eqb link.number other (found_number other links link found) in
        ap (λ (o : Option Link). taken_of (option_map (changed_one other f) o)) here
        ∙ ap (λ (t : Bool). (cond t (f link) link).taken) one
        ∙ sent_taken bytes answer link
        ∙ ap (λ (o : Option Link). taken_of o ++ more) (sym here)
    by false is = elsewhere is (find_link number links) refl ∙ sym (append-nil (taken_on number links))

-- ---- one call

answered_taken : (config : CoreConfig) (now : ℕ) (messages : List Message) (talk : Talk)
    → (all_answered config now messages talk).link.taken ≡ talk.link.taken
answered_taken config now [] talk = refl
answered_taken config now (message ∷ messages) talk =
    answered_taken config now messages (answered config now message talk)

answered_number : (config : CoreConfig) (now : ℕ) (messages : List Message) (talk : Talk)
    → (all_answered config now messages talk).link.number ≡ talk.link.number
answered_number config now [] talk = refl
answered_number config now (message ∷ messages) talk =
    answered_number config now messages (answered config now message talk)

abbrev cut : Link → Link
cut link = with_stage ReadClosed (with_reply (reply_to_oversized (length_at (partial link.came))) link)

cut_taken : (link : Link) → (cut_off link).taken ≡ link.taken
cut_taken link = by (is_oversized (partial link.came))
  where
    by : (t : Bool) → (cond t (cut link) link).taken ≡ link.taken
    by true = refl
    by false = refl

cut_number : (link : Link) → (cut_off link).number ≡ link.number
cut_number link = by (is_oversized (partial link.came))
  where
    by : (t : Bool) → (cond t (cut link) link).number ≡ link.number
    by true = refl
    by false = refl

taken_read : (config : CoreConfig) (piece : List ℕ) (verdicts : List (Option Refusal)) (state : RunState)
    (number other : ℕ) (link : Link)
    → find_link other state.links ≡ Some link
    → taken_on number (read_from config piece verdicts state link).links ≡ taken_on number state.links
taken_read config piece verdicts state number other link found = by (is_open link)
  where
    talk : Talk
    talk = all_answered config state.now (messages_in piece verdicts link) (talk_of piece state link)

    number_is : talk.link.number ≡ link.number
    number_is = answered_number config state.now (messages_in piece verdicts link) (talk_of piece state link)

    taken_is : talk.link.taken ≡ link.taken
    taken_is = answered_taken config state.now (messages_in piece verdicts link) (talk_of piece state link)

    same_link : (l : Link) → find_link talk.link.number state.links ≡ Some l → l ≡ link
    same_link l is =
        let here : find_link talk.link.number state.links ≡ Some link =
        subst (λ (n : ℕ). find_link n state.links ≡ Some link)
        (sym (number_is ∙ found_number other state.links link found)) found in
        cc (is, here)

    by : (t : Bool) → taken_on number (cond t (with_talk state talk) state).links ≡ taken_on number state.links
    by true =
        taken_same number talk.link.number (λ _. cut_off talk.link) (λ l is. cut_number talk.link ∙ sym is) state.links
        (λ l is. cut_taken talk.link ∙ taken_is ∙ ap (λ (k : Link). k.taken) (sym (same_link l is)))
    by false = refl

taken_read_by : (config : CoreConfig) (piece : List ℕ) (verdicts : List (Option Refusal)) (state : RunState)
    (number other : ℕ) (found : Option Link)
    → find_link other state.links ≡ found
    → taken_on number (read_by config piece verdicts state found).links ≡ taken_on number state.links
taken_read_by config piece verdicts state number other None is = refl
taken_read_by config piece verdicts state number other (Some link) is =
    taken_read config piece verdicts state number other link is

-- a new link
taken_last : (number : ℕ) (last : Link) → last.taken ≡ [] → (links : List Link)
    → taken_on number (links ++ last ∷ []) ≡ taken_on number links
taken_last number last none [] = by (has_number number last)
  where
    by : (t : Bool) → taken_of (cond t (Some last) None) ≡ []
    by true = none
    by false = refl
taken_last number last none (link ∷ links) = by (has_number number link) (taken_last number last none links)
  where
    by : (t : Bool) → taken_on number (links ++ last ∷ []) ≡ taken_on number links
        → taken_of (cond t (Some link) (find_link number (links ++ last ∷ [])))
        ≡ taken_of (cond t (Some link) (find_link number links))
    by true rest = refl
    by false rest = rest

taken_opened : (number other : ℕ) (links : List Link) → taken_on number (opened other links) ≡ taken_on number links
taken_opened number other links = by (is_above other links)
  where
    by : (t : Bool) → taken_on number (cond t (links ++ new_link other links ∷ []) links) ≡ taken_on number links
    by true = taken_last number (new_link other links) refl links
    by false = refl

-- a change of a link's stage or of what is known of it
stage_taken : (t : Bool) (a b : Link) → a.taken ≡ b.taken → (cond t a b).taken ≡ b.taken
stage_taken true a b same = same
stage_taken false a b same = refl

taken_occurred : (config : CoreConfig) (occurrence : What) (piece : List ℕ) (verdicts : List (Option Refusal))
    (state : RunState) (number : ℕ)
    → taken_on number (occurred config occurrence piece verdicts state).links ≡ taken_on number state.links
taken_occurred config what.Idle piece verdicts state number = refl
taken_occurred config (what.Opened other) piece verdicts state number = taken_opened number other state.links
taken_occurred config (what.Read other count) piece verdicts state number =
    taken_read_by config piece verdicts state number other (find_link other state.links) refl
taken_occurred config (what.Ended other) piece verdicts state number =
    taken_same number other ended (λ link _. ended_number link) state.links
    (λ link _. stage_taken (is_open link) (with_stage ReadClosed link) link refl)
taken_occurred config (what.Broken other) piece verdicts state number =
    taken_same number other broken (λ link _. broken_number link) state.links
    (λ link _. stage_taken (is_connected link) (with_stage Closing link) link refl)
taken_occurred config (what.Room other) piece verdicts state number =
    taken_same number other unblocked (λ link _. unblocked_number link) state.links
    (λ link _. stage_taken (is_connected link) (record link { blocked = false }) link refl)
taken_occurred config what.Stopped piece verdicts state number = refl
taken_occurred config what.Failed piece verdicts state number = refl
taken_occurred config what.Memory piece verdicts state number = refl

taken_turned : (config : CoreConfig) (turn : Turn) (piece : List ℕ) (verdicts : List (Option Refusal))
    (state : RunState) (number : ℕ)
    → taken_on number (turned config turn piece verdicts state).links ≡ taken_on number state.links
taken_turned config turn piece verdicts state number = by (is_turn_answer turn.what)
  where
    by : (t : Bool)
        → taken_on number
        (cond t (occurred config turn.what piece verdicts (passed (next_moment state.now turn.secs) state)) state).links
        ≡ taken_on number state.links
    by true = taken_occurred config turn.what piece verdicts (passed (next_moment state.now turn.secs) state) number
    by false = refl

taken_entry : (config : CoreConfig) (entry : Entry) (verdicts : List (Option Refusal)) (state : RunState) (number : ℕ)
    → MayCome config entry verdicts state
    → taken_on number (after_entry config entry verdicts state).links
    ≡ taken_on number state.links ++ taken_by number entry
taken_entry config (Listen address answer) verdicts state number may = sym (append-nil (taken_on number state.links))
taken_entry config (Next wants turn piece) verdicts state number may =
    taken_turned config turn piece verdicts state number ∙ sym (append-nil (taken_on number state.links))
taken_entry config (Send other bytes answer) verdicts state number may =
    taken_sent number other bytes answer state.links may.1.0 may.1.1
taken_entry config (Close other) verdicts state number may =
    taken_same number other closed (λ link _. refl) state.links (λ link _. refl)
    ∙ sym (append-nil (taken_on number state.links))

-- ---- a run

pub taken_from : (config : CoreConfig) (number : ℕ) (steps : List Step) (state : RunState)
    → IsLegalFrom config steps state
    → taken_on number (state_from config steps state).links
    ≡ taken_on number state.links ++ bytes_taken number (map entry_of steps)
taken_from config number [] state legal = sym (append-nil (taken_on number state.links))
taken_from config number (step ∷ steps) state legal =
    taken_from config number steps (after_step config step state) legal.1
    ∙ ap (λ (bytes : List ℕ). bytes ++ bytes_taken number (map entry_of steps))
    (taken_entry config step.entry step.verdicts state number legal.0)
    ∙ append_assoc (taken_on number state.links) (taken_by number step.entry) (bytes_taken number (map entry_of steps))
