-- What the occurrence of a turn comes to.
use Rattle.std.proofs.Common.{◌≡◌, ◌≢◌, ℕ, Bool, true, false, cond, ◌||◌, List, [], ◌∷◌, get_or, set, Result, Ok, Err}
use Rattle.std.proofs.Common.{refl, ap, sym, ◌∙◌, subst, append-nil}
use Rattle.std.specs.Prelude.{IsErr, Option, Some, None, OnOk}
use Rattle.hub_link.specs.event_core.declared.arrivals.Core.{Core}
use Rattle.hub_link.specs.event_core.Core.{CoreConfig, Represents, config_of}
use Rattle.framing.specs.Frames.{length_at, partial}
use Rattle.hub_link.specs.hub_meaning.Legal.{AreSettled, IsLegalFrom, VerdictsIf, VerdictsIn, VerdictsOn}
use Rattle.hub_link.specs.hub_meaning.declared.stage.Stage.{Stage}
use Rattle.hub_link.specs.hub_meaning.declared.stage.Stage.TheVariants.{Open, ReadClosed, Closing, Closed}
use Rattle.hub_link.specs.hub_meaning.Links.{Link, changed, find_link, is_connected, is_open, is_open_stage}
use Rattle.hub_link.specs.hub_meaning.Links.{is_read_closed_stage, with_stage}
use Rattle.hub_link.specs.hub_meaning.Replies.{reply_to_oversized}
use Rattle.hub_link.specs.hub_meaning.Runs.{RunState, Talk, all_answered, answered, cut_off, is_oversized, messages_in}
use Rattle.hub_link.specs.hub_meaning.Runs.{occurred, plain, read_by, read_from, state_from, talk_of, with_links}
use Rattle.hub_link.specs.hub_meaning.Runs.{with_reply, with_talk}
use Rattle.hub_link.specs.hub_meaning.Verdicts.{Message, PatternsReport, Refusal}
use Rattle.hub_link.proofs.HubMeaningLinkLaws.{all_found, found_number}
use Rattle.hub_link.specs.declared.link.HubLink.{HubLink}
use Rattle.hub_link.specs.Hearing.{HearsPiece, talk_after}
use Rattle.hub_link.specs.Hearing as hearing
use Rattle.hub_link.specs.HubLink.{RepresentsLink}
use Rattle.conn_core.specs.Kept.{IsAbsent, IsAt, Kept}
use Rattle.list_laws.specs.declared.memory.Memory.{Memory}
use Rattle.hub_link.specs.msg_replies.Arriving.{Reported}
use Rattle.hub_link.specs.msg_replies.declared.spare.Spare.{Spare}
use Rattle.hub_link.proofs.MsgRepliesAnswerLaws.{heard_nothing}
use Rattle.hub_link.proofs.MsgRepliesVerdictLaws.{no_verdicts}
use Rattle.ports.specs.declared.entry.Entry.{Entry}
use Rattle.ports.specs.declared.links.What.{What}
use Rattle.ports.specs.declared.links.What.TheVariants.{Idle, Opened, Read, Ended, Broken, Room, Stopped, Failed}
use Rattle.ports.specs.declared.links.What.TheVariants.{Memory as NoMemory}
use Rattle.conn_core.specs.Hub.{RepresentsState}
use Rattle.conn_core.specs.Occurring.{Done, Occurs, OccursFrom}
use Rattle.conn_core.specs.Reaching.{Changes, Ends, Focus, Settles, links_after}
use Rattle.conn_core.specs.declared.hub.Hub.{Hub}
use Rattle.conn_core.proofs.FocusLaws.{focus_change, focus_changed, focus_found}
use Rattle.conn_core.proofs.ReachLaws.{absent_gone, none_ok, read_closed_unclosed}

on_ok : {T E : Type 0} {P Q : Type 0} (r : Result T E) → (P → Q) → OnOk r P → OnOk r Q
on_ok (Ok x) f p = f p
on_ok (Err e) f p = tt

-- ---- no link is read

abbrev pub IsReadless : What → Type 0
IsReadless Idle = Unit {0}
IsReadless (Opened number) = Unit {0}
IsReadless (Read number count) = ⊥
IsReadless (Ended number) = Unit {0}
IsReadless (Broken number) = Unit {0}
IsReadless (Room number) = Unit {0}
IsReadless Stopped = Unit {0}
IsReadless Failed = Unit {0}
IsReadless NoMemory = Unit {0}

pub readless : (what : What) → ((number count : ℕ) → what ≡ Read number count → ⊥) → IsReadless what
readless Idle other = tt
readless (Opened number) other = tt
readless (Read number count) other = other number count refl
readless (Ended number) other = tt
readless (Broken number) other = tt
readless (Room number) other = tt
readless Stopped other = tt
readless Failed other = tt
readless NoMemory other = tt

same_links : (state : RunState) → state ≡ with_links state.links state
same_links state = refl

occurred_is : (config : CoreConfig) (what : What) (piece : List ℕ) (state : RunState) → IsReadless what
    → occurred config what piece [] state ≡ with_links (links_after what state.links) state
occurred_is config Idle piece state other = same_links state
occurred_is config (Opened number) piece state other = refl
occurred_is config (Read number count) piece state other = absurd other
occurred_is config (Ended number) piece state other = refl
occurred_is config (Broken number) piece state other = refl
occurred_is config (Room number) piece state other = refl
occurred_is config Stopped piece state other = same_links state
occurred_is config Failed piece state other = same_links state
occurred_is config NoMemory piece state other = same_links state

nothing_in : (config : CoreConfig) (what : What) (piece : List ℕ) (state : RunState) → IsReadless what
    → VerdictsIn config what piece [] state
nothing_in config Idle piece state other = refl
nothing_in config (Opened number) piece state other = refl
nothing_in config (Read number count) piece state other = absurd other
nothing_in config (Ended number) piece state other = refl
nothing_in config (Broken number) piece state other = refl
nothing_in config (Room number) piece state other = refl
nothing_in config Stopped piece state other = refl
nothing_in config Failed piece state other = refl
nothing_in config NoMemory piece state other = refl

-- only the links changed
links_done : (hub : Hub) (table' : Kept HubLink) (config : CoreConfig) (state there : RunState) (run : List Entry)
    (reported : Reported)
    → RepresentsState hub config state → there.now ≡ state.now → there.arrivals ≡ state.arrivals
    → Ends table' config there run
    → Done (record hub { table = table' }) config state (state_from config (plain run) there) reported reported
links_done hub table' config state there run reported at now arrivals ends =
    subst (λ (after : RunState). Done (record hub { table = table' }) config state after reported reported)
    (sym ends.leads) (record {
      at = record {
        arrivals = subst (Represents hub.core) (sym arrivals) at.arrivals;
        config_is = at.config_is;
        now = at.now ∙ sym now;
        links = ends.keeps;
      };
      settled = ends.settled;
      more = [];
      arrivals = arrivals ∙ sym (append-nil state.arrivals);
      heard = heard_nothing config state.arrivals reported;
    })

pub occurs_changed : (what : What) (piece : List ℕ) (hub : Hub) (table' : Kept HubLink) (patterns : PatternsReport)
    (reported : Reported) (result : Result (Unit {0}) Memory) (run : List Entry)
    → IsReadless what → Changes (links_after what) hub.table table' result run
    → OccursFrom what piece hub (record hub { table = table' }) patterns patterns reported reported result run
occurs_changed what piece hub table' patterns reported result run other changes config state at settled =
    let reach = changes config state at.links settled in
    let is = occurred_is config what piece state other in
    record {
      verdicts = [];
      reported = no_verdicts patterns;
      possible = nothing_in config what piece state other;
      legal = subst (IsLegalFrom config (plain run)) (sym is) reach.legal;
      done =
          on_ok result (λ ends. subst
          (λ (s : RunState).
          Done (record hub { table = table' }) config state (state_from config (plain run) s) reported reported)
          (sym is)
          (links_done hub table' config state (with_links (links_after what state.links) state) run reported at refl
          refl ends))
          reach.ends;
    }

-- ---- a piece of no connected link

not_open : (stage : Stage) → (is_open_stage stage || is_read_closed_stage stage) ≡ false → is_open_stage stage ≡ false
not_open Open is = absurd (cc is)
not_open ReadClosed is = refl
not_open Closing is = refl
not_open Closed is = refl

pub occurs_absent : (number count : ℕ) (piece : List ℕ) (hub : Hub) (patterns : PatternsReport) (reported : Reported)
    → IsAbsent number hub.table
    → OccursFrom (Read number count) piece hub hub patterns patterns reported reported (Ok tt) []
occurs_absent number count piece hub patterns reported absent config state at settled =
    let gone = absent_gone hub.table number state.links at.links absent in
    by_found (find_link number state.links) refl
    (λ link found. all_found (λ l. l.number ≡ number → is_connected l ≡ false) number state.links link found gone
    (found_number number state.links link found))
  where
    nothing : (is : occurred config (Read number count) piece [] state ≡ state)
        → VerdictsIn config (Read number count) piece [] state
        → Occurs (Read number count) piece hub patterns patterns reported reported (Ok tt) config state []
    nothing is possible = record {
      verdicts = [];
      reported = no_verdicts patterns;
      possible = possible;
      legal = tt;
      done = subst (λ (s : RunState). Done hub config state s reported reported) (sym is) (record {
        at = at;
        settled = settled;
        more = [];
        arrivals = sym (append-nil state.arrivals);
        heard = heard_nothing config state.arrivals reported;
      });
    }

    by_found : (found : Option Link) → find_link number state.links ≡ found
        → ((link : Link) → find_link number state.links ≡ Some link → is_connected link ≡ false)
        → Occurs (Read number count) piece hub patterns patterns reported reported (Ok tt) config state []
    by_found None is unclosed =
        nothing (ap (read_by config piece [] state) is) (subst (VerdictsOn config piece [] state) (sym is) refl)
    by_found (Some link) is unclosed =
        let closed : is_open link ≡ false = not_open link.stage (unclosed link is) in
        nothing (ap (read_by config piece [] state) is
        ∙ ap
        (λ (t : Bool). cond t
        (with_talk state (all_answered config state.now (messages_in piece [] link) (talk_of piece state link))) state)
        closed)
        (subst (VerdictsOn config piece [] state) (sym is)
        (subst (λ (t : Bool). VerdictsIf t config piece [] state link) (sym closed) refl))

-- ---- a piece of a connected link

talk_number : (config : CoreConfig) (now : ℕ) (messages : List Message) (talk : Talk)
    → (all_answered config now messages talk).link.number ≡ talk.link.number
talk_number config now [] talk = refl
talk_number config now (message ∷ messages) talk = talk_number config now messages (answered config now message talk)

talk_stage : (config : CoreConfig) (now : ℕ) (messages : List Message) (talk : Talk)
    → (all_answered config now messages talk).link.stage ≡ talk.link.stage
talk_stage config now [] talk = refl
talk_stage config now (message ∷ messages) talk = talk_stage config now messages (answered config now message talk)

choice : (P : Link → Type 0) (t : Bool) (a b : Link) → P a → P b → P (cond t a b)
choice P true a b first second = first
choice P false a b first second = second

cut_off_number : (link : Link) → (cut_off link).number ≡ link.number
cut_off_number link =
    choice (λ l. l.number ≡ link.number) (is_oversized (partial link.came))
    (with_stage ReadClosed (with_reply (reply_to_oversized (length_at (partial link.came))) link)) link refl refl

cut_off_unclosed : (link : Link) → link.stage ≢ Closed → (cut_off link).stage ≢ Closed
cut_off_unclosed link unclosed =
    choice (λ l. l.stage ≢ Closed) (is_oversized (partial link.came))
    (with_stage ReadClosed (with_reply (reply_to_oversized (length_at (partial link.came))) link)) link
    read_closed_unclosed unclosed

module _ (config : CoreConfig) (piece : List ℕ) (verdicts : List (Option Refusal)) (state : RunState) (meant : Link)
  where
    all_number : (all_answered config state.now (messages_in piece verdicts meant)
        (talk_of piece state meant)).link.number
        ≡ meant.number
    all_number = talk_number config state.now (messages_in piece verdicts meant) (talk_of piece state meant)

    pub after_number : (talk_after config piece verdicts state meant).link.number ≡ meant.number
    after_number = by_test (is_open meant)
      where
        by_test : (t : Bool)
            → (cond t
            (record (all_answered config state.now (messages_in piece verdicts meant) (talk_of piece state meant)) {
              link =
                  cut_off
                  (all_answered config state.now (messages_in piece verdicts meant) (talk_of piece state meant)).link;
            }) (record { arrivals = state.arrivals; link = meant })).link.number ≡ meant.number
        by_test true =
            cut_off_number
            (all_answered config state.now (messages_in piece verdicts meant) (talk_of piece state meant)).link
            ∙ all_number
        by_test false = refl

    pub after_unclosed : meant.stage ≢ Closed → (talk_after config piece verdicts state meant).link.stage ≢ Closed
    after_unclosed unclosed = by_test (is_open meant)
      where
        by_test : (t : Bool)
            → (cond t
            (record (all_answered config state.now (messages_in piece verdicts meant) (talk_of piece state meant)) {
              link =
                  cut_off
                  (all_answered config state.now (messages_in piece verdicts meant) (talk_of piece state meant)).link;
            }) (record { arrivals = state.arrivals; link = meant })).link.stage ≢ Closed
        by_test true =
            cut_off_unclosed
            (all_answered config state.now (messages_in piece verdicts meant) (talk_of piece state meant)).link
            (subst (λ (s : Stage). s ≢ Closed)
            (sym (talk_stage config state.now (messages_in piece verdicts meant) (talk_of piece state meant))) unclosed)
        by_test false = unclosed

    -- the state after the piece
    abbrev pub read_state : ℕ → RunState
    read_state number = record state {
      arrivals = (talk_after config piece verdicts state meant).arrivals;
      links = changed number (λ _. (talk_after config piece verdicts state meant).link) state.links;
    }

    pub read_is : (number : ℕ) → meant.number ≡ number → changed number (λ _. meant) state.links ≡ state.links
        → read_from config piece verdicts state meant ≡ read_state number
    read_is number same still = by_test (is_open meant)
      where
        by_test : (t : Bool)
            → cond t
            (with_talk state
            (all_answered config state.now (messages_in piece verdicts meant) (talk_of piece state meant)))
            state
            ≡ record state {
              arrivals =
                  (cond t
                  (record
                  (all_answered config state.now (messages_in piece verdicts meant) (talk_of piece state meant)) {
                    link =
                        cut_off
                        (all_answered config state.now (messages_in piece verdicts meant)
                        (talk_of piece state meant)).link;
                  }) (record { arrivals = state.arrivals; link = meant })).arrivals;
              links =
                  changed number (λ _. (cond t
                  (record
                  (all_answered config state.now (messages_in piece verdicts meant) (talk_of piece state meant)) {
                    link =
                        cut_off
                        (all_answered config state.now (messages_in piece verdicts meant)
                        (talk_of piece state meant)).link;
                  }) (record { arrivals = state.arrivals; link = meant })).link) state.links;
            }
        by_test true = ap (λ (n : ℕ). record state {
          arrivals =
              (all_answered config state.now (messages_in piece verdicts meant) (talk_of piece state meant)).arrivals;
          links =
              changed n
              (λ _.
              cut_off
              (all_answered config state.now (messages_in piece verdicts meant) (talk_of piece state meant)).link)
              state.links;
        }) (all_number ∙ same)
        by_test false = ap (λ (ls : List Link). with_links ls state) (sym still)

module _ (number count place : ℕ) (piece : List ℕ) (hub : Hub) (core' : Core) (value value' : HubLink)
    (patterns patterns' : PatternsReport) (old new : Reported)
    (at_place : IsAt number hub.table place)
    (at_value : (other : HubLink) → get_or hub.table.values place other ≡ value) where
  is_at : (config : CoreConfig) (state : RunState) → RepresentsState hub config state → (meant : Link)
      → Focus hub.table number place state.links meant → hearing.IsAt hub.core value state meant
  is_at config state at meant focus =
      record {
        arrivals = at.arrivals;
        now = at.now;
        represents = subst (λ (v : HubLink). RepresentsLink v meant) (at_value value) (focus.value value);
      }

  possible_there : (state : RunState) (meant : Link) (verdicts : List (Option Refusal))
      → find_link number state.links ≡ Some meant
      → VerdictsIf (is_open meant) (config_of hub.core) piece verdicts state meant
      → VerdictsIn (config_of hub.core) (Read number count) piece verdicts state
  possible_there state meant verdicts found is =
      subst (VerdictsOn (config_of hub.core) piece verdicts state) (sym found) is

  -- out of memory
  pub occurs_unheard : (hub' : Hub) (heard result : Result (Unit {0}) Memory) → IsErr result
      → HearsPiece piece value value' hub.core core' patterns patterns' old new heard
      → OccursFrom (Read number count) piece hub hub' patterns patterns' old new result []
  occurs_unheard hub' heard result failed hears config state at settled =
      let found = focus_found hub.table number place state.links at.links settled at_place in
      let there = is_at config state at found.meant found.focus in
      record {
        verdicts = hears.verdicts;
        reported = hears.reported;
        possible = subst (λ (c : CoreConfig). VerdictsIn c (Read number count) piece hears.verdicts state) at.config_is
            (possible_there state found.meant hears.verdicts found.found (hears.possible state found.meant there));
        legal = tt;
        done = none_ok _ result failed;
      }

  heard_whole : (table' : Kept HubLink) (spare : Spare) (result : Result (Unit {0}) Memory) (run : List Entry)
      → HearsPiece piece value value' hub.core core' patterns patterns' old new (Ok tt)
      → Settles (record hub.table { values = set hub.table.values place value' }) table' number place result run
      → (state : RunState) → RepresentsState hub (config_of hub.core) state → AreSettled state.links
      → Occurs (Read number count) piece (record hub { core = core'; table = table'; spare = spare }) patterns patterns'
      old new result (config_of hub.core) state run
  heard_whole table' spare result run hears settles state at settled =
      let config : CoreConfig = config_of hub.core in
      let found = focus_found hub.table number place state.links at.links settled at_place in
      let meant : Link = found.meant in
      let there = is_at config state at meant found.focus in
      let verdicts : List (Option Refusal) = hears.verdicts in
      let heard = hears.heard state meant there in
      let talk : Talk = talk_after config piece verdicts state meant in
      let read : RunState = read_state config piece verdicts state meant number in
      let still : changed number (λ _. meant) state.links ≡ state.links =
      focus_change hub.table number place state.links meant found.focus (λ _. meant) ∙ sym found.focus.are in
      let is : occurred config (Read number count) piece verdicts state ≡ read =
      ap (read_by config piece verdicts state) found.found
      ∙ read_is config piece verdicts state meant number found.focus.number_is still in
      let focus =
      focus_changed hub.table number place state.links meant found.focus (λ _. talk.link) value'
      (after_number config piece verdicts state meant)
      (after_unclosed config piece verdicts state meant found.focus.unclosed) heard.link in
      let reach = settles config read talk.link focus in
      record {
        verdicts = verdicts;
        reported = hears.reported;
        possible = possible_there state meant verdicts found.found (hears.possible state meant there);
        legal = subst (IsLegalFrom config (plain run)) (sym is) reach.legal;
        done =
            on_ok result (λ ends. subst
            (λ (s : RunState). Done (record hub { core = core'; table = table'; spare = spare }) config state
            (state_from config (plain run) s) old new)
            (sym is)
            (subst
            (λ (after : RunState).
            Done (record hub { core = core'; table = table'; spare = spare }) config state after old new)
            (sym ends.leads) (record {
              at = record {
                arrivals = subst (Represents core') (sym heard.arrivals) heard.arrives.represents;
                config_is = heard.arrives.config;
                now = heard.now ∙ at.now;
                links = ends.keeps;
              };
              settled = ends.settled;
              more = heard.more;
              arrivals = heard.arrivals;
              heard = heard.arrives.heard;
            }))) reach.ends;
      }

  pub occurs_heard : (table' : Kept HubLink) (spare : Spare) (result : Result (Unit {0}) Memory) (run : List Entry)
      → HearsPiece piece value value' hub.core core' patterns patterns' old new (Ok tt)
      → Settles (record hub.table { values = set hub.table.values place value' }) table' number place result run
      → OccursFrom (Read number count) piece hub (record hub { core = core'; table = table'; spare = spare }) patterns
      patterns' old new result run
  occurs_heard table' spare result run hears settles config state at settled =
      subst
      (λ (c : CoreConfig). Occurs (Read number count) piece (record hub { core = core'; table = table'; spare = spare })
      patterns patterns' old new result c state run)
      at.config_is
      (heard_whole table' spare result run hears settles state
      (record { arrivals = at.arrivals; config_is = refl; now = at.now; links = at.links }) settled)
