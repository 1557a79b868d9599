-- How a link that a piece comes on follows what it represents.
use Rattle.std.proofs.Common.{◌≡◌, ℕ, ◌≤◌, ◌==◌, ◌↔◌, Bool, true, false, cond, ◌||◌, List, [], ◌∷◌, ◌++◌, length}
use Rattle.std.proofs.Common.{refl, ap, sym, ◌∙◌, subst, arith, append-nil}
use Rattle.std.specs.Prelude.{IsTrue, Option, Result, Ok, Err, OnOk, nat_lt}
use Rattle.std.proofs.lemmas.Bool.{eqb-true}
use Rattle.msg_replies.specs.event_core.declared.arrivals.Core.{Core}
use Rattle.msg_replies.specs.event_core.Core.{CoreConfig, config_of, now_of}
use Rattle.framing.specs.Frames.{frames_of, partial}
use Rattle.framing.proofs.FrameLaws.{partial_append, partial_of_nothing}
use Rattle.list_laws.specs.declared.memory.Memory.{Memory}
use Rattle.msg_replies.specs.hub_meaning.Legal.{ArePossible, AreVerdicts, MayClose, MayCloseAs, VerdictsIf}
use Rattle.msg_replies.specs.hub_meaning.Links.{Link, broken, connected, connected_limit, ended, is_connected, is_open}
use Rattle.msg_replies.specs.hub_meaning.Links.{is_open_stage, is_read_closed_stage, new_link, unblocked, unsent}
use Rattle.msg_replies.specs.hub_meaning.Links.{with_stage}
use Rattle.msg_replies.specs.hub_meaning.declared.stage.Stage.{Stage}
use Rattle.msg_replies.specs.hub_meaning.declared.stage.Stage.TheVariants.{Open, ReadClosed, Closing, Closed}
use Rattle.msg_replies.specs.hub_meaning.Runs.{RunState, Talk, all_answered, answered, cut_off}
use Rattle.msg_replies.specs.hub_meaning.Runs.{messages_in, new_frames, talk_of}
use Rattle.msg_replies.specs.hub_meaning.Verdicts.{Message, PatternsReport, Refusal, judged}
use Rattle.msg_replies.proofs.HubMeaningRunLaws.{new_frames_rest}
use Rattle.msg_replies.specs.Arriving.{Reported}
use Rattle.msg_replies.proofs.AnswerLaws.{arrives_nothing}
use Rattle.msg_replies.proofs.VerdictLaws.{no_verdicts}
use Rattle.hub_link.specs.declared.link.HubLink.{HubLink}
use Rattle.hub_link.specs.Answering.{Answered, AnswersFrames, IsTalk}
use Rattle.hub_link.specs.Hearing.{HearsPiece, IsAt, KeepsRest, read_talk, talk_after}
use Rattle.hub_link.specs.HubLink.{RepresentsChanged, RepresentsLink}
use Rattle.hub_link.specs.hub_meaning.Links.{is_over_as}
use Rattle.hub_link.proofs.HearLaws.{none_refused}
use Rattle.hub_link.proofs.SendLaws.{closes}

-- messages that are answered change the replies of a link alone
answered_link : (config : CoreConfig) (now : ℕ) (messages : List Message) (talk : Talk)
    → (all_answered config now messages talk).link
    ≡ record talk.link { replies = (all_answered config now messages talk).link.replies }
answered_link config now [] talk = refl
answered_link config now (message ∷ messages) talk =
    answered_link config now messages (answered config now message talk)

talk_at : (piece : List ℕ) (core : Core) (link : HubLink) (state : RunState) (meant : Link) → IsAt core link state meant
    → IsTalk core link.unsent (talk_of piece state meant)
talk_at piece core link state meant is =
    record { arrivals = is.arrivals; left_is = is.represents.unsent; within = is.represents.within }

-- the link whose frames were answered
represents_answered : (piece : List ℕ) (link one : HubLink) (core core' : Core) (old new : Reported)
    (messages : List Message) (state : RunState) (meant : Link)
    → IsAt core link state meant → one.number ≡ link.number → one.stage ≡ link.stage → one.blocked ≡ link.blocked
    → one.input ≡ partial (meant.came ++ piece)
    → Answered core core' one.unsent old new messages (talk_of piece state meant)
    → RepresentsLink one (all_answered (config_of core) (now_of core) messages (talk_of piece state meant)).link
represents_answered piece link one core core' old new messages state meant is number stage blocked input answers =
    let same = answered_link (config_of core) (now_of core) messages (talk_of piece state meant) in
    record {
      number = number ∙ is.represents.number ∙ ap (λ (l : Link). l.number) (sym same);
      stage = stage ∙ is.represents.stage ∙ ap (λ (l : Link). l.stage) (sym same);
      blocked = blocked ∙ is.represents.blocked ∙ ap (λ (l : Link). l.blocked) (sym same);
      input = λ _. input ∙ ap (λ (l : Link). partial l.came) (sym same);
      unsent = answers.left_is;
      within = answers.within;
    }

-- ---- the verdicts

abbrev pub IsOpenLink : HubLink → Type 0
IsOpenLink link = (meant : Link) → RepresentsLink link meant → is_open meant ≡ true

frames_in : (link : HubLink) (piece : List ℕ) (meant : Link) → IsOpenLink link → RepresentsLink link meant
    → frames_of (link.input ++ piece) ≡ new_frames meant.came piece
frames_in link piece meant opened is =
    ap (λ (bs : List ℕ). frames_of (bs ++ piece)) (is.input (opened meant is)) ∙ sym (new_frames_rest meant.came piece)

rest_in : (link : HubLink) (piece : List ℕ) (meant : Link) → IsOpenLink link → RepresentsLink link meant
    → partial (link.input ++ piece) ≡ partial (meant.came ++ piece)
rest_in link piece meant opened is =
    ap (λ (bs : List ℕ). partial (bs ++ piece)) (is.input (opened meant is)) ∙ sym (partial_append meant.came piece)

are_verdicts : (piece : List ℕ) (verdicts : List (Option Refusal)) (link : HubLink) (core : Core)
    → IsOpenLink link → length verdicts ≤ length (frames_of (link.input ++ piece))
    → ((talk : Talk) → IsTalk core link.unsent talk
    → ArePossible (config_of core) (now_of core) (judged (frames_of (link.input ++ piece)) verdicts) talk)
    → (state : RunState) (meant : Link) → IsAt core link state meant
    → VerdictsIf (is_open meant) (config_of core) piece verdicts state meant
are_verdicts piece verdicts link core opened few possible state meant is =
    let frames = frames_in link piece meant opened is.represents in
    let all : AreVerdicts (config_of core) piece verdicts state meant = record {
      few = subst (λ (fs : List (List ℕ)). length verdicts ≤ length fs) frames few;
      possible =
          subst
          (λ (now : ℕ). ArePossible (config_of core) now (messages_in piece verdicts meant) (talk_of piece state meant))
          is.now
          (subst
          (λ (fs : List (List ℕ)).
          ArePossible (config_of core) (now_of core) (judged fs verdicts) (talk_of piece state meant))
          frames
          (possible (talk_of piece state meant) (talk_at piece core link state meant is)));
    } in
    subst (λ (t : Bool). VerdictsIf t (config_of core) piece verdicts state meant) (sym (opened meant is.represents))
    all

-- no frame was answered
no_verdicts_are : (piece : List ℕ) (link : HubLink) (core : Core) (state : RunState) (meant : Link)
    → VerdictsIf (is_open meant) (config_of core) piece [] state meant
no_verdicts_are piece link core state meant = by_case (is_open meant)
  where
    by_case : (t : Bool) → VerdictsIf t (config_of core) piece [] state meant
    by_case true = record {
      few = omega arith;
      possible = none_refused (config_of core) state.now (new_frames meant.came piece) (talk_of piece state meant);
    }
    by_case false = refl

-- ---- the piece

abbrev no_talk : RunState → Link → Talk
no_talk state meant = record { arrivals = state.arrivals; link = meant }

pub hears_nothing : (piece : List ℕ) (link : HubLink) (core : Core) (patterns : PatternsReport) (old : Reported)
    → ((meant : Link) → RepresentsLink link meant → is_open meant ≡ false)
    → HearsPiece piece link link core core patterns patterns old old (Ok tt)
hears_nothing piece link core patterns old shut = record {
  verdicts = [];
  reported = no_verdicts patterns;
  possible = λ state meant is. no_verdicts_are piece link core state meant;
  heard = λ state meant is.
      let same : no_talk state meant ≡ talk_after (config_of core) piece [] state meant =
      sym (ap
      (λ (t : Bool). cond t
      (read_talk (all_answered (config_of core) state.now (messages_in piece [] meant) (talk_of piece state meant)))
      (no_talk state meant))
      (shut meant is.represents)) in
      record {
        more = [];
        arrivals = ap (λ (t : Talk). t.arrivals) (sym same) ∙ sym (append-nil state.arrivals);
        arrives = arrives_nothing core state.arrivals old is.arrivals;
        now = refl;
        link = subst (λ (t : Talk). RepresentsLink link t.link) same is.represents;
      };
}

module _ (piece : List ℕ) (link : HubLink) (core core' : Core) (patterns patterns' : PatternsReport)
    (old new : Reported) (opened : IsOpenLink link) where
  -- memory ran out at one of the messages, or at a length over the limit
  pub hears_in_part : {left : List ℕ} (link' : HubLink) (memory : Memory) (result : Result (Unit {0}) Memory)
      → AnswersFrames (link.input ++ piece) link.unsent left core core' patterns patterns' old new result
      → HearsPiece piece link link' core core' patterns patterns' old new (Err memory)
  hears_in_part link' memory result frames = record {
    verdicts = frames.verdicts;
    reported = frames.reported;
    possible = are_verdicts piece frames.verdicts link core opened frames.few frames.possible;
    heard = tt;
  }

  -- all frames were answered, and a length over the limit where one follows
  pub hears_all : (one link' : HubLink)
      → AnswersFrames {T = Unit {0}} (link.input ++ piece) link.unsent one.unsent core core' patterns patterns' old new
      (Ok tt)
      → one.number ≡ link.number → KeepsRest piece link one
      → ((meant : Link) → is_open meant ≡ true → RepresentsLink one meant → RepresentsLink link' (cut_off meant))
      → HearsPiece piece link link' core core' patterns patterns' old new (Ok tt)
  hears_all one link' frames number keeps cut = record {
    verdicts = frames.verdicts;
    reported = frames.reported;
    possible = are_verdicts piece frames.verdicts link core opened frames.few frames.possible;
    heard = λ state meant is.
        let config : CoreConfig = config_of core in
        let open_now : is_open meant ≡ true = opened meant is.represents in
        let messages : List Message = judged (frames_of (link.input ++ piece)) frames.verdicts in
        let talked : Talk = all_answered config (now_of core) messages (talk_of piece state meant) in
        let answers = frames.answered (talk_of piece state meant) (talk_at piece core link state meant is) in
        let there : RepresentsLink one talked.link =
        represents_answered piece link one core core' old new messages state meant is number keeps.stage keeps.blocked
        (keeps.input ∙ rest_in link piece meant opened is.represents) answers in
        let still_open : is_open talked.link ≡ true =
        ap (λ (l : Link). is_open l) (answered_link config (now_of core) messages (talk_of piece state meant))
        ∙ open_now in
        let same : read_talk talked ≡ talk_after config piece frames.verdicts state meant =
        ap (λ (now : ℕ). read_talk (all_answered config now messages (talk_of piece state meant))) is.now
        ∙ ap
        (λ (fs : List (List ℕ)).
        read_talk (all_answered config state.now (judged fs frames.verdicts) (talk_of piece state meant)))
        (frames_in link piece meant opened is.represents)
        ∙ ap
        (λ (t : Bool). cond t
        (read_talk
        (all_answered config state.now (messages_in piece frames.verdicts meant) (talk_of piece state meant)))
        (no_talk state meant))
        (sym open_now) in
        record {
          more = answers.more;
          arrivals = ap (λ (t : Talk). t.arrivals) (sym same) ∙ answers.arrivals;
          arrives = answers.arrives;
          now = answers.now;
          link = subst (λ (t : Talk). RepresentsLink link' t.link) same (cut talked.link still_open there);
        };
  }

  -- and memory may run out at that length
  pub hears_cut : (one link' : HubLink) (result : Result (Unit {0}) Memory)
      → AnswersFrames {T = Unit {0}} (link.input ++ piece) link.unsent one.unsent core core' patterns patterns' old new
      (Ok tt)
      → one.number ≡ link.number → KeepsRest piece link one
      → OnOk result
      ((meant : Link) → is_open meant ≡ true → RepresentsLink one meant → RepresentsLink link' (cut_off meant))
      → HearsPiece piece link link' core core' patterns patterns' old new result
  hears_cut one link' (Ok tt) frames number keeps cut = hears_all one link' frames number keeps cut
  hears_cut one link' (Err memory) frames number keeps cut = hears_in_part link' memory (Ok tt) frames

-- ---- a length over the limit

-- ---- what changes a link

connected_as : (link : HubLink) (meant : Link) (t : Bool)
    → (is_open_stage link.stage || is_read_closed_stage link.stage) ≡ t → RepresentsLink link meant
    → is_connected meant ≡ t
connected_as link meant t is represents =
    ap (λ (s : Stage). is_open_stage s || is_read_closed_stage s) (sym represents.stage) ∙ is

open_as : (link : HubLink) (meant : Link) (t : Bool) → is_open_stage link.stage ≡ t → RepresentsLink link meant
    → is_open meant ≡ t
open_as link meant t is represents = ap is_open_stage (sym represents.stage) ∙ is

pub is_shut : (link : HubLink) → is_open_stage link.stage ≡ false → (meant : Link) → RepresentsLink link meant
    → is_open meant ≡ false
is_shut link is meant represents = open_as link meant false is represents

pub is_opened : (link : HubLink) → is_open_stage link.stage ≡ true → (meant : Link) → RepresentsLink link meant
    → is_open meant ≡ true
is_opened link is meant represents = open_as link meant true is represents

pub ends : (link link' : HubLink) → is_open_stage link.stage ≡ true → link'.number ≡ link.number
    → link'.stage ≡ ReadClosed → link'.blocked ≡ link.blocked → link'.unsent ≡ link.unsent
    → RepresentsChanged ended link link'
ends link link' is number stage blocked unsent_is meant represents =
    let there : RepresentsLink link' (with_stage ReadClosed meant) = record {
      number = number ∙ represents.number;
      stage = stage;
      blocked = blocked ∙ represents.blocked;
      input = λ opened. absurd (cc opened);
      unsent = unsent_is ∙ represents.unsent;
      within = represents.within;
    } in
    subst (λ (t : Bool). RepresentsLink link' (cond t (with_stage ReadClosed meant) meant))
    (sym (open_as link meant true is represents)) there

pub breaks : (link link' : HubLink) → (is_open_stage link.stage || is_read_closed_stage link.stage) ≡ true
    → link'.number ≡ link.number → link'.stage ≡ Closing → link'.blocked ≡ link.blocked
    → link'.unsent ≡ link.unsent → RepresentsChanged broken link link'
breaks link link' is number stage blocked unsent_is meant represents =
    subst (λ (t : Bool). RepresentsLink link' (cond t (with_stage Closing meant) meant))
    (sym (connected_as link meant true is represents))
    (closes link link' number stage blocked unsent_is meant represents)

pub unblocks : (link link' : HubLink) → (is_open_stage link.stage || is_read_closed_stage link.stage) ≡ true
    → link'.number ≡ link.number → link'.stage ≡ link.stage → link'.blocked ≡ false
    → link'.input ≡ link.input → link'.unsent ≡ link.unsent → RepresentsChanged unblocked link link'
unblocks link link' is number stage blocked input unsent_is meant represents =
    let there : RepresentsLink link' (record meant { blocked = false }) = record {
      number = number ∙ represents.number;
      stage = stage ∙ represents.stage;
      blocked = blocked;
      input = λ opened. input ∙ represents.input opened;
      unsent = unsent_is ∙ represents.unsent;
      within = represents.within;
    } in
    subst (λ (t : Bool). RepresentsLink link' (cond t (record meant { blocked = false }) meant))
    (sym (connected_as link meant true is represents)) there

pub opens : (link : HubLink) (number : ℕ) (has_room : Bool) (links : List Link) → link.number ≡ number
    → link.stage ≡ cond has_room Open Closing → link.blocked ≡ false → link.input ≡ []
    → link.unsent ≡ [] → has_room ≡ nat_lt (length (connected links)) connected_limit
    → RepresentsLink link (new_link number links)
opens link number has_room links number_is stage blocked bytes unsent_is room = record {
  number = number_is;
  stage = stage ∙ ap (λ (t : Bool). cond t Open Closing) room;
  blocked = blocked;
  input = λ _. bytes ∙ sym partial_of_nothing;
  unsent = unsent_is;
  within = omega arith;
}

-- ---- what is wanted of a link, and whether it is to be closed

over_as : (meant : Link) (stage : Stage) → IsTrue (is_over_as stage (length (unsent meant))) ↔ MayCloseAs meant stage
over_as meant Open = (λ is. absurd (cc is), λ may. absurd may)
over_as meant ReadClosed = (λ is. none_left (unsent meant) is, λ none. ap (λ (bs : List ℕ). length bs == 0) none)
  where
    none_left : (bytes : List ℕ) → IsTrue (length bytes == 0) → bytes ≡ []
    none_left [] is = refl
    none_left (byte ∷ bytes) is = let none = eqb-true (length (byte ∷ bytes)) 0 is in absurd (omega arith)
over_as meant Closing = (λ _. tt, λ _. refl)
over_as meant Closed = (λ is. absurd (cc is), λ may. absurd may)

pub tells_over : (link : HubLink) (meant : Link) (over : Bool) → over ≡ is_over_as link.stage (length link.unsent)
    → RepresentsLink link meant → IsTrue over ↔ MayClose meant
tells_over link meant over is represents =
    subst (λ (t : Bool). IsTrue t ↔ MayClose meant)
    (sym (is ∙ ap (λ (s : Stage). is_over_as s (length link.unsent)) represents.stage
    ∙ ap (λ (bs : List ℕ). is_over_as meant.stage (length bs)) represents.unsent))
    (over_as meant meant.stage)
