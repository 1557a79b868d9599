-- What a piece that comes on a link does to the core, the patterns and the link.
use Rattle.std.specs.Prelude.{◌≡◌, ℕ, if◌then◌else◌, List, ◌++◌, Option, Result, OnOk}
use Rattle.framing.specs.Frames.{partial}
use Rattle.msg_replies.specs.event_core.declared.arrivals.Core.{Core}
use Rattle.msg_replies.specs.event_core.Core.{CoreConfig, Represents, config_of, now_of}
use Rattle.list_laws.specs.declared.memory.Memory.{Memory}
use Rattle.stream_meaning.specs.Arrivals.{Arrival}
use Rattle.msg_replies.specs.hub_meaning.Legal.{VerdictsIf}
use Rattle.msg_replies.specs.hub_meaning.Links.{Link, is_open}
use Rattle.msg_replies.specs.hub_meaning.Runs.{RunState, Talk, all_answered, cut_off, messages_in, talk_of}
use Rattle.msg_replies.specs.hub_meaning.Verdicts.{AfterVerdicts, PatternsReport, Refusal}
use Rattle.msg_replies.specs.Arriving.{Arrives, Reported}
use Rattle.hub_link.specs.declared.link.HubLink.{HubLink}
use Rattle.hub_link.specs.HubLink.{RepresentsLink}

-- the core is at this state, and the link is one of its links
pub record IsAt (core : Core) (link : HubLink) (state : RunState) (meant : Link) : Type 0 where
  pub arrivals : Represents core state.arrivals
  pub now : now_of core ≡ state.now
  pub represents : RepresentsLink link meant

-- of what was held and the piece what begins no whole frame is held, and else only what is unsent changed
pub record KeepsRest (piece : List ℕ) (link link' : HubLink) : Type 0 where
  pub stage : link'.stage ≡ link.stage
  pub blocked : link'.blocked ≡ link.blocked
  pub input : link'.input ≡ partial (link.input ++ piece)

-- the arrivals and the link after the messages of a piece, and after a length over the limit where one follows
abbrev pub read_talk : Talk → Talk
read_talk talk = record talk { link = cut_off talk.link }

-- only of an open link the piece is read
abbrev pub talk_after : CoreConfig → List ℕ → List (Option Refusal) → RunState → Link → Talk
talk_after config piece verdicts state meant =
    if is_open meant
    then read_talk (all_answered config state.now (messages_in piece verdicts meant) (talk_of piece state meant))
    else record { arrivals = state.arrivals; link = meant }

-- the events of the messages arrived, and the link has their replies
pub record Hears (piece : List ℕ) (verdicts : List (Option Refusal)) (core core' : Core) (link' : HubLink)
    (old new : Reported) (state : RunState) (meant : Link) : Type 0 where
  pub more : List Arrival
  pub arrivals : (talk_after (config_of core) piece verdicts state meant).arrivals ≡ state.arrivals ++ more
  pub arrives : Arrives core core' state.arrivals more old new
  pub now : now_of core' ≡ now_of core
  pub link : RepresentsLink link' (talk_after (config_of core) piece verdicts state meant).link

-- The piece was heard, or memory ran out; the verdicts on its messages are those that were reported of the patterns.
pub record HearsPiece (piece : List ℕ) (link link' : HubLink) (core core' : Core) (patterns patterns' : PatternsReport)
    (old new : Reported)
    (result : Result (Unit {0}) Memory) : Type 0 where
  pub verdicts : List (Option Refusal)
  pub reported : AfterVerdicts patterns patterns' verdicts
  pub possible : (state : RunState) (meant : Link) → IsAt core link state meant
      → VerdictsIf (is_open meant) (config_of core) piece verdicts state meant
  pub heard : OnOk result ((state : RunState) (meant : Link) → IsAt core link state meant
      → Hears piece verdicts core core' link' old new state meant)
