-- How the frames that bytes begin with are answered, one after another.
use Rattle.std.specs.Prelude.{◌≡◌, ℕ, ◌+◌, ◌-◌, ◌≤◌, nat_lt, if◌then◌else◌, List, ◌++◌, length, drop, Option, Some}
use Rattle.std.specs.Prelude.{None, Result, Ok, Err, OnOk}
use Rattle.msg_replies.specs.event_core.declared.arrivals.Core.{Core}
use Rattle.msg_replies.specs.event_core.Core.{Represents, config_of, now_of}
use Rattle.framing.specs.Frames.{HasFrame, first_body, frames_of, length_at, partial}
use Rattle.list_laws.specs.declared.memory.Memory.{Memory}
use Rattle.stream_meaning.specs.Arrivals.{Arrival}
use Rattle.msg_replies.specs.hub_meaning.Legal.{ArePossible}
use Rattle.msg_replies.specs.hub_meaning.Links.{unsent}
use Rattle.msg_replies.specs.hub_meaning.Runs.{Talk, all_answered}
use Rattle.msg_replies.specs.hub_meaning.Verdicts.{AfterVerdicts, Message, PatternsReport, Refusal, judged}
use Rattle.msg_replies.specs.Answering.{AnswersMessage}
use Rattle.msg_replies.specs.Arriving.{Arrives, Reported}

-- nothing came of it
pub record IsSame (left left' : List ℕ) (core core' : Core) (patterns patterns' : PatternsReport)
    (old new : Reported) : Type 0 where
  pub left_is : left' ≡ left
  pub core_is : core' ≡ core
  pub patterns_are : patterns' ≡ patterns
  pub reported_is : new ≡ old

-- the message of the first frame, which has so many bytes, was answered, or there is no whole frame
abbrev pub AnswersFirst : List ℕ → List ℕ → List ℕ → Core → Core → PatternsReport → PatternsReport → Reported → Reported
    → Result (Option ℕ) Memory → Type 0
AnswersFirst bytes left left' core core' patterns patterns' old new (Ok (Some size)) =
    HasFrame bytes × (size ≡ 4 + length_at bytes)
    × AnswersMessage (first_body bytes) (length left) core core' patterns patterns' left left' old new (Ok tt)
AnswersFirst bytes left left' core core' patterns patterns' old new (Ok None) =
    (HasFrame bytes → ⊥) × IsSame left left' core core' patterns patterns' old new
AnswersFirst bytes left left' core core' patterns patterns' old new (Err memory) =
    HasFrame bytes
    × AnswersMessage (first_body bytes) (length left) core core' patterns patterns' left left' old new (Err memory)

-- the core has these arrivals, and these bytes are unsent
pub record IsTalk (core : Core) (left : List ℕ) (talk : Talk) : Type 0 where
  pub arrivals : Represents core talk.arrivals
  pub left_is : left ≡ unsent talk.link
  pub within : length talk.link.taken ≤ length talk.link.replies

-- the messages were answered
pub record Answered (core core' : Core) (left' : List ℕ) (old new : Reported) (messages : List Message)
    (talk : Talk) : Type 0 where
  pub more : List Arrival
  pub arrivals : (all_answered (config_of core) (now_of core) messages talk).arrivals ≡ talk.arrivals ++ more
  pub arrives : Arrives core core' talk.arrivals more old new
  pub now : now_of core' ≡ now_of core
  pub left_is : left' ≡ unsent (all_answered (config_of core) (now_of core) messages talk).link
  pub within : length (all_answered (config_of core) (now_of core) messages talk).link.taken
      ≤ length (all_answered (config_of core) (now_of core) messages talk).link.replies

-- the messages of all whole frames were answered, or memory ran out
pub record AnswersFrames {T : Type 0} (bytes left left' : List ℕ) (core core' : Core)
    (patterns patterns' : PatternsReport) (old new : Reported)
    (result : Result T Memory) : Type 0 where
  pub verdicts : List (Option Refusal)
  pub few : length verdicts ≤ length (frames_of bytes)
  pub reported : AfterVerdicts patterns patterns' verdicts
  pub possible : (talk : Talk) → IsTalk core left talk
      → ArePossible (config_of core) (now_of core) (judged (frames_of bytes) verdicts) talk
  pub answered :
      OnOk result
      ((talk : Talk) → IsTalk core left talk
      → Answered core core' left' old new (judged (frames_of bytes) verdicts) talk)

-- the whole frames that the bytes begin with have so many bytes
pub record AreTaken (bytes : List ℕ) (taken : ℕ) : Type 0 where
  pub within : taken ≤ length bytes
  pub rest : drop taken bytes ≡ partial bytes

-- how many bytes the first frame lacks; where its length is not whole, how many the length lacks
abbrev pub missing_bytes : List ℕ → ℕ
missing_bytes bytes = if nat_lt (length bytes) 4 then 4 - length bytes else 4 + length_at bytes - length bytes
