-- How one message is answered.
use Rattle.std.specs.Prelude.{◌≡◌, ℕ, ◌≤◌, false, IsTrue, IfSome, OnOk, is_some, if◌then◌else◌, List, ◌++◌, Option}
use Rattle.std.specs.Prelude.{None, Result, option_and_then, option_map, option_to_list}
use Rattle.event_core.specs.declared.arrivals.Core.{Core}
use Rattle.event_core.specs.Core.{Represents, now_of, config_of, state_by}
use Rattle.index_log.specs.Live.{IndexLog}
use Rattle.list_laws.specs.Counts.{Rose}
use Rattle.list_laws.specs.declared.memory.Memory.{Memory}
use Rattle.pred_eval.specs.Tree.{Tree}
use Rattle.riemann_msg.specs.declared.msg.Msg.{Msg}
use Rattle.stream_meaning.specs.Arrivals.{Arrival}
use Rattle.riemann_msg.specs.declared.msg.QueryPart.{QueryPart}
use Rattle.hub_meaning.specs.Messages.{posts_of, rule_of_query}
use Rattle.hub_meaning.specs.Replies.{framed, reply_to}
use Rattle.hub_meaning.specs.Verdicts.{IsOfRule, PatternsReport, Refusal, built_rule, is_busy, refused_text}
use Rattle.msg_replies.specs.Arriving.{Arrives, Reported}

-- the verdict on the patterns of a rule, where one was asked for
pub record AfterVerdict (asked : Option Tree) (refusal : Option Refusal) (old new : PatternsReport) : Type 0 where
  pub possible : IfSome refusal (IsOfRule asked)
  pub reported : new.refused
      ≡ option_map (λ texts. texts ++ option_to_list (option_map refused_text refusal)) old.refused
  pub never_falls : old.refusals ≤ new.refusals
  pub rose : IsTrue (is_some refusal) → Rose old.refusals new.refusals
  pub still : is_some refusal ≡ false → new.refusals ≡ old.refusals

-- the rule whose patterns are built for a query: none where there is no query, or where the link is busy
abbrev pub asked_of : ℕ → Option QueryPart → Option Tree
asked_of unsent query = if is_busy unsent then None else option_and_then rule_of_query query

-- a query was answered by a reply that depends on the verdict on its patterns
pub record AnswersQuery (asked : Option Tree) (core : Core) (patterns patterns' : PatternsReport)
    (replies replies' : List ℕ)
    (reply : IndexLog → Option Refusal → Msg) (result : Result (Unit {0}) Memory) : Type 0 where
  pub refusal : Option Refusal
  pub verdict : AfterVerdict asked refusal patterns patterns'
  pub answered : OnOk result ((arrivals : List Arrival) → Represents core arrivals
      → replies' ≡ replies ++ framed (reply (state_by (config_of core) arrivals).log refusal))

-- the events of a message arrived, and its reply is appended
pub record Replies (body : List ℕ) (unsent : ℕ) (refusal : Option Refusal) (core core' : Core)
    (replies replies' : List ℕ) (old new : Reported) (arrivals : List Arrival) : Type 0 where
  pub arrives : Arrives core core' arrivals (posts_of (now_of core) body) old new
  pub now : now_of core' ≡ now_of core
  pub reply : replies' ≡ replies ++ reply_to (now_of core)
      (state_by (config_of core) (arrivals ++ posts_of (now_of core) body)).log unsent
      (record { body = body; refusal = refusal })

-- a message was answered, where `unsent` bytes were unsent
pub record AnswersMessage (body : List ℕ) (unsent : ℕ) (core core' : Core) (patterns patterns' : PatternsReport)
    (replies replies' : List ℕ) (old new : Reported)
    (result : Result (Unit {0}) Memory) : Type 0 where
  pub refusal : Option Refusal
  pub verdict : AfterVerdict (built_rule (now_of core) unsent body) refusal patterns patterns'
  pub answered :
      OnOk result
      ((arrivals : List Arrival) → Represents core arrivals
      → Replies body unsent refusal core core' replies replies' old new arrivals)
