-- The reply to each message. A reply is a message too, in a frame of its own.
use Rattle.std.specs.Prelude.{ℕ, true, false, nat_le, if◌then◌else◌, List, [], ◌++◌, filter, length, codes, Option}
use Rattle.std.specs.Prelude.{Some, None, Result, Ok, Err}
use Rattle.std.specs.Fmt.{decimal}
use Rattle.ev_types.specs.declared.event.Event.{Event}
use Rattle.framing.specs.declared.TheConstants.{BODY_LIMIT}
use Rattle.framing.specs.Frames.{frame}
use Rattle.riemann_msg.specs.declared.msg.Msg.{Msg}
use Rattle.riemann_msg.specs.declared.msg.QueryPart.{QueryPart}
use Rattle.riemann_msg.specs.declared.fault.MsgWhy.{MsgWhy}
use Rattle.riemann_msg.specs.Fault.{Fault, why_name}
use Rattle.riemann_msg.specs.Spelling.{spelling}
use Rattle.index_log.specs.Live.{IndexLog, live_events}
use Rattle.pred_eval.specs.Tree.{Tree}
use Rattle.pred_eval.specs.Truth.{holds}
use Rattle.query_lang.specs.declared.read.TheConstants.{MAX_BYTES}
use Rattle.query_lang.specs.declared.fault.QueryFault.{QueryFault}
use Rattle.query_lang.specs.declared.fault.QueryFault.TheVariants.{TooLong, Refused as QueryRefused, TooDeep}
use Rattle.query_lang.specs.declared.fault.QueryFault.TheVariants.{Memory as NoMemory}
use Rattle.query_lang.specs.Answer.{query_of}
use Rattle.hub_meaning.specs.Messages.{query_text, reading_of}
use Rattle.hub_meaning.specs.Verdicts.{Message, Refusal, is_busy}

-- the message was accepted, or refused for this reason, or asked for these events
abbrev pub accepted : Msg
accepted = record { ok = Some true; error = None; query = None; events = [] }

abbrev pub refused : List ℕ → Msg
refused reason = record { ok = Some false; error = Some reason; query = None; events = [] }

abbrev pub found : List Event → Msg
found events = record { ok = Some true; error = None; query = None; events = events }

-- a message in a frame
unfoldable pub framed : Msg → List ℕ
framed msg = frame (spelling msg)

-- the reason for which a reply of this many bytes is not sent
unfoldable pub over_limit : ℕ → List ℕ
over_limit size = codes "reply of " ++ (decimal size ++ (codes " bytes over " ++ decimal BODY_LIMIT))

-- a reply, unless its body is over the limit
unfoldable pub limited : Msg → Msg
limited msg = if nat_le (length (spelling msg)) BODY_LIMIT then msg else refused (over_limit (length (spelling msg)))

-- the reason for which a message is refused for a fault
unfoldable pub message_refusal : ℕ → MsgWhy → List ℕ
message_refusal place why = codes "message refused at " ++ (decimal place ++ (codes ": " ++ why_name why))

-- the reason for which a query is refused as busy, while at least BODY_LIMIT bytes are unsent
unfoldable pub busy : ℕ → List ℕ
busy unsent = codes "busy: " ++ (decimal unsent ++ codes " bytes unsent")

-- the reason for which a length is refused
unfoldable pub oversized : ℕ → List ℕ
oversized size = codes "frame of " ++ (decimal size ++ (codes " bytes over " ++ decimal BODY_LIMIT))

-- the reason for which a query is refused; out of memory is not an answer
unfoldable pub query_refusal : QueryFault → List ℕ
query_refusal (TooLong size) = codes "query of " ++ (decimal size ++ (codes " bytes over " ++ decimal MAX_BYTES))
query_refusal (QueryRefused place) = codes "query refused at " ++ decimal place
query_refusal (TooDeep place) = codes "query too deep at " ++ decimal place
query_refusal NoMemory = []

-- the reason for which a query with this pattern is refused
unfoldable pub pattern_refusal : ℕ → List ℕ
pattern_refusal number = codes "query pattern " ++ (decimal number ++ codes " refused")

-- the answer to a rule, from what the index holds after a log: what meets it, unless a pattern of it was refused
abbrev pub answer_to_rule : IndexLog → Option Refusal → Tree → Msg
answer_to_rule log None rule = limited (found (filter (holds rule) (live_events log)))
answer_to_rule log (Some refusal) rule = refused (pattern_refusal refusal.number)

abbrev pub answer_to_text : IndexLog → Option Refusal → Result Tree QueryFault → Msg
answer_to_text log refusal (Ok rule) = answer_to_rule log refusal rule
answer_to_text log refusal (Err fault) = refused (query_refusal fault)

abbrev pub answer_to_query : IndexLog → ℕ → Option Refusal → Option QueryPart → Msg
answer_to_query log unsent refusal None = accepted
answer_to_query log unsent refusal (Some query) =
    if is_busy unsent then refused (busy unsent) else answer_to_text log refusal (query_of (query_text query))

abbrev pub answer_to : IndexLog → ℕ → Option Refusal → Result Msg Fault → Msg
answer_to log unsent refusal (Ok msg) = answer_to_query log unsent refusal msg.query
answer_to log unsent refusal (Err fault) = refused (message_refusal fault.place fault.why)

-- The reply to a message that is read at a moment, from the log after its own events, and the bytes of earlier
-- replies to its link that are unsent.
unfoldable pub reply_to : ℕ → IndexLog → ℕ → Message → List ℕ
reply_to now log unsent message = framed (answer_to log unsent message.refusal (reading_of now message.body))

-- the reply to a length over the limit
unfoldable pub reply_to_oversized : ℕ → List ℕ
reply_to_oversized size = framed (refused (oversized size))
