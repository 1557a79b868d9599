-- What the body of a message says, read at a moment.
use Rattle.std.specs.Prelude.{ℕ, List, [], map, Option, Some, None, Result, Ok, Err, option_and_then, unwrap_or}
use Rattle.ev_types.specs.declared.event.Event.{Event}
use Rattle.riemann_msg.specs.declared.msg.Msg.{Msg}
use Rattle.riemann_msg.specs.declared.msg.QueryPart.{QueryPart}
use Rattle.riemann_msg.specs.Fault.{Fault, first_fault}
use Rattle.riemann_msg.specs.Value.{message_of}
use Rattle.pred_eval.specs.Tree.{Tree}
use Rattle.query_lang.specs.declared.fault.QueryFault.{QueryFault}
use Rattle.query_lang.specs.Answer.{query_of}
use Rattle.stream_meaning.specs.Arrivals.{Arrival, Post}

-- a body is its message, or the fault for which it is refused
abbrev pub read_as : Option Fault → Msg → Result Msg Fault
read_as None msg = Ok msg
read_as (Some fault) msg = Err fault

-- an event without a time of its own gets the moment
unfoldable pub reading_of : ℕ → List ℕ → Result Msg Fault
reading_of now body = read_as (first_fault body) (message_of now body)

-- the events that count, of which a message that is refused has none
abbrev pub events_of : Result Msg Fault → List Event
events_of (Ok msg) = msg.events
events_of (Err fault) = []

-- they arrive one after another
unfoldable pub posts_of : ℕ → List ℕ → List Arrival
posts_of now body = map Post (events_of (reading_of now body))

-- the text of a query; an absent one is empty
abbrev pub query_text : QueryPart → List ℕ
query_text query = unwrap_or query.string []

abbrev pub rule_read : Result Tree QueryFault → Option Tree
rule_read (Ok rule) = Some rule
rule_read (Err fault) = None

abbrev pub rule_of_query : QueryPart → Option Tree
rule_of_query query = rule_read (query_of (query_text query))

abbrev pub rule_of_reading : Result Msg Fault → Option Tree
rule_of_reading (Ok msg) = option_and_then rule_of_query msg.query
rule_of_reading (Err fault) = None

-- the rule by which a message asks, where it is accepted and has a query that can be read
unfoldable pub rule_of : ℕ → List ℕ → Option Tree
rule_of now body = rule_of_reading (reading_of now body)
