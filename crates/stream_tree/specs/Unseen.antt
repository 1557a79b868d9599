-- What streams do with an event, if its fields say it.
use Rattle.std.specs.Prelude.{Bool, true, false, if◌then◌else◌}
use Rattle.ev_types.specs.declared.event.Event.{Event}
use Rattle.pred_eval.specs.Truth.{holds}
use Rattle.stream_plan.specs.Tree.{KindTree, Index, Sdo, Where, StreamTree, StreamTrees, stream, none, also}
use Rattle.stream_tree.specs.declared.unseen.Unseen.{Unseen}
use Rattle.stream_tree.specs.declared.unseen.Unseen.TheVariants.{Nothing, Write, Needed}
use Rattle.stream_tree.specs.Running.{kind_of}

abbrev pub is_index : KindTree → Bool
is_index Index = true
is_index kind = false

-- the only stream is an `index`, which writes each event and passes nothing on
abbrev pub is_one_index : StreamTrees → Bool
is_one_index (also only none) = is_index (kind_of only)
is_one_index plan = false

-- what a stream of the kind does with an event may be known from the event's fields
abbrev pub is_looking : KindTree → Bool
is_looking Index = true
is_looking Sdo = true
is_looking (Where rule) = true
is_looking kind = false

-- what is done if both of these are done; for two writes the event is needed
abbrev pub both : Unseen → Unseen → Unseen
both Nothing more = more
both Write Nothing = Write
both Write more = Needed
both Needed more = Needed

-- what streams do with an event, and all below them: nothing, or one write, or the event is needed for it
abbrev mutual
  pub stream_unseen : StreamTree → Event → Unseen
  stream_unseen (stream Index children otherwise) event = Write
  stream_unseen (stream Sdo children otherwise) event = plan_unseen children event
  stream_unseen (stream (Where rule) children otherwise) event =
      if holds rule event then plan_unseen children event else plan_unseen otherwise event
  stream_unseen (stream kind children otherwise) event = Needed

  pub plan_unseen : StreamTrees → Event → Unseen
  plan_unseen none event = Nothing
  plan_unseen (also first more) event = both (stream_unseen first event) (plan_unseen more event)
