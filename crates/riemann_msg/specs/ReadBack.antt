-- What is written is read again.
use Rattle.std.specs.Prelude.{◌≡◌, ℕ, ◌^◌, ◌<◌, length, None, IfSome, FitsSigned}
use Rattle.std.specs.Int.{w64}
use Rattle.std.specs.List.{AllByRecursion}
use Rattle.std.specs.Str.{IsUtf8}
use Rattle.ev_types.specs.declared.event.Attr.{Attr}
use Rattle.ev_types.specs.declared.event.Event.{Event}
use Rattle.riemann_msg.specs.declared.msg.Msg.{Msg}
use Rattle.riemann_msg.specs.Ttl.{IsSpellableTtl}
use Rattle.riemann_msg.specs.Value.{second_of, message_of}
use Rattle.riemann_msg.specs.Fault.{first_fault}
use Rattle.riemann_msg.specs.Spelling.{spelling}

pub record IsWellFormedAttribute (attribute : Attr) : Type 0 where
  pub key : IsUtf8 attribute.key
  pub value : IfSome attribute.value IsUtf8

-- each value is one of its type, and the time is that of time_micros where that is there
pub record IsWellFormedEvent (event : Event) : Type 0 where
  pub host : IfSome event.host IsUtf8
  pub service : IfSome event.service IsUtf8
  pub state : IfSome event.state IsUtf8
  pub description : IfSome event.description IsUtf8
  pub tags : AllByRecursion IsUtf8 event.tags
  pub time : FitsSigned w64 event.time
  pub time_micros : IfSome event.time_micros (λ micros. FitsSigned w64 micros × (event.time ≡ second_of micros))
  pub ttl : IfSome event.ttl IsSpellableTtl
  pub metric : IfSome event.metric (FitsSigned w64)
  pub raw_d : IfSome event.raw_d (λ bits. bits < 2 ^ 64)
  pub raw_f : IfSome event.raw_f (λ bits. bits < 2 ^ 32)
  pub attributes : AllByRecursion IsWellFormedAttribute event.attributes

pub record IsWellFormedMessage (msg : Msg) : Type 0 where
  pub error : IfSome msg.error IsUtf8
  pub query : IfSome msg.query (λ query. IfSome query.string IsUtf8)
  pub events : AllByRecursion IsWellFormedEvent msg.events

-- at any moment, where the bytes are not more than can be counted
abbrev pub MessagesAreReadBack : Type 0
MessagesAreReadBack = (now : ℕ) (msg : Msg) → IsWellFormedMessage msg → length (spelling msg) < 2 ^ 64
    → (first_fault (spelling msg) ≡ None) × (message_of now (spelling msg) ≡ msg)
