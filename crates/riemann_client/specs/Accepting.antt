-- How the replies that are whole are accepted, one after another.
use Rattle.std.specs.Prelude.{◌≡◌, ℕ, false, List, [], ◌∷◌, ◌++◌, length, map, Option, Some, None}
use Rattle.framing.specs.Frames.{HasFrame, first_body, frames_of, partial}
use Rattle.frame_link.specs.Held.{Held, HandsOut}
use Rattle.riemann_msg.specs.Value.{message_of}
use Rattle.riemann_msg.specs.declared.msg.Msg.{Msg}
use Rattle.riemann_client.specs.Exchange.{accepted_from, first_reply_fault, reply_fault}
use Rattle.riemann_client.specs.Requests.{HasAnswered, Requested, sent_count}
use Rattle.riemann_client.specs.declared.progress.Progress.{Progress}
use Rattle.riemann_client.specs.declared.replies.Front.{Front}
use Rattle.riemann_client.specs.declared.replies.Front.TheVariants.{NotWhole, Accepted, Faulty}

-- the reply was accepted, or nothing was for this fault
abbrev pub AcceptsAs : ℕ → List ℕ → Requested → List Msg → List Msg → Option Progress → Type 0
AcceptsAs now body requests' replies replies' None =
    (replies' ≡ replies ++ message_of now body ∷ []) × HasAnswered requests' (length replies')
AcceptsAs now body requests' replies replies' (Some fault) = replies' ≡ replies

-- A reply was accepted or not, after as many replies as requests have one.
pub record Accepts (now : ℕ) (body : List ℕ) (requests requests' : Requested) (replies replies' : List Msg)
    (fault : Option Progress) : Type 0 where
  pub fault_is : fault ≡ reply_fault (sent_count requests) (length replies) body
  pub accepted : AcceptsAs now body requests' replies replies' fault

abbrev pub AcceptsNext : ℕ → List ℕ → Requested → Requested → List Msg → List Msg → Option Progress → Type 0
AcceptsNext now body requests requests' replies replies' fault =
    HasAnswered requests (length replies) → Accepts now body requests requests' replies replies' fault

-- the first frame is not whole yet
pub record IsEmpty (input input' : Held) (requests requests' : Requested) (replies replies' : List Msg) : Type 0 where
  pub no_frame : HasFrame input.bytes → ⊥
  pub input_is : input' ≡ input
  pub requests_are : requests' ≡ requests
  pub replies_are : replies' ≡ replies

-- the first frame's body was accepted and the frame removed, or it has this fault, or the frame is not whole yet
abbrev pub AcceptsFront : ℕ → Held → Held → Requested → Requested → List Msg → List Msg → Front → Type 0
AcceptsFront now input input' requests requests' replies replies' NotWhole =
    IsEmpty input input' requests requests' replies replies'
AcceptsFront now input input' requests requests' replies replies' Accepted =
    HandsOut input (first_body input.bytes) input'
    × AcceptsNext now (first_body input.bytes) requests requests' replies replies' None
AcceptsFront now input input' requests requests' replies replies' (Faulty fault) =
    HasFrame input.bytes × AcceptsNext now (first_body input.bytes) requests requests' replies replies' (Some fault)

-- no whole frame is left
pub record HasNoneLeft (input input' : Held) (requests' : Requested) (replies' : List Msg) : Type 0 where
  pub answered : HasAnswered requests' (length replies')
  pub rest : partial input.bytes ≡ input'.bytes
  pub no_frame : HasFrame input'.bytes → ⊥
  pub goes_on : input.stopped ≡ false → input'.stopped ≡ false

abbrev pub EndsAs : Held → Held → Requested → List Msg → Option Progress → Type 0
EndsAs input input' requests' replies' None = HasNoneLeft input input' requests' replies'
EndsAs input input' requests' replies' (Some fault) = Unit {0}

-- all whole frames were accepted, or those before the first fault
pub record AcceptsAll (now : ℕ) (input input' : Held) (requests requests' : Requested) (replies replies' : List Msg)
    (fault : Option Progress) : Type 0 where
  pub fault_is : fault ≡ first_reply_fault (sent_count requests) (length replies) (frames_of input.bytes)
  pub replies_are : replies' ≡ replies ++ map (message_of now)
      (accepted_from (sent_count requests) (length replies) (frames_of input.bytes))
  pub ends : EndsAs input input' requests' replies' fault
