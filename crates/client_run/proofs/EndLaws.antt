-- How an exchange ends, from its first call on.
use Rattle.std.proofs.Common.{◌≡◌, ℕ, inl, inr, Bool, true, List, [], ◌++◌, Ok, Err, Option, None, refl, ap, sym}
use Rattle.std.proofs.Common.{subst}
use Rattle.ports.specs.declared.entry.Entry.{Entry}
use Rattle.framing.specs.Frames.{has_frame}
use Rattle.riemann_client.specs.Client.{IsUnclosed, Represents, replies_of, stream_of, wants_in}
use Rattle.ev_types.specs.Clock.{first_moment}
use Rattle.riemann_client.specs.Exchange.{begun}
use Rattle.riemann_client.specs.declared.client.Client.{Client}
use Rattle.riemann_msg.specs.declared.msg.Msg.{Msg}
use Rattle.client_run.specs.Runs.{Opens, RunsAs, RunsTo, TurnsTo}
use Rattle.client_run.specs.Taking.{ListensOn, TakesAll}
use Rattle.client_run.specs.declared.outcome.Exchanged.{Exchanged}
use Rattle.client_run.specs.declared.outcome.Outcome.{Outcome}
use Rattle.client_run.specs.declared.outcome.RunFault.{RunFault}
use Rattle.client_run.specs.declared.outcome.RunFault.TheVariants.{Links, Memory}

-- of a client without a link nothing has to be known
pub unclosed_nothing : (log : Option (List Entry)) (link : Option ℕ) → link ≡ None → IsUnclosed log link
unclosed_nothing log link is = subst (IsUnclosed log) (sym is) tt

module _ (address stream : List ℕ) (limit : ℕ) where
  module _ (some : has_frame stream ≡ true) where
    pub ends_at_once : RunsTo address stream limit (Err Memory) []
    ends_at_once = subst (λ (b : Bool). RunsAs b address stream limit (Err Memory) []) (sym some) (inl refl)

    unheard_as : (fault : RunFault) (run : List Entry) → ListensOn address (Err fault) run
        → RunsAs true address stream limit (Err fault) run
    unheard_as Links run is = inl is
    unheard_as Memory run is = inl is

    pub ends_unheard : (fault : RunFault) (run : List Entry) → ListensOn address (Err fault) run
        → RunsTo address stream limit (Err fault) run
    ends_unheard fault run is =
        subst (λ (b : Bool). RunsAs b address stream limit (Err fault) run) (sym some) (unheard_as fault run is)

    module _ (client client' : Client) (secs : ℕ) (first second : List Entry)
        (listens : ListensOn address (Ok secs) first) (stream_is : stream_of client ≡ stream)
        (is : Represents client (begun (first_moment secs))) (wants : wants_in client ≡ []) where
      opened : (P : ℕ → List Entry → Type 0) → P (first_moment secs) second → Opens address P (first ++ second)
      opened P holds =
          record { secs = secs; rest = second; are = ap (λ (run : List Entry). run ++ second) listens; holds = holds }

      pub ends_well : (exchanged : Exchanged) (outcome : Outcome) → exchanged.replies ≡ replies_of client'
          → exchanged.outcome ≡ outcome → TakesAll client client' limit (Ok outcome) second
          → RunsTo address stream limit (Ok exchanged) (first ++ second)
      ends_well exchanged outcome replies same takes =
          let turns : TurnsTo (stream_of client) (first_moment secs) limit (replies_of client') (Ok outcome) second =
          takes (first_moment secs) is wants in
          let here : TurnsTo stream (first_moment secs) limit (replies_of client') (Ok outcome) second =
          subst (λ (s : List ℕ). TurnsTo s (first_moment secs) limit (replies_of client') (Ok outcome) second) stream_is
          turns in
          let with_replies : TurnsTo stream (first_moment secs) limit exchanged.replies (Ok outcome) second =
          subst (λ (rs : List Msg). TurnsTo stream (first_moment secs) limit rs (Ok outcome) second) (sym replies)
          here in
          let as_outcome : TurnsTo stream (first_moment secs) limit exchanged.replies (Ok exchanged.outcome) second =
          subst (λ (o : Outcome). TurnsTo stream (first_moment secs) limit exchanged.replies (Ok o) second) (sym same)
          with_replies in
          subst (λ (b : Bool). RunsAs b address stream limit (Ok exchanged) (first ++ second)) (sym some)
          (opened (λ start. TurnsTo stream start limit exchanged.replies (Ok exchanged.outcome)) as_outcome)

      badly_as : (fault : RunFault) → TurnsTo stream (first_moment secs) limit (replies_of client') (Err fault) second
          → RunsAs true address stream limit (Err fault) (first ++ second)
      badly_as Links lost = inr (opened (λ start. TurnsTo stream start limit [] (Err Links)) lost)
      badly_as Memory out = inr (opened (λ start. TurnsTo stream start limit [] (Err Memory)) out)

      pub ends_badly : (fault : RunFault) → TakesAll client client' limit (Err fault) second
          → RunsTo address stream limit (Err fault) (first ++ second)
      ends_badly fault takes =
          subst (λ (b : Bool). RunsAs b address stream limit (Err fault) (first ++ second)) (sym some)
          (badly_as fault (subst
          (λ (s : List ℕ). TurnsTo s (first_moment secs) limit (replies_of client') (Err fault) second) stream_is
          (takes (first_moment secs) is wants)))
