-- How an exchange goes on, turn after turn, and how it ends.
use Rattle.std.proofs.Common.{◌≡◌, ℕ, ◌+◌, ◌<◌, inl, inr, List, [], ◌++◌, Ok, Err, Option, Some, None, refl}
use Rattle.ports.specs.Calls.{LinksReport}
use Rattle.ports.specs.declared.entry.Entry.{Entry}
use Rattle.riemann_client.specs.Client.{IsUnclosed, Represents, link_of, replies_of, stream_of, wants_in}
use Rattle.riemann_client.specs.Exchange.{begun}
use Rattle.riemann_client.specs.Sending.{MakesCalls}
use Rattle.riemann_client.specs.Turning.{closing}
use Rattle.riemann_client.specs.declared.client.Client.{Client}
use Rattle.client_run.specs.Runs.{AddsRun, TurnsTo}
use Rattle.client_run.specs.Taking.{TakesAll, TakesTurn}
use Rattle.client_run.specs.declared.outcome.Outcome.{Outcome}
use Rattle.client_run.specs.declared.outcome.Outcome.TheVariants.{Lost}
use Rattle.client_run.specs.declared.outcome.RunFault.{RunFault}
use Rattle.client_run.specs.declared.outcome.RunFault.TheVariants.{Links, Memory}
use Rattle.client_run.proofs.AddsLaws.{adds_made, adds_nothing, adds_then}
use Rattle.client_run.proofs.TakenLaws.{Took, ends_at_limit, ends_in_turn, loses_links, runs_out, stops_short}
use Rattle.client_run.proofs.TakenLaws.{took_more, took_nothing}

-- a turn that had no outcome
pub none_of : (found : Option Outcome) → ((outcome : Outcome) → found ≡ Some outcome → ⊥) → found ≡ None
none_of None other = refl
none_of (Some outcome) other = absurd (other outcome refl)

abbrev pub TookFrom : Client → Client → ℕ → List Entry → Type 0
TookFrom client client' count run =
    (start : ℕ) → Represents client (begun start) → wants_in client ≡ []
    → Took (stream_of client) start client' count run

pub record SoFar (before now : LinksReport) (client client' : Client) (count : ℕ) : Type 0 where
  pub known : IsUnclosed now.log (link_of client')
  pub took : AddsRun before now (TookFrom client client' count)

pub so_far_nothing : (links : LinksReport) (client : Client) → IsUnclosed links.log (link_of client)
    → SoFar links links client client 0
so_far_nothing links client known = record {
  known = known;
  took = adds_nothing links (TookFrom client client 0) (λ start is wants. took_nothing start client is wants);
}

module _ (a b c : LinksReport) (client one two : Client) (count : ℕ) (so_far : SoFar a b client one count) where
  -- one more turn, after which the exchange goes on
  pub so_far_more : stream_of two ≡ stream_of one → IsUnclosed c.log (link_of two)
      → AddsRun b c (TakesTurn one two (Ok None)) → SoFar a c client two (count + 1)
  so_far_more same known takes = record {
    known = known;
    took =
        adds_then a b c (TookFrom client one count) (TakesTurn one two (Ok None)) (TookFrom client two (count + 1))
        so_far.took takes
        (λ first second took does start is wants.
        took_more (stream_of client) start one two count first second (took start is wants) same does);
  }

  -- the last turn
  pub so_far_ended : (limit : ℕ) → count < limit → (outcome : Outcome)
      → AddsRun b c (TakesTurn one two (Ok (Some outcome))) → AddsRun a c (TakesAll client two limit (Ok outcome))
  so_far_ended limit fewer outcome takes =
      adds_then a b c (TookFrom client one count) (TakesTurn one two (Ok (Some outcome)))
      (TakesAll client two limit (Ok outcome)) so_far.took takes
      (λ first second took does start is wants. inl
      (ends_in_turn (stream_of client) start one two count first second (took start is wants) limit fewer outcome does))

  failed_so : (limit : ℕ) → count < limit → (fault : RunFault) (first second : List Entry) (start : ℕ)
      → Took (stream_of client) start one count first → TakesTurn one two (Err fault) second
      → TurnsTo (stream_of client) start limit (replies_of two) (Err fault) (first ++ second)
  failed_so limit fewer Links first second start took does =
      loses_links (stream_of client) start one two count first second took limit fewer does
  failed_so limit fewer Memory first second start took does = elim does [
    | inl none ↦ inl (runs_out (stream_of client) start one two count first second took limit fewer none)
    | inr cut ↦ inr (stops_short (stream_of client) start one two count first second took limit fewer cut)
  ]

  -- a turn that did not come, or was not finished
  pub so_far_failed : (limit : ℕ) → count < limit → (fault : RunFault) → AddsRun b c (TakesTurn one two (Err fault))
      → AddsRun a c (TakesAll client two limit (Err fault))
  so_far_failed limit fewer fault takes =
      adds_then a b c (TookFrom client one count) (TakesTurn one two (Err fault))
      (TakesAll client two limit (Err fault)) so_far.took takes
      (λ first second took does start is wants.
      failed_so limit fewer fault first second start (took start is wants) does)

  -- no turn is left
  pub so_far_at_limit : (limit : ℕ) → count ≡ limit → replies_of two ≡ replies_of one
      → MakesCalls b c (λ calls. calls ≡ closing (link_of one)) → AddsRun a c (TakesAll client two limit (Ok Lost))
  so_far_at_limit limit all same closes =
      adds_then a b c (TookFrom client one count) (λ calls. calls ≡ closing (link_of one))
      (TakesAll client two limit (Ok Lost)) so_far.took
      (adds_made b c (λ calls. calls ≡ closing (link_of one)) closes)
      (λ first second took closed start is wants. inr
      (ends_at_limit (stream_of client) start one two count first second (took start is wants) closed same limit all))
