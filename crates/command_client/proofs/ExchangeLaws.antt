-- How a command ends that had an exchange.
use Rattle.std.proofs.Common.{◌≡◌, ◌≢◌, ℕ, List, length, Ok, Err, inl, inr, refl, ap, sym, subst, arith}
use Rattle.client_run.specs.Runs.{AddsRun, RunsTo}
use Rattle.client_run.specs.declared.outcome.Exchanged.{Exchanged}
use Rattle.client_run.specs.declared.outcome.Outcome.{Outcome}
use Rattle.client_run.specs.declared.outcome.Outcome.TheVariants as outcome
use Rattle.client_run.specs.declared.outcome.RunFault.{RunFault}
use Rattle.client_run.specs.declared.outcome.RunFault.TheVariants as fault
use Rattle.command_io.specs.Endings.{IsRefusal, IsRefusalOrMemory}
use Rattle.command_io.specs.declared.ending.Ending.TheVariants.{Finished, LinksFailed, WriteFailed, OutOfMemory}
use Rattle.command_io.specs.declared.status.Status.TheVariants.{Usage, SinkFault, LinkFault}
use Rattle.framing.specs.Frames.{frames_of}
use Rattle.ports.specs.Calls.{LinksReport}
use Rattle.ports.specs.Counts.{IsStill, Rose}
use Rattle.ports.specs.Writing.{Got, SinkReport}
use Rattle.command_client.specs.Asks.{HasAsked, QueryEnds}
use Rattle.command_client.specs.Queries.{query_frame}
use Rattle.command_client.specs.Endings.{ending_of, ending_of_fault, status_of}
use Rattle.command_client.specs.Exchanges.{ExchangeEnds, WritesAll, WritesReplies}
use Rattle.command_client.specs.Replies.{replies_from}
use Rattle.command_client.specs.declared.ending.ClientEnding.{ClientEnding}
use Rattle.command_client.specs.declared.ending.ClientEnding.TheVariants.{Shared, Lost, Unasked, Refused}

-- ---- the ending of an outcome

pub outcome_goes_on : (out : Outcome) (replies requests : ℕ)
    → IsRefusalOrMemory (status_of (ending_of out replies requests)) → ⊥
outcome_goes_on outcome.Whole replies requests is = is
outcome_goes_on _ replies requests is = is

pub outcome_is_accepted : (out : Outcome) (replies requests : ℕ)
    → IsRefusal (status_of (ending_of out replies requests)) → ⊥
outcome_is_accepted outcome.Whole replies requests is = is
outcome_is_accepted _ replies requests is = is

pub outcome_of_links : (out : Outcome) (replies requests : ℕ) → ending_of out replies requests ≢ Shared LinksFailed
outcome_of_links outcome.Whole replies requests is = cc
outcome_of_links _ replies requests is = cc

outcome_is_shown : (out : Outcome) (replies requests : ℕ) → HasAsked (status_of (ending_of out replies requests))
outcome_is_shown outcome.Whole replies requests = tt
outcome_is_shown _ replies requests = tt

-- the lines were written, and this is the ending of the outcome
pub writes_outcome : (requests : ℕ) (exchanged : Exchanged) (old new : SinkReport)
    → Got old.text (replies_from 0 exchanged.replies) new.text → new.faults ≡ old.faults
    → WritesReplies requests exchanged old new (ending_of exchanged.outcome (length exchanged.replies) requests)
writes_outcome requests exchanged old new lines quiet = by_outcome exchanged.outcome refl
  where
    all : (ending : ClientEnding) → ending ≡ ending_of exchanged.outcome (length exchanged.replies) requests
        → WritesAll requests exchanged old new ending
    all ending is = record { ended = is; lines = lines; no_fault = quiet }

    by_outcome : (out : Outcome) → exchanged.outcome ≡ out
        → WritesReplies requests exchanged old new (ending_of out (length exchanged.replies) requests)
    by_outcome outcome.Whole is =
        all (Shared Finished) (ap (λ (o : Outcome). ending_of o (length exchanged.replies) requests) (sym is))
    by_outcome (outcome.Unasked number) is =
        all (Unasked number) (ap (λ (o : Outcome). ending_of o (length exchanged.replies) requests) (sym is))
    by_outcome (outcome.Refused number place why) is =
        all (Refused number place why) (ap (λ (o : Outcome). ending_of o (length exchanged.replies) requests) (sym is))
    by_outcome outcome.Lost is =
        all (Lost (length exchanged.replies) requests)
        (ap (λ (o : Outcome). ending_of o (length exchanged.replies) requests) (sym is))

-- ---- the exchange

pub exchange_had : (address stream : List ℕ) (limit requests : ℕ) (links links' : LinksReport) (out out' : SinkReport)
    (ending : ClientEnding) (exchanged : Exchanged)
    → requests ≡ length (frames_of stream) → AddsRun links links' (RunsTo address stream limit (Ok exchanged))
    → WritesReplies requests exchanged out out' ending
    → ExchangeEnds address stream limit links links' out out' ending
exchange_had address stream limit requests links links' out out' ending exchanged count ran writes =
    inl (record {
      exchanged = exchanged;
      ran = ran;
      writes = subst (λ (n : ℕ). WritesReplies n exchanged out out' ending) count writes;
    })

pub exchange_cut : (address stream : List ℕ) (limit : ℕ) (links links' : LinksReport) (out : SinkReport)
    (fault : RunFault)
    → AddsRun links links' (RunsTo address stream limit (Err fault))
    → ExchangeEnds address stream limit links links' out out (Shared (ending_of_fault fault))
exchange_cut address stream limit links links' out fault ran =
    inr (record { fault = fault; ended = refl; ran = ran; untouched = refl })

-- ---- what a status says

by_outcome : (requests : ℕ) (exchanged : Exchanged) (old new : SinkReport) (ending : ClientEnding)
    → WritesAll requests exchanged old new ending → HasAsked (status_of ending)
by_outcome requests exchanged old new ending all =
    subst (λ (e : ClientEnding). HasAsked (status_of e)) (sym all.ended)
    (outcome_is_shown exchanged.outcome (length exchanged.replies) requests)

written_shown : (requests : ℕ) (exchanged : Exchanged) (old new : SinkReport) (ending : ClientEnding)
    → WritesReplies requests exchanged old new ending → (ending ≡ Shared WriteFailed → ⊥)
    → HasAsked (status_of ending)
written_shown requests exchanged old new (Shared WriteFailed) writes whole = absurd (whole refl)
written_shown requests exchanged old new (Shared OutOfMemory) writes whole = tt
written_shown requests exchanged old new ending writes whole = by_outcome requests exchanged old new ending writes

write_rose : (requests : ℕ) (exchanged : Exchanged) (old new : SinkReport) (ending : ClientEnding)
    → WritesReplies requests exchanged old new ending → ending ≡ Shared WriteFailed → Rose old.faults new.faults
write_rose requests exchanged old new ending writes is =
    let cut = subst (WritesReplies requests exchanged old new) is writes in cut.1

cut_shown : (fault : RunFault) (ending : ClientEnding) → ending ≡ Shared (ending_of_fault fault)
    → (ending ≡ Shared LinksFailed → ⊥) → HasAsked (status_of ending)
cut_shown fault.Links ending is works = absurd (works is)
cut_shown fault.Memory ending is works = subst (λ (e : ClientEnding). HasAsked (status_of e)) (sym is) tt

cut_not_written : (fault : RunFault) (ending : ClientEnding) → ending ≡ Shared (ending_of_fault fault)
    → ending ≡ Shared WriteFailed → ⊥
cut_not_written fault.Links ending is other = absurd (cc (is, other))
cut_not_written fault.Memory ending is other = absurd (cc (is, other))

module _ (address stream : List ℕ) (limit : ℕ) (links links' : LinksReport) (out out' : SinkReport)
    (ending : ClientEnding) (ends : ExchangeEnds address stream limit links links' out out' ending) where
  -- without a fault the status is one of an exchange, or memory ran out
  pub exchange_shown : (ending ≡ Shared LinksFailed → Rose links.faults links'.faults)
      → IsStill links.faults links'.faults → IsStill out.faults out'.faults → HasAsked (status_of ending)
  exchange_shown linked links_still out_still = elim ends [
    | inl had ↦ written_shown (length (frames_of stream)) had.exchanged out out' ending had.writes
        (λ is.
        let rose : Rose out.faults out'.faults =
        write_rose (length (frames_of stream)) had.exchanged out out' ending had.writes is in
        omega (arith, rose, out_still.0, out_still.1))
    | inr cut ↦
        cut_shown cut.fault ending cut.ended
        (λ is.
        let rose : Rose links.faults links'.faults = linked is in omega (arith, rose, links_still.0, links_still.1))
  ]

  pub exchange_put_rose : ending ≡ Shared WriteFailed → Rose out.faults out'.faults
  exchange_put_rose is = elim ends [
    | inl had ↦ write_rose (length (frames_of stream)) had.exchanged out out' ending had.writes is
    | inr cut ↦ absurd (cut_not_written cut.fault ending cut.ended is)
  ]

-- the same of a query, which may have had no request
pub asked_shown : (address text : List ℕ) (limit : ℕ) (links links' : LinksReport) (out out' : SinkReport)
    (ending : ClientEnding)
    → QueryEnds address text limit links links' out out' ending
    → (ending ≡ Shared LinksFailed → Rose links.faults links'.faults) → IsStill links.faults links'.faults
    → IsStill out.faults out'.faults → HasAsked (status_of ending)
asked_shown address text limit links links' out out' ending ends linked links_still out_still = elim ends [
  | inl none ↦ subst (λ (e : ClientEnding). HasAsked (status_of e)) (sym none.ended) tt
  | inr had ↦
      exchange_shown address (query_frame text) limit links links' out out' ending had linked links_still out_still
]

pub asked_put_rose : (address text : List ℕ) (limit : ℕ) (links links' : LinksReport) (out out' : SinkReport)
    (ending : ClientEnding)
    → QueryEnds address text limit links links' out out' ending
    → ending ≡ Shared WriteFailed → Rose out.faults out'.faults
asked_put_rose address text limit links links' out out' ending ends is = elim ends [
  | inl none ↦ absurd (cc (is, none.ended))
  | inr had ↦ exchange_put_rose address (query_frame text) limit links links' out out' ending had is
]

-- ---- endings, by their statuses

pub is_write_failed : (ending : ClientEnding) → status_of ending ≡ SinkFault → ending ≡ Shared WriteFailed
is_write_failed (Shared WriteFailed) e = refl
is_write_failed _ e = absurd (cc e)

pub is_links_failed : (ending : ClientEnding) → status_of ending ≡ LinkFault → ending ≡ Shared LinksFailed
is_links_failed (Shared LinksFailed) e = refl
is_links_failed _ e = absurd (cc e)

pub not_usage : (ending : ClientEnding) → status_of ending ≡ Usage → ⊥
not_usage (Shared Finished) e = cc
not_usage _ e = cc
