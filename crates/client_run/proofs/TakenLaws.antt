-- What one more turn adds to those that were taken.
use Rattle.std.proofs.Common.{◌≡◌, ℕ, ◌+◌, ◌<◌, inl, inr, List, [], ◌∷◌, ◌++◌, length, map, refl, ap, sym, ◌∙◌, subst}
use Rattle.std.proofs.Common.{arith, append-nil, length-append}
use Rattle.std.specs.List.{AllByRecursion}
use Rattle.std.proofs.lemmas.Grind.{flat_map-append}
use Rattle.std.proofs.lemmas.List.Sums.{fold-append}
use Rattle.ports.specs.declared.entry.Entry.{Entry}
use Rattle.ports.specs.declared.entry.Entry.TheVariants.{Next}
use Rattle.riemann_client.specs.Client.{Represents, link_of, replies_of, stream_of, wants_in}
use Rattle.riemann_client.specs.Exchange.{Exchange, begun, message_in, wants_of}
use Rattle.riemann_client.specs.Run.{AreGoing, ClientTurn, IsGoing, after_turn, entries_of, entries_of_turn}
use Rattle.riemann_client.specs.Run.{exchange_after, exchange_from}
use Rattle.riemann_client.specs.Sending.{AreSends}
use Rattle.riemann_client.specs.Turning.{Ends, FailsToSend, GoesOn, RunsOut as OutOfMemory, TurnsTo as ClientTurnsTo}
use Rattle.riemann_client.specs.Turning.{closing}
use Rattle.riemann_client.specs.declared.client.Client.{Client}
use Rattle.riemann_client.specs.declared.progress.Progress.{Progress}
use Rattle.riemann_client.specs.declared.progress.Progress.TheVariants as progress
use Rattle.riemann_client.proofs.RunLaws.{last_lem, sends_bring, turns_lem}
use Rattle.client_run.specs.Runs.{EndsAtLimit, EndsInTurn, GoesThrough, IsTurn, LosesLinks, RunsOut, StopsShort}
use Rattle.client_run.specs.Runs.{TakesLast, heard_last, progress_in}
use Rattle.client_run.specs.Taking.{AskFails, DoesTurn}
use Rattle.client_run.specs.declared.outcome.Outcome.{Outcome}
use Rattle.client_run.specs.declared.outcome.Outcome.TheVariants.{Whole, Unasked, Refused, Lost}

-- ---- lists of turns

all_more : {X : Type 0} (P : X → Type 0) (xs : List X) (last : X) → AllByRecursion P xs → P last
    → AllByRecursion P (xs ++ last ∷ [])
all_more P [] last all one = (one, tt)
all_more P (x ∷ xs) last all one = (all.0, all_more P xs last all.1 one)

entries_more : (turns : List ClientTurn) (last : ClientTurn)
    → entries_of (turns ++ last ∷ []) ≡ entries_of turns ++ entries_of_turn last
entries_more turns last =
    flat_map-append entries_of_turn turns (last ∷ [])
    ∙ ap (λ (run : List Entry). entries_of turns ++ run) (append-nil (entries_of_turn last))

exchange_more : (start : ℕ) (turns : List ClientTurn) (last : ClientTurn)
    → exchange_after start (turns ++ last ∷ []) ≡ after_turn (exchange_after start turns) last
exchange_more start turns last = fold-append after_turn (begun start) turns (last ∷ [])

going_more : (stream : List ℕ) (exchange : Exchange) (turns : List ClientTurn) (last : ClientTurn)
    → AreGoing stream exchange turns → IsGoing stream (exchange_from exchange turns) last
    → AreGoing stream exchange (turns ++ last ∷ [])
going_more stream exchange [] last going one = (one, tt)
going_more stream exchange (taken ∷ turns) last going one =
    (going.0, going_more stream (after_turn exchange taken) turns last going.1 one)

goes_nothing : (stream : List ℕ) (start : ℕ) → GoesThrough stream start []
goes_nothing stream start = record { going = tt; each = tt; sound = turns_lem stream start [] tt }

goes_more : (stream : List ℕ) (start : ℕ) (turns : List ClientTurn) (last : ClientTurn) → GoesThrough stream start turns
    → IsGoing stream (exchange_after start turns) last → IsTurn last
    → GoesThrough stream start (turns ++ last ∷ [])
goes_more stream start turns last before one came =
    let going : AreGoing stream (begun start) (turns ++ last ∷ []) =
    going_more stream (begun start) turns last before.going one in
    record {
      going = going;
      each = all_more IsTurn turns last before.each came;
      sound = turns_lem stream start (turns ++ last ∷ []) going;
    }

-- ---- turns that a client took, and went on after each

pub record Took (stream : List ℕ) (start : ℕ) (client : Client) (count : ℕ) (run : List Entry) : Type 0 where
  pub turns : List ClientTurn
  pub are : run ≡ entries_of turns
  pub takes : GoesThrough stream start turns
  pub count_is : length turns ≡ count
  pub stream_is : stream_of client ≡ stream
  pub represents : Represents client (exchange_after start turns)
  pub wants : wants_in client ≡ wants_of stream (exchange_after start turns)

pub took_nothing : (start : ℕ) (client : Client) → Represents client (begun start) → wants_in client ≡ []
    → Took (stream_of client) start client 0 []
took_nothing start client is wants = record {
  turns = [];
  are = refl;
  takes = goes_nothing (stream_of client) start;
  count_is = refl;
  stream_is = refl;
  represents = is;
  wants = wants;
}

module _ (stream : List ℕ) (start : ℕ) (one two : Client) (count : ℕ) (first second : List Entry)
    (took : Took stream start one count first) where
  -- the calls with those of one more turn
  entries_with : (last : ClientTurn) → second ≡ entries_of_turn last
      → first ++ second ≡ entries_of (took.turns ++ last ∷ [])
  entries_with last are =
      ap (λ (run : List Entry). run ++ second) took.are ∙ ap (λ (run : List Entry). entries_of took.turns ++ run) are
      ∙ sym (entries_more took.turns last)

  abbrev turn_of : (came : Progress) → DoesTurn one two came second → ClientTurn
  turn_of came does = record { wants = wants_in one; turn = does.turn; piece = does.piece; calls = does.calls }

  does_so : (came : Progress) (does : DoesTurn one two came second)
      → ClientTurnsTo two stream (exchange_after start took.turns) (heard_last start took.turns (turn_of came does))
      came does.calls
  does_so came does =
      subst
      (λ (s : List ℕ). ClientTurnsTo two s (exchange_after start took.turns)
      (heard_last start took.turns (turn_of came does)) came does.calls)
      took.stream_is
      (does.does (exchange_after start took.turns) took.represents)

  pub took_more : stream_of two ≡ stream_of one → DoesTurn one two progress.More second
      → Took stream start two (count + 1) (first ++ second)
  took_more same does =
      let last : ClientTurn = turn_of progress.More does in
      let before : Exchange = exchange_after start took.turns in
      let on : GoesOn two stream before (heard_last start took.turns last) does.calls = does_so progress.More does in
      let going : IsGoing stream before last =
      record { wanted = took.wants; going = on.due; may = on.may; works = on.works; settled = on.settled } in
      record {
        turns = took.turns ++ last ∷ [];
        are = entries_with last does.are;
        takes = goes_more stream start took.turns last took.takes going does.came;
        count_is = omega (arith, length-append took.turns (last ∷ []), took.count_is);
        stream_is = same ∙ took.stream_is;
        represents =
            subst (λ (e : Exchange). Represents two e) (sym (exchange_more start took.turns last)) on.represents;
        wants = on.wants ∙ ap (wants_of stream) (sym (exchange_more start took.turns last));
      }

  module _ (limit : ℕ) (fewer : count < limit) where
    few : length took.turns < limit
    few = omega (arith, took.count_is, fewer)

    takes_last : (came : Progress) (does : DoesTurn one two came second) (sends : List Entry)
        → AreSends stream sends (heard_last start took.turns (turn_of came does))
        → TakesLast stream start limit took.turns (turn_of came does) sends
    takes_last came does sends may = record {
      before = took.takes;
      fewer = few;
      wanted = took.wants;
      came = does.came;
      may = may;
      sound = last_lem stream start took.turns (turn_of came does) sends took.takes.going may;
    }

    ends_heard : (outcome : Outcome) (does : DoesTurn one two (progress_in outcome) second)
        → Ends two stream (exchange_after start took.turns)
        (heard_last start took.turns (turn_of (progress_in outcome) does)) (progress_in outcome) does.calls
        → EndsInTurn stream start limit outcome (replies_of two) (first ++ second)
    ends_heard outcome does ends =
        let last : ClientTurn = turn_of (progress_in outcome) does in
        record {
          turns = took.turns;
          last = last;
          sends = [];
          are = entries_with last does.are;
          takes = takes_last (progress_in outcome) does [] tt;
          ended = inl (record { is = ends.is; none = refl });
          closed = ends.calls_are;
          accepted = ends.replies;
        }

    ends_unsent : (does : DoesTurn one two progress.Lost second)
        → FailsToSend two stream (exchange_after start took.turns)
        (heard_last start took.turns (turn_of progress.Lost does)) does.calls
        → EndsInTurn stream start limit Lost (replies_of two) (first ++ second)
    ends_unsent does fails =
        let last : ClientTurn = turn_of progress.Lost does in
        record {
          turns = took.turns;
          last = last;
          sends = fails.sends;
          are = entries_with last does.are;
          takes = takes_last progress.Lost does fails.sends fails.may;
          ended = inr (record { lost = refl; going = fails.due; failed = fails.failed });
          closed = fails.calls_are;
          accepted =
              fails.replies
              ∙ ap (map message_in) (sym (sends_bring fails.sends (heard_last start took.turns last)).replies);
        }

    pub ends_in_turn : (outcome : Outcome) → DoesTurn one two (progress_in outcome) second
        → EndsInTurn stream start limit outcome (replies_of two) (first ++ second)
    ends_in_turn Whole does = ends_heard Whole does (does_so progress.Whole does)
    ends_in_turn (Unasked number) does = ends_heard (Unasked number) does (does_so (progress.Unasked number) does)
    ends_in_turn (Refused number place why) does =
        ends_heard (Refused number place why) does (does_so (progress.Refused number place why) does)
    ends_in_turn Lost does = elim (does_so progress.Lost does) [
      | inl ends ↦ ends_heard Lost does ends
      | inr fails ↦ ends_unsent does fails
    ]

    pub loses_links : AskFails (wants_in one) second → LosesLinks stream start limit (first ++ second)
    loses_links asked = record {
      turns = took.turns;
      turn = asked.turn;
      are =
          ap (λ (run : List Entry). run ++ second) took.are
          ∙ ap (λ (run : List Entry). entries_of took.turns ++ run)
          (asked.are ∙ ap (λ wants. Next wants asked.turn [] ∷ []) took.wants);
      takes = took.takes;
      fewer = few;
      failed = asked.failed;
    }

    pub runs_out : second ≡ [] → RunsOut stream start limit (first ++ second)
    runs_out none = record {
      turns = took.turns;
      are = ap (λ (run : List Entry). first ++ run) none ∙ append-nil first ∙ took.are;
      takes = took.takes;
      fewer = few;
    }

    pub stops_short : DoesTurn one two progress.Memory second → StopsShort stream start limit (first ++ second)
    stops_short does =
        let last : ClientTurn = turn_of progress.Memory does in
        let out : OutOfMemory stream (exchange_after start took.turns) (heard_last start took.turns last) does.calls =
        does_so progress.Memory does in
        record {
          turns = took.turns;
          last = last;
          are = entries_with last does.are;
          takes = takes_last progress.Memory does does.calls out.may;
          none = out.none;
        }

  -- no turn is left, and the link was closed
  pub ends_at_limit : second ≡ closing (link_of one) → replies_of two ≡ replies_of one → (limit : ℕ) → count ≡ limit
      → EndsAtLimit stream start limit Lost (replies_of two) (first ++ second)
  ends_at_limit closed same limit all = record {
    turns = took.turns;
    are =
        ap (λ (run : List Entry). run ++ second) took.are
        ∙ ap (λ (run : List Entry). entries_of took.turns ++ run) (closed ∙ ap closing took.represents.link);
    takes = took.takes;
    all = took.count_is ∙ all;
    lost = refl;
    accepted = same ∙ took.represents.replies;
  }
