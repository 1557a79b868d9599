-- What one call of links that record asks of the inner links.
use Rattle.std.proofs.Common.{◌≡◌, ◌⊎◌, inl, inr, ℕ, Bool, true, false, List, [], ◌∷◌, length, refl, sym, ◌∙◌, ap}
use Rattle.std.proofs.Common.{subst}
use Rattle.std.specs.Prelude.{Option, Some, None}
use Rattle.journal_format.specs.declared.turn_record.Summary.{Summary}
use Rattle.ports.specs.Calls.{AddsCalls, LinksReport}
use Rattle.ports.specs.Links.{listen_entries, next_entries, send_entries}
use Rattle.ports.specs.declared.entry.Entry.{Entry}
use Rattle.ports.specs.declared.entry.Entry.TheVariants.{Close}
use Rattle.ports.specs.declared.links.ListenAnswer.{ListenAnswer}
use Rattle.ports.specs.declared.links.SendAnswer.{SendAnswer}
use Rattle.ports.specs.declared.links.SendAnswer.TheVariants as send
use Rattle.ports.specs.declared.links.Turn.{Turn}
use Rattle.ports.specs.declared.links.Want.{Want}
use Rattle.ports.specs.declared.links.What.{What}
use Rattle.ports.specs.declared.links.What.TheVariants.{Memory}
use Rattle.ports.proofs.CallLemmas.{no_calls}
use Rattle.recorded_links.specs.Keeping.{HandsOut}
use Rattle.recorded_links.specs.Numbers.{inner_number}
use Rattle.recorded_links.specs.Sending.{may_note}
use Rattle.recorded_links.specs.Steps.{Asks, CloseStep, ListenStep, NextStep, Seen, SendStep, Unsent, answered}
use Rattle.recorded_links.specs.Steps.{listen_refused, listen_taken, next_full, next_refused, next_taken, not_asked}
use Rattle.recorded_links.specs.Passing.{IsPassed, closed, closed_own, listens, sent, stops, turns, unasked, unsent}

pub record AsksOnce (first : ℕ) (sends : List Summary) (made : List Entry) (old new : LinksReport) : Type 0 where
  pub more : List Entry
  pub is : IsPassed first sends made more
  pub adds : AddsCalls old new more

-- nothing was asked
pub asks_none : (first : ℕ) (sends : List Summary) (made : List Entry) (old new : LinksReport)
    → IsPassed first sends made [] → new ≡ old → AsksOnce first sends made old new
asks_none first sends made old new is same =
    record {
      more = [];
      is = is;
      adds = subst (λ (report : LinksReport). AddsCalls old report []) (sym same)
          (no_calls old);
    }

pub memory_next : (wants : List Want) (buf : List ℕ) (turn : Turn) → turn.what ≡ Memory
    → next_entries wants buf turn ≡ []
memory_next wants buf turn memory = rw memory refl

takes_asks : (sends : List Summary) (first : ℕ) (old new : LinksReport) (wants : List Want) (buf : List ℕ)
    (turn asked : Turn) → Asks first old new wants buf asked → HandsOut asked.what asked turn
    → AsksOnce first sends (next_entries wants buf turn) old new
takes_asks sends first old new wants buf turn asked (not_asked memory same) hands =
    let kept : turn ≡ asked = subst (λ (what : What). HandsOut what asked turn) memory hands in
    asks_none first sends (next_entries wants buf turn) old new
    (unasked (memory_next wants buf turn (ap (λ (turn : Turn). turn.what) kept ∙ memory)) refl) same
takes_asks sends first old new wants buf turn asked (answered answer adds cause is) hands =
    record {
      more = _;
      is = turns wants buf answer turn (subst (λ (own : Turn). HandsOut own.what own turn) is hands)
          refl refl;
      adds = adds;
    }

pub next_asks : (old new : Seen) (wants : List Want) (buf : List ℕ) (turn : Turn) → NextStep old new wants buf turn
    → AsksOnce old.first old.sends (next_entries wants buf turn) old.inner new.inner
next_asks old new wants buf turn (next_refused why memory rests) =
    asks_none old.first old.sends (next_entries wants buf turn) old.inner new.inner
    (unasked (memory_next wants buf turn memory) refl) rests.inner
next_asks old new wants buf turn (next_full ready full stopped rests) =
    asks_none old.first old.sends (next_entries wants buf turn) old.inner new.inner
    (stops wants (ap (next_entries wants buf) stopped) refl) rests.inner
next_asks old new wants buf turn (next_taken takes) =
    takes_asks old.sends old.first old.inner new.inner wants buf turn takes.asked takes.asks takes.hands

pub listen_asks : (old new : Seen) (address : List ℕ) (answer : ListenAnswer) → ListenStep old new address answer
    → AsksOnce old.first old.sends (listen_entries address answer) old.inner new.inner
listen_asks old new address answer (listen_refused why memory rests) =
    asks_none old.first old.sends (listen_entries address answer) old.inner new.inner
    (unasked (ap (listen_entries address) memory) refl) rests.inner
listen_asks old new address answer (listen_taken takes) =
    record { more = _; is = listens address takes.asked answer takes.hands refl refl; adds = takes.asks }

pub send_asks : (old new : Seen) (link : ℕ) (bytes : List ℕ) (answer : SendAnswer) → SendStep old new link bytes answer
    → AsksOnce old.first old.sends (send_entries link bytes answer) old.inner new.inner
send_asks old new link bytes answer step = by_number (inner_number old.first link) refl
  where
    held_back : (inner_number old.first link ≡ None) ⊎ (may_note link (length bytes) old.sends ≡ false)
        → answer ≡ send.Later → new.inner ≡ old.inner
        → AsksOnce old.first old.sends (send_entries link bytes answer) old.inner new.inner
    held_back why later same =
        asks_none old.first old.sends (send_entries link bytes answer) old.inner new.inner
        (unsent link bytes why (ap (send_entries link bytes) later) refl) same

    by_note : (number : ℕ) → inner_number old.first link ≡ Some number → (t : Bool)
        → may_note link (length bytes) old.sends ≡ t
        → AsksOnce old.first old.sends (send_entries link bytes answer) old.inner new.inner
    by_note number at true may =
        record { more = _; is = sent link number bytes answer at may refl refl; adds = step.passed number at may }
    by_note number at false may = let held = step.unnoted may in held_back (inr may) held.0 held.1

    by_number : (number : Option ℕ) → inner_number old.first link ≡ number
        → AsksOnce old.first old.sends (send_entries link bytes answer) old.inner new.inner
    by_number None at = let held = step.own at in held_back (inl at) held.0 held.1
    by_number (Some number) at = by_note number at (may_note link (length bytes) old.sends) refl

pub unsent_asks : (old new : Seen) (link : ℕ) (bytes : List ℕ) (answer : SendAnswer) → answer ≡ send.Memory
    → Unsent old new → AsksOnce old.first old.sends (send_entries link bytes answer) old.inner new.inner
unsent_asks old new link bytes answer memory none =
    record { more = []; is = unasked (ap (send_entries link bytes) memory) refl; adds = none.calls }

pub close_asks : (old new : Seen) (link : ℕ) → CloseStep old new link
    → AsksOnce old.first old.sends (Close link ∷ []) old.inner new.inner
close_asks old new link step = by_number (inner_number old.first link) refl
  where
    by_number : (number : Option ℕ) → inner_number old.first link ≡ number
        → AsksOnce old.first old.sends (Close link ∷ []) old.inner new.inner
    by_number None at =
        asks_none old.first old.sends (Close link ∷ []) old.inner new.inner (closed_own link at refl refl) (step.own at)
    by_number (Some number) at = record { more = _; is = closed link number at refl refl; adds = step.passed number at }
