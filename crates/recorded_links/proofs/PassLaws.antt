-- Which call of the inner links is made for one of links that record.
use Rattle.std.proofs.Common.{◌≡◌, ◌≢◌, ◌⊎◌, inl, inr, ℕ, Bool, true, false, List, [], ◌∷◌, ◌++◌, length, refl, sym}
use Rattle.std.proofs.Common.{◌∙◌, ap, subst}
use Rattle.std.specs.Prelude.{Option, Some, None}
use Rattle.ports.specs.Calls.{AddsCalls, LinksReport}
use Rattle.ports.specs.Links.{listen_entries, next_entries, send_entries}
use Rattle.ports.specs.declared.entry.Entry.{Entry}
use Rattle.ports.specs.declared.entry.Entry.TheVariants.{Close}
use Rattle.ports.specs.declared.links.ListenAnswer.{ListenAnswer}
use Rattle.ports.specs.declared.links.SendAnswer.{SendAnswer}
use Rattle.ports.specs.declared.links.SendAnswer.TheVariants as send
use Rattle.ports.specs.declared.links.Turn.{Turn}
use Rattle.ports.specs.declared.links.Want.{Want}
use Rattle.ports.specs.declared.links.What.{What}
use Rattle.ports.specs.declared.links.What.TheVariants.{Memory}
use Rattle.ports.proofs.CallLemmas.{calls_then, no_calls}
use Rattle.recorded_links.specs.Keeping.{HandsOut}
use Rattle.recorded_links.specs.Numbers.{inner_number}
use Rattle.recorded_links.specs.Sending.{may_note}
use Rattle.recorded_links.specs.Steps.{Asks, CloseStep, ListenStep, NextStep, Seen, SendStep, Unsent, answered}
use Rattle.recorded_links.specs.Steps.{listen_refused, listen_taken, next_full, next_refused, next_taken, not_asked}
use Rattle.recorded_links.specs.Lending.{Passed}
use Rattle.recorded_links.specs.Noting.{noted}
use Rattle.recorded_links.specs.Passing.{IsPassed, closed, closed_own, listens, none_made, one_made, sent, stops, turns}
use Rattle.recorded_links.specs.Passing.{unasked, unsent}

-- ---- before the first call

pub passed_none : (first : ℕ) (links links' : LinksReport) → links' ≡ links → Passed first links [] links'
passed_none first links links' same = record {
  asked = [];
  adds = subst (λ (report : LinksReport). AddsCalls links report []) (sym same) (no_calls links);
  passes = none_made refl refl;
}

-- one call more
passed_more : (first : ℕ) (lent old new : LinksReport) (calls calls' made more : List Entry)
    → Passed first lent calls old → IsPassed first (noted calls).sends made more → AddsCalls old new more
    → calls' ≡ calls ++ made → Passed first lent calls' new
passed_more first lent old new calls calls' made more so_far is adds log = record {
  asked = so_far.asked ++ more;
  adds = calls_then lent old new so_far.asked more so_far.adds adds;
  passes = one_made calls made so_far.asked more so_far.passes is log refl;
}

-- one for which nothing was asked
passed_own : (first : ℕ) (lent old new : LinksReport) (calls calls' made : List Entry) → Passed first lent calls old
    → IsPassed first (noted calls).sends made [] → new ≡ old → calls' ≡ calls ++ made → Passed first lent calls' new
passed_own first lent old new calls calls' made so_far is same log =
    passed_more first lent old new calls calls' made [] so_far is
    (subst (λ (report : LinksReport). AddsCalls old report []) (sym same) (no_calls old)) log

-- ---- `next`

memory_next : (wants : List Want) (buf : List ℕ) (turn : Turn) → turn.what ≡ Memory → next_entries wants buf turn ≡ []
memory_next wants buf turn memory = rw memory refl

takes_passed : (lent : LinksReport) (old new : Seen) (calls calls' : List Entry) (wants : List Want) (buf : List ℕ)
    (turn asked : Turn) → Passed old.first lent calls old.inner → calls' ≡ calls ++ next_entries wants buf turn
    → Asks old.first old.inner new.inner wants buf asked → HandsOut asked.what asked turn
    → Passed old.first lent calls' new.inner
takes_passed lent old new calls calls' wants buf turn asked so_far log (not_asked memory same) hands =
    let kept : turn ≡ asked = subst (λ (what : What). HandsOut what asked turn) memory hands in
    passed_own old.first lent old.inner new.inner calls calls' (next_entries wants buf turn) so_far
    (unasked (memory_next wants buf turn (ap (λ (turn : Turn). turn.what) kept ∙ memory)) refl) same log
takes_passed lent old new calls calls' wants buf turn asked so_far log (answered answer adds cause is) hands =
    passed_more old.first lent old.inner new.inner calls calls' (next_entries wants buf turn) _ so_far
    (turns wants buf answer turn (subst (λ (own : Turn). HandsOut own.what own turn) is hands) refl refl) adds log

pub passed_next : (lent : LinksReport) (old new : Seen) (calls calls' : List Entry) (wants : List Want) (buf : List ℕ)
    (turn : Turn) → Passed old.first lent calls old.inner → calls' ≡ calls ++ next_entries wants buf turn
    → NextStep old new wants buf turn
    → Passed old.first lent calls' new.inner
passed_next lent old new calls calls' wants buf turn so_far log (next_refused why memory rests) =
    passed_own old.first lent old.inner new.inner calls calls' (next_entries wants buf turn) so_far
    (unasked (memory_next wants buf turn memory) refl) rests.inner log
passed_next lent old new calls calls' wants buf turn so_far log (next_full ready full stopped rests) =
    passed_own old.first lent old.inner new.inner calls calls' (next_entries wants buf turn) so_far
    (stops wants (ap (next_entries wants buf) stopped) refl) rests.inner log
passed_next lent old new calls calls' wants buf turn so_far log (next_taken takes) =
    takes_passed lent old new calls calls' wants buf turn takes.asked so_far log takes.asks takes.hands

-- ---- the other calls

pub passed_listen : (lent : LinksReport) (old new : Seen) (calls calls' : List Entry) (address : List ℕ)
    (answer : ListenAnswer) → Passed old.first lent calls old.inner → calls' ≡ calls ++ listen_entries address answer
    → ListenStep old new address answer
    → Passed old.first lent calls' new.inner
passed_listen lent old new calls calls' address answer so_far log (listen_refused why memory rests) =
    passed_own old.first lent old.inner new.inner calls calls' (listen_entries address answer) so_far
    (unasked (ap (listen_entries address) memory) refl) rests.inner log
passed_listen lent old new calls calls' address answer so_far log (listen_taken takes) =
    passed_more old.first lent old.inner new.inner calls calls' (listen_entries address answer)
    (listen_entries address takes.asked) so_far (listens address takes.asked answer takes.hands refl refl) takes.asks
    log

pub passed_send : (lent : LinksReport) (old new : Seen) (calls calls' : List Entry) (link : ℕ) (bytes : List ℕ)
    (answer : SendAnswer) → Passed old.first lent calls old.inner → (noted calls).sends ≡ old.sends
    → calls' ≡ calls ++ send_entries link bytes answer → (answer ≢ send.Memory → SendStep old new link bytes answer)
    → (answer ≡ send.Memory → Unsent old new) → Passed old.first lent calls' new.inner
passed_send lent old new calls calls' link bytes answer so_far sends_are log step nothing = by_answer answer refl
  where
    held_back : SendStep old new link bytes answer
        → (inner_number old.first link ≡ None) ⊎ (may_note link (length bytes) (noted calls).sends ≡ false)
        → answer ≡ send.Later → new.inner ≡ old.inner → Passed old.first lent calls' new.inner
    held_back step why later same =
        passed_own old.first lent old.inner new.inner calls calls' (send_entries link bytes answer) so_far
        (unsent link bytes why (ap (send_entries link bytes) later) refl) same log

    noted_as : (t : Bool) → may_note link (length bytes) old.sends ≡ t
        → may_note link (length bytes) (noted calls).sends ≡ t
    noted_as t is = ap (may_note link (length bytes)) sends_are ∙ is

    by_note : SendStep old new link bytes answer → (number : ℕ) → inner_number old.first link ≡ Some number → (t : Bool)
        → may_note link (length bytes) old.sends ≡ t → Passed old.first lent calls' new.inner
    by_note step number at true may =
        passed_more old.first lent old.inner new.inner calls calls' (send_entries link bytes answer)
        (send_entries number bytes answer) so_far (sent link number bytes answer at (noted_as true may) refl refl)
        (step.passed number at may) log
    by_note step number at false may =
        let held = step.unnoted may in held_back step (inr (noted_as false may)) held.0 held.1

    by_number : SendStep old new link bytes answer → (number : Option ℕ) → inner_number old.first link ≡ number
        → Passed old.first lent calls' new.inner
    by_number step None at = let held = step.own at in held_back step (inl at) held.0 held.1
    by_number step (Some number) at = by_note step number at (may_note link (length bytes) old.sends) refl

    by_answer : (asked : SendAnswer) → answer ≡ asked → Passed old.first lent calls' new.inner
    by_answer (send.Took count) is =
        by_number (step (λ memory. absurd (cc (is, memory)))) (inner_number old.first link) refl
    by_answer send.Later is = by_number (step (λ memory. absurd (cc (is, memory)))) (inner_number old.first link) refl
    by_answer send.Failed is = by_number (step (λ memory. absurd (cc (is, memory)))) (inner_number old.first link) refl
    by_answer send.Memory is =
        let none = nothing is in
        passed_more old.first lent old.inner new.inner calls calls' (send_entries link bytes answer) [] so_far
        (unasked (ap (send_entries link bytes) is) refl) none.calls log

pub passed_close : (lent : LinksReport) (old new : Seen) (calls calls' : List Entry) (link : ℕ)
    → Passed old.first lent calls old.inner → calls' ≡ calls ++ Close link ∷ [] → CloseStep old new link
    → Passed old.first lent calls' new.inner
passed_close lent old new calls calls' link so_far log step = by_number (inner_number old.first link) refl
  where
    by_number : (number : Option ℕ) → inner_number old.first link ≡ number → Passed old.first lent calls' new.inner
    by_number None at =
        passed_own old.first lent old.inner new.inner calls calls' (Close link ∷ []) so_far
        (closed_own link at refl refl) (step.own at) log
    by_number (Some number) at =
        passed_more old.first lent old.inner new.inner calls calls' (Close link ∷ []) (Close number ∷ []) so_far
        (closed link number at refl refl) (step.passed number at) log
