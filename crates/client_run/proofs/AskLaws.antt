-- How a turn is asked for, and then taken.
use Rattle.std.proofs.Common.{◌≡◌, ◌≢◌, ℕ, ◌==◌, ◌||◌, inl, inr, Bool, true, false, List, [], ◌∷◌, ◌++◌, Ok, Err}
use Rattle.std.proofs.Common.{IsTrue, refl, ap, sym, ◌∙◌, subst}
use Rattle.std.specs.Prelude.{Option, Some, None}
use Rattle.std.specs.List.{list_any}
use Rattle.std.proofs.lemmas.List.Sums.{fold-append}
use Rattle.ports.specs.Calls.{LinksReport}
use Rattle.ports.specs.Links.{grown, is_unclosed, piece_of, unclosed, unclosed_after, unclosed_after_turn}
use Rattle.ports.specs.Playing.{is_turn_answer}
use Rattle.ports.specs.declared.entry.Entry.{Entry}
use Rattle.ports.specs.declared.entry.Entry.TheVariants.{Next}
use Rattle.ports.specs.declared.links.Turn.{Turn}
use Rattle.ports.specs.declared.links.Want.{Want}
use Rattle.ports.specs.declared.links.What.{What}
use Rattle.ports.specs.declared.links.What.TheVariants.{Idle, Opened, Read, Ended, Broken, Room, Stopped, Failed}
use Rattle.ports.specs.declared.links.What.TheVariants.{Memory as NoMemory}
use Rattle.riemann_client.specs.Client.{Answered, EndsWith, IsUnclosed, wants_in}
use Rattle.riemann_client.specs.Sending.{MakesCalls}
use Rattle.riemann_client.specs.Turning.{TurnsFrom}
use Rattle.riemann_client.specs.declared.client.Client.{Client}
use Rattle.riemann_client.specs.declared.progress.Progress.{Progress}
use Rattle.riemann_client.specs.declared.progress.Progress.TheVariants as progress
use Rattle.client_run.specs.Runs.{AddsRun}
use Rattle.client_run.specs.Taking.{AsksFor, DoesTurn, TakesTurn, answer_of}
use Rattle.client_run.specs.declared.outcome.Outcome.{Outcome}
use Rattle.client_run.specs.declared.outcome.RunFault.{RunFault}
use Rattle.client_run.specs.declared.outcome.RunFault.TheVariants.{Links, Memory}
use Rattle.client_run.proofs.AddsLaws.{adds_then, adds_made}

-- ---- a turn closes no link

either : (a b : Bool) → b ≡ true → (a || b) ≡ true
either true b is = refl
either false b is = is

still_unclosed : (number : ℕ) (links : List ℕ) (what : What) → IsTrue (list_any (λ (o : ℕ). o == number) links)
    → IsTrue (list_any (λ (o : ℕ). o == number) (unclosed_after_turn links what))
still_unclosed number links Idle is = is
still_unclosed number links (Opened other) is = either (other == number) (list_any (λ (o : ℕ). o == number) links) is
still_unclosed number links (Read other count) is = is
still_unclosed number links (Ended other) is = is
still_unclosed number links (Broken other) is = is
still_unclosed number links (Room other) is = is
still_unclosed number links Stopped is = is
still_unclosed number links Failed is = is
still_unclosed number links NoMemory is = is

known_next : (log : Option (List Entry)) (link : Option ℕ) (wants : List Want) (turn : Turn) (piece : List ℕ)
    → IsUnclosed log link → IsUnclosed (grown log (Next wants turn piece ∷ [])) link
known_next log None wants turn piece known = tt
known_next None (Some number) wants turn piece known = λ entries is. absurd (cc is)
known_next (Some log) (Some number) wants turn piece known = λ entries is.
    let same : log ++ Next wants turn piece ∷ [] ≡ entries = cc in
    subst (λ (es : List Entry). IsTrue (is_unclosed number es)) same
    (subst (λ (ls : List ℕ). IsTrue (list_any (λ (o : ℕ). o == number) ls))
    (sym (fold-append unclosed_after [] log (Next wants turn piece ∷ [])))
    (still_unclosed number (unclosed log) turn.what (known log refl)))

-- ---- a turn was asked for

module _ (before after : LinksReport) (asked : List Want) (buf : List ℕ) (turn : Turn)
    (asks : AddsRun before after (AsksFor asked buf (Ok turn))) where
  asked_log : after.log ≡ grown before.log (Next asked turn (piece_of turn.what buf) ∷ [])
  asked_log = asks.grew.log ∙ ap (grown before.log) asks.holds

  pub asked_known : (link : Option ℕ) → IsUnclosed before.log link → IsUnclosed after.log link
  asked_known link known =
      subst (λ (l : Option (List Entry)). IsUnclosed l link) (sym asked_log)
      (known_next before.log link asked turn (piece_of turn.what buf) known)

  pub asked_answered : Answered after.log turn
  asked_answered = subst (λ (l : Option (List Entry)). Answered l turn) (sym asked_log) (ends_with before.log)
    where
      ends_with : (log : Option (List Entry)) (entries : List Entry)
          → grown log (Next asked turn (piece_of turn.what buf) ∷ []) ≡ Some entries → EndsWith turn entries
      ends_with None entries is = absurd (cc is)
      ends_with (Some log) entries is =
          let same : log ++ Next asked turn (piece_of turn.what buf) ∷ [] ≡ entries = cc in
          record { before = log; wants = asked; piece = piece_of turn.what buf; is = sym same }

pub ask_failed : (fault : RunFault) (client client' : Client) (buf : List ℕ) (run : List Entry)
    → AsksFor (wants_in client) buf (Err fault) run
    → TakesTurn client client' (Err fault) run
ask_failed Links client client' buf run asks = asks
ask_failed Memory client client' buf run asks = inl asks

-- ---- the turn that came

turn_is : (what : What) → what ≢ Failed → what ≢ NoMemory → is_turn_answer what ≡ true
turn_is Idle fails none = refl
turn_is (Opened number) fails none = refl
turn_is (Read number count) fails none = refl
turn_is (Ended number) fails none = refl
turn_is (Broken number) fails none = refl
turn_is (Room number) fails none = refl
turn_is Stopped fails none = refl
turn_is Failed fails none = absurd (fails refl)
turn_is NoMemory fails none = absurd (none refl)

pub turn_done : (a b c : LinksReport) (client client' : Client) (buf piece : List ℕ) (turn : Turn) (came : Progress)
    → AddsRun a b (AsksFor (wants_in client) buf (Ok turn))
    → turn.what ≢ Failed → turn.what ≢ NoMemory → piece ≡ piece_of turn.what buf
    → MakesCalls b c (TurnsFrom turn piece client client' came)
    → AddsRun a c (DoesTurn client client' came)
turn_done a b c client client' buf piece turn came asks not_failed not_memory is does =
    adds_then a b c (AsksFor (wants_in client) buf (Ok turn)) (TurnsFrom turn piece client client' came)
    (DoesTurn client client' came)
    asks (adds_made b c (TurnsFrom turn piece client client' came) does)
    (λ first second asked turns. record {
      turn = turn;
      piece = piece;
      calls = second;
      are =
          ap (λ (run : List Entry). run ++ second) asked
          ∙ ap (λ (bytes : List ℕ). Next (wants_in client) turn bytes ∷ second) (sym is);
      came = turn_is turn.what not_failed not_memory;
      does = turns;
    })

-- what the turn is answered as
pub done_as : (a c : LinksReport) (client client' : Client) (came : Progress)
    → AddsRun a c (DoesTurn client client' came) → AddsRun a c (TakesTurn client client' (answer_of came))
done_as a c client client' progress.More does = does
done_as a c client client' progress.Whole does = does
done_as a c client client' (progress.Unasked number) does = does
done_as a c client client' (progress.Refused number place why) does = does
done_as a c client client' progress.Lost does = does
done_as a c client client' progress.Memory does = record { run = does.run; grew = does.grew; holds = inr does.holds }

-- a turn that is not the last came to More
pub answered_more : (came : Progress) (outcome : Option Outcome) → answer_of came ≡ Ok outcome → outcome ≡ None
    → came ≡ progress.More
answered_more progress.More outcome is none = refl
answered_more progress.Whole outcome is none = absurd (cc (is, none))
answered_more (progress.Unasked number) outcome is none = absurd (cc (is, none))
answered_more (progress.Refused number place why) outcome is none = absurd (cc (is, none))
answered_more progress.Lost outcome is none = absurd (cc (is, none))
answered_more progress.Memory outcome is none = absurd (cc (is, none))
