-- The link that is not closed, along a log.
use Rattle.std.proofs.Common.{◌≡◌, ℕ, ◌==◌, Bool, ◌||◌, List, [], ◌∷◌, ◌++◌, fold, refl, ap, sym, ◌∙◌, subst, IsTrue}
use Rattle.std.specs.Prelude.{Option, Some, None}
use Rattle.std.specs.Option.{option_or}
use Rattle.std.specs.List.{list_any}
use Rattle.std.proofs.lemmas.Bool.{eq-eqb}
use Rattle.std.proofs.lemmas.List.Sums.{fold-append}
use Rattle.ports.specs.declared.entry.Entry.{Entry}
use Rattle.ports.specs.declared.entry.Entry.TheVariants.{Next}
use Rattle.ports.specs.declared.links.SendAnswer.{SendAnswer}
use Rattle.ports.specs.declared.links.SendAnswer.TheVariants as send
use Rattle.ports.specs.declared.links.Turn.{Turn}
use Rattle.ports.specs.declared.links.What.{What}
use Rattle.ports.specs.declared.links.What.TheVariants.{Idle, Opened, Read, Ended, Broken, Room, Stopped, Failed}
use Rattle.ports.specs.declared.links.What.TheVariants.{Memory}
use Rattle.ports.specs.Links.{MayClose, is_unclosed, send_entries, unclosed, unclosed_after, unclosed_after_turn}
use Rattle.riemann_client.specs.Client.{Answered, EndsWith, IsUnclosed}
use Rattle.riemann_client.specs.Exchange.{link_after}

unclosed_grown : (before run : List Entry) → unclosed (before ++ run) ≡ fold unclosed_after (unclosed before) run
unclosed_grown before run = fold-append unclosed_after [] before run

-- a send closes no link
send_keeps : (number other : ℕ) (bytes : List ℕ) (answer : SendAnswer) (entries : List Entry)
    → is_unclosed other entries ≡ is_unclosed other (entries ++ send_entries number bytes answer)
send_keeps number other bytes answer entries =
    ap (list_any (λ (o : ℕ). o == other))
    (sym (unclosed_grown entries (send_entries number bytes answer) ∙ by_answer answer))
  where
    by_answer : (answer : SendAnswer)
        → fold unclosed_after (unclosed entries) (send_entries number bytes answer) ≡ unclosed entries
    by_answer (send.Took count) = refl
    by_answer send.Later = refl
    by_answer send.Failed = refl
    by_answer send.Memory = refl

-- the link that a turn opened
opened_now : (log : Option (List Entry)) (turn : Turn) (number : ℕ) → turn.what ≡ Opened number → Answered log turn
    → MayClose log number
opened_now log turn number is answered entries reported =
    let ends : EndsWith turn entries = answered entries reported in
    let last : unclosed entries ≡ number ∷ unclosed ends.before =
    ap unclosed ends.is ∙ unclosed_grown ends.before (Next ends.wants turn ends.piece ∷ [])
    ∙ ap (unclosed_after_turn (unclosed ends.before)) is in
    subst (λ (ls : List ℕ). IsTrue (list_any (λ (o : ℕ). o == number) ls)) (sym last)
    (subst (λ (b : Bool). IsTrue (b || list_any (λ (o : ℕ). o == number) (unclosed ends.before)))
    (sym (eq-eqb number number refl)) refl)

pub known_after_turn : (log : Option (List Entry)) (turn : Turn) (link : Option ℕ) → Answered log turn
    → IsUnclosed log link → IsUnclosed log (link_after turn.what link)
known_after_turn log turn link answered known = by_what turn.what refl
  where
    by_link : (link : Option ℕ) (number : ℕ) → turn.what ≡ Opened number → IsUnclosed log link
        → IsUnclosed log (option_or link (Some number))
    by_link None number is known = opened_now log turn number is answered
    by_link (Some other) number is known = known

    by_what : (what : What) → turn.what ≡ what → IsUnclosed log (link_after what link)
    by_what Idle is = known
    by_what (Opened number) is = by_link link number is known
    by_what (Read number count) is = known
    by_what (Ended number) is = known
    by_what (Broken number) is = known
    by_what (Room number) is = known
    by_what Stopped is = known
    by_what Failed is = known
    by_what Memory is = known
