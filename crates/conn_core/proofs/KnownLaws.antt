-- The links that are not closed, along a log.
use Rattle.std.proofs.Common.{◌≡◌, ◌≢◌, ℕ, ◌+◌, ◌<◌, ◌≤◌, ◌==◌, ◌⊎◌, inl, inr, Bool, true, false, not, ◌||◌, List, []}
use Rattle.std.proofs.Common.{◌∷◌, ◌++◌, length, fold, refl, ap, sym, ◌∙◌, subst, arith, IsTrue}
use Rattle.std.specs.Prelude.{Option, Some, None}
use Rattle.std.specs.List.{list_any, remove}
use Rattle.std.proofs.lemmas.Bool.{eqb-true, eq-eqb, ne_eqb}
use Rattle.std.proofs.lemmas.List.Edits.{length-remove}
use Rattle.std.proofs.lemmas.List.Sums.{fold-append}
use Rattle.std.proofs.lemmas.Map.Views.{any-filter_same}
use Rattle.hub_link.specs.Sending.{AreSendsTo}
use Rattle.conn_core.specs.Kept.{HasNoNumber, number_at}
use Rattle.conn_core.proofs.Numbers.{number_above, number_below}
use Rattle.ports.specs.declared.entry.Entry.{Entry}
use Rattle.ports.specs.declared.entry.Entry.TheVariants.{Listen, Next, Send, Close}
use Rattle.ports.specs.declared.links.Turn.{Turn}
use Rattle.ports.specs.declared.links.Want.{Want}
use Rattle.ports.specs.declared.links.What.{What}
use Rattle.ports.specs.declared.links.What.TheVariants.{Idle, Opened, Read, Ended, Broken, Room, Stopped, Failed}
use Rattle.ports.specs.declared.links.What.TheVariants.{Memory}
use Rattle.ports.specs.Links.{grown, is_unclosed, unclosed, unclosed_after, unclosed_after_turn}
use Rattle.conn_core.specs.Known.{Answered, AreUnclosed, EndsWith, IsOpenedBy}

unclosed_grown : (before run : List Entry) → unclosed (before ++ run) ≡ fold unclosed_after (unclosed before) run
unclosed_grown before run = fold-append unclosed_after [] before run

sends_keep : (number : ℕ) (run : List Entry) (links : List ℕ) → AreSendsTo number run
    → fold unclosed_after links run ≡ links
sends_keep number [] links all = refl
sends_keep number (Listen address answer ∷ run) links all = absurd all
sends_keep number (Next wants turn piece ∷ run) links all = absurd all
sends_keep number (Send other bytes answer ∷ run) links all = sends_keep number run links all.1
sends_keep number (Close other ∷ run) links all = absurd all

same_after_sends : (number other : ℕ) (entries run : List Entry) → AreSendsTo number run
    → is_unclosed other entries ≡ is_unclosed other (entries ++ run)
same_after_sends number other entries run all =
    ap (list_any (λ (o : ℕ). o == other))
    (sym (unclosed_grown entries run ∙ sends_keep number run (unclosed entries) all))

same_after_close : (number other : ℕ) (entries : List Entry) → other ≢ number
    → is_unclosed other entries ≡ is_unclosed other (entries ++ Close number ∷ [])
same_after_close number other entries apart =
    sym (ap (list_any (λ (o : ℕ). o == other)) (unclosed_grown entries (Close number ∷ []))
    ∙ any-filter_same (λ (o : ℕ). o == other) (λ (o : ℕ). not (o == number)) true
    (λ k test. ap not (ne_eqb k number (λ same. apart (sym (eqb-true k other test) ∙ same)))) (unclosed entries))

-- ---- what is known of all links of a table

-- of a log that is reported, and then grew
grown_known : (log : Option (List Entry)) (run : List Entry) (P : List Entry → Type 0)
    → ((entries : List Entry) → log ≡ Some entries → P (entries ++ run))
    → (entries : List Entry) → grown log run ≡ Some entries → P entries
grown_known None run P there entries is = absurd (cc is)
grown_known (Some log) run P there entries is = let same : log ++ run ≡ entries = cc in subst P same (there log refl)

pub known_sends : (log : Option (List Entry)) (wants : List Want) (number : ℕ) (run : List Entry)
    → AreSendsTo number run → AreUnclosed log wants → AreUnclosed (grown log run) wants
known_sends log wants number run sends known =
    grown_known log run
    (λ (entries : List Entry). (i : ℕ) → i < length wants → IsTrue (is_unclosed (number_at wants i) entries))
    (λ entries is i within.
    subst IsTrue (same_after_sends number (number_at wants i) entries run sends) (known entries is i within))

pub known_apart : (log : Option (List Entry)) (wants : List Want) (number : ℕ) → HasNoNumber number wants
    → AreUnclosed log wants → AreUnclosed (grown log (Close number ∷ [])) wants
known_apart log wants number none known =
    grown_known log (Close number ∷ [])
    (λ (entries : List Entry). (i : ℕ) → i < length wants → IsTrue (is_unclosed (number_at wants i) entries))
    (λ entries is i within.
    subst IsTrue (same_after_close number (number_at wants i) entries (none i within)) (known entries is i within))

pub known_removed : (log : Option (List Entry)) (wants : List Want) (number place : ℕ) → place < length wants
    → ((other : ℕ) → other < length wants → number_at wants other ≡ number → other ≡ place) → AreUnclosed log wants
    → AreUnclosed (grown log (Close number ∷ [])) (remove wants place)
known_removed log wants number place within only known =
    grown_known log (Close number ∷ [])
    (λ (entries : List Entry).
    (i : ℕ) → i < length (remove wants place) → IsTrue (is_unclosed (number_at (remove wants place) i) entries))
    (λ entries is i bound.
    let count = length-remove wants place within in
    let there : (j : ℕ) → j < length wants → (j ≡ place → ⊥) → number_at (remove wants place) i ≡ number_at wants j
    → IsTrue (is_unclosed (number_at (remove wants place) i) (entries ++ Close number ∷ [])) =
    λ j in_range apart same. subst (λ (n : ℕ). IsTrue (is_unclosed n (entries ++ Close number ∷ []))) (sym same)
    (subst IsTrue (same_after_close number (number_at wants j) entries (λ is_number. apart (only j in_range is_number)))
    (known entries is j in_range)) in
    let side : (i < place) ⊎ (place ≤ i) = grind arith in
    elim side [
      | inl less ↦ there i (omega arith) (λ same. omega arith) (number_below wants place within i less)
      | inr le ↦ there (i + 1) (omega arith) (λ same. omega arith) (number_above wants place within i le)
    ])

-- ---- the link that a turn opened

pub opened_by : (log : Option (List Entry)) (turn : Turn) → Answered log turn → IsOpenedBy log turn.what
opened_by log turn answered = by_what turn.what refl
  where
    by_what : (what : What) → turn.what ≡ what → IsOpenedBy log what
    by_what Idle is = tt
    by_what (Opened number) is = λ entries reported.
        let ends : EndsWith turn entries = answered entries reported in
        let last : unclosed entries ≡ number ∷ unclosed ends.before =
        ap unclosed ends.is ∙ unclosed_grown ends.before (Next ends.wants turn ends.piece ∷ [])
        ∙ ap (unclosed_after_turn (unclosed ends.before)) is in
        subst (λ (ls : List ℕ). IsTrue (list_any (λ (o : ℕ). o == number) ls)) (sym last)
        (subst (λ (b : Bool). IsTrue (b || list_any (λ (o : ℕ). o == number) (unclosed ends.before)))
        (sym (eq-eqb number number refl)) refl)
    by_what (Read number count) is = tt
    by_what (Ended number) is = tt
    by_what (Broken number) is = tt
    by_what (Room number) is = tt
    by_what Stopped is = tt
    by_what Failed is = tt
    by_what Memory is = tt

-- a turn closes no link
pub known_next : (log : Option (List Entry)) (wants asked : List Want) (turn : Turn) (piece : List ℕ)
    → AreUnclosed log wants → AreUnclosed (grown log (Next asked turn piece ∷ [])) wants
known_next log wants asked turn piece known =
    grown_known log (Next asked turn piece ∷ [])
    (λ (entries : List Entry). (i : ℕ) → i < length wants → IsTrue (is_unclosed (number_at wants i) entries))
    (λ entries is i within.
    subst (λ (ls : List ℕ). IsTrue (list_any (λ (o : ℕ). o == number_at wants i) ls))
    (sym (unclosed_grown entries (Next asked turn piece ∷ [])))
    (by_what (number_at wants i) (unclosed entries) turn.what (known entries is i within)))
  where
    either : (a b : Bool) → b ≡ true → (a || b) ≡ true
    either true b is = refl
    either false b is = is

    by_what : (number : ℕ) (links : List ℕ) (what : What) → IsTrue (list_any (λ (o : ℕ). o == number) links)
        → IsTrue (list_any (λ (o : ℕ). o == number) (unclosed_after_turn links what))
    by_what number links Idle is = is
    by_what number links (Opened other) is = either (other == number) (list_any (λ (o : ℕ). o == number) links) is
    by_what number links (Read other count) is = is
    by_what number links (Ended other) is = is
    by_what number links (Broken other) is = is
    by_what number links (Room other) is = is
    by_what number links Stopped is = is
    by_what number links Failed is = is
    by_what number links Memory is = is
