-- The calls of a run, as steps and as turns.
use Rattle.std.proofs.Common.{◌≡◌, List, [], ◌∷◌, ◌++◌, map, refl, ap, ◌∙◌}
use Rattle.std.proofs.lemmas.List.{map-append}
use Rattle.conn_core.specs.hub_meaning.Runs.{entry_of, plain}
use Rattle.hub_run.specs.Taken.{TakenTurn, entries_of, steps_of, steps_of_turn}
use Rattle.ports.specs.declared.entry.Entry.{Entry}
use Rattle.ports.specs.declared.entry.Entry.TheVariants.{Next}

plain_entries : (entries : List Entry) → map entry_of (plain entries) ≡ entries
plain_entries [] = refl
plain_entries (entry ∷ entries) = ap (λ (es : List Entry). entry ∷ es) (plain_entries entries)

pub steps_entries : (turns : List TakenTurn) → map entry_of (steps_of turns) ≡ entries_of turns
steps_entries [] = refl
steps_entries (turn ∷ turns) =
    map-append entry_of (steps_of_turn turn) (steps_of turns)
    ∙ ap (λ (es : List Entry). (Next turn.wants turn.turn turn.piece ∷ es) ++ map entry_of (steps_of turns))
    (plain_entries turn.calls)
    ∙ ap (λ (es : List Entry). (Next turn.wants turn.turn turn.piece ∷ turn.calls) ++ es) (steps_entries turns)
