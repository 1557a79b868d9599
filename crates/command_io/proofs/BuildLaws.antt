-- A pattern that was refused, by its number.
use Rattle.std.proofs.Common.{◌≡◌, ℕ, ◌<◌, List, [], ◌∷◌, ◌++◌, length, ap, ◌∙◌}
use Rattle.std.specs.Prelude.{Option, slice_index_or}
use Rattle.std.specs.Option.{option_map}
use Rattle.std.proofs.lemmas.Option.{slice_get-get_or}
use Rattle.hub_meaning.specs.Verdicts.{PatternsReport}
use Rattle.ports.specs.Counts.{Rose}
use Rattle.command_io.specs.Building.{IsRefusedPattern}
use Rattle.command_io.proofs.Sinks.{nothing_appended}

pub refused_pattern : (texts : List (List ℕ)) (number : ℕ) (old new : PatternsReport) → number < length texts
    → Rose old.refusals new.refusals
    → new.refused ≡ option_map (λ refused. refused ++ slice_index_or texts number [] ∷ []) old.refused
    → IsRefusedPattern texts number old new
refused_pattern texts number old new within rose reported = record {
  pattern = slice_index_or texts number [];
  numbered = slice_get-get_or texts number [] within;
  reported = reported;
  rose = rose;
}

-- a report of which nothing is counted or added
pub same_report : (old new : PatternsReport) → new.refusals ≡ old.refusals
    → new.refused ≡ option_map (λ texts. texts ++ []) old.refused → new ≡ old
same_report old new counted reported =
    ap (λ (n : ℕ). record { refusals = n; refused = new.refused }) counted
    ∙ ap (λ (texts : Option (List (List ℕ))). record { refusals = old.refusals; refused = texts })
    (reported ∙ nothing_appended old.refused)
