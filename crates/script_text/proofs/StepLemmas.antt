-- Steps that were read before those of the lines to come.
use Rattle.std.proofs.Common.{◌≡◌, ℕ, List, [], ◌∷◌, ◌++◌, Result, Ok, Err, refl, ap, append_assoc}
use Rattle.ports.specs.declared.script.Step.{Step}
use Rattle.script_text.specs.Scripts.{with_step}

abbrev pub onto : List Step → Result (List Step) ℕ → Result (List Step) ℕ
onto steps (Ok more) = Ok (steps ++ more)
onto steps (Err number) = Err number

pub onto_nothing : (read : Result (List Step) ℕ) → onto [] read ≡ read
onto_nothing (Ok more) = refl
onto_nothing (Err number) = refl

pub onto_more : (steps : List Step) (step : Step) (read : Result (List Step) ℕ)
    → onto (steps ++ step ∷ []) read ≡ onto steps (with_step step read)
onto_more steps step (Ok more) = ap Ok (append_assoc steps (step ∷ []) more)
onto_more steps step (Err number) = refl
