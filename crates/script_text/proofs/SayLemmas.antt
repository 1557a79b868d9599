-- What lines say, one line after the other.
use Rattle.std.proofs.Common.{◌≡◌, ℕ, ◌⊎◌, List, [], ◌∷◌, map, filter, Some, refl, sym, ap, inl, inr}
use Rattle.script_text.specs.declared.line.Line.{Line}
use Rattle.script_text.specs.declared.line.Line.TheVariants.{Skipped, Start, Step}
use Rattle.script_text.specs.Grammar.{Say, is_said}
use Rattle.script_text.specs.Lines.{line_of}

pub say_none : Say [] []
say_none = record { said = []; valid = refl; kept = refl }

pub say_skipped : (line : List ℕ) (lines : List (List ℕ)) (items : List Line) → line_of line ≡ Some Skipped
    → Say lines items → Say (line ∷ lines) items
say_skipped line lines items h s = record {
  said = Skipped ∷ s.said;
  valid = (let v = s.valid in cc);
  kept = s.kept;
}

pub say_start : (line : List ℕ) (lines : List (List ℕ)) (items : List Line) (secs : ℕ)
    → line_of line ≡ Some (Start secs)
    → Say lines items → Say (line ∷ lines) (Start secs ∷ items)
say_start line lines items secs h s = record {
  said = Start secs ∷ s.said;
  valid = (let v = s.valid in cc);
  kept = ap (λ (kept : List Line). Start secs ∷ kept) s.kept;
}

pub say_step : (line : List ℕ) (lines : List (List ℕ)) (items : List Line) (step : _) → line_of line ≡ Some (Step step)
    → Say lines items → Say (line ∷ lines) (Step step ∷ items)
say_step line lines items step h s = record {
  said = Step step ∷ s.said;
  valid = (let v = s.valid in cc);
  kept = ap (λ (kept : List Line). Step step ∷ kept) s.kept;
}

nothing_said : (items said : List Line) → [] ≡ map (λ item. Some item) said → filter is_said said ≡ items → items ≡ []
nothing_said items [] v k = sym k
nothing_said items (item ∷ said) v k = cc

pub say_nothing : (items : List Line) → Say [] items → items ≡ []
say_nothing items s = nothing_said items s.said s.valid s.kept

-- a first line that is said
pub record SaysFirst (line : List ℕ) (lines : List (List ℕ)) (items : List Line) : Type 0 where
  pub first : Line
  pub more : List Line
  pub is_first : line_of line ≡ Some first
  pub whole : items ≡ first ∷ more
  pub rest : Say lines more

first_said : (line : List ℕ) (lines : List (List ℕ)) (items said : List Line)
    → line_of line ∷ map line_of lines ≡ map (λ item. Some item) said → filter is_said said ≡ items
    → ((line_of line ≡ Some Skipped) × Say lines items) ⊎ SaysFirst line lines items
first_said line lines items [] v k = cc
first_said line lines items (Skipped ∷ said) v k = inl (cc, record { said = said; valid = (cc); kept = k })
first_said line lines items (Start secs ∷ said) v k = inr (record {
  first = Start secs;
  more = filter is_said said;
  is_first = (cc);
  whole = sym k;
  rest = record { said = said; valid = (cc); kept = refl };
})
first_said line lines items (Step step ∷ said) v k = inr (record {
  first = Step step;
  more = filter is_said said;
  is_first = (cc);
  whole = sym k;
  rest = record { said = said; valid = (cc); kept = refl };
})

-- the first line is skipped, or what is said begins with it
pub say_cases : (line : List ℕ) (lines : List (List ℕ)) (items : List Line) → Say (line ∷ lines) items
    → ((line_of line ≡ Some Skipped) × Say lines items) ⊎ SaysFirst line lines items
say_cases line lines items s = first_said line lines items s.said s.valid s.kept
