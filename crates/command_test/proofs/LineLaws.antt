-- Lines that were put one after another.
use Rattle.std.proofs.Common.{◌≡◌, ℕ, ◌<◌, List, Option, [], ◌∷◌, ◌++◌, length, refl, ap, sym, ◌∙◌, subst, arith}
use Rattle.std.proofs.Common.{append-nil}
use Rattle.std.proofs.lemmas.Grind.{flat_map-append}
use Rattle.std.specs.List.{flat_map}
use Rattle.std.specs.Option.{option_map}
use Rattle.command_io.proofs.Sinks.{appended_twice, got_nothing}
use Rattle.ports.specs.Writing.{Got, Puts, SinkReport}
use Rattle.stream_tests.specs.declared.verdict.Verdict.{Verdict}
use Rattle.stream_tests.specs.declared.verdict.Verdict.TheVariants.{Pass, Differs}
use Rattle.command_test.specs.Lines.{verdict_line}
use Rattle.command_test.specs.Running.{GotLines, PutsEach}

pub line_is_some : (name : List ℕ) (verdict : Verdict) → 0 < length (verdict_line name verdict)
line_is_some name Pass = omega arith
line_is_some name (Differs notice number) = omega arith

puts_more : (lines : List (List ℕ)) (line : List ℕ) (old mid new : SinkReport) → PutsEach lines old mid
    → Puts mid line new → PutsEach (lines ++ line ∷ []) old new
puts_more [] line old mid new each puts = (new, subst (λ (report : SinkReport). Puts report line new) each puts, refl)
puts_more (first ∷ lines) line old mid new each puts = (each.0, each.1, puts_more lines line each.0 mid new each.2 puts)

joined_more : (lines : List (List ℕ)) (line : List ℕ)
    → flat_map (λ (each : List ℕ). each) (lines ++ line ∷ []) ≡ flat_map (λ (each : List ℕ). each) lines ++ line
joined_more lines line =
    flat_map-append (λ (each : List ℕ). each) lines (line ∷ [])
    ∙ ap (λ (more : List ℕ). flat_map (λ (each : List ℕ). each) lines ++ more) (append-nil line)

text_more : (lines : List (List ℕ)) (line : List ℕ) (old mid new : Option (List ℕ))
    → Got old (flat_map (λ (each : List ℕ). each) lines) mid → Got mid line new
    → Got old (flat_map (λ (each : List ℕ). each) (lines ++ line ∷ [])) new
text_more lines line old mid new got puts =
    puts ∙ ap (λ (text : Option (List ℕ)). option_map (λ (bytes : List ℕ). bytes ++ line) text) got
    ∙ appended_twice old (flat_map (λ (each : List ℕ). each) lines) line
    ∙ ap (λ (more : List ℕ). option_map (λ (bytes : List ℕ). bytes ++ more) old) (sym (joined_more lines line))

-- no line yet, and one more
pub no_lines : (old : SinkReport) → GotLines old [] old
no_lines old = record { text = got_nothing old.text; each = refl; no_fault = refl }

pub lines_more : (lines : List (List ℕ)) (line : List ℕ) (old mid new : SinkReport) → GotLines old lines mid
    → Puts mid line new → GotLines old (lines ++ line ∷ []) new
lines_more lines line old mid new got puts = record {
  text = text_more lines line old.text mid.text new.text got.text puts.text;
  each = puts_more lines line old mid new got.each puts;
  no_fault = puts.no_fault ∙ got.no_fault;
}
