-- The line that each status writes on the error stream.
use Rattle.std.specs.Prelude.{ℕ, List, [], ◌∷◌, ◌++◌, codes}
use Rattle.std.specs.Borrow.{Bor}
use Rattle.std.specs.List.{flat_map}
use Rattle.std.specs.Fmt.{decimal}
use Rattle.config_terms.specs.declared.fault.ConfigWhy.{ConfigWhy}
use Rattle.config_terms.specs.Names.{why_name}
use Rattle.command_io.specs.declared.ending.ConfigRefusal.{ConfigRefusal}
use Rattle.command_io.specs.declared.ending.ConfigRefusal.TheVariants.{Refused, Pattern}

abbrev pub usage_line : List ℕ
usage_line = codes "riemann: usage: feed CONFIG FILE, check CONFIG, replay CONFIG SCRIPT, serve CONFIG [--turns N], load CONFIG N START, graphite FILE [--host K], test CONFIG TESTS, send ADDRESS FILE [--turns N], query ADDRESS TEXT [--turns N], record CONFIG JOURNAL, resume JOURNAL" ++ 10 ∷ []

abbrev pub refused_line : ℕ → ConfigWhy → List ℕ
refused_line place why =
    codes "riemann: config refused at " ++ (decimal place ++ (codes ": " ++ (why_name why ++ 10 ∷ [])))

abbrev pub pattern_line : ℕ → List ℕ
pattern_line number = codes "riemann: config pattern " ++ (decimal number ++ (codes " refused" ++ 10 ∷ []))

-- the line that says why a configuration is refused
abbrev pub refusal_line : ConfigRefusal → List ℕ
refusal_line (Refused place why) = refused_line place why
refusal_line (Pattern number) = pattern_line number

abbrev pub unread_line : List ℕ → List ℕ
unread_line name = codes "riemann: cannot read " ++ (name ++ 10 ∷ [])

abbrev pub too_long_line : List ℕ → ℕ → List ℕ
too_long_line name limit =
    codes "riemann: " ++ (name ++ (codes " is longer than " ++ (decimal limit ++ (codes " bytes" ++ 10 ∷ []))))

abbrev pub left_line : ℕ → List ℕ
left_line count = codes "riemann: " ++ (decimal count ++ (codes " bytes left of no whole frame" ++ 10 ∷ []))

abbrev pub links_line : List ℕ
links_line = codes "riemann: links failed" ++ 10 ∷ []

abbrev pub script_line : ℕ → List ℕ
script_line number = codes "riemann: script refused at line " ++ (decimal number ++ 10 ∷ [])

abbrev pub memory_line : List ℕ
memory_line = codes "riemann: out of memory" ++ 10 ∷ []

-- pieces of text, one after another
abbrev pub joined : List (Bor (List ℕ)) → List ℕ
joined pieces = flat_map (λ piece. piece.now) pieces
