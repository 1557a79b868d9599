-- What small lines and texts say.
use Rattle.std.specs.Prelude.{◌≡◌, ℕ, ◌++◌, ◌-◌, ◌^◌, codes, true, false, List, [], ◌∷◌, Option, Some, None, Result, Ok}
use Rattle.std.specs.Prelude.{Err, pos, negsuc}
use Rattle.ev_types.specs.declared.event.Event.{Event}
use Rattle.graphite_lines.specs.declared.bad.BadLine.{BadLine}
use Rattle.graphite_lines.specs.declared.fault.LineWhy.{LineWhy}
use Rattle.graphite_lines.specs.declared.fault.LineWhy.TheVariants.{Words, Path, Value, Time}
use Rattle.graphite_lines.specs.Frames.{frames_in, refused_lines}
use Rattle.graphite_lines.specs.Lines.{line_says, lines_of, metric_event}
use Rattle.graphite_lines.specs.Words.{is_time, is_value, value_of}

-- the values at and past each bound
pub record ValueExamples : Type 0 where
  pub least : is_value (codes "-9223372036854775808") ≡ true
  pub least_is : value_of (codes "-9223372036854775808") ≡ negsuc (2 ^ 63 - 1)
  pub below_least : is_value (codes "-9223372036854775809") ≡ false
  pub greatest : is_value (codes "9223372036854775807") ≡ true
  pub above_greatest : is_value (codes "9223372036854775808") ≡ false
  pub minus_zero : value_of (codes "-0") ≡ pos 0
  pub zeros : is_value (codes "5.00") ≡ true
  pub zeros_are : value_of (codes "5.00") ≡ pos 5
  pub point_alone : is_value (codes "5.") ≡ false
  pub half : is_value (codes "1.5") ≡ false
  pub two_points : is_value (codes "1.0.0") ≡ false
  pub many_digits : is_value (codes "00000000000000000005") ≡ true
  pub more_digits : is_value (codes "000000000000000000005") ≡ false
  pub plus : is_value (codes "+5") ≡ false
  pub minus : is_value (codes "-") ≡ false
  pub last_time : is_time (codes "9223372036854775807") ≡ true
  pub past_time : is_time (codes "9223372036854775808") ≡ false
  pub time_minus : is_time (codes "-1") ≡ false

abbrev pub says : Option ℕ → List ℕ → Result (Option Event) LineWhy → Type 0
says host_part line answer = line_says host_part line ≡ answer

-- the event of a line without a host, and with one
abbrev pub plain : List ℕ → Result (Option Event) LineWhy
plain service = Ok (Some (metric_event (pos 100) service None (pos 5)))

abbrev pub hosted : List ℕ → List ℕ → Result (Option Event) LineWhy
hosted host service = Ok (Some (metric_event (pos 100) service (Some host) (pos 5)))

pub record LineExamples : Type 0 where
  pub empty : says None [] (Ok None)
  pub blanks : says None (32 ∷ 9 ∷ []) (Ok None)
  pub whole : says None (codes "a.b 5 100") (plain (codes "a.b"))
  pub blanks_around : says None (9 ∷ codes "a.b  5 100 ") (plain (codes "a.b"))
  pub two_words : says None (codes "a 5") (Err Words)
  pub four_words : says None (codes "a 5 100 x") (Err Words)
  pub path_first : says None (127 ∷ codes " x x") (Err Path)
  pub value_next : says None (codes "a x x") (Err Value)
  pub time_last : says None (codes "a 5 x") (Err Time)
  pub first_part : says (Some 1) (codes "a.b 5 100") (hosted (codes "a") (codes "b"))
  pub middle_part : says (Some 2) (codes "a.b.c 5 100") (hosted (codes "b") (codes "a.c"))
  pub last_part_stays : says (Some 2) (codes "a.b 5 100") (plain (codes "a.b"))
  pub empty_host : says (Some 1) (codes ".b 5 100") (hosted [] (codes "b"))
  pub empty_parts : says (Some 2) (codes "a.. 5 100") (hosted [] (codes "a."))

abbrev pub line : ℕ → LineWhy → BadLine
line number why = record { line = number; why = why }

pub record TextExamples : Type 0 where
  -- one CR before LF is left out, and none at the end of the text
  pub ends : lines_of (codes "a" ++ 13 ∷ 13 ∷ 10 ∷ 98 ∷ 13 ∷ []) ≡ (97 ∷ 13 ∷ []) ∷ (98 ∷ 13 ∷ []) ∷ []
  pub nothing : frames_in None [] ≡ []
  -- the frame of `a 5 100`
  pub frame : frames_in None (codes "a 5 100") ≡ 0 ∷ 0 ∷ 0 ∷ 9 ∷ 50 ∷ 7 ∷ 8 ∷ 100 ∷ 26 ∷ 1 ∷ 97 ∷ 104 ∷ 10 ∷ []
  -- of two lines the first is refused
  pub one_frame : frames_in None (codes "a 1.5 100" ++ 10 ∷ codes "a 5.0 100") ≡ frames_in None (codes "a 5 100")
  pub one_refused : refused_lines None (codes "a 1.5 100" ++ 10 ∷ codes "a 5.0 100") ≡ line 1 Value ∷ []
  -- lines that are skipped count
  pub third_line : refused_lines None (10 ∷ 32 ∷ 10 ∷ codes "a") ≡ line 3 Words ∷ []
