use lib.Utf8.{encode}
use Rattle.std.proofs.Common.{refl}
use Rattle.std.specs.Str.{chars, is_utf8}
use Rattle.pb_wire.specs.Spelling.{field_spelling}
use Rattle.pb_wire.specs.Varint.{spelled_within, varint}
use Rattle.riemann_msg.specs.Spelling.{event_values, message_values, spelling}
use Rattle.graphite_lines.specs.Frames.{accepted, frames_with, refused_from}
use Rattle.graphite_lines.specs.Lines.{line_says, lines_of, without_cr}
use Rattle.graphite_lines.specs.Words.{are_zeros, is_path, is_time, is_value, is_whole, words_of}
use Rattle.graphite_lines.proofs.example.graphite_examples_are_computed.Goals as goal

pub returns-clause-values : goal.returns-clause-values
unfolding are_zeros is_time is_value is_whole
returns-clause-values c = record {
  least = refl;
  least_is = refl;
  below_least = refl;
  greatest = refl;
  above_greatest = refl;
  minus_zero = refl;
  zeros = refl;
  zeros_are = refl;
  point_alone = refl;
  half = refl;
  two_points = refl;
  many_digits = refl;
  more_digits = refl;
  plus = refl;
  minus = refl;
  last_time = refl;
  past_time = refl;
  time_minus = refl;
}

pub returns-clause-lines : goal.returns-clause-lines
unfolding are_zeros chars encode is_path is_time is_utf8 is_value is_whole line_says words_of
returns-clause-lines c = record {
  empty = refl;
  blanks = refl;
  whole = refl;
  blanks_around = refl;
  two_words = refl;
  four_words = refl;
  path_first = refl;
  value_next = refl;
  time_last = refl;
  first_part = refl;
  middle_part = refl;
  last_part_stays = refl;
  empty_host = refl;
  empty_parts = refl;
}

pub returns-clause-texts : goal.returns-clause-texts
unfolding accepted are_zeros chars encode event_values field_spelling frames_with is_path is_time is_utf8 is_value
    is_whole line_says lines_of message_values refused_from spelled_within spelling varint without_cr words_of
returns-clause-texts c =
    record { ends = refl; nothing = refl; frame = refl; one_frame = refl; one_refused = refl; third_line = refl }
