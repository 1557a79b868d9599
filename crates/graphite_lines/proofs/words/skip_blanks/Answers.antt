use Rattle.std.proofs.Common.{◌≡◌, ℕ, ◌<◌, length, drop, Some, None, sym, ◌∙◌, ap}
use Rattle.std.proofs.lemmas.List.{take_rest}
use Rattle.std.specs.List.{position_or_len}
use Rattle.graphite_lines.specs.Words.{words_of}
use Rattle.graphite_lines.proofs.Finds.{place_of}
use Rattle.graphite_lines.proofs.WordLaws.{is_word_byte, no_words, skipped, words_from, words_of_nothing}
use Rattle.graphite_lines.proofs.words.skip_blanks.Goals as goal

pub returns-in-Some-clause-words : goal.returns-in-Some-clause-words
returns-in-Some-clause-words c =
    let bytes = c.args.bytes.now in let start = c.in-Some.start in
    let place : (start ≡ position_or_len is_word_byte bytes) × (start < length bytes) =
    place_of is_word_byte bytes (Some start) (rw c.in-Some.is at c.find_word.ensures) in
    ap words_of (take_rest bytes start) ∙ ap (λ (n : ℕ). words_of (drop n bytes)) place.0 ∙ sym (words_from bytes)

pub returns-in-Some-clause-begins : goal.returns-in-Some-clause-begins
returns-in-Some-clause-begins c some =
    let bytes = c.args.bytes.now in let start = c.in-Some.start in
    let place : (start ≡ position_or_len is_word_byte bytes) × (start < length bytes) =
    place_of is_word_byte bytes (Some start) (rw c.in-Some.is at c.find_word.ensures) in
    rw (take_rest bytes start) (skipped bytes start place.0 place.1)

pub returns-in-None-clause-words : goal.returns-in-None-clause-words
returns-in-None-clause-words c =
    words_of_nothing
    ∙ sym
    (no_words c.args.bytes.now (place_of is_word_byte c.args.bytes.now None (rw c.in-None.is at c.find_word.ensures)))
