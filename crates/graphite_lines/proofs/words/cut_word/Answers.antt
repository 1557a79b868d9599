use Rattle.std.proofs.Common.{◌≡◌, ℕ, ◌<◌, List, ◌∷◌, length, take, Some, None, sym, ◌∙◌, ap, arith}
use Rattle.std.proofs.lemmas.List.{take_rest}
use Rattle.std.specs.List.{position_or_len}
use Rattle.graphite_lines.specs.Words.{is_blank, words_of}
use Rattle.graphite_lines.proofs.Finds.{place_of}
use Rattle.graphite_lines.proofs.WordLaws.{some_before_blank, word_alone, word_at_blank}
use Rattle.graphite_lines.proofs.words.cut_word.Goals as goal

pub returns-in-Some : goal.returns-in-Some
returns-in-Some c =
    let bytes = c.args.bytes.now in let end = c.in-Some.end in
    let place : (end ≡ position_or_len is_blank bytes) × (end < length bytes) =
    place_of is_blank bytes (Some end) (rw c.in-Some.is at c.find_blank.ensures) in
    let first : 0 < position_or_len is_blank bytes = some_before_blank bytes c.requires.some c.requires.begins in
    let some : 0 < end = omega arith in
    word_at_blank bytes end place.0 place.1 some
    ∙ ap (λ (rest : List ℕ). take end bytes ∷ words_of rest) (sym (take_rest bytes end))

pub returns-in-None : goal.returns-in-None
returns-in-None c =
    word_alone c.args.bytes.now (place_of is_blank c.args.bytes.now None (rw c.in-None.is at c.find_blank.ensures))
    c.requires.some
