-- The words of tests.
use Rattle.std.specs.Prelude.{ℕ, List, [], ◌∷◌, Option, codes}
use Rattle.config_terms.specs.Words.{named}
use Rattle.config_tests.specs.declared.word.EntryWord.{EntryWord}
use Rattle.config_tests.specs.declared.word.EntryWord.TheVariants.{Tick, Event, Expect}

-- what begins a test
abbrev pub test_text : List ℕ
test_text = codes "test"

-- what begins an entry of a test
abbrev pub entry_text : EntryWord → List ℕ
entry_text Tick = codes "tick"
entry_text Event = codes "event"
entry_text Expect = codes "expect"

abbrev pub entry_words : List EntryWord
entry_words = Tick ∷ Event ∷ Expect ∷ []

unfoldable pub entry_word : List ℕ → Option EntryWord
entry_word = named entry_text entry_words
