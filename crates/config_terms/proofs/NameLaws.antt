-- The words of configurations are found by their names.
use Rattle.std.proofs.Common.{◌≡◌, ℕ, List, [], ◌∷◌, Some, refl}
use Rattle.std.specs.Str.{bytes_eq}
use Rattle.std.proofs.lemmas.Slice.Eq.{bytes_eq-Decides}
use Rattle.ev_types.specs.declared.settings.Fold.{Fold}
use Rattle.ev_types.specs.declared.settings.Fold.TheVariants as fold
use Rattle.config_terms.specs.declared.word.TopWord.{TopWord}
use Rattle.config_terms.specs.declared.word.TopWord.TheVariants as top
use Rattle.config_terms.specs.declared.word.StreamWord.{StreamWord}
use Rattle.config_terms.specs.declared.word.StreamWord.TheVariants as stream
use Rattle.config_terms.specs.Words.{named, top_text, top_word, stream_text, stream_word, rule_text, rule_word}
use Rattle.config_terms.specs.Words.{fold_text, fold_word, top_words, stream_words, rule_words, fold_words}
use Rattle.config_terms.proofs.Outcomes.{SomeGood, some_if}

-- what is found by a name has this name
pub named_has_text : {A : Type 0} (text : A → List ℕ) (all : List A) (name : List ℕ)
    → SomeGood (λ a. name ≡ text a) (named text all name)
named_has_text text [] name = tt
named_has_text text (a ∷ all) name =
    some_if (λ b. name ≡ text b) (bytes_eq name (text a)) (Some a) (named text all name)
    (λ is. (bytes_eq-Decides name (text a)).0 is) (λ _. named_has_text text all name)

pub top_named : (name : List ℕ) → SomeGood (λ one. name ≡ top_text one) (top_word name)
unfolding top_word
top_named name = named_has_text top_text top_words name

pub stream_named : (name : List ℕ) → SomeGood (λ one. name ≡ stream_text one) (stream_word name)
unfolding stream_word
stream_named name = named_has_text stream_text stream_words name

pub rule_named : (name : List ℕ) → SomeGood (λ one. name ≡ rule_text one) (rule_word name)
unfolding rule_word
rule_named name = named_has_text rule_text rule_words name

pub fold_named : (name : List ℕ) → SomeGood (λ one. name ≡ fold_text one) (fold_word name)
unfolding fold_word
fold_named name = named_has_text fold_text fold_words name

-- each is found by its own name

pub top_found : (one : TopWord) → top_word (top_text one) ≡ Some one
unfolding top_word
top_found top.TcpServer = refl
top_found one = refl

pub stream_found : (one : StreamWord) → stream_word (stream_text one) ≡ Some one
unfolding stream_word
stream_found stream.Index = refl
stream_found one = refl

pub fold_found : (one : Fold) → fold_word (fold_text one) ≡ Some one
unfolding fold_word
fold_found fold.Sum = refl
fold_found one = refl
