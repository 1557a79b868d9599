-- What is reported and built, one text after another.
use Rattle.std.proofs.Common.{◌≡◌, ◌≢◌, ℕ, suc, ◌+◌, ◌<◌, List, [], ◌∷◌, ◌++◌, take, length, get_or, Option, Some, None}
use Rattle.std.proofs.Common.{refl, sym, ap, ◌∙◌, append_assoc, subst, arith, zero, Result, Ok, Err, OnErr}
use denote.Ref.{Bor}
use Rattle.std.specs.Option.{option_map}
use Rattle.std.proofs.lemmas.List.{append-nil, take_more, length-map}
use Rattle.list_laws.specs.Prefix.{IsPrefix}
use Rattle.regex.specs.declared.string.regex.Regex.{Regex}
use Rattle.regex.specs.Failures.{IsRightKind}
use Rattle.regex.specs.Sources.{IsRefusal}
use Rattle.regex.specs.declared.error.Error.{Error}
use Rattle.regex.specs.declared.error.Error.TheVariants.{Syntax, CompiledTooBig, Internal, OutOfMemory}
use Rattle.regex_syntax.specs.Verdict.{default_config}
use Rattle.pred_eval.specs.Building.{IsCause, texts_of}
use Rattle.pred_eval.specs.Search.{IsReadFrom, AreReadFrom}

-- an error that is not memory is a cause
pub cause_is : (pattern : List ℕ) (error : Error) → IsRefusal default_config pattern error
    → IsRightKind default_config pattern error → error ≢ Internal → error ≢ OutOfMemory → IsCause pattern error
cause_is pattern (Syntax error) refusal right checked given = (right, refusal error refl)
cause_is pattern CompiledTooBig refusal right checked given = right
cause_is pattern Internal refusal right checked given = checked refl
cause_is pattern OutOfMemory refusal right checked given = given refl

-- a prefix of a prefix
pub prefix_more : (front middle whole : List (List ℕ)) → IsPrefix front middle → IsPrefix middle whole
    → IsPrefix front whole
prefix_more front middle whole (more, one) (rest, two) =
    (more ++ rest, two ∙ ap (λ texts. texts ++ rest) one ∙ append_assoc front more rest)

pub on_error : {T E P : Type 0} → (result : Result T E) → P → OnErr result P
on_error (Ok value) p = tt
on_error (Err error) p = p

abbrev RefusedTexts : Type 0
RefusedTexts = Option (List (List ℕ))

-- nothing more is reported
pub nothing_reported : (reported : RefusedTexts) → option_map (λ texts. texts ++ []) reported ≡ reported
nothing_reported None = refl
nothing_reported (Some texts) = ap Some (append-nil texts)

read_more : (patterns : List (List ℕ)) (regexes : List Regex) (pattern : List ℕ) (regex : Regex) →
    AreReadFrom patterns regexes → IsReadFrom pattern regex →
    AreReadFrom (patterns ++ pattern ∷ []) (regexes ++ regex ∷ [])
read_more [] [] pattern regex all one = (one, tt)
read_more [] (other ∷ regexes) pattern regex all one = absurd all
read_more (other ∷ patterns) [] pattern regex all one = absurd all
read_more (other ∷ patterns) (another ∷ regexes) pattern regex all one =
    (all.0, read_more patterns regexes pattern regex all.1 one)

get_now : (texts : List (Bor (List ℕ))) (i : ℕ) (text : Bor (List ℕ)) → i < length texts → (default : List ℕ)
    → get_or (texts_of texts) i default ≡ (get_or texts i text).now
get_now [] i text within default = absurd (omega arith)
get_now (first ∷ texts) zero text within default = refl
get_now (first ∷ texts) (suc i) text within default = get_now texts i text (omega arith) default

module _ (texts : List (Bor (List ℕ))) (text : Bor (List ℕ)) (i : ℕ) (within : i < length texts)
    (at : text ≡ get_or texts i text) where
  -- the text of this number
  pub text_of_number : get_or (texts_of texts) i [] ≡ text.now
  text_of_number = get_now texts i text within [] ∙ ap (λ (t : Bor (List ℕ)). t.now) (sym at)

  pub number_within : i < length (texts_of texts)
  number_within = omega (arith, length-map texts (λ (t : Bor (List ℕ)). t.now))

  pub one_more_built : (built more : List Regex) (regex : Regex) → AreReadFrom (take i (texts_of texts)) built →
      IsReadFrom text.now regex → more ≡ built ++ regex ∷ [] →
      AreReadFrom (take (i + 1) (texts_of texts)) more
  one_more_built built more regex all one pushed =
      subst (λ regexes. AreReadFrom (take (i + 1) (texts_of texts)) regexes) (sym pushed)
      (subst (λ patterns. AreReadFrom patterns (built ++ regex ∷ []))
      (sym (take_more (texts_of texts) i [] number_within))
      (read_more (take i (texts_of texts)) built (get_or (texts_of texts) i []) regex all
      (subst (λ pattern. IsReadFrom pattern regex) (sym text_of_number) one)))

pub no_text_more : (texts : List (List ℕ)) → texts ≡ texts ++ []
no_text_more texts = sym (append-nil texts)
