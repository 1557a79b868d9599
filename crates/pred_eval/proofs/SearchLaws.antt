-- What a built regular expression and its states find, and parts of a list of them.
use Rattle.std.proofs.Common.{◌≡◌, ℕ, suc, ◌<◌, ◌≤◌, true, cond, List, [], ◌∷◌, ◌++◌, take, drop, length, get_or}
use Rattle.std.proofs.Common.{Option, Some, None, IsSomeAnd, is_some, option_map, inl, inr, refl, sym, ap, ◌∙◌, arith}
use Rattle.std.proofs.Common.{chars, length-append}
use Rattle.std.specs.Option.{option_or}
use Rattle.std.proofs.lemmas.Bool.{cond-true, cond-false, cases_Bool}
use Rattle.std.proofs.lemmas.Option.{none-some, same_Some}
use Rattle.regex_hir.specs.Re.{Re, Rest, attempt, accept}
use Rattle.regex_hir.specs.Find.{Match, find, first_between}
use Rattle.regex_hir.specs.Text.{is_boundary}
use Rattle.regex_hir.specs.Meaning.{meaning}
use Rattle.regex_hir.specs.declared.hir.Hir.{Hir}
use Rattle.regex_hir.proofs.FindLemmas.{match_at, IsFirst-of_first_between, first_between_of_IsFirst}
use Rattle.regex_hir.proofs.FindLemmas.{first_between_none, first_between_past, first_between_unfold}
use Rattle.regex_hir.proofs.FindLemmas.{first_between_cong, none_of_first_between}
use Rattle.regex_hir.proofs.AttemptLemmas.{attempt_none}
use Rattle.regex_syntax.specs.Grammar.{Names, read}
use Rattle.regex_vm.specs.Found.{first_match, span}
use Rattle.regex.specs.Names.{names_of}
use Rattle.regex.specs.Patterns.{find_str, default_config, Reads}
use Rattle.regex.specs.Strings.{regex_pattern}
use Rattle.regex.specs.declared.string.regex.Regex.{Regex}
use Rattle.regex.proofs.ForCallers.{is_match_alike}
use Rattle.pred_eval.specs.declared.finder.States.{States}
use Rattle.pred_eval.specs.Search.{is_found, finds, IsReadFrom, AreReadFrom, HasMatchesOf}

of_some : {A : Type 0} (o : Option A) (P : A → Type 0) (Q : Option A → Type 0) → ((x : A) → P x → Q (Some x))
    → IsSomeAnd o P → Q o
of_some None P Q f h = absurd h
of_some (Some x) P Q f h = f x h

-- a tree finds what the text that is read as it says
finds_by_tree : (pattern : List ℕ) (tree : Hir) (names : Names) → Reads default_config pattern tree names →
    (text : List ℕ) → ((k : ℕ) → get_or text k 0 < 256) →
    is_some (find_str (meaning tree) text 0) ≡ finds pattern text
unfolding Reads
finds_by_tree pattern tree names reads text bytes =
    of_some (read default_config (chars pattern)) _ (λ o. is_some (find_str (meaning tree) text 0) ≡ is_found o text)
    (λ x h. is_match_alike h.1 text bytes true 0) reads

module _ (pattern : List ℕ) (regex : Regex) (from : IsReadFrom pattern regex) where
  reads : Reads default_config pattern regex.pattern.program.hir (names_of regex.pattern.names.items)
  reads = rw (from.source, from.config) at from.read

  -- the regular expression finds what its text says
  pub finds_what_is_read : (text : List ℕ) → ((k : ℕ) → get_or text k 0 < 256)
      → is_some (find_str (regex_pattern regex) text 0) ≡ finds pattern text
  finds_what_is_read text bytes = finds_by_tree pattern regex.pattern.program.hir _ reads text bytes

module _ (re : Re) (text : List ℕ) where
  within_text : Rest
  within_text i = cond (is_boundary text i) (attempt text re accept i) None

  none_within : (i : ℕ) → attempt text re accept i ≡ None → within_text i ≡ None
  unfolding within_text
  none_within i none = elim (cases_Bool (is_boundary text i)) [
    | inl begins ↦ cond-true _ _ None begins ∙ none
    | inr within ↦ cond-false _ _ None within
  ]

  -- what is found in the bytes is found between characters, if it begins there
  found_between : (o : Option Match) → find re text 0 ≡ o → ((m : Match) → o ≡ Some m → is_boundary text m.start ≡ true)
      → find_str re text 0 ≡ o
  unfolding find find_str within_text
  found_between None e begins =
      first_between_none within_text 0 (length text)
      (λ i low high. none_within i (none_of_first_between _ 0 (length text) e i low high))
  found_between (Some m) e begins =
      let first = IsFirst-of_first_between _ 0 (length text) m e in
      first_between_of_IsFirst within_text 0 (length text) m (record {
        from = first.from;
        to = first.to;
        here = cond-true _ _ None (begins m refl) ∙ first.here;
        before = λ i low high. none_within i (first.before i low high);
      })

module _ (pattern : List ℕ) (states : States) (of : HasMatchesOf pattern states) (text : List ℕ)
    (bytes : (k : ℕ) → get_or text k 0 < 256) where
  re : Re
  re = meaning of.tree

  at : Rest
  at = attempt text re accept

  -- where the search may stop looking for a beginning
  abbrev pub last_start : ℕ
  last_start = cond states.at_start 0 (length text)

  none_later : states.at_start ≡ true → (i : ℕ) → 1 ≤ i → i ≤ length text → at i ≡ None
  unfolding at re
  none_later only i later within =
      attempt_none text re accept i (λ j m. absurd (omega (arith, later, (of.anchored only).at text i j within m)))

  up_to_last : first_between at 0 last_start ≡ first_between at 0 (length text)
  up_to_last = elim (cases_Bool states.at_start) [
    | inl only ↦
        let rest : first_between at 1 (length text) ≡ None = first_between_none at 1 (length text) (none_later only) in
        ap (first_between at 0) (cond-true _ 0 (length text) only)
        ∙ first_between_unfold at 0 0 (omega arith)
        ∙ ap (option_or (match_at at 0)) (first_between_past at 1 0 (omega arith) ∙ sym rest)
        ∙ sym (first_between_unfold at 0 (length text) (omega arith))
    | inr any ↦ ap (first_between at 0) (cond-false _ 0 (length text) any)
  ]

  found_in_bytes : first_match states.nfa text (length text) 0 last_start ≡ find re text 0
  unfolding find re at
  found_in_bytes = first_between_cong _ _ 0 last_start (λ i _ _. of.same text i) ∙ up_to_last

  found_alike : (o : Option Match) → first_match states.nfa text (length text) 0 last_start ≡ o →
      ((m : Match) → o ≡ Some m → is_boundary text m.start ≡ true) →
      is_some o ≡ finds pattern text
  unfolding re
  found_alike o e begins =
      ap is_some (sym (found_between re text o (sym found_in_bytes ∙ e) begins))
      ∙ finds_by_tree pattern of.tree of.names of.read text bytes

  spans_alike : (o : Option Match) → first_match states.nfa text (length text) 0 last_start ≡ o →
      (spanned : Option (ℕ × ℕ)) → spanned ≡ option_map span o →
      ((s : ℕ × ℕ) → spanned ≡ Some s → is_boundary text s.0 ≡ true) → is_some spanned ≡ finds pattern text
  spans_alike None e spanned same begins = ap is_some same ∙ found_alike None e (λ m some. absurd (none-some m some))
  spans_alike (Some m) e spanned same begins =
      ap is_some same
      ∙ found_alike (Some m) e
      (λ n some. ap (λ (n : Match). is_boundary text n.start) (sym (same_Some _ _ some)) ∙ begins (span m) same)

  -- the states have a match exactly where the regular expression is found, if theirs begins between characters
  pub states_find : (hay : List ℕ) (last : ℕ) → text ≡ hay → last_start ≡ last → (spanned : Option (ℕ × ℕ)) →
      spanned ≡ option_map span (first_match states.nfa hay (length text) 0 last) →
      ((s : ℕ × ℕ) → spanned ≡ Some s → is_boundary text s.0 ≡ true) → is_some spanned ≡ finds pattern text
  states_find hay last is until spanned same begins =
      spans_alike _ refl spanned
      (same ∙ ap (λ hay. option_map span (first_match states.nfa hay (length text) 0 last)) (sym is)
      ∙ ap (λ last. option_map span (first_match states.nfa text (length text) 0 last)) (sym until))
      begins

pub read_length : (patterns : List (List ℕ)) (regexes : List Regex) → AreReadFrom patterns regexes
    → length patterns ≡ length regexes
read_length [] [] h = refl
read_length [] (regex ∷ regexes) h = absurd h
read_length (pattern ∷ patterns) [] h = absurd h
read_length (pattern ∷ patterns) (regex ∷ regexes) h = ap suc (read_length patterns regexes h.1)

pub read_front : (front back : List (List ℕ)) (regexes : List Regex) → AreReadFrom (front ++ back) regexes
    → AreReadFrom front (take (length front) regexes)
read_front [] back regexes h = tt
read_front (pattern ∷ front) back [] h = absurd h
read_front (pattern ∷ front) back (regex ∷ regexes) h = (h.0, read_front front back regexes h.1)

pub read_back : (front back : List (List ℕ)) (regexes : List Regex) → AreReadFrom (front ++ back) regexes
    → AreReadFrom back (drop (length front) regexes)
read_back [] back regexes h = h
read_back (pattern ∷ front) back [] h = absurd h
read_back (pattern ∷ front) back (regex ∷ regexes) h = read_back front back regexes h.1

pub read_front_fits : (front back : List (List ℕ)) (regexes : List Regex) → AreReadFrom (front ++ back) regexes
    → length front ≤ length regexes
read_front_fits front back regexes h = omega (arith, read_length (front ++ back) regexes h, length-append front back)

pub read_alone : (pattern : List ℕ) (regex : Regex) (regexes : List Regex)
    → AreReadFrom (pattern ∷ []) (regex ∷ regexes) → IsReadFrom pattern regex
read_alone pattern regex regexes h = h.0
