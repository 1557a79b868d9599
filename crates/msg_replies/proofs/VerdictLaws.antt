-- What verdicts add to what is reported of patterns.
use Rattle.std.proofs.Common.{◌≡◌, ℕ, ◌≤◌, ◌<◌, ◌||◌, Bool, true, false, List, [], ◌∷◌, ◌++◌, length, refl, ap, sym}
use Rattle.std.proofs.Common.{◌∙◌, arith, append-nil, append_assoc}
use Rattle.std.specs.Prelude.{IsTrue, Option, Some, None, option_map, option_to_list, slice_index_or}
use Rattle.std.specs.List.{list_any}
use Rattle.std.proofs.lemmas.Grind.{flat_map-append}
use Rattle.std.proofs.lemmas.List.Folds.{list_any-append}
use Rattle.std.proofs.lemmas.Option.{slice_get-get_or}
use Rattle.list_laws.specs.Counts.{Rose}
use Rattle.pred_eval.specs.Tree.{Tree}
use Rattle.pred_eval.specs.Truth.{searches}
use Rattle.hub_meaning.specs.Verdicts.{AfterVerdicts, PatternsReport, Refusal, is_refused, refused_text, texts_refused}
use Rattle.msg_replies.specs.Answering.{AfterVerdict}

pub appended_nothing : {X : Type 0} (old : Option (List X)) → old ≡ option_map (λ texts. texts ++ []) old
appended_nothing None = refl
appended_nothing (Some texts) = ap Some (sym (append-nil texts))

pub appended_twice : {X : Type 0} (old : Option (List X)) (xs ys : List X)
    → option_map (λ texts. texts ++ ys) (option_map (λ texts. texts ++ xs) old)
    ≡ option_map (λ texts. texts ++ (xs ++ ys)) old
appended_twice None xs ys = refl
appended_twice (Some texts) xs ys = ap Some (append_assoc texts xs ys)

pub no_verdict : (asked : Option Tree) (state : PatternsReport) → AfterVerdict asked None state state
no_verdict asked state = record {
  possible = tt;
  reported = appended_nothing state.refused;
  never_falls = omega arith;
  rose = λ refused. absurd (cc refused);
  still = λ _. refl;
}

pub refused_verdict : (rule : Tree) (number : ℕ) (old new : PatternsReport) → number < length (searches rule)
    → Rose old.refusals new.refusals → old.refusals ≤ new.refusals
    → new.refused ≡ option_map (λ texts. texts ++ slice_index_or (searches rule) number [] ∷ []) old.refused
    → AfterVerdict (Some rule) (Some (record { number = number; text = slice_index_or (searches rule) number [] })) old
    new
refused_verdict rule number old new within rose rises reported = record {
  possible = (rule, refl, slice_get-get_or (searches rule) number [] within);
  reported = reported;
  never_falls = rises;
  rose = λ _. rose;
  still = λ none. absurd (cc none);
}

pub no_verdicts : (state : PatternsReport) → AfterVerdicts state state []
no_verdicts state = record {
  reported = appended_nothing state.refused;
  never_falls = omega arith;
  rose = λ refused. absurd (cc refused);
  still = λ _. refl;
}

texts_more : (verdicts : List (Option Refusal)) (last : Option Refusal)
    → texts_refused (verdicts ++ last ∷ []) ≡ texts_refused verdicts ++ option_to_list (option_map refused_text last)
texts_more [] last = append-nil _
texts_more (first ∷ verdicts) last =
    ap (λ texts. option_to_list (option_map refused_text first) ++ texts) (texts_more verdicts last)
    ∙ sym (append_assoc (option_to_list (option_map refused_text first)) (texts_refused verdicts)
    (option_to_list (option_map refused_text last)))

any_more : (verdicts : List (Option Refusal)) (last : Option Refusal)
    → list_any is_refused (verdicts ++ last ∷ []) ≡ list_any is_refused verdicts || is_refused last
any_more [] last = or_false (is_refused last)
  where
    or_false : (t : Bool) → t || false ≡ t
    or_false true = refl
    or_false false = refl
any_more (first ∷ verdicts) last =
    ap (λ t. is_refused first || t) (any_more verdicts last)
    ∙ sym (or_assoc (is_refused first) (list_any is_refused verdicts) (is_refused last))
  where
    or_assoc : (s t u : Bool) → (s || t) || u ≡ s || (t || u)
    or_assoc true t u = refl
    or_assoc false t u = refl

rose_first : (a b c : ℕ) → Rose a b → b ≤ c → Rose a c
rose_first a b c rose le = λ small. omega (arith, rose (omega arith))

rose_last : (a b c : ℕ) → a ≤ b → Rose b c → Rose a c
rose_last a b c le rose = λ small. omega (arith, rose small)

rose_either : (t u : Bool) (a b c : ℕ) → (IsTrue t → Rose a b) → (IsTrue u → Rose b c) → a ≤ b → b ≤ c → IsTrue (t || u)
    → Rose a c
rose_either true u a b c first last below above either = rose_first a b c (first refl) above
rose_either false u a b c first last below above either = rose_last a b c below (last either)

still_both : (t u : Bool) (a b c : ℕ) → (t ≡ false → b ≡ a) → (u ≡ false → c ≡ b) → t || u ≡ false → c ≡ a
still_both true u a b c first last neither = absurd (cc neither)
still_both false u a b c first last neither = last neither ∙ first refl

pub more_verdicts : (asked : Option Tree) (start mid new : PatternsReport) (verdicts : List (Option Refusal))
    (refusal : Option Refusal)
    → AfterVerdicts start mid verdicts → AfterVerdict asked refusal mid new
    → AfterVerdicts start new (verdicts ++ refusal ∷ [])
more_verdicts asked start mid new verdicts refusal before last = record {
  reported = last.reported
      ∙ ap (option_map (λ texts. texts ++ option_to_list (option_map refused_text refusal))) before.reported
      ∙ appended_twice start.refused (texts_refused verdicts) (option_to_list (option_map refused_text refusal))
      ∙ ap (λ more. option_map (λ texts. texts ++ more) start.refused) (sym (texts_more verdicts refusal));
  never_falls = omega (arith, before.never_falls, last.never_falls);
  rose =
      λ refused. rose_either (list_any is_refused verdicts) (is_refused refusal) start.refusals mid.refusals
      new.refusals before.rose last.rose before.never_falls last.never_falls
      (sym (any_more verdicts refusal) ∙ refused);
  still =
      λ none. still_both (list_any is_refused verdicts) (is_refused refusal) start.refusals mid.refusals new.refusals
      before.still last.still
      (sym (any_more verdicts refusal) ∙ none);
}

pub verdicts_then : (a b c : PatternsReport) (first second : List (Option Refusal)) → AfterVerdicts a b first
    → AfterVerdicts b c second → AfterVerdicts a c (first ++ second)
verdicts_then a b c first second one two = record {
  reported = two.reported
      ∙ ap (option_map (λ (texts : List (List ℕ)). texts ++ texts_refused second)) one.reported
      ∙ appended_twice a.refused (texts_refused first) (texts_refused second)
      ∙ ap (λ (more : List (List ℕ)). option_map (λ (texts : List (List ℕ)). texts ++ more) a.refused)
      (sym
      (flat_map-append (λ (verdict : Option Refusal). option_to_list (option_map refused_text verdict)) first second));
  never_falls = omega (arith, one.never_falls, two.never_falls);
  rose =
      λ refused. rose_either (list_any is_refused first) (list_any is_refused second) a.refusals b.refusals c.refusals
      one.rose two.rose one.never_falls two.never_falls
      (sym (list_any-append is_refused first second) ∙ refused);
  still =
      λ none. still_both (list_any is_refused first) (list_any is_refused second) a.refusals b.refusals c.refusals
      one.still two.still
      (sym (list_any-append is_refused first second) ∙ none);
}
