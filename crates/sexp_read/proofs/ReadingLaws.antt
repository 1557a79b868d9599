-- What is read, with one more piece.
use Rattle.std.proofs.Common.{◌≡◌, ℕ, true, nat_le, List, [], ◌∷◌, ◌++◌, length, Some, Result, Ok, Err, refl, ap, sym}
use Rattle.std.proofs.Common.{◌∙◌, inl, inr, append_assoc}
use Rattle.std.proofs.lemmas.Bool.{cases_Bool}
use Rattle.std.proofs.lemmas.List.{append-nil, length-map}
use Rattle.sexp_read.specs.declared.piece.Piece.{Piece}
use Rattle.sexp_read.specs.declared.piece.Piece.TheVariants.{Blank, Opening, Closing, Whole}
use Rattle.sexp_read.specs.Tree.{Bracket, Round, Square, Curly, FormTree, FormTrees, Single, Group, none, also}
use Rattle.sexp_read.specs.Tokens.{Token, Opened, Closed, Stood, Fault, Lexed, with_tokens, tokens_in}
use Rattle.sexp_read.specs.Grammar.{form_spelling, spelling, same_bracket, deepest, fault_after}
use Rattle.sexp_read.specs.Reading.{Frame, Reading, brackets_of, with_form, closed, with_piece}

-- the tokens of what is read
abbrev pub stack_tokens : List Frame → List Token
stack_tokens [] = []
stack_tokens (frame ∷ stack) = stack_tokens stack ++ (spelling frame.before ++ Opened frame.bracket frame.place ∷ [])

abbrev pub read_tokens : Reading → List Token
read_tokens reading = stack_tokens reading.stack ++ spelling reading.forms

pub spelling_with_form : (forms : FormTrees) (form : FormTree)
    → spelling (with_form forms form) ≡ spelling forms ++ form_spelling form
spelling_with_form none form = append-nil (form_spelling form)
spelling_with_form (also first forms) form =
    ap (λ tokens. form_spelling first ++ tokens) (spelling_with_form forms form)
    ∙ sym (append_assoc (form_spelling first) (spelling forms) (form_spelling form))

pub same_brackets : (a b : Bracket) → same_bracket a b ≡ true → a ≡ b
same_brackets Round Round h = refl
same_brackets Square Square h = refl
same_brackets Curly Curly h = refl
same_brackets Round Square h = cc
same_brackets Round Curly h = cc
same_brackets Square Round h = cc
same_brackets Square Curly h = cc
same_brackets Curly Round h = cc
same_brackets Curly Square h = cc

pub same_bracket_refl : (a : Bracket) → same_bracket a a ≡ true
same_bracket_refl Round = refl
same_bracket_refl Square = refl
same_bracket_refl Curly = refl

ok_is : (x y : Reading) → (let read : Result Reading Fault = Ok x in read ≡ Ok y) → x ≡ y
ok_is x y h = cc

group_tokens : (stack before inner : List Token) (first last : Token)
    → stack ++ (before ++ (first ∷ (inner ++ last ∷ []))) ≡ ((stack ++ (before ++ first ∷ [])) ++ inner) ++ last ∷ []
group_tokens stack before inner first last = simp append_assoc

closed_tokens : (stack : List Frame) (forms : FormTrees) (bracket : Bracket) (last : ℕ) (after : Reading)
    → closed stack forms bracket last ≡ Ok after
    → read_tokens after ≡ (stack_tokens stack ++ spelling forms) ++ Closed bracket last ∷ []
closed_tokens [] forms bracket last after h = cc
closed_tokens (frame ∷ stack) forms bracket last after h = elim (cases_Bool (same_bracket frame.bracket bracket)) [
  | inl same ↦ let e = ok_is _ after (rw same at h) in
      ap read_tokens (sym e)
      ∙ ap (λ tokens. stack_tokens stack ++ tokens)
      (spelling_with_form frame.before (Group frame.bracket forms frame.place last))
      ∙ group_tokens (stack_tokens stack) (spelling frame.before) (spelling forms) (Opened frame.bracket frame.place)
      (Closed frame.bracket last)
      ∙ ap
      (λ kind. ((stack_tokens stack ++ (spelling frame.before ++ Opened frame.bracket frame.place ∷ []))
      ++ spelling forms)
      ++ Closed kind last ∷ [])
      (same_brackets frame.bracket bracket same)
  | inr other ↦ let e = rw other at h in cc
]

pub piece_tokens : (reading : Reading) (start last : ℕ) (piece : Piece) (after : Reading)
    → with_piece reading start piece last ≡ Ok after
    → read_tokens after ≡ read_tokens reading ++ tokens_in start piece last
piece_tokens reading start last Blank after h =
    ap read_tokens (sym (ok_is reading after h)) ∙ sym (append-nil (read_tokens reading))
piece_tokens reading start last (Opening bracket) after h = elim (cases_Bool (nat_le deepest (length reading.stack))) [
  | inl deep ↦ let e = rw deep at h in cc
  | inr shallow ↦ ap read_tokens (sym (ok_is _ after (rw shallow at h)))
      ∙ append-nil _
      ∙ sym (append_assoc (stack_tokens reading.stack) (spelling reading.forms) (Opened bracket start ∷ []))
]
piece_tokens reading start last (Closing bracket) after h =
    closed_tokens reading.stack reading.forms bracket last after h
piece_tokens reading start last (Whole atom) after h = ap read_tokens (sym (ok_is _ after h))
    ∙ ap (λ tokens. stack_tokens reading.stack ++ tokens) (spelling_with_form reading.forms (Single atom start last))
    ∙ sym (append_assoc (stack_tokens reading.stack) (spelling reading.forms) (Stood atom start last ∷ []))

pub brackets_length : (stack : List Frame) → length (brackets_of stack) ≡ length stack
brackets_length stack = length-map stack _

closed_fault : (stack : List Frame) (forms : FormTrees) (bracket : Bracket) (last : ℕ) (after : Reading) (more : Lexed)
    → closed stack forms bracket last ≡ Ok after
    → fault_after (brackets_of stack) (with_tokens (Closed bracket last ∷ []) more)
    ≡ fault_after (brackets_of after.stack) more
unfolding fault_after
closed_fault [] forms bracket last after more h = cc
closed_fault (frame ∷ stack) forms bracket last after more h = elim (cases_Bool (same_bracket frame.bracket bracket)) [
  | inl same ↦ let e = ok_is _ after (rw same at h) in
      rw same (ap (λ (reading : Reading). fault_after (brackets_of reading.stack) more) e)
  | inr other ↦ let e = rw other at h in cc
]

pub piece_fault : (reading : Reading) (start last : ℕ) (piece : Piece) (after : Reading) (more : Lexed)
    → with_piece reading start piece last ≡ Ok after
    → fault_after (brackets_of reading.stack) (with_tokens (tokens_in start piece last) more)
    ≡ fault_after (brackets_of after.stack) more
unfolding fault_after
piece_fault reading start last Blank after more h =
    ap (λ (reading : Reading). fault_after (brackets_of reading.stack) more) (ok_is reading after h)
piece_fault reading start last (Opening bracket) after more h =
    elim (cases_Bool (nat_le deepest (length reading.stack))) [
      | inl deep ↦ let e = rw deep at h in cc
      | inr shallow ↦ rw (brackets_length reading.stack, shallow)
          (ap (λ (reading : Reading). fault_after (brackets_of reading.stack) more) (ok_is _ after (rw shallow at h)))
    ]
piece_fault reading start last (Closing bracket) after more h =
    closed_fault reading.stack reading.forms bracket last after more h
piece_fault reading start last (Whole atom) after more h =
    ap (λ (reading : Reading). fault_after (brackets_of reading.stack) more) (ok_is _ after h)

closed_refused : (stack : List Frame) (forms : FormTrees) (bracket : Bracket) (last : ℕ) (fault : Fault) (more : Lexed)
    → closed stack forms bracket last ≡ Err fault
    → fault_after (brackets_of stack) (with_tokens (Closed bracket last ∷ []) more) ≡ Some fault
unfolding fault_after
closed_refused [] forms bracket last fault more h = cc
closed_refused (frame ∷ stack) forms bracket last fault more h =
    elim (cases_Bool (same_bracket frame.bracket bracket)) [
      | inl same ↦ let e = rw same at h in cc
      | inr other ↦ let e = rw other at h in rw other cc
    ]

pub piece_refused : (reading : Reading) (start last : ℕ) (piece : Piece) (fault : Fault) (more : Lexed)
    → with_piece reading start piece last ≡ Err fault
    → fault_after (brackets_of reading.stack) (with_tokens (tokens_in start piece last) more) ≡ Some fault
unfolding fault_after
piece_refused reading start last Blank fault more h = cc
piece_refused reading start last (Opening bracket) fault more h =
    elim (cases_Bool (nat_le deepest (length reading.stack))) [
      | inl deep ↦ let e = rw deep at h in rw (brackets_length reading.stack, deep) cc
      | inr shallow ↦ let e = rw shallow at h in cc
    ]
piece_refused reading start last (Closing bracket) fault more h =
    closed_refused reading.stack reading.forms bracket last fault more h
piece_refused reading start last (Whole atom) fault more h = cc
