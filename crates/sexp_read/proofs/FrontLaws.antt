-- Tokens with which forms begin.
use Rattle.std.proofs.Common.{◌≡◌, ℕ, ◌≤◌, Bool, true, false, nat_le, ◌&&◌, List, [], ◌∷◌, ◌++◌, length, Option, None}
use Rattle.std.proofs.Common.{refl, ap, sym, ◌∙◌, arith, subst, inl, inr, append_assoc}
use Rattle.std.proofs.lemmas.Bool.{cases_Bool, leb-true, leb-false, and_parts, and_from}
use Rattle.std.proofs.lemmas.List.{append-nil}
use Rattle.sexp_read.specs.declared.piece.Piece.TheVariants.{Opening, Closing, Whole}
use Rattle.sexp_read.specs.Tree.{Bracket, FormTree, FormTrees, Single, Group, none, also}
use Rattle.sexp_read.specs.Tokens.{Token, Opened, Closed, Stood, Fault}
use Rattle.sexp_read.specs.Grammar.{form_spelling, spelling, deepest, same_bracket, Brackets, bracket_fault, open_after}
use Rattle.sexp_read.specs.Reading.{Frame, Reading, brackets_of, with_form}
use Rattle.sexp_read.specs.Prefixes.{IsPrefixOfForms, IsFirstFault}
use Rattle.sexp_read.proofs.ReadingLaws.{stack_tokens, read_tokens, piece_tokens, same_bracket_refl, brackets_length}
use Rattle.sexp_read.proofs.Spellings.{inside, forms_open}

-- each closing bracket closes one of its kind
abbrev matched : Brackets → List Token → Bool
matched stack [] = true
matched stack (Opened bracket place ∷ tokens) = matched ((bracket, place) ∷ stack) tokens
matched [] (Closed bracket last ∷ tokens) = false
matched (innermost ∷ stack) (Closed bracket last ∷ tokens) = same_bracket innermost.0 bracket && matched stack tokens
matched stack (Stood atom start last ∷ tokens) = matched stack tokens

mutual
  form_matched : (form : FormTree) (stack : Brackets) (more : List Token)
      → matched stack (form_spelling form ++ more) ≡ matched stack more
  form_matched (Single atom start last) stack more = refl
  form_matched (Group bracket forms start last) stack more =
      ap (matched ((bracket, start) ∷ stack)) (inside forms (Closed bracket last) more)
      ∙ forms_matched forms ((bracket, start) ∷ stack) (Closed bracket last ∷ more)
      ∙ ap (λ b. b && matched stack more) (same_bracket_refl bracket)

  forms_matched : (forms : FormTrees) (stack : Brackets) (more : List Token)
      → matched stack (spelling forms ++ more) ≡ matched stack more
  forms_matched none stack more = refl
  forms_matched (also form forms) stack more =
      ap (matched stack) (append_assoc (form_spelling form) (spelling forms) more)
      ∙ form_matched form stack (spelling forms ++ more) ∙ forms_matched forms stack more

front_matched : (stack : Brackets) (front more : List Token) → matched stack (front ++ more) ≡ true
    → matched stack front ≡ true
front_matched stack [] more h = refl
front_matched stack (Opened bracket place ∷ front) more h = front_matched ((bracket, place) ∷ stack) front more h
front_matched [] (Closed bracket last ∷ front) more h = h
front_matched (innermost ∷ stack) (Closed bracket last ∷ front) more h =
    let parts = and_parts (same_bracket innermost.0 bracket) (matched stack (front ++ more)) h in
    and_from (same_bracket innermost.0 bracket) (matched stack front) parts.0 (front_matched stack front more parts.1)
front_matched stack (Stood atom start last ∷ front) more h = front_matched stack front more h

matched_front : (tokens : List Token) → IsPrefixOfForms tokens → matched [] tokens ≡ true
matched_front tokens front = front_matched [] tokens front.more
    (ap (matched []) front.whole ∙ ap (matched []) (sym (append-nil (spelling front.forms)))
    ∙ forms_matched front.forms [] [])

-- what is read represents its tokens
frame_apart : (stack : List Frame) (frame : Frame) (tokens : List Token)
    → stack_tokens (frame ∷ stack) ++ tokens
    ≡ stack_tokens stack ++ (spelling frame.before ++ (Opened frame.bracket frame.place ∷ tokens))
frame_apart stack frame tokens = simp append_assoc

stack_matched : (stack : List Frame) (tokens : List Token)
    → matched [] (stack_tokens stack ++ tokens) ≡ matched (brackets_of stack) tokens
stack_matched [] tokens = refl
stack_matched (frame ∷ stack) tokens = ap (matched []) (frame_apart stack frame tokens)
    ∙ stack_matched stack (spelling frame.before ++ (Opened frame.bracket frame.place ∷ tokens))
    ∙ forms_matched frame.before (brackets_of stack) (Opened frame.bracket frame.place ∷ tokens)

reading_matched : (reading : Reading) (tokens : List Token)
    → matched [] (read_tokens reading ++ tokens) ≡ matched (brackets_of reading.stack) tokens
reading_matched reading tokens =
    ap (matched []) (append_assoc (stack_tokens reading.stack) (spelling reading.forms) tokens)
    ∙ stack_matched reading.stack (spelling reading.forms ++ tokens)
    ∙ forms_matched reading.forms (brackets_of reading.stack) tokens

stack_open : (stack : List Frame) (tokens : List Token)
    → open_after [] (stack_tokens stack ++ tokens) ≡ open_after (brackets_of stack) tokens
stack_open [] tokens = refl
stack_open (frame ∷ stack) tokens = ap (open_after []) (frame_apart stack frame tokens)
    ∙ stack_open stack (spelling frame.before ++ (Opened frame.bracket frame.place ∷ tokens))
    ∙ forms_open frame.before (brackets_of stack) (Opened frame.bracket frame.place ∷ tokens)

reading_open : (reading : Reading) → open_after [] (read_tokens reading) ≡ brackets_of reading.stack
reading_open reading = stack_open reading.stack (spelling reading.forms)
    ∙ ap (open_after (brackets_of reading.stack)) (sym (append-nil (spelling reading.forms)))
    ∙ forms_open reading.forms (brackets_of reading.stack) []

-- with closing brackets for all that are open it is forms
closers : List Frame → List Token
closers [] = []
closers (frame ∷ stack) = Closed frame.bracket 0 ∷ closers stack

all_closed : List Frame → FormTrees → FormTrees
all_closed [] forms = forms
all_closed (frame ∷ stack) forms = all_closed stack (with_form frame.before (Group frame.bracket forms frame.place 0))

closed_front : (stack : List Frame) (forms : FormTrees)
    → (stack_tokens stack ++ spelling forms) ++ closers stack ≡ spelling (all_closed stack forms)
unfolding closers all_closed
closed_front [] forms = append-nil (spelling forms)
closed_front (frame ∷ stack) forms =
    let before : Reading = record { stack = frame ∷ stack; forms = forms } in
    let after : Reading =
    record { stack = stack; forms = with_form frame.before (Group frame.bracket forms frame.place 0) } in
    let same = piece_tokens before 0 0 (Closing frame.bracket) after (rw (same_bracket_refl frame.bracket) refl) in
    sym (append_assoc (read_tokens before) (Closed frame.bracket 0 ∷ []) (closers stack))
    ∙ ap (λ tokens. tokens ++ closers stack) (sym same) ∙ closed_front stack after.forms

reading_front : (reading : Reading) → IsPrefixOfForms (read_tokens reading)
reading_front reading = record {
  more = closers reading.stack;
  forms = all_closed reading.stack reading.forms;
  whole = closed_front reading.stack reading.forms;
}

-- one more token
front_same : (a b : List Token) (fault : Option Fault) → a ≡ b → IsFirstFault a fault → IsFirstFault b fault
front_same a b fault e h = subst (λ (tokens : List Token). IsFirstFault tokens fault) e h

more_read : (reading after : Reading) (token : Token) (tokens : List Token)
    → read_tokens after ≡ read_tokens reading ++ token ∷ []
    → read_tokens after ++ tokens ≡ read_tokens reading ++ (token ∷ tokens)
more_read reading after token tokens e =
    ap (λ front. front ++ tokens) e ∙ append_assoc (read_tokens reading) (token ∷ []) tokens

not_front : (reading : Reading) (bracket : Bracket) (last : ℕ)
    → matched (brackets_of reading.stack) (Closed bracket last ∷ []) ≡ false
    → IsPrefixOfForms (read_tokens reading ++ Closed bracket last ∷ []) → ⊥
not_front reading bracket last e front =
    let one = matched_front (read_tokens reading ++ Closed bracket last ∷ []) front in
    let two = reading_matched reading (Closed bracket last ∷ []) in
    let clash : true ≡ false = sym one ∙ two ∙ e in cc

abbrev KnownFirst : List Token → Type 0
KnownFirst tokens = (reading : Reading) → length reading.stack ≤ deepest
    → IsFirstFault (read_tokens reading ++ tokens) (bracket_fault (brackets_of reading.stack) tokens)

first_opened : (bracket : Bracket) (place : ℕ) (tokens : List Token) (reading : Reading) → KnownFirst tokens
    → length reading.stack ≤ deepest
    → (deep : Bool) → nat_le deepest (length (brackets_of reading.stack)) ≡ deep
    → IsFirstFault (read_tokens reading ++ (Opened bracket place ∷ tokens))
    (bracket_fault (brackets_of reading.stack) (Opened bracket place ∷ tokens))
first_opened bracket place tokens reading known h true e =
    let most = leb-true deepest (length (brackets_of reading.stack)) e in
    rw e (record {
      before = read_tokens reading;
      faulty = Opened bracket place;
      after = tokens;
      whole = refl;
      front = reading_front reading;
      is = (refl, ap length (reading_open reading) ∙ omega (arith, brackets_length reading.stack));
    })
first_opened bracket place tokens reading known h false e =
    let room = leb-false deepest (length (brackets_of reading.stack)) e in
    let same = brackets_length reading.stack in
    let after : Reading = record {
      stack = record { bracket = bracket; place = place; before = reading.forms } ∷ reading.stack;
      forms = none;
    } in
    let shallow = rw same at e in
    rw e (front_same _ _ _
    (more_read reading after (Opened bracket place) tokens
    (piece_tokens reading place 0 (Opening bracket) after (rw shallow refl)))
    (known after (omega arith)))

first_matched : (bracket : Bracket) (last : ℕ) (tokens : List Token) (frame : Frame) (stack : List Frame)
    (forms : FormTrees)
    → KnownFirst tokens → length (frame ∷ stack) ≤ deepest
    → (same : Bool) → same_bracket frame.bracket bracket ≡ same
    → IsFirstFault ((stack_tokens (frame ∷ stack) ++ spelling forms) ++ (Closed bracket last ∷ tokens))
    (bracket_fault (brackets_of (frame ∷ stack)) (Closed bracket last ∷ tokens))
first_matched bracket last tokens frame stack forms known h true e =
    let reading : Reading = record { stack = frame ∷ stack; forms = forms } in
    let after : Reading =
    record { stack = stack; forms = with_form frame.before (Group frame.bracket forms frame.place last) } in
    rw e (front_same _ _ _
    (more_read reading after (Closed bracket last) tokens
    (piece_tokens reading 0 last (Closing bracket) after (rw e refl)))
    (known after (omega arith)))
first_matched bracket last tokens frame stack forms known h false e =
    let reading : Reading = record { stack = frame ∷ stack; forms = forms } in
    rw e (record {
      before = read_tokens reading;
      faulty = Closed bracket last;
      after = tokens;
      whole = refl;
      front = reading_front reading;
      is = (refl, not_front reading bracket last (rw e refl));
    })

first_closed : (bracket : Bracket) (last : ℕ) (tokens : List Token) (stack : List Frame) (forms : FormTrees)
    → KnownFirst tokens → length stack ≤ deepest
    → IsFirstFault ((stack_tokens stack ++ spelling forms) ++ (Closed bracket last ∷ tokens))
    (bracket_fault (brackets_of stack) (Closed bracket last ∷ tokens))
first_closed bracket last tokens [] forms known h =
    let reading : Reading = record { stack = []; forms = forms } in
    record {
      before = read_tokens reading;
      faulty = Closed bracket last;
      after = tokens;
      whole = refl;
      front = reading_front reading;
      is = (refl, not_front reading bracket last refl);
    }
first_closed bracket last tokens (frame ∷ stack) forms known h =
    first_matched bracket last tokens frame stack forms known h (same_bracket frame.bracket bracket) refl

first_from : (tokens : List Token) (reading : Reading) → length reading.stack ≤ deepest
    → IsFirstFault (read_tokens reading ++ tokens) (bracket_fault (brackets_of reading.stack) tokens)
first_from [] reading h =
    subst (λ (tokens : List Token). IsPrefixOfForms tokens) (sym (append-nil (read_tokens reading)))
    (reading_front reading)
first_from (Stood atom start last ∷ tokens) reading h =
    let after : Reading = record { stack = reading.stack; forms = with_form reading.forms (Single atom start last) } in
    front_same _ _ _
    (more_read reading after (Stood atom start last) tokens (piece_tokens reading start last (Whole atom) after refl))
    (first_from tokens after h)
first_from (Opened bracket place ∷ tokens) reading h =
    first_opened bracket place tokens reading (first_from tokens) h
    (nat_le deepest (length (brackets_of reading.stack))) refl
first_from (Closed bracket last ∷ tokens) reading h =
    first_closed bracket last tokens reading.stack reading.forms (first_from tokens) h

pub first_fault : (tokens : List Token) → IsFirstFault tokens (bracket_fault [] tokens)
first_fault tokens = first_from tokens (record { stack = []; forms = none }) (omega arith)

-- tokens that leave no bracket open
abbrev AreForms : List Token → Type 0
AreForms tokens = (forms : FormTrees) × (tokens ≡ spelling forms)

are_same : (a b : List Token) → a ≡ b → AreForms a → AreForms b
are_same a b e h = (h.0, sym e ∙ h.1)

no_frames : (stack : List Frame) → brackets_of stack ≡ [] → stack ≡ []
no_frames [] h = refl
no_frames (frame ∷ stack) h = cc

abbrev KnownForms : List Token → Type 0
KnownForms tokens = (reading : Reading) → bracket_fault (brackets_of reading.stack) tokens ≡ None
    → open_after (brackets_of reading.stack) tokens ≡ [] → AreForms (read_tokens reading ++ tokens)

closed_following : (bracket : Bracket) (last : ℕ) (tokens : List Token) (stack : List Frame) (forms : FormTrees)
    → KnownForms tokens
    → bracket_fault (brackets_of stack) (Closed bracket last ∷ tokens) ≡ None
    → open_after (brackets_of stack) (Closed bracket last ∷ tokens) ≡ []
    → AreForms ((stack_tokens stack ++ spelling forms) ++ (Closed bracket last ∷ tokens))
closed_following bracket last tokens [] forms known e o = cc
closed_following bracket last tokens (frame ∷ stack) forms known e o =
    elim (cases_Bool (same_bracket frame.bracket bracket)) [
      | inl same ↦
          let reading : Reading = record { stack = frame ∷ stack; forms = forms } in
          let after : Reading =
          record { stack = stack; forms = with_form frame.before (Group frame.bracket forms frame.place last) } in
          are_same _ _ (more_read reading after (Closed bracket last) tokens
          (piece_tokens reading 0 last (Closing bracket) after (rw same refl)))
          (known after (rw same at e) o)
      | inr other ↦ let e' = rw other at e in cc
    ]

closed_from : (tokens : List Token) (reading : Reading) → bracket_fault (brackets_of reading.stack) tokens ≡ None
    → open_after (brackets_of reading.stack) tokens ≡ [] → AreForms (read_tokens reading ++ tokens)
closed_from [] reading e o = (
  reading.forms,
  append-nil (read_tokens reading)
      ∙ ap (λ stack. stack_tokens stack ++ spelling reading.forms) (no_frames reading.stack o),
)
closed_from (Stood atom start last ∷ tokens) reading e o =
    let after : Reading = record { stack = reading.stack; forms = with_form reading.forms (Single atom start last) } in
    are_same _ _
    (more_read reading after (Stood atom start last) tokens (piece_tokens reading start last (Whole atom) after refl))
    (closed_from tokens after e o)
closed_from (Opened bracket place ∷ tokens) reading e o =
    elim (cases_Bool (nat_le deepest (length (brackets_of reading.stack)))) [
      | inl deep ↦ let e' = rw deep at e in cc
      | inr shallow ↦
          let after : Reading = record {
            stack = record { bracket = bracket; place = place; before = reading.forms } ∷ reading.stack;
            forms = none;
          } in
          let room = rw (brackets_length reading.stack) at shallow in
          are_same _ _ (more_read reading after (Opened bracket place) tokens
          (piece_tokens reading place 0 (Opening bracket) after (rw room refl)))
          (closed_from tokens after (rw shallow at e) o)
    ]
closed_from (Closed bracket last ∷ tokens) reading e o =
    closed_following bracket last tokens reading.stack reading.forms (closed_from tokens) e o

pub closed_forms : (tokens : List Token) → bracket_fault [] tokens ≡ None → open_after [] tokens ≡ []
    → (forms : FormTrees) × (tokens ≡ spelling forms)
closed_forms tokens e o = closed_from tokens (record { stack = []; forms = none }) e o
