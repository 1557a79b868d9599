-- The tokens of forms: how deep they nest, which bracket they leave open, and that no other forms have them.
use Rattle.std.proofs.Common.{◌≡◌, ℕ, ◌+◌, ◌≤◌, nat_le, List, [], ◌∷◌, ◌++◌, length, None, refl, ap, sym, ◌∙◌, arith}
use Rattle.std.proofs.Common.{inl, inr, append_assoc}
use Rattle.std.proofs.lemmas.Bool.{cases_Bool, leb-false, lt-leb}
use Rattle.std.proofs.lemmas.List.{append-nil}
use Rattle.sexp_read.specs.Tree.{Bracket, FormTree, FormTrees, Single, Group, none, also}
use Rattle.sexp_read.specs.Tokens.{Token, Closed}
use Rattle.sexp_read.specs.Grammar.{form_spelling, spelling, form_depth, depth, deepest, Brackets, bracket_fault}
use Rattle.sexp_read.specs.Grammar.{open_after}
use Rattle.sexp_read.proofs.ReadingLaws.{same_bracket_refl}

-- the tokens inside a group, and those after it
pub inside : (forms : FormTrees) (last : Token) (more : List Token)
    → (spelling forms ++ last ∷ []) ++ more ≡ spelling forms ++ last ∷ more
inside forms last more = append_assoc (spelling forms) (last ∷ []) more

closed_well : (bracket : Bracket) (start last : ℕ) (stack : Brackets) (more : List Token)
    → bracket_fault ((bracket, start) ∷ stack) (Closed bracket last ∷ more) ≡ bracket_fault stack more
closed_well bracket start last stack more = rw (same_bracket_refl bracket) refl

mutual
  form_fault : (form : FormTree) (stack : Brackets) (more : List Token) → length stack + form_depth form ≤ deepest
      → bracket_fault stack (form_spelling form ++ more) ≡ bracket_fault stack more
  form_fault (Single atom start last) stack more h = refl
  form_fault (Group bracket forms start last) stack more h =
      rw (lt-leb deepest (length stack) (omega arith), inside forms (Closed bracket last) more)
      (forms_fault forms ((bracket, start) ∷ stack) (Closed bracket last ∷ more) (omega arith)
      ∙ closed_well bracket start last stack more)

  forms_fault : (forms : FormTrees) (stack : Brackets) (more : List Token) → length stack + depth forms ≤ deepest
      → bracket_fault stack (spelling forms ++ more) ≡ bracket_fault stack more
  forms_fault none stack more h = refl
  forms_fault (also form forms) stack more h =
      rw (append_assoc (form_spelling form) (spelling forms) more)
      (form_fault form stack (spelling forms ++ more) (omega arith) ∙ forms_fault forms stack more (omega arith))

-- forms that nest no deeper than is allowed have no fault of a bracket
pub no_bracket_fault : (forms : FormTrees) → depth forms ≤ deepest → bracket_fault [] (spelling forms) ≡ None
no_bracket_fault forms h =
    ap (bracket_fault []) (sym (append-nil (spelling forms))) ∙ forms_fault forms [] [] (omega arith)

mutual
  form_shallow : (form : FormTree) (stack : Brackets) (more : List Token) → length stack ≤ deepest
      → bracket_fault stack (form_spelling form ++ more) ≡ None
      → (length stack + form_depth form ≤ deepest) × (bracket_fault stack more ≡ None)
  form_shallow (Single atom start last) stack more h e = (omega arith, e)
  form_shallow (Group bracket forms start last) stack more h e = elim (cases_Bool (nat_le deepest (length stack))) [
    | inl deep ↦ let e' = rw deep at e in cc
    | inr shallow ↦
        let room = leb-false deepest (length stack) shallow in
        let e' = rw (shallow, inside forms (Closed bracket last) more) at e in
        let below = forms_shallow forms ((bracket, start) ∷ stack) (Closed bracket last ∷ more) (omega arith) e' in
        (omega arith, sym (closed_well bracket start last stack more) ∙ below.1)
  ]

  forms_shallow : (forms : FormTrees) (stack : Brackets) (more : List Token) → length stack ≤ deepest
      → bracket_fault stack (spelling forms ++ more) ≡ None
      → (length stack + depth forms ≤ deepest) × (bracket_fault stack more ≡ None)
  forms_shallow none stack more h e = (omega arith, e)
  forms_shallow (also form forms) stack more h e =
      let e' = rw (append_assoc (form_spelling form) (spelling forms) more) at e in
      let first = form_shallow form stack (spelling forms ++ more) h e' in
      let others = forms_shallow forms stack more h first.1 in
      (omega arith, others.1)

-- and where there is none, they nest no deeper
pub shallow_forms : (forms : FormTrees) → bracket_fault [] (spelling forms) ≡ None → depth forms ≤ deepest
shallow_forms forms e =
    let known = forms_shallow forms [] [] (omega arith) (ap (bracket_fault []) (append-nil (spelling forms)) ∙ e) in
    omega arith

mutual
  form_opens : (form : FormTree) (stack : Brackets) (more : List Token)
      → open_after stack (form_spelling form ++ more) ≡ open_after stack more
  form_opens (Single atom start last) stack more = refl
  form_opens (Group bracket forms start last) stack more =
      ap (open_after ((bracket, start) ∷ stack)) (inside forms (Closed bracket last) more)
      ∙ forms_open forms ((bracket, start) ∷ stack) (Closed bracket last ∷ more)

  pub forms_open : (forms : FormTrees) (stack : Brackets) (more : List Token)
      → open_after stack (spelling forms ++ more) ≡ open_after stack more
  forms_open none stack more = refl
  forms_open (also form forms) stack more =
      ap (open_after stack) (append_assoc (form_spelling form) (spelling forms) more)
      ∙ form_opens form stack (spelling forms ++ more) ∙ forms_open forms stack more

-- forms leave no bracket open
pub none_open : (forms : FormTrees) → open_after [] (spelling forms) ≡ []
none_open forms = ap (open_after []) (sym (append-nil (spelling forms))) ∙ forms_open forms [] []

-- the first token of a form is no closing bracket
closed_apart : (bracket : Bracket) (last : ℕ) (form : FormTree) (more rest : List Token)
    → Closed bracket last ∷ rest ≡ form_spelling form ++ more → ⊥
closed_apart bracket last (Single atom start after) more rest e = cc
closed_apart bracket last (Group kind forms start after) more rest e = cc

nothing_apart : (form : FormTree) (more : List Token) → [] ≡ form_spelling form ++ more → ⊥
nothing_apart (Single atom start last) more e = cc
nothing_apart (Group bracket forms start last) more e = cc

record SameForm (f g : FormTree) (r q : List Token) : Type 0 where
  form : f ≡ g
  rest : r ≡ q

record SameForms (f g : FormTrees) (d e : ℕ) (r q : List Token) : Type 0 where
  forms : f ≡ g
  last : d ≡ e
  rest : r ≡ q

mutual
  same_form : (f g : FormTree) (r q : List Token) → form_spelling f ++ r ≡ form_spelling g ++ q → SameForm f g r q
  same_form (Single a s e) (Single a' s' e') r q h = record { form = cc; rest = cc }
  same_form (Single a s e) (Group b fs s' e') r q h = cc
  same_form (Group b fs s e) (Single a s' e') r q h = cc
  same_form (Group b fs s e) (Group b' gs s' e') r q h =
      let tails : (spelling fs ++ Closed b e ∷ []) ++ r ≡ (spelling gs ++ Closed b' e' ∷ []) ++ q = cc in
      let same = same_forms fs gs b b' e e' r q (sym (inside fs (Closed b e) r) ∙ tails ∙ inside gs (Closed b' e') q) in
      record { form = cc (same.forms, same.last); rest = same.rest }

  same_forms : (fs gs : FormTrees) (b b' : Bracket) (e e' : ℕ) (r q : List Token)
      → spelling fs ++ Closed b e ∷ r ≡ spelling gs ++ Closed b' e' ∷ q → SameForms fs gs e e' r q
  same_forms none none b b' e e' r q h = record { forms = refl; last = cc; rest = cc }
  same_forms none (also g gs) b b' e e' r q h =
      absurd (closed_apart b e g (spelling gs ++ Closed b' e' ∷ q) r
      (h ∙ append_assoc (form_spelling g) (spelling gs) (Closed b' e' ∷ q)))
  same_forms (also f fs) none b b' e e' r q h =
      absurd (closed_apart b' e' f (spelling fs ++ Closed b e ∷ r) q
      (sym h ∙ append_assoc (form_spelling f) (spelling fs) (Closed b e ∷ r)))
  same_forms (also f fs) (also g gs) b b' e e' r q h =
      let first = same_form f g (spelling fs ++ Closed b e ∷ r) (spelling gs ++ Closed b' e' ∷ q)
      (sym (append_assoc (form_spelling f) (spelling fs) (Closed b e ∷ r)) ∙ h
      ∙ append_assoc (form_spelling g) (spelling gs) (Closed b' e' ∷ q)) in
      let others = same_forms fs gs b b' e e' r q first.rest in
      record { forms = cc (first.form, others.forms); last = others.last; rest = others.rest }

-- no two lists of forms have the same tokens
pub one_reading : (fs gs : FormTrees) → spelling fs ≡ spelling gs → fs ≡ gs
one_reading none none h = refl
one_reading none (also g gs) h = absurd (nothing_apart g (spelling gs) h)
one_reading (also f fs) none h = absurd (nothing_apart f (spelling fs) (sym h))
one_reading (also f fs) (also g gs) h =
    let first = same_form f g (spelling fs) (spelling gs) h in
    let others = one_reading fs gs first.rest in cc (first.form, others)
