-- What the loops keep that unpack: the items so far and those of the rest are all.
use Rattle.std.proofs.Common.{◌≡◌, ℕ, zero, suc, ◌≤◌, eqb, List, [], ◌∷◌, ◌++◌, length, Option, Some, None, refl, sym}
use Rattle.std.proofs.Common.{ap, subst, ◌∙◌, append_assoc, arith, inl, inr}
use Rattle.std.proofs.lemmas.Bool.{eq-eqb}
use Rattle.std.proofs.lemmas.List.{append-nil}
use Rattle.packed_event.specs.Reading.{◌>>=◌, after_tag, repeated, repeated_within}
use Rattle.packed_event.proofs.Loops.{begun}
use Rattle.packed_event.proofs.Parts.{bind_some, chosen, done, read_as, some_is}

-- the rest reads as some more items, which with those that are there are all
pub record Rest {A : Type 0} (fuel tag : ℕ) (part : List ℕ → Option (A × List ℕ)) (all : List A) (last rest : List ℕ)
    (now : List A) : Type 0
  where
    pub more : List A
    pub read : repeated_within fuel tag part rest ≡ done (more, last)
    pub whole : all ≡ now ++ more

pub record Takes {A : Type 0} (tag : ℕ) (part : List ℕ → Option (A × List ℕ)) (bytes : List ℕ) (old : List A)
    (rest : List ℕ) (now : List A) : Type 0
  where
    pub fuel : ℕ
    pub enough : length rest ≤ fuel
    pub rests : (all : List A) (last : List ℕ) → repeated tag part bytes ≡ done (all, last)
        → Rest fuel tag part (old ++ all) last rest now

one_less : {A : Type 0} (n tag : ℕ) (part : List ℕ → Option (A × List ℕ)) (all : List A) (last text after : List ℕ)
    (item : A) (now : List A)
    → part text ≡ done (item, after) → Rest (suc n) tag part all last (tag ∷ text) now
    → Rest n tag part all last after (now ++ item ∷ [])
unfolding repeated_within
one_less {A = A} n tag part all last text after item now given rest =
    let e : (repeated_within n tag part after >>= λ (items : List A × List ℕ). read_as (item ∷ items.0) items.1)
    ≡ done (rest.more, last) =
    rw (eq-eqb tag tag refl, given) at rest.read in
    let b =
    bind_some (repeated_within n tag part after) (λ (items : List A × List ℕ). read_as (item ∷ items.0) items.1)
    (rest.more, last)
    e in
    let pairs = some_is {A = List A × List ℕ} (item ∷ b.0.0, b.0.1) (rest.more, last) b.2 in
    record {
      more = b.0.0;
      read = b.1 ∙ ap (λ (t : List ℕ). done (b.0.0, t)) (ap (λ (p : List A × List ℕ). p.1) pairs);
      whole =
          rest.whole ∙ ap (λ (t : List A). now ++ t) (sym (ap (λ (p : List A × List ℕ). p.0) pairs))
          ∙ sym (append_assoc now (item ∷ []) b.0.0);
    }

takes_from : {A : Type 0} (n tag : ℕ) (part : List ℕ → Option (A × List ℕ)) (bytes : List ℕ) (old : List A)
    (text after : List ℕ) (item : A) (now : List A)
    → length (tag ∷ text) ≤ n
    → ((all : List A) (last : List ℕ) → repeated tag part bytes ≡ done (all, last)
    → Rest n tag part (old ++ all) last (tag ∷ text) now)
    → part text ≡ done (item, after) → length after ≤ length text
    → Takes tag part bytes old after (now ++ item ∷ [])
takes_from zero tag part bytes old text after item now enough rests given less = absurd (omega arith)
takes_from (suc n) tag part bytes old text after item now enough rests given less = record {
  fuel = n;
  enough = omega arith;
  rests = λ all last e. one_less n tag part (old ++ all) last text after item now given (rests all last e);
}

pub takes_more : {A : Type 0} (tag : ℕ) (part : List ℕ → Option (A × List ℕ)) (bytes : List ℕ) (old : List A)
    (rest text after : List ℕ) (item : A) (now : List A)
    → Takes tag part bytes old rest now → after_tag tag rest ≡ Some text → part text ≡ done (item, after)
    → length after ≤ length text → Takes tag part bytes old after (now ++ item ∷ [])
takes_more {A = A} tag part bytes old rest text after item now takes tagged given less =
    let is : rest ≡ tag ∷ text = begun tag rest text tagged in
    takes_from takes.fuel tag part bytes old text after item now
    (omega (arith, takes.enough, ap (length {A = ℕ}) is))
    (λ all last e. subst (λ (t : List ℕ). Rest takes.fuel tag part (old ++ all) last t now) is (takes.rests all last e))
    given
    less

none_left : {A : Type 0} (n tag : ℕ) (part : List ℕ → Option (A × List ℕ)) (rest : List ℕ) → after_tag tag rest ≡ None
    → repeated_within n tag part rest ≡ done ([], rest)
unfolding repeated_within after_tag
none_left zero tag part rest other = refl
none_left (suc n) tag part [] other = refl
none_left (suc n) tag part (byte ∷ rest) other =
    elim (chosen (eqb byte tag) (Some rest) None None other) [
      | inl is ↦ absurd (none_some rest (sym is.1))
      | inr is ↦ rw is.0 refl
    ]
  where
    none_some : (rest : List ℕ) → None ≡ Some rest → ⊥
    none_some rest e = cc

-- the items are all that were read, and the bytes after them are left
pub takes_ends : {A : Type 0} (tag : ℕ) (part : List ℕ → Option (A × List ℕ)) (bytes : List ℕ) (old : List A)
    (rest : List ℕ) (now : List A)
    → Takes tag part bytes old rest now → after_tag tag rest ≡ None → (read : List A × List ℕ)
    → repeated tag part bytes ≡ Some read → (rest ≡ read.1) × (now ≡ old ++ read.0)
takes_ends {A = A} tag part bytes old rest now takes other read e =
    let r = takes.rests read.0 read.1 e in
    let pairs =
    some_is {A = List A × List ℕ} ([], rest) (r.more, read.1)
    (sym (none_left takes.fuel tag part rest other) ∙ r.read) in (
      ap (λ (p : List A × List ℕ). p.1) pairs,
      sym (r.whole ∙ ap (λ (t : List A). now ++ t) (sym (ap (λ (p : List A × List ℕ). p.0) pairs)) ∙ append-nil now),
    )

no_item : {A : Type 0} (n tag : ℕ) (part : List ℕ → Option (A × List ℕ)) (all : List A) (last text : List ℕ)
    (now : List A)
    → length (tag ∷ text) ≤ n → part text ≡ None → Rest n tag part all last (tag ∷ text) now → ⊥
unfolding repeated_within
no_item zero tag part all last text now enough given rest = omega arith
no_item {A = A} (suc n) tag part all last text now enough given rest =
    none_some (rest.more, last) (rw (eq-eqb tag tag refl, given) at rest.read)
  where
    none_some : (pair : List A × List ℕ) → None ≡ done pair → ⊥
    none_some pair e = cc

-- where an item is not read, all are not
pub takes_fails : {A : Type 0} (tag : ℕ) (part : List ℕ → Option (A × List ℕ)) (bytes : List ℕ) (old : List A)
    (rest text : List ℕ) (now : List A)
    → Takes tag part bytes old rest now → after_tag tag rest ≡ Some text → part text ≡ None
    → (read : List A × List ℕ) → repeated tag part bytes ≡ Some read → ⊥
takes_fails tag part bytes old rest text now takes tagged given read e =
    let is : rest ≡ tag ∷ text = begun tag rest text tagged in
    no_item takes.fuel tag part (old ++ read.0) read.1 text now (omega (arith, takes.enough, ap (length {A = ℕ}) is))
    given
    (subst (λ (t : List ℕ). Rest takes.fuel tag part (old ++ read.0) read.1 t now) is
    (takes.rests read.0 read.1 e))
