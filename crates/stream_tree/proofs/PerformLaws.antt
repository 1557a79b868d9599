-- What is said and counted, one part after another.
use Rattle.std.proofs.Common.{◌≡◌, ℕ, ◌+◌, List, [], ◌∷◌, ◌++◌, Option, Some, None, refl, sym, ap, ◌∙◌, subst, arith}
use Rattle.std.proofs.lemmas.List.{append-nil, append_assoc}
use Rattle.ev_types.specs.declared.item.Item.TheVariants.{One, Many}
use Rattle.ev_types.specs.declared.item.Output.{Output}
use Rattle.list_laws.specs.Prefix.{IsPrefix}
use Rattle.step_count.specs.Count.{StepCount}
use Rattle.stream_plan.specs.Tree.{KindTree, Index, Notice, By}
use Rattle.stream_meaning.specs.declared.entry.Entry.{Entry}
use Rattle.stream_meaning.specs.declared.entry.Entry.TheVariants.{Tick, Item as In}
use Rattle.stream_meaning.specs.History.{History, ◌▸◌}
use Rattle.stream_meaning.specs.Emission.{Emission, emissions}
use Rattle.stream_meaning.specs.Laws.{own_outputs}
use Rattle.stream_meaning.specs.Outputs.{Effect, Emits, Due, Given, Put, own_effects, emits_if_any, outputs_among}
use Rattle.stream_meaning.specs.Outputs.{due_among, given_among}
use Rattle.stream_meaning.proofs.OutputLaws.{outputs_among-append}
use Rattle.stream_tree.specs.Forest.{forked_by}
use Rattle.stream_tree.specs.Running.{Stops}
use Rattle.stream_tree.specs.Tree.{Performs, PerformsPart}

-- ---- lists

pub nil_left : {A : Type 0} (xs ys : List A) → xs ++ ys ≡ [] → xs ≡ []
nil_left [] ys e = refl
nil_left (x ∷ xs) ys e = cc

pub nil_right : {A : Type 0} (xs ys : List A) → xs ++ ys ≡ [] → ys ≡ []
nil_right [] ys e = e
nil_right (x ∷ xs) ys e = cc

pub extends_then : {A : Type 0} (a b c : List A) → IsPrefix a b → IsPrefix b c → IsPrefix a c
extends_then {A} a b c first second =
    (first.0 ++ second.0, second.1 ∙ ap (λ (l : List A). l ++ second.0) first.1 ∙ append_assoc a first.0 second.0)

pub extends_none : {A : Type 0} (a : List A) → IsPrefix a a
extends_none a = ([], sym (append-nil a))

-- one more item of what is left
pub rest_more : {A : Type 0} (done items rest all : List A) (x : A) → done ++ items ≡ all → items ≡ x ∷ rest
    → all ≡ (done ++ x ∷ []) ++ rest
rest_more {A} done items rest all x left next =
    sym left ∙ ap (λ (l : List A). done ++ l) next ∙ sym (append_assoc done (x ∷ []) rest)

-- ---- counts

pub due-append : (xs ys : List Effect) → due_among (xs ++ ys) ≡ due_among xs + due_among ys
due-append [] ys = omega arith
due-append (Emits ∷ xs) ys = due-append xs ys
due-append (Due ∷ xs) ys = omega (arith, due-append xs ys)
due-append (Given ∷ xs) ys = due-append xs ys
due-append (Put output ∷ xs) ys = due-append xs ys

pub given-append : (xs ys : List Effect) → given_among (xs ++ ys) ≡ given_among xs + given_among ys
given-append [] ys = omega arith
given-append (Emits ∷ xs) ys = given-append xs ys
given-append (Due ∷ xs) ys = given-append xs ys
given-append (Given ∷ xs) ys = omega (arith, given-append xs ys)
given-append (Put output ∷ xs) ys = given-append xs ys

emits-nothing : (es : List Emission)
    → (outputs_among (emits_if_any es) ≡ []) × (due_among (emits_if_any es) ≡ 0) × (given_among (emits_if_any es) ≡ 0)
emits-nothing [] = (refl, refl, refl)
emits-nothing (emission ∷ more) = (refl, refl, refl)

own_said : (kind : KindTree) (h : History) (x : Entry)
    → outputs_among (own_effects kind (h ▸ x)) ≡ own_outputs kind (h ▸ x)
own_said kind h Tick = (emits-nothing (emissions kind (h ▸ Tick))).0
own_said kind h (In item) = refl

abbrev CountsNothing : List Effect → Type 0
CountsNothing effects = (due_among effects ≡ 0) × (given_among effects ≡ 0)

-- by itself a stream without forks enters none
item_counts : (kind : KindTree) (h : History) (x : Entry) → forked_by kind ≡ None
    → CountsNothing (own_effects kind (h ▸ x))
item_counts kind h Tick plain = let none = emits-nothing (emissions kind (h ▸ Tick)) in (none.1, none.2)
item_counts Index h (In (One event)) plain = (refl, refl)
item_counts Index h (In (Many es)) plain = (refl, refl)
item_counts (Notice name) h (In item) plain = (refl, refl)
item_counts (By fields idle) h (In item) plain = cc
item_counts kind h (In item) plain = (refl, refl)

-- the effects that a stream itself performs: what is given to a fork is counted where the fork is entered
abbrev pub acted : Option (Option ℕ) → List Effect → List Effect
acted None effects = effects
acted (Some idle) effects = []

module _ {G : Type 0} where
  pub grew_none : (out : List Output) (steps : StepCount G) → Performs out steps out steps []
  grew_none out steps =
      record { outputs = sym (append-nil out); forks = omega arith; entries = omega arith; began = refl }

  pub grew_then : (a b c : List Output) (s t u : StepCount G) (xs ys : List Effect) → Performs a s b t xs
      → Performs b t c u ys → Performs a s c u (xs ++ ys)
  grew_then a b c s t u xs ys p q = record {
    outputs =
        q.outputs ∙ ap (λ (l : List Output). l ++ outputs_among ys) p.outputs
        ∙ append_assoc a (outputs_among xs) (outputs_among ys)
        ∙ ap (λ (l : List Output). a ++ l) (sym (outputs_among-append xs ys));
    forks = omega (arith, p.forks, q.forks, due-append xs ys, given-append xs ys);
    entries = omega (arith, p.entries, q.entries, due-append xs ys);
    began = q.began ∙ p.began;
  }

  -- ---- where the call stopped

  pub part_none : (out : List Output) (steps : StepCount G) (es : List Effect) → PerformsPart out steps out steps es
  part_none out steps es = record {
    begins = extends_none out;
    within = (outputs_among es, refl);
    forks = omega arith;
    entries = omega arith;
    no_fewer_forks = omega arith;
    no_fewer_entries = omega arith;
    began = refl;
  }

  pub part_more : (a b : List Output) (s t : StepCount G) (xs ys : List Effect) → PerformsPart a s b t xs
      → PerformsPart a s b t (xs ++ ys)
  part_more a b s t xs ys p = record {
    begins = p.begins;
    within = extends_then b (a ++ outputs_among xs) (a ++ outputs_among (xs ++ ys)) p.within (
      outputs_among ys,
      ap (λ (l : List Output). a ++ l) (outputs_among-append xs ys)
          ∙ sym (append_assoc a (outputs_among xs) (outputs_among ys)),
    );
    forks = omega (arith, p.forks, due-append xs ys, given-append xs ys);
    entries = omega (arith, p.entries, due-append xs ys);
    no_fewer_forks = p.no_fewer_forks;
    no_fewer_entries = p.no_fewer_entries;
    began = p.began;
  }

  pub part_then : (a b c : List Output) (s t u : StepCount G) (xs ys : List Effect) → Performs a s b t xs
      → PerformsPart b t c u ys → PerformsPart a s c u (xs ++ ys)
  part_then a b c s t u xs ys p q = record {
    begins = extends_then a b c (outputs_among xs, p.outputs) q.begins;
    within = let all : a ++ outputs_among (xs ++ ys) ≡ b ++ outputs_among ys =
        ap (λ (l : List Output). a ++ l) (outputs_among-append xs ys)
        ∙ sym (append_assoc a (outputs_among xs) (outputs_among ys))
        ∙ ap (λ (l : List Output). l ++ outputs_among ys) (sym p.outputs) in
        (q.within.0, all ∙ q.within.1);
    forks = omega (arith, p.forks, q.forks, due-append xs ys, given-append xs ys);
    entries = omega (arith, p.entries, q.entries, due-append xs ys);
    no_fewer_forks = omega (arith, p.forks, q.no_fewer_forks);
    no_fewer_entries = omega (arith, p.entries, q.no_fewer_entries);
    began = q.began ∙ p.began;
  }

  pub stops_more : (a b : List Output) (s t : StepCount G) (x : Entry) (xs ys : List Effect) → Stops a s b t x xs
      → Stops a s b t x (xs ++ ys)
  stops_more a b s t x xs ys p =
      record { part = part_more a b s t xs ys p.part; busy = λ tick none. p.busy tick (nil_left xs ys none) }

  pub stops_then : (a b c : List Output) (s t u : StepCount G) (x : Entry) (xs ys : List Effect) → Performs a s b t xs
      → Stops b t c u x ys → Stops a s c u x (xs ++ ys)
  stops_then a b c s t u x xs ys p q =
      record { part = part_then a b c s t u xs ys p q.part; busy = λ tick none. q.busy tick (nil_right xs ys none) }

  -- ---- what a stream does itself

  pub own_grew : (kind : KindTree) (h : History) (x : Entry) (a b : List Output) (s : StepCount G)
      (shape : Option (Option ℕ)) →
      forked_by kind ≡ shape → b ≡ a ++ own_outputs kind (h ▸ x) →
      Performs a s b s (acted shape (own_effects kind (h ▸ x)))
  own_grew kind h x a b s None is said =
      let counts = item_counts kind h x is in record {
        outputs = said ∙ ap (λ (l : List Output). a ++ l) (sym (own_said kind h x));
        forks = omega (arith, counts.0, counts.1);
        entries = omega (arith, counts.0);
        began = refl;
      }
  own_grew kind h x a b s (Some idle) is said =
      subst (λ (out : List Output). Performs a s out s [])
      (sym (said ∙ ap (λ (l : List Output). a ++ l) (forks_say_nothing kind h x is) ∙ append-nil a)) (grew_none a s)
    where
      forks_say_nothing : (kind : KindTree) (h : History) (x : Entry) → forked_by kind ≡ Some idle
          → own_outputs kind (h ▸ x) ≡ []
      forks_say_nothing kind h Tick is = refl
      forks_say_nothing Index h (In item) is = cc
      forks_say_nothing (Notice name) h (In item) is = cc
      forks_say_nothing (By fields other) h (In (One event)) is = refl
      forks_say_nothing (By fields other) h (In (Many es)) is = refl
      forks_say_nothing kind h (In item) is = refl

  -- a part of what it does
  pub own_part : (kind : KindTree) (h : History) (x : Entry) (a b : List Output) (s : StepCount G) → IsPrefix a b →
      IsPrefix b (a ++ own_outputs kind (h ▸ x)) →
      PerformsPart a s b s (own_effects kind (h ▸ x))
  own_part kind h x a b s begins within = record {
    begins = begins;
    within = subst (λ (l : List Output). IsPrefix b (a ++ l)) (sym (own_said kind h x)) within;
    forks = omega arith;
    entries = omega arith;
    no_fewer_forks = omega arith;
    no_fewer_entries = omega arith;
    began = refl;
  }
