-- How the lines of a script take effect, one after another.
use Rattle.std.proofs.Common.{◌≡◌, ℕ, ◌+◌, ◌<◌, true, false, List, [], ◌∷◌, length, drop, get_or, ◌≤◌, min, suc, zero}
use Rattle.std.proofs.Common.{refl, sym, ◌∙◌, ap, drop-cons, add-one, arith}
use Rattle.std.proofs.lemmas.List.{drop-drop}
use Rattle.ports.specs.Playing.{Played, SendRules, first_turn, from_turn, is_turn, rules_at_turn}
use Rattle.ports.specs.declared.script.Step.{Step}
use Rattle.ports.specs.declared.script.Step.TheVariants.{Turn, Take, Fail}

drop_at : (steps : List Step) (i : ℕ) (step : Step) → i < length steps → step ≡ get_or steps i step
    → drop i steps ≡ step ∷ drop (i + 1) steps
drop_at steps i step below is = rw (add-one, drop-cons steps i step, ← is) refl

-- a turn comes first
turn_first : (step : Step) (steps : List Step) → is_turn step ≡ true → from_turn (step ∷ steps) ≡ step ∷ steps
turn_first (Turn secs event) steps h = refl
turn_first (Take link count) steps h = cc
turn_first (Fail link) steps h = cc

turn_keeps : (step : Step) (steps : List Step) (rules : SendRules) → is_turn step ≡ true
    → rules_at_turn (step ∷ steps) rules ≡ rules
turn_keeps (Turn secs event) steps rules h = refl
turn_keeps (Take link count) steps rules h = cc
turn_keeps (Fail link) steps rules h = cc

-- another line comes first
rule_first : (step : Step) (steps : List Step) → is_turn step ≡ false → from_turn (step ∷ steps) ≡ from_turn steps
rule_first (Turn secs event) steps h = cc
rule_first (Take link count) steps h = refl
rule_first (Fail link) steps h = refl

rule_acts : (step : Step) (steps : List Step) (rules : SendRules) → is_turn step ≡ false
    → rules_at_turn (step ∷ steps) rules ≡ rules_at_turn steps (rules_at_turn (step ∷ []) rules)
rule_acts (Turn secs event) steps rules h = cc
rule_acts (Take link count) steps rules h = refl
rule_acts (Fail link) steps rules h = refl

pub turn_at : (steps : List Step) (i : ℕ) (step : Step) → i < length steps → step ≡ get_or steps i step
    → is_turn step ≡ true → drop i steps ≡ from_turn (drop i steps)
turn_at steps i step below is turn =
    let e = drop_at steps i step below is in
    e ∙ (sym (turn_first step (drop (i + 1) steps) turn) ∙ ap from_turn (sym e))

pub turn_keeps_at : (steps : List Step) (i : ℕ) (step : Step) (rules : SendRules) → i < length steps
    → step ≡ get_or steps i step → is_turn step ≡ true → rules_at_turn (drop i steps) rules ≡ rules
turn_keeps_at steps i step rules below is turn =
    ap (λ xs. rules_at_turn xs rules) (drop_at steps i step below is) ∙ turn_keeps step (drop (i + 1) steps) rules turn

pub rule_at : (steps : List Step) (i : ℕ) (step : Step) → i < length steps → step ≡ get_or steps i step
    → is_turn step ≡ false → from_turn (drop i steps) ≡ from_turn (drop (i + 1) steps)
rule_at steps i step below is rule =
    ap from_turn (drop_at steps i step below is) ∙ rule_first step (drop (i + 1) steps) rule

pub rule_acts_at : (steps : List Step) (i : ℕ) (step : Step) (rules : SendRules) → i < length steps
    → step ≡ get_or steps i step → is_turn step ≡ false
    → rules_at_turn (drop i steps) rules ≡ rules_at_turn (drop (i + 1) steps) (rules_at_turn (step ∷ []) rules)
rule_acts_at steps i step rules below is rule =
    ap (λ xs. rules_at_turn xs rules) (drop_at steps i step below is)
    ∙ rule_acts step (drop (i + 1) steps) rules rule

-- what begins with a turn is no shorter than before
from_turn_length : (steps : List Step) → length (from_turn steps) ≤ length steps
from_turn_length [] = omega arith
from_turn_length (Turn secs event ∷ steps) = omega arith
from_turn_length (Take link count ∷ steps) = omega (arith, from_turn_length steps)
from_turn_length (Fail link ∷ steps) = omega (arith, from_turn_length steps)

-- lines that begin with a turn, or are none, do not begin with another line
pub rule_not_first : (step : Step) (steps : List Step) → from_turn (step ∷ steps) ≡ step ∷ steps → is_turn step ≡ true
rule_not_first (Turn secs event) steps h = refl
rule_not_first (Take link count) steps h = absurd (omega (arith, from_turn_length steps, ap length h))
rule_not_first (Fail link) steps h = absurd (omega (arith, from_turn_length steps, ap length h))

pub from_turn_twice : (steps : List Step) → from_turn (from_turn steps) ≡ from_turn steps
from_turn_twice [] = refl
from_turn_twice (Turn secs event ∷ steps) = refl
from_turn_twice (Take link count ∷ steps) = from_turn_twice steps
from_turn_twice (Fail link ∷ steps) = from_turn_twice steps

pub first_turn_later : (steps : List Step) (secs : ℕ) → first_turn (from_turn steps) secs ≡ first_turn steps secs
first_turn_later [] secs = refl
first_turn_later (Turn s event ∷ steps) secs = refl
first_turn_later (Take link count ∷ steps) secs = first_turn_later steps secs
first_turn_later (Fail link ∷ steps) secs = first_turn_later steps secs

one_of_more : (n : ℕ) → min (suc n) 1 ≡ suc zero
one_of_more n = omega arith

pub rest_of_turn : (steps : List Step) (secs : ℕ) → from_turn steps ≡ steps
    → drop (min (length steps) 1) steps ≡ (first_turn steps secs).rest
rest_of_turn [] secs h = refl
rest_of_turn (Turn s event ∷ steps) secs h =
    ap (λ n. drop n (Turn s event ∷ steps)) (one_of_more (length steps))
rest_of_turn (Take link count ∷ steps) secs h = absurd (omega (arith, from_turn_length steps, ap length h))
rest_of_turn (Fail link ∷ steps) secs h = absurd (omega (arith, from_turn_length steps, ap length h))

-- the lines after the first turn
pub after_turn : (items steps rest : List Step) (next count secs : ℕ) → steps ≡ drop next items
    → rest ≡ drop count steps → drop count steps ≡ from_turn steps
    → drop (next + (count + min (length rest) 1)) items ≡ (first_turn steps secs).rest
after_turn items steps rest next count secs steps_is rest_is turn_is =
    let first : rest ≡ from_turn steps = rest_is ∙ turn_is in
    let n = min (length rest) 1 in
    sym (drop-drop (count + n) next items)
    ∙ (ap (drop (count + n)) (sym steps_is)
    ∙ (sym (drop-drop n count steps)
    ∙ (ap (drop n) (sym rest_is)
    ∙ (rest_of_turn rest secs (ap from_turn first ∙ (from_turn_twice steps ∙ sym first))
    ∙ (ap (λ xs. (first_turn xs secs).rest) first ∙ ap (λ (p : Played). p.rest) (first_turn_later steps secs))))))
