-- A tick has effects exactly where some stream passes something on.
use Rattle.std.proofs.Common.{◌≡◌, false, ◌||◌, List, [], ◌∷◌, ◌++◌, refl, sym, ap, ◌∙◌}
use mathlib.Core.Bool.{true≢false}
use Rattle.std.specs.List.{list_any}
use Rattle.std.proofs.lemmas.List.Folds.{list_any-append}
use Rattle.stream_plan.specs.Tree.{StreamTree, StreamTrees, stream, none, also}
use Rattle.stream_meaning.specs.History.{History, ◌▸◌, Tick}
use Rattle.stream_meaning.specs.Emission.{Branch, Children, Otherwise, Fork, Emission, emissions}
use Rattle.stream_meaning.specs.Branches.{child_history, branches}
use Rattle.stream_meaning.specs.Outputs.{Effect, due_if_any, emits_if_any, marked, BranchEffects, at_tick, at_emissions}
use Rattle.stream_meaning.specs.Outputs.{branch_effects, stream_effects, plan_effects}
use Rattle.stream_meaning.specs.DeadlineLaws.{is_any}
use Rattle.stream_meaning.specs.DueLaws.{is_emission, has_effects}

-- effects begin with an emission
abbrev pub IsRooted : List Effect → Type 0
IsRooted effects = has_effects effects ≡ list_any is_emission effects

pub any-append : (xs ys : List Effect) → has_effects (xs ++ ys) ≡ has_effects xs || has_effects ys
any-append [] ys = refl
any-append (first ∷ xs) ys = refl

pub rooted-append : (xs ys : List Effect) → IsRooted xs → IsRooted ys → IsRooted (xs ++ ys)
rooted-append xs ys p q =
    any-append xs ys ∙ ap (λ t. t || has_effects ys) p ∙ ap (λ t. list_any is_emission xs || t) q
    ∙ sym (list_any-append is_emission xs ys)

rooted-due : (effects : List Effect) → IsRooted effects → IsRooted (due_if_any effects)
rooted-due [] p = refl
rooted-due (first ∷ more) p = p

rooted-marked : (branch : Branch) (effects : List Effect) → IsRooted effects → IsRooted (marked branch effects)
rooted-marked Children effects p = p
rooted-marked Otherwise effects p = p
rooted-marked (Fork fork) effects p = rooted-due effects p

pub any-marked : (branch : Branch) (effects : List Effect) → has_effects (marked branch effects) ≡ has_effects effects
any-marked Children effects = refl
any-marked Otherwise effects = refl
any-marked (Fork fork) [] = refl
any-marked (Fork fork) (first ∷ more) = refl

-- below a stream, each tick is rooted
abbrev IsRootedBelow : (History → List Effect) → Type 0
IsRootedBelow below = (h : History) → IsRooted (below (h ▸ Tick))

effects_in-rooted : (children otherwise : History → List Effect) → IsRootedBelow children → IsRootedBelow otherwise
    → (branch : Branch) → IsRootedBelow (branch_effects children otherwise branch)
effects_in-rooted children otherwise p q Children = p
effects_in-rooted children otherwise p q Otherwise = q
effects_in-rooted children otherwise p q (Fork fork) = p

at_tick-rooted : (effects_in : BranchEffects) → ((branch : Branch) → IsRootedBelow (effects_in branch))
    → (received : Branch → History) (bs : List Branch) → IsRooted (at_tick Tick effects_in received bs)
at_tick-rooted effects_in p received [] = refl
at_tick-rooted effects_in p received (branch ∷ bs) =
    rooted-append (marked branch (effects_in branch (received branch ▸ Tick))) (at_tick Tick effects_in received bs)
    (rooted-marked branch (effects_in branch (received branch ▸ Tick)) (p branch (received branch)))
    (at_tick-rooted effects_in p received bs)

-- where the stream itself passes something on, all of it is led by that, and else there is but the tick below
stream_rooted : (es : List Emission) (below after : List Effect) → (is_any es ≡ false → after ≡ []) → IsRooted below
    → IsRooted (emits_if_any es ++ below ++ after)
stream_rooted [] below after f p =
    rooted-append below after p (ap has_effects (f refl) ∙ sym (ap (list_any is_emission) (f refl)))
stream_rooted (emission ∷ more) below after f p = refl

pub no_emissions : (effects_in : BranchEffects) (received : Branch → History) (es : List Emission) → is_any es ≡ false
    → at_emissions effects_in received es ≡ []
no_emissions effects_in received [] e = refl
no_emissions effects_in received (emission ∷ more) e = absurd (true≢false e)

mutual
  pub stream_tick_rooted : (s : StreamTree) (h : History) → IsRooted (stream_effects s (h ▸ Tick))
  stream_tick_rooted (stream kind children otherwise) h =
      let effects_in = branch_effects (plan_effects children) (plan_effects otherwise) in
      let received = λ (branch : Branch). child_history kind branch h in
      stream_rooted (emissions kind (h ▸ Tick)) (at_tick Tick effects_in received (branches kind h))
      (at_emissions effects_in (λ branch. received branch ▸ Tick) (emissions kind (h ▸ Tick)))
      (no_emissions effects_in (λ branch. received branch ▸ Tick) (emissions kind (h ▸ Tick)))
      (at_tick-rooted effects_in
      (effects_in-rooted (plan_effects children) (plan_effects otherwise) (plan_tick_rooted children)
      (plan_tick_rooted otherwise))
      received (branches kind h))

  pub plan_tick_rooted : (plan : StreamTrees) (h : History) → IsRooted (plan_effects plan (h ▸ Tick))
  plan_tick_rooted none h = refl
  plan_tick_rooted (also first more) h =
      rooted-append (stream_effects first (h ▸ Tick)) (plan_effects more (h ▸ Tick)) (stream_tick_rooted first h)
      (plan_tick_rooted more h)
