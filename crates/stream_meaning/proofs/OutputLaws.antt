-- The outputs among the effects of a plan.
use Rattle.std.proofs.Common.{◌≡◌, List, [], ◌∷◌, ◌++◌, refl, sym, ap, ◌∙◌}
use Rattle.std.proofs.lemmas.List.{append-nil, append_assoc}
use Rattle.stream_plan.specs.Tree.{KindTree, StreamTrees}
use Rattle.stream_meaning.specs.History.{History, since, ◌▸◌, Entry, Tick, In}
use Rattle.stream_meaning.specs.Emission.{Branch, Children, Otherwise, Fork, Emission, emissions}
use Rattle.stream_meaning.specs.Branches.{ticked, child_history, branches}
use Rattle.stream_meaning.specs.Outputs.{Effect, Emits, Due, Given, Put, own_effects, emits_if_any, due_if_any, marked}
use Rattle.stream_meaning.specs.Outputs.{BranchEffects, at_tick, received_more, at_emissions, branch_effects}
use Rattle.stream_meaning.specs.Outputs.{stream_effects, plan_effects, outputs_among, outputs_at}
use Rattle.stream_meaning.specs.Laws.{below, own_outputs, outputs_at_tick, outputs_at_emissions, OutputsAreInOrder}
use Rattle.stream_meaning.specs.Laws.{OutputsGrow}

pub outputs_among-append : (xs ys : List Effect) → outputs_among (xs ++ ys) ≡ outputs_among xs ++ outputs_among ys
outputs_among-append [] ys = refl
outputs_among-append (Emits ∷ xs) ys = outputs_among-append xs ys
outputs_among-append (Due ∷ xs) ys = outputs_among-append xs ys
outputs_among-append (Given ∷ xs) ys = outputs_among-append xs ys
outputs_among-append (Put output ∷ xs) ys = ap (λ l. output ∷ l) (outputs_among-append xs ys)

outputs_among-due : (effects : List Effect) → outputs_among (due_if_any effects) ≡ outputs_among effects
outputs_among-due [] = refl
outputs_among-due (first ∷ more) = refl

outputs_among-marked : (branch : Branch) (effects : List Effect)
    → outputs_among (marked branch effects) ≡ outputs_among effects
outputs_among-marked Children effects = refl
outputs_among-marked Otherwise effects = refl
outputs_among-marked (Fork fork) effects = outputs_among-due effects

emits-no_output : (es : List Emission) → outputs_among (emits_if_any es) ≡ []
emits-no_output [] = refl
emits-no_output (emission ∷ more) = refl

own : (kind : KindTree) (h : History) → outputs_among (own_effects kind h) ≡ own_outputs kind h
own kind (since start) = refl
own kind (h ▸ Tick) = emits-no_output (emissions kind (h ▸ Tick))
own kind (h ▸ In item) = refl

module _ (children otherwise : StreamTrees) where
  abbrev effects_in : BranchEffects
  effects_in = branch_effects (plan_effects children) (plan_effects otherwise)

  effects_in-outputs : (branch : Branch) (h : History)
      → outputs_among (effects_in branch h) ≡ outputs_at (below children otherwise branch) h
  effects_in-outputs Children h = refl
  effects_in-outputs Otherwise h = refl
  effects_in-outputs (Fork fork) h = refl

  at_tick-outputs : (x : Entry) (received : Branch → History) (bs : List Branch)
      → outputs_among (at_tick x effects_in received bs) ≡ outputs_at_tick x (below children otherwise) received bs
  at_tick-outputs (In item) received bs = refl
  at_tick-outputs Tick received [] = refl
  at_tick-outputs Tick received (branch ∷ bs) =
      outputs_among-append (marked branch (effects_in branch (received branch ▸ Tick)))
      (at_tick Tick effects_in received bs)
      ∙ ap (λ l. l ++ outputs_among (at_tick Tick effects_in received bs))
      (outputs_among-marked branch (effects_in branch (received branch ▸ Tick))
      ∙ effects_in-outputs branch (received branch ▸ Tick))
      ∙ ap (λ l. outputs_at (below children otherwise branch) (received branch ▸ Tick) ++ l)
      (at_tick-outputs Tick received bs)

  at_emissions-outputs : (received : Branch → History) (es : List Emission)
      → outputs_among (at_emissions effects_in received es)
      ≡ outputs_at_emissions (below children otherwise) received es
  at_emissions-outputs received [] = refl
  at_emissions-outputs received (emission ∷ more) =
      let h = received emission.branch ▸ In emission.item in
      outputs_among-append (effects_in emission.branch h)
      (at_emissions effects_in (received_more emission received) more)
      ∙ ap (λ l. l ++ outputs_among (at_emissions effects_in (received_more emission received) more))
      (effects_in-outputs emission.branch h)
      ∙ ap (λ l. outputs_at (below children otherwise emission.branch) h ++ l)
      (at_emissions-outputs (received_more emission received) more)

pub outputs_said : OutputsAreInOrder
outputs_said kind children otherwise h x =
    let own_part = own_effects kind (h ▸ x) in
    let received = λ (branch : Branch). child_history kind branch h in
    let after = λ (branch : Branch). ticked x (child_history kind branch h) in
    let tick_part = at_tick x (effects_in children otherwise) received (branches kind h) in
    let emission_part = at_emissions (effects_in children otherwise) after (emissions kind (h ▸ x)) in
    ap outputs_among
    (append-nil (own_part ++ tick_part ++ emission_part) ∙ append_assoc own_part tick_part emission_part)
    ∙ outputs_among-append own_part (tick_part ++ emission_part)
    ∙ ap (λ l. l ++ outputs_among (tick_part ++ emission_part)) (own kind (h ▸ x))
    ∙ ap (λ l. own_outputs kind (h ▸ x) ++ l) (outputs_among-append tick_part emission_part
    ∙ ap (λ l. l ++ outputs_among emission_part) (at_tick-outputs children otherwise x received (branches kind h))
    ∙ ap (λ l. outputs_at_tick x (below children otherwise) received (branches kind h) ++ l)
    (at_emissions-outputs children otherwise after (emissions kind (h ▸ x))))

pub outputs_grow : OutputsGrow
outputs_grow = record {
  streams = λ first more h. outputs_among-append (stream_effects first h) (plan_effects more h)
      ∙ ap (λ l. outputs_among l ++ outputs_among (plan_effects more h)) (sym (append-nil (stream_effects first h)));
  nothing = λ h. refl;
  entries = λ plan h x. refl;
}
