-- What streams that were read can't have.
use Rattle.std.specs.Prelude.{◌≡◌, ℕ, List, None}
use Rattle.std.specs.List.{AllByRecursion}
use Rattle.stream_plan.specs.declared.fault.PlanWhy.{PlanWhy}
use Rattle.stream_plan.specs.declared.fault.PlanWhy.TheVariants.{Many, Kind}
use Rattle.stream_plan.specs.Faults.{preorder_of, first_fault}
use Rattle.stream_plan.specs.Sound.{IsShallow, HasStreamsThatMayFollow, IsInRange, IsEndlessInForks}
use Rattle.stream_plan.specs.Tree.{StreamTrees}
use Rattle.sexp_config.specs.declared.config.Config.{Config}
use Rattle.sexp_config.specs.Config.{IsConfigOf}

-- no stream is too deep, has streams that may not follow it, has a number or a set outside its range, or is a `By` with
-- `idle` below another `By`
pub record IsWellBuilt (streams : StreamTrees) : Type 0 where
  pub shallow : AllByRecursion IsShallow (preorder_of streams)
  pub followed : AllByRecursion HasStreamsThatMayFollow (preorder_of streams)
  pub in_range : AllByRecursion IsInRange (preorder_of streams)
  pub endless : AllByRecursion IsEndlessInForks (preorder_of streams)

-- a cause for which such streams can still be refused
abbrev pub IsLeft : PlanWhy → Type 0
IsLeft Many = Unit {0}
IsLeft Kind = Unit {0}
IsLeft _ = ⊥

-- the plan of a configuration that was read has no fault
abbrev pub ReadPlansHaveNoFault : Type 0
ReadPlansHaveNoFault = (text : List ℕ) (config : Config) → IsConfigOf text config → first_fault config.plan ≡ None
