-- A plan without faults, cause by cause.
use Rattle.std.specs.Prelude.{◌≡◌, ◌↔◌, ◌≤◌, true, false, length, None}
use Rattle.std.specs.List.{AllByRecursion}
use Rattle.stream_plan.specs.declared.search.TheConstants.{MAX_STREAMS, MAX_DEPTH}
use Rattle.stream_plan.specs.Faults.{Placed, preorder_of, has_wrong_streams, ends_in_fork, kind_of, first_fault}
use Rattle.stream_plan.specs.Kinds.{takes, is_in_range}
use Rattle.stream_plan.specs.Tree.{StreamTrees}

abbrev pub IsShallow : Placed → Type 0
IsShallow s = length s.path ≤ MAX_DEPTH

abbrev pub HasStreamsThatMayFollow : Placed → Type 0
HasStreamsThatMayFollow s = has_wrong_streams s.tree ≡ false

abbrev pub IsInRange : Placed → Type 0
IsInRange s = is_in_range (kind_of s.tree) ≡ true

-- below a `By` no forks end
abbrev pub IsEndlessInForks : Placed → Type 0
IsEndlessInForks s = ends_in_fork s ≡ false

abbrev pub TakesWhatComes : Placed → Type 0
TakesWhatComes s = takes (kind_of s.tree) s.flow.input ≡ true

pub record IsSound (streams : StreamTrees) : Type 0 where
  pub few : length (preorder_of streams) ≤ MAX_STREAMS
  pub shallow : AllByRecursion IsShallow (preorder_of streams)
  pub followed : AllByRecursion HasStreamsThatMayFollow (preorder_of streams)
  pub in_range : AllByRecursion IsInRange (preorder_of streams)
  pub endless : AllByRecursion IsEndlessInForks (preorder_of streams)
  pub taken : AllByRecursion TakesWhatComes (preorder_of streams)

abbrev pub SoundPlansHaveNoFault : Type 0
SoundPlansHaveNoFault = (streams : StreamTrees) → (first_fault streams ≡ None) ↔ IsSound streams
