-- Which links have lines, and in which order.
use Rattle.std.specs.Prelude.{◌↔◌, ℕ, List, Contains}
use Rattle.std.specs.List.Sorted.{IsStrictlyIncreasing}
use Rattle.ports.specs.declared.script.LinkEvent.TheVariants.{Opened}
use Rattle.ports.specs.declared.script.Step.{Step}
use Rattle.ports.specs.declared.script.Step.TheVariants.{Turn}
use Rattle.script_text.specs.LinkLines.{opened_numbers}

-- one of the lines is a turn that opens the link
pub record IsOpenedIn (steps : List Step) (link : ℕ) : Type 0 where
  pub secs : ℕ
  pub turn : Contains steps (Turn secs (Opened link))

abbrev pub NumbersAreThoseOpened : Type 0
NumbersAreThoseOpened = (steps : List Step) (link : ℕ) → Contains (opened_numbers steps) link ↔ IsOpenedIn steps link

-- each number is less than the next one
abbrev pub NumbersRise : Type 0
NumbersRise = (steps : List Step) → IsStrictlyIncreasing (opened_numbers steps)
