-- How tests are run.
use Rattle.std.specs.Prelude.{◌≡◌, ℕ, ◌<◌, List, [], ◌∷◌, length, slice_index_or, Result, Ok, Err}
use Rattle.list_laws.specs.Counts.{Rose}
use Rattle.pred_eval.specs.declared.patterns.BuildFault.{BuildFault}
use Rattle.pred_eval.specs.declared.patterns.BuildFault.TheVariants as build
use Rattle.sexp_config.specs.declared.config.Config.{Config}
use Rattle.event_core.specs.Core.{CoreConfig}
use Rattle.stream_tests.specs.declared.fault.RunFault.{RunFault}
use Rattle.stream_tests.specs.declared.fault.RunFault.TheVariants.{Pattern, Memory}

abbrev pub fault_of : BuildFault → RunFault
fault_of (build.Pattern number) = Pattern number
fault_of build.Memory = Memory

-- streams and an index as the configuration has them, from the moment 0 on
abbrev pub core_of : Config → CoreConfig
core_of config = record { plan = config.plan; expiry = config.expiry; start = 0 }

-- Why a test was not run: a pattern of the configuration, by its number from 0, was refused, and counted. Nothing else
-- is counted.
abbrev pub HasCause : {A : Type 0} → List (List ℕ) → ℕ → ℕ → Result A RunFault → Type 0
HasCause patterns old new (Ok verdict) = new ≡ old
HasCause patterns old new (Err (Pattern number)) = (number < length patterns) × Rose old new
HasCause patterns old new (Err Memory) = new ≡ old

-- the texts that the building of these adds to those refused: that of the number which is refused
abbrev pub refused_of : {A : Type 0} → List (List ℕ) → Result A RunFault → List (List ℕ)
refused_of patterns (Ok verdict) = []
refused_of patterns (Err (Pattern number)) = slice_index_or patterns number [] ∷ []
refused_of patterns (Err Memory) = []
