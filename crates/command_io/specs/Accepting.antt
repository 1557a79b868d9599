-- Why a command has no configuration that a server can be run with.
use Rattle.std.specs.Prelude.{◌≡◌, ℕ, ◌+◌, List}
use Rattle.hub_meaning.specs.Verdicts.{PatternsReport}
use Rattle.ports.specs.Counts.{Rose, RoseBy}
use Rattle.ports.specs.Reading.{IsOverLimit, StoreReport}
use Rattle.command_io.specs.Configs.{RefusesConfig}
use Rattle.command_io.specs.Files.{GivesNone, MayGive}
use Rattle.command_io.specs.declared.ending.Ending.{Ending}
use Rattle.command_io.specs.declared.ending.Ending.TheVariants.{ConfigRefused, Unread, OverLimit, OutOfMemory}
use Rattle.command_io.specs.declared.limits.TheConstants.{CONFIG_LIMIT}

-- Why the file of the name gave no configuration whose patterns were built, from what the store and the builder of
-- patterns report before and after. The ending has this name and its limit.
abbrev pub RefusesSetup : List ℕ → StoreReport → StoreReport → PatternsReport → PatternsReport → Ending → Type 0
RefusesSetup name store store' patterns patterns' (ConfigRefused refusal) =
    RefusesConfig name store store' patterns patterns' refusal
RefusesSetup name store store' patterns patterns' (Unread unread) =
    Rose store.faults store'.faults × (patterns' ≡ patterns) × (unread.now ≡ name) × GivesNone store store'
RefusesSetup name store store' patterns patterns' (OverLimit over limit) = IsOverLimit (store.held name) CONFIG_LIMIT
    × RoseBy (CONFIG_LIMIT + 1) store.taken store'.taken × (patterns' ≡ patterns) × (over.now ≡ name)
    × (limit ≡ CONFIG_LIMIT) × GivesNone store store'
RefusesSetup name store store' patterns patterns' OutOfMemory = (patterns' ≡ patterns) × MayGive name store store'
RefusesSetup name store store' patterns patterns' _ = ⊥
