-- The items that a stream passes to its children, as the code holds them.
use Rattle.std.specs.Prelude.{List, map}
use Rattle.ev_types.specs.declared.item.Emission.{Emission}
use Rattle.ev_types.specs.declared.item.Item.{Item}

-- each item as an emission to branch 0, which is that of the children
abbrev pub emitted : List Item → List Emission
emitted = map (λ item. record { branch = 0; item = item })
