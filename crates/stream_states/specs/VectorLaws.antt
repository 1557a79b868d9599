-- What a vector does to a stream that takes events.
use Rattle.std.specs.Prelude.{◌≡◌, true, List, []}
use Rattle.ev_types.specs.declared.event.Event.{Event}
use Rattle.ev_types.specs.declared.item.Item.TheVariants.{Many}
use Rattle.stream_meaning.specs.Emission.{emissions}
use Rattle.stream_meaning.specs.declared.entry.Entry.TheVariants.{Item as In}
use Rattle.stream_meaning.specs.History.{History, ◌▸◌}
use Rattle.stream_plan.specs.Tree.{KindTree}
use Rattle.stream_states.specs.Kept.{keeps, KeptRepresents}
use Rattle.stream_states.specs.declared.kept.KeptState.{KeptState}

abbrev pub VectorsPassNothing : Type 0
VectorsPassNothing =
    (kind : KindTree) (h : History) (es : List Event) → keeps kind ≡ true → emissions kind (h ▸ In (Many es)) ≡ []

abbrev pub VectorsAreIgnored : Type 0
VectorsAreIgnored = (kind : KindTree) (state : KeptState) (h : History) (es : List Event) → KeptRepresents kind state h
    → KeptRepresents kind state (h ▸ In (Many es))
