-- Where nothing is passed on.
use Rattle.std.proofs.Common.{◌≡◌, ℕ, List, Option, [], ◌∷◌, refl, sym, subst}
use Rattle.ev_types.specs.declared.item.Item.{Item}
use Rattle.ev_types.specs.declared.item.Emission.{Emission}
use Rattle.stream_plan.specs.Tree.{KindTree}
use Rattle.stream_meaning.specs.History.{History}
use Rattle.stream_states.specs.Kept.{Passes}
use Rattle.stream_meaning.specs.Deadlines.{next_deadline}
use Rattle.stream_meaning.specs.Emission.{emissions, to_children}

pub none_passed : (items : List Item) → to_children items ≡ [] → items ≡ []
none_passed [] none = refl
none_passed (item ∷ items) none = cc

-- what is passed on goes by the kind
pub passes_as : (known kind : KindTree) (before after : List Emission) (h : History) → known ≡ kind →
    Passes before after (emissions known h) →
    Passes before after (emissions kind h)
passes_as known kind before after h same passes =
    subst (λ (k : KindTree). Passes before after (emissions k h)) same passes

pub silent_as : (known kind : KindTree) (h : History) → known ≡ kind → emissions kind h ≡ [] → emissions known h ≡ []
silent_as known kind h same silent = subst (λ (k : KindTree). emissions k h ≡ []) (sym same) silent

pub due_as : (known kind : KindTree) (due : Option ℕ) (h : History) → known ≡ kind → due ≡ next_deadline known h
    → due ≡ next_deadline kind h
due_as known kind due h same is = subst (λ (k : KindTree). due ≡ next_deadline k h) same is
