-- Every event that meets a rule has the host that the rule asks for.
use Rattle.std.proofs.Common.{◌≡◌, Bool, true, false, ◌&&◌, Option, Some, None, IfSome, Vec, Global, refl, ap, ◌∙◌}
use Rattle.std.specs.Option.{option_or}
use Rattle.ev_types.specs.declared.event.Event.{Event}
use Rattle.ev_types.specs.declared.field.Field.{Field}
use Rattle.ev_types.specs.declared.field.Field.TheVariants.{Host, Service, State, Description, Time, Ttl, Metric}
use Rattle.ev_types.specs.declared.field.Field.TheVariants.{Attribute}
use Rattle.ev_types.specs.declared.value.Value.{Value}
use Rattle.ev_types.specs.Field.{text_value}
use Rattle.ev_types.specs.Value.{same_value}
use Rattle.pred_eval.specs.declared.rule.Rule.{Rule}
use Rattle.pred_eval.specs.declared.rule.Rule as code
use Rattle.pred_eval.specs.Host.{NeedsHost, asked_host, equal_host, first_host, if_host}
use Rattle.pred_eval.specs.Tree.{Tree, Trees, Always, Never, Not, All, Any, Tagged, Equal, Order, Wild, Search, none}
use Rattle.pred_eval.specs.Tree.{also, tree_of, trees_in}
use Rattle.pred_eval.specs.Truth.{holds, all_hold}
use Rattle.pred_eval.proofs.TreeLaws.{tree_of_all}

pub asked_of_all : (rule : Rule) (rules : Vec Rule Global) → rule ≡ code.All rules
    → asked_host (tree_of rule) ≡ first_host (trees_in rules.items)
asked_of_all rule rules e = ap asked_host (ap tree_of e ∙ tree_of_all rules)

field_needs : (field : Field) (value : Value) → IfSome (if_host field value) (NeedsHost (Equal field value))
field_needs Host value = λ event met. met
field_needs Service value = tt
field_needs State value = tt
field_needs Description value = tt
field_needs Time value = tt
field_needs Ttl value = tt
field_needs Metric value = tt
field_needs (Attribute key) value = tt

part_needs : (rule : Tree) → IfSome (equal_host rule) (NeedsHost rule)
part_needs Always = tt
part_needs Never = tt
part_needs (Not rule) = tt
part_needs (All rules) = tt
part_needs (Any rules) = tt
part_needs (Tagged tag) = tt
part_needs (Equal field value) = field_needs field value
part_needs (Order field order number) = tt
part_needs (Wild field pattern) = tt
part_needs (Search field pattern) = tt

first_met : (a b : Bool) → (a && b) ≡ true → a ≡ true
first_met true b e = refl
first_met false b e = e

later_met : (a b : Bool) → (a && b) ≡ true → b ≡ true
later_met true b e = e
later_met false b e = absurd (cc)

AllNeed : Trees → Value → Type 0
AllNeed rules value = (event : Event) → all_hold rules event ≡ true → same_value (text_value event.host) value ≡ true

either_needs : (rule : Tree) (rules : Trees) (first later : Option Value) → IfSome first (NeedsHost rule)
    → IfSome later (AllNeed rules) → IfSome (option_or first later) (AllNeed (also rule rules))
unfolding AllNeed
either_needs rule rules (Some value) later first_needs later_need =
    λ event met. first_needs event (first_met (holds rule event) (all_hold rules event) met)
either_needs rule rules None (Some value) first_needs later_need =
    λ event met. later_need event (later_met (holds rule event) (all_hold rules event) met)
either_needs rule rules None None first_needs later_need = tt

all_need : (rules : Trees) → IfSome (first_host rules) (AllNeed rules)
all_need none = tt
all_need (also rule rules) =
    either_needs rule rules (equal_host rule) (first_host rules) (part_needs rule) (all_need rules)

pub needs_host : (rule : Tree) → IfSome (asked_host rule) (NeedsHost rule)
unfolding AllNeed
needs_host Always = tt
needs_host Never = tt
needs_host (Not rule) = tt
needs_host (All rules) = all_need rules
needs_host (Any rules) = tt
needs_host (Tagged tag) = tt
needs_host (Equal field value) = field_needs field value
needs_host (Order field order number) = tt
needs_host (Wild field pattern) = tt
needs_host (Search field pattern) = tt
