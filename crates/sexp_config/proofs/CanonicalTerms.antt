-- The canonical form of what a form represents represents it too, and can be written: fields, values and predicates.
use Rattle.std.proofs.Common.{◌≡◌, ℕ, ℤ, Bool, true, false, cond, codes, List, [], ◌∷◌, ◌++◌, map, reverse, Option}
use Rattle.std.proofs.Common.{Some, None, refl, ap, sym, ◌∙◌, subst}
use Rattle.std.proofs.lemmas.List.{reverse-append}
use Rattle.std.specs.List.{find}
use Rattle.std.specs.Option.{option_map, option_or}
use Rattle.std.specs.Str.{IsUtf8, bytes_eq}
use Rattle.ev_types.specs.declared.field.Field.{Field}
use Rattle.ev_types.specs.declared.field.Field.TheVariants as field
use Rattle.ev_types.specs.declared.settings.Set.{Set}
use Rattle.ev_types.specs.declared.value.Value.{Value}
use Rattle.ev_types.specs.Names.{field_name, is_hidden, named_field, protocol_field}
use Rattle.pred_eval.specs.declared.rule.Ordering.{Ordering}
use Rattle.pred_eval.specs.declared.rule.Ordering.TheVariants.{Less, LessEqual, Greater, GreaterEqual}
use Rattle.pred_eval.specs.Tree.{Tree, Trees, Equal, Order}
use Rattle.pred_eval.specs.Tree as pred
use Rattle.sexp_read.specs.Bytes.{is_name}
use Rattle.sexp_read.specs.Written.{BareTree, BareTrees, listed, is_pattern, IsWithin64, IsWritableTree, AreWritable}
use Rattle.config_terms.specs.declared.binding.Binding.{Binding}
use Rattle.config_terms.specs.declared.binding.Bound.{Bound}
use Rattle.config_terms.specs.declared.binding.Bound.TheVariants as bound
use Rattle.config_terms.specs.Arguments.{Env, bound_value}
use Rattle.config_terms.specs.Grammar.{IsLiteral, a_text, a_pattern, a_number, a_keyword, a_name, IsValue, text_value}
use Rattle.config_terms.specs.Grammar.{number_value, nil_value, IsTested, bare, keyed, all_of, any_of, IsPredicate}
use Rattle.config_terms.specs.Grammar.{always, never, never_nil, all_parts, any_part, negated, tagged, equal, unequal}
use Rattle.config_terms.specs.Grammar.{compared, like, holds, found, ArePredicates, no_parts, more_parts}
use Rattle.config_terms.specs.Terms.{IsField, a_field, AreEach, no_more, one_more, AreTexts, IsTexts, text_alone, text_vector}
use Rattle.config_terms.specs.Terms.{IsFields, field_alone, field_vector, a_set}
use Rattle.config_terms.specs.Terms.{AreSets, no_sets, more_sets}
use Rattle.config_terms.proofs.Outcomes.{SomeGood, some_found}
use Rattle.config_terms.proofs.GrammarOnly.{TextIs}
use Rattle.sexp_config.specs.Canonical.{text_form, vector_form, value_form, field_form, rule_field_form, rule_form}
use Rattle.sexp_config.specs.Canonical.{rule_forms, set_forms}

-- ---- all of a list

abbrev pub AllGood : {A : Type 0} → (A → Type 0) → List A → Type 0
AllGood Good [] = Unit {0}
AllGood Good (a ∷ all) = Good a × AllGood Good all

pub all_both : {A : Type 0} (P : A → Type 0) (xs ys : List A) → AllGood P xs → AllGood P ys → AllGood P (xs ++ ys)
all_both P [] ys first second = second
all_both P (x ∷ xs) ys first second = (first.0, all_both P xs ys first.1 second)

-- ---- names

abbrev pub GoodBound : Bound → Type 0
GoodBound (bound.Text text) = IsUtf8 text
GoodBound (bound.Pattern text) = IsUtf8 text × (is_pattern text ≡ true)
GoodBound (bound.Number number) = IsWithin64 number
GoodBound (bound.Keyword key) = is_name key ≡ true
GoodBound bound.Index = Unit {0}

abbrev pub GoodBinding : Binding → Type 0
GoodBinding binding = GoodBound binding.value

-- the values of the names can be written
abbrev pub GoodEnv : Env → Type 0
GoodEnv env = AllGood GoodBinding env

all_reversed : (env : Env) → GoodEnv env → GoodEnv (reverse env)
all_reversed [] all = tt
all_reversed (binding ∷ env) all =
    subst (λ (all : Env). GoodEnv all) (sym (reverse-append (binding ∷ []) env))
    (all_both GoodBinding (reverse env) (binding ∷ []) (all_reversed env all.1) (all.0, tt))

found_good : (test : Binding → Bool) (env : Env) → GoodEnv env
    → SomeGood GoodBound (option_map (λ binding. binding.value) (find test env))
found_good test [] all = tt
found_good test (binding ∷ env) all = found_if test binding env (test binding) all.0 (found_good test env all.1)
  where
    found_if : (test : Binding → Bool) (binding : Binding) (env : Env) (passes : Bool) → GoodBound binding.value
        → SomeGood GoodBound (option_map (λ binding. binding.value) (find test env))
        → SomeGood GoodBound (option_map (λ binding. binding.value) (cond passes (Some binding) (find test env)))
    found_if test binding env true first others = first
    found_if test binding env false first others = others

pub literal_good : (env : Env) → GoodEnv env → (form : BareTree) (literal : Bound) → IsLiteral env form literal
    → IsWritableTree form → GoodBound literal
literal_good env e _ _ a_text w = w
literal_good env e _ _ a_pattern w = w
literal_good env e _ _ a_number w = w
literal_good env e _ _ a_keyword w = w
literal_good env e _ literal (a_name {name = name} is) w =
    some_found GoodBound (bound_value name env) literal is
    (found_good (λ binding. bytes_eq binding.name name) (reverse env) (all_reversed env e))

-- ---- fields

-- the name of the field is one of a keyword that means the field
pub record GoodField (one : Field) : Type 0 where
  pub named : is_name (field_name one) ≡ true
  pub means : named_field (field_name one) ≡ Some one

-- the field that a name can mean
abbrev Means : List ℕ → Option Field → Type 0
Means name None = Unit {0}
Means name (Some (field.Attribute key)) = key ≡ name
Means name (Some f) = Unit {0}

means_if : (name : List ℕ) (test : Bool) (x y : Option Field) → Means name x → Means name y → Means name (cond test x y)
means_if name true x y first second = first
means_if name false x y first second = second

means_or : (name : List ℕ) (x y : Option Field) → Means name x → Means name y → Means name (option_or x y)
means_or name (Some a) y first second = first
means_or name None y first second = second

bare_means : (name : List ℕ) → Means name (protocol_field name)
unfolding protocol_field
bare_means name =
    means_if name (bytes_eq name (codes "host")) _ _ tt (means_if name (bytes_eq name (codes "service")) _ _ tt
    (means_if name (bytes_eq name (codes "state")) _ _ tt (means_if name (bytes_eq name (codes "description")) _ _ tt
    (means_if name (bytes_eq name (codes "time")) _ _ tt (means_if name (bytes_eq name (codes "ttl")) _ _ tt
    (means_if name (bytes_eq name (codes "metric")) _ _ tt tt))))))

field_means : (name : List ℕ) → Means name (named_field name)
unfolding named_field
field_means name =
    means_or name (protocol_field name) _ (bare_means name)
    (means_if name (bytes_eq name (codes "metric_sint64")) _ _ tt (means_if name (is_hidden name) _ _ tt refl))

named_good : (name : List ℕ) (one : Field) → is_name name ≡ true → named_field name ≡ Some one → GoodField one
unfolding named_field protocol_field
named_good name (field.Attribute key) h is =
    let same : key ≡ name = subst (λ (read : Option Field). Means name read) is (field_means name) in
    record { named = ap is_name same ∙ h; means = ap named_field same ∙ is }
named_good name field.Host h is = record { named = refl; means = refl }
named_good name one h is = record { named = refl; means = refl }

-- a field without the attributes
abbrev Bare : Option Field → Type 0
Bare (Some (field.Attribute key)) = ⊥
Bare one = Unit {0}

bare_if : (test : Bool) (x y : Option Field) → Bare x → Bare y → Bare (cond test x y)
bare_if true x y first second = first
bare_if false x y first second = second

bare_is : (name : List ℕ) → Bare (protocol_field name)
unfolding protocol_field
bare_is name =
    bare_if (bytes_eq name (codes "host")) _ _ tt (bare_if (bytes_eq name (codes "service")) _ _ tt
    (bare_if (bytes_eq name (codes "state")) _ _ tt (bare_if (bytes_eq name (codes "description")) _ _ tt
    (bare_if (bytes_eq name (codes "time")) _ _ tt (bare_if (bytes_eq name (codes "ttl")) _ _ tt
    (bare_if (bytes_eq name (codes "metric")) _ _ tt tt))))))

abbrev pub FieldWritten : Field → Type 0
FieldWritten one = IsField [] (field_form one) one × IsWritableTree (field_form one)

pub field_written : (env : Env) → GoodEnv env → (form : BareTree) (one : Field) → IsField env form one
    → IsWritableTree form → FieldWritten one
field_written env e form one (a_field {name = name} literal is) w =
    let good = named_good name one (literal_good env e form (bound.Keyword name) literal w) is in
    (a_field a_keyword good.means, good.named)

abbrev pub TestedWritten : Field → Type 0
TestedWritten one = IsTested (rule_field_form one) one × IsWritableTree (rule_field_form one)

tested_good : (one : Field) → GoodField one → TestedWritten one
unfolding protocol_field
tested_good (field.Attribute key) good = (keyed good.means, good.named)
tested_good field.Host good = (bare refl, refl)
tested_good field.Service good = (bare refl, refl)
tested_good field.State good = (bare refl, refl)
tested_good field.Description good = (bare refl, refl)
tested_good field.Time good = (bare refl, refl)
tested_good field.Ttl good = (bare refl, refl)
tested_good field.Metric good = (bare refl, refl)

tested_bare : (one : Field) → Bare (Some one) → TestedWritten one
unfolding named_field protocol_field
tested_bare (field.Attribute key) other = absurd other
tested_bare field.Host other = tested_good field.Host (record { named = refl; means = refl })
tested_bare one other = tested_good one (record { named = refl; means = refl })

pub state_tested : TestedWritten field.State
state_tested = tested_bare field.State tt

pub metric_tested : TestedWritten field.Metric
metric_tested = tested_bare field.Metric tt

tested_written : (form : BareTree) (one : Field) → IsTested form one → IsWritableTree form → TestedWritten one
tested_written _ one (bare {name = name} is) w =
    tested_bare one (subst (λ (read : Option Field). Bare read) is (bare_is name))
tested_written _ one (keyed {name = name} is) w = tested_good one (named_good name one w is)

-- ---- values

abbrev pub ValueWritten : Value → Type 0
ValueWritten held = IsValue [] (value_form held) held × IsWritableTree (value_form held)

pub value_written : (env : Env) → GoodEnv env → (form : BareTree) (held : Value) → IsValue env form held
    → IsWritableTree form → ValueWritten held
value_written env e form _ (text_value {text = text} is) w =
    (text_value a_text, literal_good env e form (bound.Text text) is w)
value_written env e form _ (number_value {number = number} is) w =
    (number_value a_number, literal_good env e form (bound.Number number) is w)
value_written env e _ _ (nil_value is) w = (nil_value refl, refl)

-- ---- predicates

abbrev pub RuleWritten : Tree → Type 0
RuleWritten one = IsPredicate [] (rule_form one) one × IsWritableTree (rule_form one)

abbrev pub RulesWritten : Trees → Type 0
RulesWritten rules = ArePredicates [] (listed (rule_forms rules)) rules × AreWritable (listed (rule_forms rules))

pub all_written : (one : Tree) (rules : Trees) → RuleWritten one → RulesWritten rules → RuleWritten (all_of one rules)
all_written one pred.none first others = first
all_written one (pred.also second rules) first others = (all_parts first.0 others.0, (refl, (first.1, others.1)))

any_written : (one : Tree) (rules : Trees) → RuleWritten one → RulesWritten rules → RuleWritten (any_of one rules)
any_written one pred.none first others = first
any_written one (pred.also second rules) first others = (any_part first.0 others.0, (refl, (first.1, others.1)))

pub order_written : (order : Ordering) (one : Field) (number : ℤ) → TestedWritten one → IsWithin64 number
    → RuleWritten (Order one order number)
order_written Less one number test fits = (compared {order = Less} test.0 a_number, (refl, (test.1, (fits, tt))))
order_written LessEqual one number test fits =
    (compared {order = LessEqual} test.0 a_number, (refl, (test.1, (fits, tt))))
order_written Greater one number test fits = (compared {order = Greater} test.0 a_number, (refl, (test.1, (fits, tt))))
order_written GreaterEqual one number test fits =
    (compared {order = GreaterEqual} test.0 a_number, (refl, (test.1, (fits, tt))))

pub equal_written : (one : Field) (held : Value) → TestedWritten one → ValueWritten held → RuleWritten (Equal one held)
equal_written one held test is = (equal test.0 is.0, (refl, (test.1, (is.1, tt))))

mutual
  pub rule_written : (env : Env) → GoodEnv env → (form : BareTree) (one : Tree) → IsPredicate env form one
      → IsWritableTree form → RuleWritten one
  rule_written env e _ _ always w = (always, refl)
  rule_written env e _ _ never w = (never, refl)
  rule_written env e _ _ never_nil w = (never, refl)
  rule_written env e _ _ (all_parts {part = part} {parts = parts} {rule = one} {rules = rules} first others) w =
      all_written one rules (rule_written env e part one first w.1.0) (rules_written env e parts rules others w.1.1)
  rule_written env e _ _ (any_part {part = part} {parts = parts} {rule = one} {rules = rules} first others) w =
      any_written one rules (rule_written env e part one first w.1.0) (rules_written env e parts rules others w.1.1)
  rule_written env e _ _ (negated {part = part} {rule = one} is) w =
      let part_is = rule_written env e part one is w.1.0 in (negated part_is.0, (refl, (part_is.1, tt)))
  rule_written env e _ _ (tagged {x = x} {tag = tag} is) w =
      (tagged a_text, (refl, (literal_good env e x (bound.Text tag) is w.1.0, tt)))
  rule_written env e _ _ (equal {g = g} {v = v} {field = one} {held = held} tests is) w =
      equal_written one held (tested_written g one tests w.1.0) (value_written env e v held is w.1.1.0)
  rule_written env e _ _ (unequal {g = g} {v = v} {field = one} {held = held} tests is) w =
      let part = equal_written one held (tested_written g one tests w.1.0) (value_written env e v held is w.1.1.0) in
      (negated part.0, (refl, (part.1, tt)))
  rule_written env e _ _ (compared {g = g} {k = k} {field = one} {order = order} {number = number} tests is) w =
      order_written order one number (tested_written g one tests w.1.0)
      (literal_good env e k (bound.Number number) is w.1.1.0)
  rule_written env e _ _ (like {g = g} {w = form} {field = one} {pattern = pattern} tests is) w =
      let test = tested_written g one tests w.1.0 in
      (like test.0 a_text, (refl, (test.1, (literal_good env e form (bound.Text pattern) is w.1.1.0, tt))))
  rule_written env e _ _ (holds {g = g} {v = v} {field = one} {held = held} tests is) w =
      equal_written one held (tested_written g one tests w.0) (value_written env e v held is w.1.0)
  rule_written env e _ _ (found {g = g} {p = p} {field = one} {pattern = pattern} tests is) w =
      let test = tested_written g one tests w.0 in
      (found test.0 a_pattern, (test.1, (literal_good env e p (bound.Pattern pattern) is w.1.0, tt)))

  rules_written : (env : Env) → GoodEnv env → (forms : BareTrees) (rules : Trees) → ArePredicates env forms rules
      → AreWritable forms → RulesWritten rules
  rules_written env e _ _ no_parts w = (no_parts, tt)
  rules_written env e _ _ (more_parts {part = part} {parts = parts} {rule = one} {rules = rules} first others) w =
      let one_is = rule_written env e part one first w.0 in
      let more = rules_written env e parts rules others w.1 in
      (more_parts one_is.0 more.0, (one_is.1, more.1))

-- ---- vectors and maps

-- forms in a row, where the canonical form of each value represents it too and can be written
pub each_written : {A : Type 0} (Is : Env → BareTree → A → Type 0) (form_of : A → BareTree) (env : Env)
    → ((x : BareTree) (a : A) → Is env x a → IsWritableTree x → Is [] (form_of a) a × IsWritableTree (form_of a))
    → (forms : BareTrees) (all : List A) → AreEach (Is env) forms all → AreWritable forms
    → AreEach (Is []) (listed (map form_of all)) all × AreWritable (listed (map form_of all))
each_written Is form_of env one _ _ no_more w = (no_more, tt)
each_written Is form_of env one _ _ (one_more {form = x} {forms = forms} {a = a} {all = all} is others) w =
    let first = one x a is w.0 in
    let more = each_written Is form_of env one forms all others w.1 in
    (one_more first.0 more.0, (first.1, more.1))

abbrev pub TextsWritten : List (List ℕ) → Type 0
TextsWritten texts = AreTexts [] (listed (map text_form texts)) texts × AreWritable (listed (map text_form texts))

pub texts_written : (env : Env) → GoodEnv env → (form : BareTree) (texts : List (List ℕ)) → IsTexts env form texts
    → IsWritableTree form → TextsWritten texts
texts_written env e form _ (text_alone {text = text} is) w =
    (one_more a_text no_more, (literal_good env e form (bound.Text text) is w, tt))
texts_written env e form texts (text_vector {forms = forms} are) w =
    each_written TextIs text_form env (λ x text is w. (a_text, literal_good env e x (bound.Text text) is w)) forms texts
    are w

pub fields_written : (env : Env) → GoodEnv env → (form : BareTree) (fields : List Field) → IsFields env form fields
    → IsWritableTree form
    → IsFields [] (vector_form (map field_form fields)) fields × IsWritableTree (vector_form (map field_form fields))
fields_written env e form _ (field_alone {field = one} is) w =
    let one_is = field_written env e form one is w in (field_vector (one_more one_is.0 no_more), (one_is.1, tt))
fields_written env e _ _ (field_vector {forms = forms} {field = one} {fields = fields} are) w =
    let all = each_written IsField field_form env (field_written env e) forms (one ∷ fields) are w in
    (field_vector all.0, all.1)

pub sets_written : (env : Env) → GoodEnv env → (forms : BareTrees) (sets : List Set) → AreSets env forms sets
    → AreWritable forms → AreSets [] (listed (set_forms sets)) sets × AreWritable (listed (set_forms sets))
sets_written env e _ _ no_sets w = (no_sets, tt)
sets_written env e _ _
    (more_sets {f = f} {v = v} {forms = forms} {one = one} {sets = sets} means (a_set {held = held} is fitting) others
    new)
    w =
    let one_is = field_written env e f one means w.0 in
    let held_is = value_written env e v held is w.1.0 in
    let more = sets_written env e forms sets others w.1.1 in
    (more_sets one_is.0 (a_set held_is.0 fitting) more.0 new, (one_is.1, (held_is.1, more.1)))
