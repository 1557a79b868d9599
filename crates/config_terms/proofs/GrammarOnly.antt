-- What is read as a predicate is one of the grammar.
use Rattle.std.proofs.Common.{◌≡◌, ℕ, ℤ, Bool, true, false, ◌||◌, codes, List, [], ◌∷◌, Option, Some}
use Rattle.std.proofs.Common.{None, Result, Ok, refl, ap, sym, ◌∙◌, subst}
use Rattle.std.proofs.lemmas.Slice.Eq.{bytes_eq-Decides}
use Rattle.std.specs.Str.{bytes_eq}
use Rattle.ev_types.specs.declared.field.Field.{Field}
use Rattle.ev_types.specs.declared.value.Value.TheVariants as value
use Rattle.ev_types.specs.Names.{named_field, protocol_field}
use Rattle.pred_eval.specs.declared.rule.Ordering.{Ordering}
use Rattle.pred_eval.specs.Tree.{Tree, Trees, Always, Never, Not, All, Any, Tagged, Equal, Order, Wild, Search}
use Rattle.pred_eval.specs.Tree as pred
use Rattle.sexp_read.specs.declared.piece.Atom.TheVariants as atom
use Rattle.sexp_read.specs.declared.piece.Bracket.TheVariants.{Round, Square, Curly}
use Rattle.sexp_read.specs.Tree.{FormTree, FormTrees, Single, Group, none, also}
use Rattle.sexp_read.specs.Written.{BareTree, BareTrees, Branch, and_trees, bare_tree, bare_trees, listed}
use Rattle.config_terms.specs.declared.binding.Bound.{Bound}
use Rattle.config_terms.specs.declared.binding.Bound.TheVariants as bound
use Rattle.config_terms.specs.declared.word.RuleWord.{RuleWord}
use Rattle.config_terms.specs.declared.word.RuleWord.TheVariants as word
use Rattle.config_terms.specs.Steps.{Fault, ◌>>=◌, start_of, argument, at_most}
use Rattle.config_terms.specs.Words.{rule_text, rule_word, true_text, false_text}
use Rattle.config_terms.specs.Words.{nil_text}
use Rattle.config_terms.specs.Arguments.{Env, bound_value, Argument, Text, Pattern, Number, Keyword, Index, Unbound}
use Rattle.config_terms.specs.Arguments.{Forms, bound_argument, argument_of, taken, text_in, number_in, value_in}
use Rattle.config_terms.specs.Arguments.{text_at, field_at, number_at, value_at}
use Rattle.config_terms.specs.Rules.{symbol_rule, known_field, rule_field_at, field_head, symbol_head, rule_head}
use Rattle.config_terms.specs.Rules.{all_read, with_rule, joined, equal_rule, order_rule, like_rule, tagged_rule}
use Rattle.config_terms.specs.Rules.{sought, field_rule, word_rule, headed_rule, rule_at, rules_in}
use Rattle.config_terms.specs.Grammar.{symbol, keyword, worded, list, order_word, IsLiteral, a_text, a_pattern}
use Rattle.config_terms.specs.Grammar.{a_number, a_keyword, a_name, IsValue, text_value, number_value, nil_value}
use Rattle.config_terms.specs.Grammar.{IsTested, bare, keyed, IsPredicate, always, never, never_nil, all_parts}
use Rattle.config_terms.specs.Grammar.{any_part, negated, tagged, equal, unequal, compared, like, holds, found}
use Rattle.config_terms.specs.Grammar.{ArePredicates, no_parts, more_parts}
use Rattle.config_terms.proofs.Outcomes.{OkGood, SomeGood, Any_, bind_good, any_good, weaker, ok_if, some_if}
use Rattle.config_terms.proofs.Outcomes.{some_from, fitting_good}
use Rattle.config_terms.proofs.NameLaws.{rule_named}
use Rattle.config_terms.proofs.GrammarRead.{join, join_first, join_none, join_rule, all_joined, any_joined, order_text}

-- ---- arguments

abbrev pub TextIs : Env → BareTree → List ℕ → Type 0
TextIs env form text = IsLiteral env form (bound.Text text)

abbrev pub NumberIs : Env → BareTree → ℤ → Type 0
NumberIs env form number = IsLiteral env form (bound.Number number)

-- what is known of a form by what it is as an argument
abbrev pub Meaning : Env → BareTree → Argument → Type 0
Meaning env form (Text text) = IsLiteral env form (bound.Text text)
Meaning env form (Pattern text) = IsLiteral env form (bound.Pattern text)
Meaning env form (Number number) = IsLiteral env form (bound.Number number)
Meaning env form (Keyword key) = IsLiteral env form (bound.Keyword key)
Meaning env form Index = Unit {0}
Meaning env form (Unbound name) = (form ≡ symbol name) × (bound_value name env ≡ None)
Meaning env form (Forms bracket forms) = form ≡ Branch bracket (bare_trees forms)

bound_meaning : (env : Env) (name : List ℕ) (held : Option Bound) → bound_value name env ≡ held
    → Meaning env (symbol name) (bound_argument name held)
bound_meaning env name None is = (refl, is)
bound_meaning env name (Some (bound.Text text)) is = a_name is
bound_meaning env name (Some (bound.Pattern text)) is = a_name is
bound_meaning env name (Some (bound.Number number)) is = a_name is
bound_meaning env name (Some (bound.Keyword key)) is = a_name is
bound_meaning env name (Some bound.Index) is = tt

pub meaning : (env : Env) (f : FormTree) → Meaning env (bare_tree f) (argument_of env f)
unfolding argument_of
meaning env (Single (atom.Text text) start last) = a_text
meaning env (Single (atom.Pattern text) start last) = a_pattern
meaning env (Single (atom.Number number) start last) = a_number
meaning env (Single (atom.Keyword key) start last) = a_keyword
meaning env (Single (atom.Symbol name) start last) = bound_meaning env name (bound_value name env) refl
meaning env (Group bracket forms start last) = refl

pub taken_means : {A : Type 0} (P : A → Type 0) (test : Argument → Option A) (env : Env) (f : FormTree)
    → ((given : Argument) → Meaning env (bare_tree f) given → SomeGood P (test given)) → OkGood P (taken test env f)
taken_means P test env f means =
    fitting_good P (start_of f) (argument_of env f) (test (argument_of env f))
    (means (argument_of env f) (meaning env f))

text_in_means : (env : Env) (form : BareTree) (given : Argument) → Meaning env form given
    → SomeGood (TextIs env form) (text_in given)
text_in_means env form (Text text) means = means
text_in_means env form given means = tt

number_in_means : (env : Env) (form : BareTree) (given : Argument) → Meaning env form given
    → SomeGood (NumberIs env form) (number_in given)
number_in_means env form (Number number) means = means
number_in_means env form given means = tt

nil_means : (env : Env) (form : BareTree) (name : List ℕ) → form ≡ symbol name → bound_value name env ≡ None
    → name ≡ codes "nil" → IsValue env form value.Nil
nil_means env form name at unbound is =
    subst (λ (t : BareTree). IsValue env t value.Nil) (sym (at ∙ ap symbol is))
    (nil_value (ap (λ (n : List ℕ). bound_value n env) (sym is) ∙ unbound))

value_in_means : (env : Env) (form : BareTree) (given : Argument) → Meaning env form given
    → SomeGood (IsValue env form) (value_in given)
value_in_means env form (Text text) means = text_value means
value_in_means env form (Number number) means = number_value means
value_in_means env form (Unbound name) means =
    some_if (IsValue env form) (bytes_eq name nil_text) (Some value.Nil) None
    (λ is. nil_means env form name means.0 means.1 ((bytes_eq-Decides name nil_text).0 is)) (λ _. tt)
value_in_means env form given means = tt

pub text_means : (env : Env) (f : FormTree) → OkGood (TextIs env (bare_tree f)) (text_at env f)
unfolding text_at
text_means env f = taken_means (TextIs env (bare_tree f)) text_in env f (text_in_means env (bare_tree f))

pub number_means : (env : Env) (f : FormTree) → OkGood (NumberIs env (bare_tree f)) (number_at env f)
unfolding number_at
number_means env f = taken_means (NumberIs env (bare_tree f)) number_in env f (number_in_means env (bare_tree f))

pub value_means : (env : Env) (f : FormTree) → OkGood (IsValue env (bare_tree f)) (value_at env f)
unfolding value_at
value_means env f = taken_means (IsValue env (bare_tree f)) value_in env f (value_in_means env (bare_tree f))

known_means : (start : ℕ) (name : List ℕ) (one : Option Field) → protocol_field name ≡ one
    → OkGood (IsTested (symbol name)) (known_field start one)
known_means start name (Some field) is = bare is
known_means start name None is = tt

tested_means : (f : FormTree) → OkGood (IsTested (bare_tree f)) (rule_field_at f)
unfolding rule_field_at field_at argument_of
tested_means (Single (atom.Symbol name) start last) = known_means start name (protocol_field name) refl
tested_means (Single (atom.Keyword name) start last) =
    fitting_good (IsTested (keyword name)) start (Keyword name) (named_field name)
    (some_from (IsTested (keyword name)) (named_field name) (λ field is. keyed is))
tested_means (Single (atom.Text text) start last) = tt
tested_means (Single (atom.Pattern text) start last) = tt
tested_means (Single (atom.Number number) start last) = tt
tested_means (Group bracket forms start last) = tt

-- ---- tests of a field

abbrev EqualBoth : Env → BareTrees → Tree → Type 0
EqualBoth env forms tree =
    IsPredicate env (worded (codes "=") forms) tree × IsPredicate env (worded (codes "not=") forms) (Not tree)

equal_means : (env : Env) (start : ℕ) (forms : FormTrees)
    → OkGood (EqualBoth env (bare_trees forms)) (equal_rule env start forms)
unfolding equal_rule argument at_most
equal_means env start none = tt
equal_means env start (also a none) =
    bind_good Any_ (EqualBoth env (listed (bare_tree a ∷ []))) (rule_field_at a) _ (any_good (rule_field_at a))
    (λ one _. tt)
equal_means env start (also a (also b none)) =
    let Q = EqualBoth env (listed (bare_tree a ∷ bare_tree b ∷ [])) in
    bind_good (IsTested (bare_tree a)) Q (rule_field_at a) _ (tested_means a) (λ one tests.
    bind_good (IsValue env (bare_tree b)) Q (value_at env b) _ (value_means env b)
    (λ held is. (equal tests is, unequal tests is)))
equal_means env start (also a (also b (also c rest))) =
    let Q = EqualBoth env (bare_trees (also a (also b (also c rest)))) in
    bind_good Any_ Q (rule_field_at a) _ (any_good (rule_field_at a))
    (λ one _. bind_good Any_ Q (value_at env b) _ (any_good (value_at env b)) (λ held _. tt))

order_means : (order : Ordering) (env : Env) (start : ℕ) (forms : FormTrees)
    → OkGood (IsPredicate env (worded (order_word order) (bare_trees forms))) (order_rule order env start forms)
unfolding order_rule argument at_most
order_means order env start none = tt
order_means order env start (also a none) =
    bind_good Any_ (IsPredicate env (worded (order_word order) (listed (bare_tree a ∷ [])))) (rule_field_at a) _
    (any_good (rule_field_at a)) (λ one _. tt)
order_means order env start (also a (also b none)) =
    let Q = IsPredicate env (worded (order_word order) (listed (bare_tree a ∷ bare_tree b ∷ []))) in
    bind_good (IsTested (bare_tree a)) Q (rule_field_at a) _ (tested_means a) (λ one tests.
    bind_good (NumberIs env (bare_tree b)) Q (number_at env b) _ (number_means env b) (λ number is. compared tests is))
order_means order env start (also a (also b (also c rest))) =
    let Q = IsPredicate env (worded (order_word order) (bare_trees (also a (also b (also c rest))))) in
    bind_good Any_ Q (rule_field_at a) _ (any_good (rule_field_at a))
    (λ one _. bind_good Any_ Q (number_at env b) _ (any_good (number_at env b)) (λ number _. tt))

like_means : (env : Env) (start : ℕ) (forms : FormTrees)
    → OkGood (IsPredicate env (worded (codes "like") (bare_trees forms))) (like_rule env start forms)
unfolding like_rule argument at_most
like_means env start none = tt
like_means env start (also a none) =
    bind_good Any_ (IsPredicate env (worded (codes "like") (listed (bare_tree a ∷ [])))) (rule_field_at a) _
    (any_good (rule_field_at a)) (λ one _. tt)
like_means env start (also a (also b none)) =
    let Q = IsPredicate env (worded (codes "like") (listed (bare_tree a ∷ bare_tree b ∷ []))) in
    bind_good (IsTested (bare_tree a)) Q (rule_field_at a) _ (tested_means a) (λ one tests.
    bind_good (TextIs env (bare_tree b)) Q (text_at env b) _ (text_means env b) (λ text is. like tests is))
like_means env start (also a (also b (also c rest))) =
    let Q = IsPredicate env (worded (codes "like") (bare_trees (also a (also b (also c rest))))) in
    bind_good Any_ Q (rule_field_at a) _ (any_good (rule_field_at a))
    (λ one _. bind_good Any_ Q (text_at env b) _ (any_good (text_at env b)) (λ text _. tt))

tagged_means : (env : Env) (start : ℕ) (forms : FormTrees)
    → OkGood (IsPredicate env (worded (codes "tagged") (bare_trees forms))) (tagged_rule env start forms)
unfolding tagged_rule argument at_most
tagged_means env start none = tt
tagged_means env start (also a none) =
    let Q = IsPredicate env (worded (codes "tagged") (listed (bare_tree a ∷ []))) in
    bind_good (TextIs env (bare_tree a)) Q (text_at env a) _ (text_means env a) (λ text is. tagged is)
tagged_means env start (also a (also b rest)) =
    let Q = IsPredicate env (worded (codes "tagged") (bare_trees (also a (also b rest)))) in
    bind_good Any_ Q (text_at env a) _ (any_good (text_at env a)) (λ text _. tt)

abbrev Tests : Env → BareTree → BareTree → Tree → Type 0
Tests env g form = IsPredicate env (list (listed (g ∷ form ∷ [])))

sought_value : (env : Env) (g : BareTree) (one : Field) → IsTested g one → (f : FormTree)
    → OkGood (Tests env g (bare_tree f)) (value_at env f >>= λ held. Ok (Equal one held))
sought_value env g one tests f =
    bind_good (IsValue env (bare_tree f)) (Tests env g (bare_tree f)) (value_at env f) (λ held. Ok (Equal one held))
    (value_means env f) (λ held is. holds tests is)

sought_means : (env : Env) (g : BareTree) (one : Field) → IsTested g one → (f : FormTree) (given : Argument)
    → Meaning env (bare_tree f) given → OkGood (Tests env g (bare_tree f)) (sought env one f given)
sought_means env g one tests f (Pattern text) means = found tests means
sought_means env g one tests f (Text text) means = sought_value env g one tests f
sought_means env g one tests f (Number number) means = sought_value env g one tests f
sought_means env g one tests f (Keyword key) means = sought_value env g one tests f
sought_means env g one tests f Index means = sought_value env g one tests f
sought_means env g one tests f (Unbound name) means = sought_value env g one tests f
sought_means env g one tests f (Forms bracket forms) means = sought_value env g one tests f

field_means : (env : Env) (g : BareTree) (one : Field) → IsTested g one → (start : ℕ) (forms : FormTrees)
    → OkGood (IsPredicate env (list (and_trees g (bare_trees forms)))) (field_rule env one start forms)
unfolding field_rule argument at_most
field_means env g one tests start none = tt
field_means env g one tests start (also a none) =
    bind_good (Tests env g (bare_tree a)) (Tests env g (bare_tree a)) (sought env one a (argument_of env a)) _
    (sought_means env g one tests a (argument_of env a) (meaning env a)) (λ tree is. is)
field_means env g one tests start (also a (also b rest)) =
    bind_good Any_ (IsPredicate env (list (and_trees g (bare_trees (also a (also b rest))))))
    (sought env one a (argument_of env a)) _ (any_good (sought env one a (argument_of env a))) (λ tree _. tt)

-- ---- predicates of predicates

abbrev AllMean : Env → FormTrees → Type 0
AllMean env none = Unit {0}
AllMean env (also f forms) = OkGood (IsPredicate env (bare_tree f)) (rule_at env f) × AllMean env forms

-- the rules that are read onto others
record Row (env : Env) (row : BareTrees) (before rules : Trees) : Type 0 where
  later : Trees
  is : rules ≡ join before later
  all : ArePredicates env row later

row_more : (env : Env) (part : BareTree) (row : BareTrees) (before : Trees) (one : Tree) → IsPredicate env part one
    → (rules : Trees) → Row env row (with_rule before one) rules → Row env (and_trees part row) before rules
row_more env part row before one first rules known =
    record {
      later = pred.also one known.later;
      is = known.is ∙ join_rule before one known.later;
      all = more_parts first known.all;
    }

row_means : (env : Env) (forms : FormTrees) → AllMean env forms → (before : Trees)
    → OkGood (Row env (bare_trees forms) before) (all_read before (rules_in env forms))
unfolding all_read rule_at rules_in
row_means env none all before = record { later = pred.none; is = sym (join_none before); all = no_parts }
row_means env (also f forms) all before =
    bind_good (IsPredicate env (bare_tree f)) (Row env (bare_trees (also f forms)) before) (rule_at env f)
    (λ one. all_read (with_rule before one) (rules_in env forms)) all.0 (λ one first.
    weaker (Row env (bare_trees forms) (with_rule before one)) (Row env (bare_trees (also f forms)) before)
    (all_read (with_rule before one) (rules_in env forms))
    (row_more env (bare_tree f) (bare_trees forms) before one first) (row_means env forms all.1 (with_rule before one)))

row_all : (env : Env) (row : BareTrees) (rules : Trees) → Row env row pred.none rules → ArePredicates env row rules
row_all env row rules known =
    subst (λ (r : Trees). ArePredicates env row r) (sym (known.is ∙ join_first known.later)) known.all

all_means : (env : Env) (start : ℕ) (row : BareTrees) (rules : Trees) → ArePredicates env row rules
    → OkGood (IsPredicate env (worded (codes "and") row)) (joined All start rules)
all_means env start _ _ no_parts = tt
all_means env start _ _ (more_parts {part = part} {parts = parts} {rule = one} {rules = rules} first others) =
    subst (λ (read : Result Tree Fault). OkGood (IsPredicate env (worded (codes "and") (and_trees part parts))) read)
    (sym (all_joined start one rules)) (all_parts first others)

any_means : (env : Env) (start : ℕ) (row : BareTrees) (rules : Trees) → ArePredicates env row rules
    → OkGood (IsPredicate env (worded (codes "or") row)) (joined Any start rules)
any_means env start _ _ no_parts = tt
any_means env start _ _ (more_parts {part = part} {parts = parts} {rule = one} {rules = rules} first others) =
    subst (λ (read : Result Tree Fault). OkGood (IsPredicate env (worded (codes "or") (and_trees part parts))) read)
    (sym (any_joined start one rules)) (any_part first others)

not_means : (env : Env) (a : FormTree) (rest : FormTrees) → OkGood (IsPredicate env (bare_tree a)) (rule_at env a)
    → OkGood (IsPredicate env (worded (codes "not") (bare_trees (also a rest))))
    (rule_at env a >>= λ one. at_most 1 (also a rest) >>= λ over. Ok (Not one))
unfolding at_most
not_means env a none first =
    bind_good (IsPredicate env (bare_tree a)) (IsPredicate env (worded (codes "not") (listed (bare_tree a ∷ []))))
    (rule_at env a) _ first (λ one is. negated is)
not_means env a (also b rest) first =
    bind_good Any_ (IsPredicate env (worded (codes "not") (bare_trees (also a (also b rest))))) (rule_at env a) _
    (any_good (rule_at env a)) (λ one _. tt)

word_means : (env : Env) (one : RuleWord) (start : ℕ) (forms : FormTrees) → AllMean env forms
    → OkGood (IsPredicate env (worded (rule_text one) (bare_trees forms)))
    (word_rule env one start forms (rules_in env forms))
unfolding word_rule rule_at rules_in
word_means env word.And start forms all =
    bind_good (Row env (bare_trees forms) pred.none) (IsPredicate env (worded (codes "and") (bare_trees forms)))
    (all_read pred.none (rules_in env forms)) (joined All start) (row_means env forms all pred.none)
    (λ rules known. all_means env start (bare_trees forms) rules (row_all env (bare_trees forms) rules known))
word_means env word.Or start forms all =
    bind_good (Row env (bare_trees forms) pred.none) (IsPredicate env (worded (codes "or") (bare_trees forms)))
    (all_read pred.none (rules_in env forms)) (joined Any start) (row_means env forms all pred.none)
    (λ rules known. any_means env start (bare_trees forms) rules (row_all env (bare_trees forms) rules known))
word_means env word.Not start none all = tt
word_means env word.Not start (also a rest) all = not_means env a rest all.0
word_means env word.Tagged start forms all = tagged_means env start forms
word_means env word.Equal start forms all =
    weaker (EqualBoth env (bare_trees forms)) (IsPredicate env (worded (codes "=") (bare_trees forms)))
    (equal_rule env start forms) (λ tree both. both.0) (equal_means env start forms)
word_means env word.NotEqual start forms all =
    bind_good (EqualBoth env (bare_trees forms)) (IsPredicate env (worded (codes "not=") (bare_trees forms)))
    (equal_rule env start forms) (λ one. Ok (Not one)) (equal_means env start forms) (λ tree both. both.1)
word_means env (word.Order order) start forms all =
    subst
    (λ (name : List ℕ). OkGood (IsPredicate env (worded name (bare_trees forms))) (order_rule order env start forms))
    (order_text order) (order_means order env start forms)
word_means env word.Like start forms all = like_means env start forms

-- ---- heads

abbrev Spells : List ℕ → RuleWord → Type 0
Spells name one = name ≡ rule_text one

call_means : (env : Env) (name : List ℕ) (start : ℕ) (forms : FormTrees) → AllMean env forms → (one : Option RuleWord)
    → SomeGood (Spells name) one → (field : Option Field) → protocol_field name ≡ field
    → OkGood (IsPredicate env (worded name (bare_trees forms)))
    (headed_rule env (symbol_head one field) start forms (rules_in env forms))
call_means env name start forms all (Some one) spells field is =
    subst
    (λ (n : List ℕ).
    OkGood (IsPredicate env (worded n (bare_trees forms))) (word_rule env one start forms (rules_in env forms)))
    (sym spells) (word_means env one start forms all)
call_means env name start forms all None spells (Some field) is =
    field_means env (symbol name) field (bare is) start forms
call_means env name start forms all None spells None is = tt

lookup_means : (env : Env) (name : List ℕ) (start : ℕ) (forms : FormTrees) (field : Option Field)
    → named_field name ≡ field
    → OkGood (IsPredicate env (list (and_trees (keyword name) (bare_trees forms))))
    (headed_rule env (field_head field) start forms (rules_in env forms))
lookup_means env name start forms (Some field) is = field_means env (keyword name) field (keyed is) start forms
lookup_means env name start forms None is = tt

never_means : (env : Env) (name : List ℕ) (a b : Bool) → (a ≡ true → name ≡ codes "false")
    → (b ≡ true → name ≡ codes "nil") → (a || b) ≡ true → IsPredicate env (symbol name) Never
never_means env name true b first second is =
    subst (λ (n : List ℕ). IsPredicate env (symbol n) Never) (sym (first refl)) never
never_means env name false true first second is =
    subst (λ (n : List ℕ). IsPredicate env (symbol n) Never) (sym (second refl)) never_nil
never_means env name false false first second is = cc

symbol_means : (env : Env) (name : List ℕ) (start : ℕ)
    → OkGood (IsPredicate env (symbol name)) (symbol_rule env name start)
symbol_means env name start =
    ok_if (IsPredicate env (symbol name)) (bytes_eq name true_text) (Ok Always) _
    (λ is.
    subst (λ (n : List ℕ). IsPredicate env (symbol n) Always) (sym ((bytes_eq-Decides name true_text).0 is)) always)
    (λ _. ok_if (IsPredicate env (symbol name)) (bytes_eq name false_text || bytes_eq name nil_text) (Ok Never) _
    (never_means env name (bytes_eq name false_text) (bytes_eq name nil_text) (bytes_eq-Decides name false_text).0
    (bytes_eq-Decides name nil_text).0)
    (λ _. tt))

-- ---- all predicates

mutual
  unfolding rule_at rules_in rule_head

  pub predicate_means : (env : Env) (f : FormTree) → OkGood (IsPredicate env (bare_tree f)) (rule_at env f)
  predicate_means env (Single (atom.Symbol name) start last) = symbol_means env name start
  predicate_means env (Group Round (also (Single (atom.Symbol name) begin end) forms) start last) =
      call_means env name start forms (all_mean env forms) (rule_word name) (rule_named name) (protocol_field name)
      refl
  predicate_means env (Group Round (also (Single (atom.Keyword name) begin end) forms) start last) =
      lookup_means env name start forms (named_field name) refl
  predicate_means env (Group Round (also (Single (atom.Text text) begin end) forms) start last) = tt
  predicate_means env (Group Round (also (Single (atom.Pattern text) begin end) forms) start last) = tt
  predicate_means env (Group Round (also (Single (atom.Number number) begin end) forms) start last) = tt
  predicate_means env (Group Round (also (Group bracket inner begin end) forms) start last) = tt
  predicate_means env (Group Round none start last) = tt
  predicate_means env (Single (atom.Text text) start last) = tt
  predicate_means env (Single (atom.Pattern text) start last) = tt
  predicate_means env (Single (atom.Number number) start last) = tt
  predicate_means env (Single (atom.Keyword key) start last) = tt
  predicate_means env (Group Square forms start last) = tt
  predicate_means env (Group Curly forms start last) = tt

  all_mean : (env : Env) (forms : FormTrees) → AllMean env forms
  all_mean env none = tt
  all_mean env (also f forms) = (predicate_means env f, all_mean env forms)
