-- Predicates of the grammar are read.
use Rattle.std.proofs.Common.{◌≡◌, ℕ, ℤ, codes, List, [], ◌∷◌, if◌then◌else◌, Option, Some, None, Result, Ok, refl, ap}
use Rattle.std.proofs.Common.{sym, ◌∙◌}
use Rattle.std.proofs.lemmas.Slice.Eq.{bytes_eq-Decides}
use Rattle.std.specs.Str.{bytes_eq}
use Rattle.ev_types.specs.declared.field.Field.{Field}
use Rattle.ev_types.specs.declared.value.Value.{Value}
use Rattle.ev_types.specs.Names.{named_field, protocol_field}
use Rattle.pred_eval.specs.declared.rule.Ordering.{Ordering}
use Rattle.pred_eval.specs.declared.rule.Ordering.TheVariants.{Less, LessEqual, Greater, GreaterEqual}
use Rattle.pred_eval.specs.Tree.{Tree, Trees, Always, Never, Not, All, Any, Tagged, Equal, Order, Wild, Search}
use Rattle.pred_eval.specs.Tree as pred
use Rattle.sexp_read.specs.declared.piece.Atom.TheVariants as atom
use Rattle.sexp_read.specs.declared.piece.Bracket.TheVariants.{Round}
use Rattle.sexp_read.specs.Tree.{FormTree, FormTrees, Single, Group, none, also}
use Rattle.sexp_read.specs.Written.{BareTree, BareTrees, no_trees, and_trees, bare_tree, bare_trees, listed}
use Rattle.config_terms.specs.declared.binding.Bound.{Bound}
use Rattle.config_terms.specs.declared.binding.Bound.TheVariants as bound
use Rattle.config_terms.specs.declared.word.RuleWord.{RuleWord}
use Rattle.config_terms.specs.declared.word.RuleWord.TheVariants as word
use Rattle.config_terms.specs.Steps.{Fault, argument, at_most}
use Rattle.config_terms.specs.Words.{rule_text, rule_word}
use Rattle.config_terms.specs.Arguments.{Env, bound_value, Argument, Text, Number, bound_argument, argument_of, text_at}
use Rattle.config_terms.specs.Arguments.{field_at, number_at, value_at}
use Rattle.config_terms.specs.Rules.{Head, Word, Field_, rule_field_at, rule_head, Readings, with_rule, all_read}
use Rattle.config_terms.specs.Rules.{joined, equal_rule, order_rule, like_rule, tagged_rule, sought, field_rule}
use Rattle.config_terms.specs.Rules.{word_rule, headed_rule, rule_at, rules_in}
use Rattle.config_terms.specs.Grammar.{symbol, worded, list, order_word, all_of, any_of, IsLiteral, a_text, a_pattern}
use Rattle.config_terms.specs.Grammar.{a_number, a_keyword, a_name, IsValue, text_value, number_value, nil_value}
use Rattle.config_terms.specs.Grammar.{IsTested, bare, keyed, IsPredicate, always, never, never_nil, all_parts}
use Rattle.config_terms.specs.Grammar.{any_part, negated, tagged, equal, unequal, compared, like, holds, found}
use Rattle.config_terms.specs.Grammar.{ArePredicates, no_parts, more_parts}
use Rattle.config_terms.proofs.BareForms.{single_of, group_of, also_of, none_of, call_of}
use Rattle.config_terms.proofs.Outcomes.{SomeGood, some_if, some_found}

-- ---- arguments

-- what a literal is as an argument
abbrev pub given : Bound → Argument
given literal = bound_argument [] (Some literal)

same_bound : (name : List ℕ) (literal : Bound) → bound_argument name (Some literal) ≡ given literal
same_bound name (bound.Text text) = refl
same_bound name (bound.Pattern text) = refl
same_bound name (bound.Number number) = refl
same_bound name (bound.Keyword key) = refl
same_bound name bound.Index = refl

pub literal_read : (env : Env) (form : BareTree) (literal : Bound) → IsLiteral env form literal → (f : FormTree)
    → bare_tree f ≡ form → argument_of env f ≡ given literal
unfolding argument_of
literal_read env _ _ (a_text {text = text}) f h = let one = single_of f (atom.Text text) h in rw one.is refl
literal_read env _ _ (a_pattern {text = text}) f h = let one = single_of f (atom.Pattern text) h in rw one.is refl
literal_read env _ _ (a_number {number = number}) f h = let one = single_of f (atom.Number number) h in rw one.is refl
literal_read env _ _ (a_keyword {name = name}) f h = let one = single_of f (atom.Keyword name) h in rw one.is refl
literal_read env _ literal (a_name {name = name} is) f h =
    let one = single_of f (atom.Symbol name) h in rw one.is (ap (bound_argument name) is ∙ same_bound name literal)

pub text_read : (env : Env) (f : FormTree) (text : List ℕ) → argument_of env f ≡ Text text → text_at env f ≡ Ok text
unfolding text_at
text_read env f text is = rw is refl

pub number_read : (env : Env) (f : FormTree) (number : ℤ) → argument_of env f ≡ Number number
    → number_at env f ≡ Ok number
unfolding number_at
number_read env f number is = rw is refl

nil_argument : (env : Env) (f : FormTree) → bound_value (codes "nil") env ≡ None → bare_tree f ≡ symbol (codes "nil")
    → argument_of env f ≡ bound_argument (codes "nil") None
unfolding argument_of
nil_argument env f is h = let one = single_of f (atom.Symbol (codes "nil")) h in rw (one.is, is) refl

pub value_read : (env : Env) (form : BareTree) (held : Value) → IsValue env form held → (f : FormTree)
    → bare_tree f ≡ form → value_at env f ≡ Ok held
unfolding value_at
value_read env form _ (text_value {text = text} is) f h = rw (literal_read env form (bound.Text text) is f h) refl
value_read env form _ (number_value {number = number} is) f h =
    rw (literal_read env form (bound.Number number) is f h) refl
value_read env _ _ (nil_value is) f h = rw (nil_argument env f is h) refl

tested_read : (g : BareTree) (field : Field) → IsTested g field → (f : FormTree) → bare_tree f ≡ g
    → rule_field_at f ≡ Ok field
unfolding rule_field_at field_at argument_of
tested_read _ field (bare {name = name} is) f h = let one = single_of f (atom.Symbol name) h in rw (one.is, is) refl
tested_read _ field (keyed {name = name} is) f h = let one = single_of f (atom.Keyword name) h in rw (one.is, is) refl

-- ---- heads

word_head : (one : RuleWord) (begin end : ℕ) → rule_head (Single (atom.Symbol (rule_text one)) begin end) ≡ Word one
unfolding rule_head rule_word
word_head word.And begin end = refl
word_head word.Or begin end = refl
word_head word.Not begin end = refl
word_head word.Tagged begin end = refl
word_head word.Equal begin end = refl
word_head word.NotEqual begin end = refl
word_head (word.Order Less) begin end = refl
word_head (word.Order LessEqual) begin end = refl
word_head (word.Order Greater) begin end = refl
word_head (word.Order GreaterEqual) begin end = refl
word_head word.Like begin end = refl

pub order_text : (order : Ordering) → order_word order ≡ rule_text (word.Order order)
order_text Less = refl
order_text LessEqual = refl
order_text Greater = refl
order_text GreaterEqual = refl

-- no name of a field is a word

wordless_if : (name text : List ℕ) (field : Field) (other : Option Field) → rule_word text ≡ None
    → SomeGood {A = Field} (λ _. rule_word name ≡ None) other
    → SomeGood {A = Field} (λ _. rule_word name ≡ None) (if bytes_eq name text then Some field else other)
wordless_if name text field other no_word rest =
    some_if (λ _. rule_word name ≡ None) (bytes_eq name text) (Some field) other
    (λ is. ap rule_word ((bytes_eq-Decides name text).0 is) ∙ no_word) (λ _. rest)

fields_wordless : (name : List ℕ) → SomeGood {A = Field} (λ _. rule_word name ≡ None) (protocol_field name)
unfolding protocol_field rule_word
fields_wordless name =
    wordless_if name (codes "host") _ _ refl
    (wordless_if name (codes "service") _ _ refl (wordless_if name (codes "state") _ _ refl
    (wordless_if name (codes "description") _ _ refl
    (wordless_if name (codes "time") _ _ refl (wordless_if name (codes "ttl") _ _ refl
    (wordless_if name (codes "metric") _ _ refl tt))))))

bare_head : (name : List ℕ) (one : Field) (begin end : ℕ) → rule_word name ≡ None → protocol_field name ≡ Some one
    → rule_head (Single (atom.Symbol name) begin end) ≡ Field_ one
unfolding rule_head
bare_head name one begin end no_word is = rw (no_word, is) refl

key_head : (name : List ℕ) (one : Field) (begin end : ℕ) → named_field name ≡ Some one
    → rule_head (Single (atom.Keyword name) begin end) ≡ Field_ one
unfolding rule_head
key_head name one begin end is = rw is refl

tested_head : (g : BareTree) (field : Field) → IsTested g field → (f : FormTree) → bare_tree f ≡ g
    → rule_head f ≡ Field_ field
tested_head _ field (bare {name = name} is) f h =
    let one = single_of f (atom.Symbol name) h in
    ap rule_head one.is
    ∙ bare_head name field one.start one.last
    (some_found (λ _. rule_word name ≡ None) (protocol_field name) field is (fields_wordless name)) is
tested_head _ field (keyed {name = name} is) f h =
    let one = single_of f (atom.Keyword name) h in
    ap rule_head one.is ∙ key_head name field one.start one.last is

-- ---- lists

group_rule : (env : Env) (head : FormTree) (forms : FormTrees) (start last : ℕ)
    → rule_at env (Group Round (also head forms) start last)
    ≡ headed_rule env (rule_head head) start forms (rules_in env forms)
unfolding rule_at
group_rule env head forms start last = refl

record WordRule (env : Env) (f : FormTree) (one : RuleWord) (args : BareTrees) : Type 0 where
  forms : FormTrees
  start : ℕ
  forms_are : bare_trees forms ≡ args
  read : rule_at env f ≡ word_rule env one start forms (rules_in env forms)

worded_rule : (env : Env) (f : FormTree) (one : RuleWord) (args : BareTrees) → bare_tree f ≡ worded (rule_text one) args
    → WordRule env f one args
worded_rule env f one args h =
    let call = call_of f (atom.Symbol (rule_text one)) args h in
    record {
      forms = call.forms;
      start = call.start;
      forms_are = call.forms_are;
      read =
          ap (rule_at env) call.is
          ∙ group_rule env (Single (atom.Symbol (rule_text one)) call.begin call.end) call.forms call.start call.last
          ∙ ap (λ (head : Head). headed_rule env head call.start call.forms (rules_in env call.forms))
          (word_head one call.begin call.end);
    }

pub record IsOne (forms : FormTrees) (first : BareTree) : Type 0 where
  pub a : FormTree
  pub are : forms ≡ also a none
  pub a_is : bare_tree a ≡ first

pub one_of : (forms : FormTrees) (first : BareTree) → bare_trees forms ≡ listed (first ∷ []) → IsOne forms first
one_of forms first h =
    let one = also_of forms first no_trees h in
    record { a = one.first; a_is = one.first_is; are = one.are ∙ ap (also one.first) (none_of one.rest one.rest_are) }

pub record AreTwo (forms : FormTrees) (first second : BareTree) : Type 0 where
  pub a : FormTree
  pub b : FormTree
  pub are : forms ≡ also a (also b none)
  pub a_is : bare_tree a ≡ first
  pub b_is : bare_tree b ≡ second

pub two_of : (forms : FormTrees) (first second : BareTree) → bare_trees forms ≡ listed (first ∷ second ∷ [])
    → AreTwo forms first second
two_of forms first second h =
    let one = also_of forms first (and_trees second no_trees) h in
    let two = also_of one.rest second no_trees one.rest_are in
    record {
      a = one.first;
      b = two.first;
      a_is = one.first_is;
      b_is = two.first_is;
      are = one.are ∙ ap (also one.first) (two.are ∙ ap (also two.first) (none_of two.rest two.rest_are));
    }

-- ---- tests of a field

equal_two : (env : Env) (start : ℕ) (a b : FormTree) (one : Field) (held : Value) → rule_field_at a ≡ Ok one
    → value_at env b ≡ Ok held → equal_rule env start (also a (also b none)) ≡ Ok (Equal one held)
unfolding equal_rule argument at_most
equal_two env start a b one held first second = rw (first, second) refl

order_two : (env : Env) (order : Ordering) (start : ℕ) (a b : FormTree) (one : Field) (number : ℤ)
    → rule_field_at a ≡ Ok one → number_at env b ≡ Ok number
    → order_rule order env start (also a (also b none)) ≡ Ok (Order one order number)
unfolding order_rule argument at_most
order_two env order start a b one number first second = rw (first, second) refl

like_two : (env : Env) (start : ℕ) (a b : FormTree) (one : Field) (text : List ℕ) → rule_field_at a ≡ Ok one
    → text_at env b ≡ Ok text → like_rule env start (also a (also b none)) ≡ Ok (Wild one text)
unfolding like_rule argument at_most
like_two env start a b one text first second = rw (first, second) refl

tagged_one : (env : Env) (start : ℕ) (a : FormTree) (text : List ℕ) → text_at env a ≡ Ok text
    → tagged_rule env start (also a none) ≡ Ok (Tagged text)
unfolding tagged_rule argument at_most
tagged_one env start a text first = rw first refl

field_one : (env : Env) (one : Field) (start : ℕ) (a : FormTree) (tree : Tree)
    → sought env one a (argument_of env a) ≡ Ok tree → field_rule env one start (also a none) ≡ Ok tree
unfolding field_rule argument at_most
field_one env one start a tree is = rw is refl

sought_value : (env : Env) (form : BareTree) (held : Value) → IsValue env form held → (one : Field) (f : FormTree)
    → bare_tree f ≡ form → sought env one f (argument_of env f) ≡ Ok (Equal one held)
sought_value env form held (text_value {text = text} is) one f h =
    rw (literal_read env form (bound.Text text) is f h, value_read env form held (text_value is) f h) refl
sought_value env form held (number_value {number = number} is) one f h =
    rw (literal_read env form (bound.Number number) is f h, value_read env form held (number_value is) f h) refl
sought_value env form held (nil_value is) one f h =
    rw (nil_argument env f is h, value_read env form held (nil_value is) f h) refl

-- a list that begins with what is tested
record FieldRule (env : Env) (f : FormTree) (one : Field) (arg : BareTree) : Type 0 where
  start : ℕ
  a : FormTree
  a_is : bare_tree a ≡ arg
  read : rule_at env f ≡ field_rule env one start (also a none)

tested_rule : (env : Env) (f : FormTree) (g arg : BareTree) (one : Field) → IsTested g one
    → bare_tree f ≡ list (listed (g ∷ arg ∷ [])) → FieldRule env f one arg
tested_rule env f g arg one is h =
    let group = group_of f Round (listed (g ∷ arg ∷ [])) h in
    let two = two_of group.forms g arg group.forms_are in
    record {
      start = group.start;
      a = two.b;
      a_is = two.b_is;
      read = ap (rule_at env) (group.is ∙ ap (λ (forms : FormTrees). Group Round forms group.start group.last) two.are)
          ∙ group_rule env two.a (also two.b none) group.start group.last
          ∙ ap (λ (head : Head). headed_rule env head group.start (also two.b none) (rules_in env (also two.b none)))
          (tested_head g one is two.a two.a_is);
    }

equal_args : (env : Env) (start : ℕ) (forms : FormTrees) (g v : BareTree) (one : Field) (held : Value) → IsTested g one
    → IsValue env v held → bare_trees forms ≡ listed (g ∷ v ∷ [])
    → equal_rule env start forms ≡ Ok (Equal one held)
equal_args env start forms g v one held tests is h =
    let two = two_of forms g v h in
    ap (equal_rule env start) two.are
    ∙ equal_two env start two.a two.b one held (tested_read g one tests two.a two.a_is)
    (value_read env v held is two.b two.b_is)

-- ---- predicates of predicates

pub join : Trees → Trees → Trees
join pred.none later = later
join (pred.also one rules) later = pred.also one (join rules later)

pub join_first : (rules : Trees) → join pred.none rules ≡ rules
unfolding join
join_first rules = refl

pub join_none : (rules : Trees) → join rules pred.none ≡ rules
unfolding join
join_none pred.none = refl
join_none (pred.also one rules) = ap (pred.also one) (join_none rules)

pub join_rule : (front : Trees) (one : Tree) (later : Trees)
    → join (with_rule front one) later ≡ join front (pred.also one later)
unfolding join
join_rule pred.none one later = refl
join_rule (pred.also first front) one later = ap (pred.also first) (join_rule front one later)

rules_of : (env : Env) (f : FormTree) (forms : FormTrees)
    → rules_in env (also f forms) ≡ rule_at env f ∷ rules_in env forms
unfolding rule_at rules_in
rules_of env f forms = refl

no_rules : (env : Env) → rules_in env none ≡ []
unfolding rule_at rules_in
no_rules env = refl

all_first : (before : Trees) (one : Tree) (readings : Readings)
    → all_read before (Ok one ∷ readings) ≡ all_read (with_rule before one) readings
unfolding all_read
all_first before one readings = refl

all_last : (before : Trees) → all_read before [] ≡ Ok before
unfolding all_read
all_last before = refl

-- the readings of no forms, and of one form more
row_none : (env : Env) (forms : FormTrees) (before : Trees) → bare_trees forms ≡ no_trees
    → all_read before (rules_in env forms) ≡ Ok (join before pred.none)
row_none env forms before h =
    ap (λ (fs : FormTrees). all_read before (rules_in env fs)) (none_of forms h) ∙ ap (all_read before) (no_rules env)
    ∙ all_last before ∙ ap (λ (rules : Trees). Ok rules) (sym (join_none before))

row_more : (env : Env) (forms rest : FormTrees) (f : FormTree) (before later : Trees) (one : Tree) → forms ≡ also f rest
    → rule_at env f ≡ Ok one
    → all_read (with_rule before one) (rules_in env rest) ≡ Ok (join (with_rule before one) later)
    → all_read before (rules_in env forms) ≡ Ok (join before (pred.also one later))
row_more env forms rest f before later one are is more =
    ap (λ (fs : FormTrees). all_read before (rules_in env fs)) are ∙ ap (all_read before) (rules_of env f rest)
    ∙ ap (λ (first : Result Tree Fault). all_read before (first ∷ rules_in env rest)) is
    ∙ all_first before one (rules_in env rest) ∙ more ∙ ap (λ (rules : Trees). Ok rules) (join_rule before one later)

pub all_joined : (start : ℕ) (one : Tree) (rules : Trees)
    → joined All start (pred.also one rules) ≡ Ok (all_of one rules)
all_joined start one pred.none = refl
all_joined start one (pred.also second rules) = refl

pub any_joined : (start : ℕ) (one : Tree) (rules : Trees)
    → joined Any start (pred.also one rules) ≡ Ok (any_of one rules)
any_joined start one pred.none = refl
any_joined start one (pred.also second rules) = refl

and_read : (env : Env) (start : ℕ) (forms : FormTrees) (one : Tree) (rules : Trees)
    → all_read pred.none (rules_in env forms) ≡ Ok (pred.also one rules)
    → word_rule env word.And start forms (rules_in env forms) ≡ Ok (all_of one rules)
unfolding word_rule
and_read env start forms one rules is = rw is (all_joined start one rules)

or_read : (env : Env) (start : ℕ) (forms : FormTrees) (one : Tree) (rules : Trees)
    → all_read pred.none (rules_in env forms) ≡ Ok (pred.also one rules)
    → word_rule env word.Or start forms (rules_in env forms) ≡ Ok (any_of one rules)
unfolding word_rule
or_read env start forms one rules is = rw is (any_joined start one rules)

not_one : (env : Env) (start : ℕ) (a : FormTree) (one : Tree) → rule_at env a ≡ Ok one
    → word_rule env word.Not start (also a none) (rule_at env a ∷ rules_in env none) ≡ Ok (Not one)
unfolding word_rule at_most
not_one env start a one is = rw is refl

not_equal : (env : Env) (start : ℕ) (forms : FormTrees) (one : Tree) → equal_rule env start forms ≡ Ok one
    → word_rule env word.NotEqual start forms (rules_in env forms) ≡ Ok (Not one)
unfolding word_rule
not_equal env start forms one is = rw is refl

equal_word : (env : Env) (start : ℕ) (forms : FormTrees)
    → word_rule env word.Equal start forms (rules_in env forms) ≡ equal_rule env start forms
unfolding word_rule
equal_word env start forms = refl

order_rules : (env : Env) (order : Ordering) (start : ℕ) (forms : FormTrees)
    → word_rule env (word.Order order) start forms (rules_in env forms) ≡ order_rule order env start forms
unfolding word_rule
order_rules env order start forms = refl

like_word : (env : Env) (start : ℕ) (forms : FormTrees)
    → word_rule env word.Like start forms (rules_in env forms) ≡ like_rule env start forms
unfolding word_rule
like_word env start forms = refl

tagged_word : (env : Env) (start : ℕ) (forms : FormTrees)
    → word_rule env word.Tagged start forms (rules_in env forms) ≡ tagged_rule env start forms
unfolding word_rule
tagged_word env start forms = refl

symbol_true : (env : Env) (start last : ℕ) → rule_at env (Single (atom.Symbol (codes "true")) start last) ≡ Ok Always
unfolding rule_at
symbol_true env start last = refl

symbol_false : (env : Env) (start last : ℕ) → rule_at env (Single (atom.Symbol (codes "false")) start last) ≡ Ok Never
unfolding rule_at
symbol_false env start last = refl

symbol_nil : (env : Env) (start last : ℕ) → rule_at env (Single (atom.Symbol (codes "nil")) start last) ≡ Ok Never
unfolding rule_at
symbol_nil env start last = refl

mutual
  unfolding join

  pub predicate_read : (env : Env) (form : BareTree) (tree : Tree) → IsPredicate env form tree → (f : FormTree)
      → bare_tree f ≡ form → rule_at env f ≡ Ok tree
  predicate_read env _ _ always f h =
      let one = single_of f (atom.Symbol (codes "true")) h in
      ap (rule_at env) one.is ∙ symbol_true env one.start one.last
  predicate_read env _ _ never f h =
      let one = single_of f (atom.Symbol (codes "false")) h in
      ap (rule_at env) one.is ∙ symbol_false env one.start one.last
  predicate_read env _ _ never_nil f h =
      let one = single_of f (atom.Symbol (codes "nil")) h in ap (rule_at env) one.is ∙ symbol_nil env one.start one.last
  predicate_read env _ _ (all_parts {part = part} {parts = parts} {rule = one} {rules = rules} first others) f h =
      let call = worded_rule env f word.And (and_trees part parts) h in
      let row = also_of call.forms part parts call.forms_are in
      call.read ∙ and_read env call.start call.forms one rules
      (row_more env call.forms row.rest row.first pred.none rules one row.are
      (predicate_read env part one first row.first row.first_is)
      (predicates_read env parts rules others row.rest (pred.also one pred.none) row.rest_are))
  predicate_read env _ _ (any_part {part = part} {parts = parts} {rule = one} {rules = rules} first others) f h =
      let call = worded_rule env f word.Or (and_trees part parts) h in
      let row = also_of call.forms part parts call.forms_are in
      call.read ∙ or_read env call.start call.forms one rules
      (row_more env call.forms row.rest row.first pred.none rules one row.are
      (predicate_read env part one first row.first row.first_is)
      (predicates_read env parts rules others row.rest (pred.also one pred.none) row.rest_are))
  predicate_read env _ _ (negated {part = part} {rule = one} is) f h =
      let call = worded_rule env f word.Not (listed (part ∷ [])) h in
      let arg = one_of call.forms part call.forms_are in
      call.read ∙ ap (λ (forms : FormTrees). word_rule env word.Not call.start forms (rules_in env forms)) arg.are
      ∙ ap (word_rule env word.Not call.start (also arg.a none)) (rules_of env arg.a none)
      ∙ not_one env call.start arg.a one (predicate_read env part one is arg.a arg.a_is)
  predicate_read env _ _ (tagged {x = x} {tag = tag} is) f h =
      let call = worded_rule env f word.Tagged (listed (x ∷ [])) h in
      let arg = one_of call.forms x call.forms_are in
      call.read ∙ tagged_word env call.start call.forms ∙ ap (tagged_rule env call.start) arg.are
      ∙ tagged_one env call.start arg.a tag
      (text_read env arg.a tag (literal_read env x (bound.Text tag) is arg.a arg.a_is))
  predicate_read env _ _ (equal {g = g} {v = v} {field = one} {held = held} tests is) f h =
      let call = worded_rule env f word.Equal (listed (g ∷ v ∷ [])) h in
      call.read ∙ equal_word env call.start call.forms
      ∙ equal_args env call.start call.forms g v one held tests is call.forms_are
  predicate_read env _ _ (unequal {g = g} {v = v} {field = one} {held = held} tests is) f h =
      let call = worded_rule env f word.NotEqual (listed (g ∷ v ∷ [])) h in
      call.read
      ∙ not_equal env call.start call.forms (Equal one held)
      (equal_args env call.start call.forms g v one held tests is call.forms_are)
  predicate_read env _ _ (compared {g = g} {k = k} {field = one} {order = order} {number = number} tests is) f h =
      let args = listed (g ∷ k ∷ []) in
      let call =
      worded_rule env f (word.Order order) args (h ∙ ap (λ (name : List ℕ). worded name args) (order_text order)) in
      let two = two_of call.forms g k call.forms_are in
      call.read ∙ order_rules env order call.start call.forms ∙ ap (order_rule order env call.start) two.are
      ∙ order_two env order call.start two.a two.b one number (tested_read g one tests two.a two.a_is)
      (number_read env two.b number (literal_read env k (bound.Number number) is two.b two.b_is))
  predicate_read env _ _ (like {g = g} {w = w} {field = one} {pattern = pattern} tests is) f h =
      let call = worded_rule env f word.Like (listed (g ∷ w ∷ [])) h in
      let two = two_of call.forms g w call.forms_are in
      call.read ∙ like_word env call.start call.forms ∙ ap (like_rule env call.start) two.are
      ∙ like_two env call.start two.a two.b one pattern (tested_read g one tests two.a two.a_is)
      (text_read env two.b pattern (literal_read env w (bound.Text pattern) is two.b two.b_is))
  predicate_read env _ _ (holds {g = g} {v = v} {field = one} {held = held} tests is) f h =
      let call = tested_rule env f g v one tests h in
      call.read ∙ field_one env one call.start call.a (Equal one held) (sought_value env v held is one call.a call.a_is)
  predicate_read env _ _ (found {g = g} {p = p} {field = one} {pattern = pattern} tests is) f h =
      let call = tested_rule env f g p one tests h in
      call.read
      ∙ field_one env one call.start call.a (Search one pattern)
      (ap (sought env one call.a) (literal_read env p (bound.Pattern pattern) is call.a call.a_is))

  predicates_read : (env : Env) (row : BareTrees) (rules : Trees) → ArePredicates env row rules
      → (forms : FormTrees) (before : Trees) → bare_trees forms ≡ row
      → all_read before (rules_in env forms) ≡ Ok (join before rules)
  predicates_read env _ _ no_parts forms before h = row_none env forms before h
  predicates_read env _ _ (more_parts {part = part} {parts = parts} {rule = one} {rules = rules} first others) forms
      before h =
      let row = also_of forms part parts h in
      row_more env forms row.rest row.first before rules one row.are
      (predicate_read env part one first row.first row.first_is)
      (predicates_read env parts rules others row.rest (with_rule before one) row.rest_are)
