-- How a rule is written as a query.
use Rattle.std.specs.Prelude.{ℕ, Bool, true, false, List, [], ◌++◌, codes}
use Rattle.std.specs.Fmt.{signed_decimal}
use Rattle.ev_types.specs.Names.{field_name}
use Rattle.ev_types.specs.declared.value.Value.{Value}
use Rattle.ev_types.specs.declared.value.Value.TheVariants.{Nil, Number, Text}
use Rattle.string_literals.specs.Literals.{string_literal}
use Rattle.pred_eval.specs.declared.rule.Ordering.{Ordering}
use Rattle.pred_eval.specs.declared.rule.Ordering.TheVariants.{Less, LessEqual, Greater, GreaterEqual}
use Rattle.pred_eval.specs.Tree.{Tree, Trees, Always, Never, Not, All, Any, Tagged, Equal, Order, Wild, Search, none}
use Rattle.pred_eval.specs.Tree.{also}
use Rattle.query_lang.specs.declared.write.Under.{Under}
use Rattle.query_lang.specs.declared.write.Under.TheVariants as under

abbrev pub value_spelling : Value → List ℕ
value_spelling Nil = codes "nil"
value_spelling (Number number) = signed_decimal number
value_spelling (Text text) = string_literal text

abbrev pub order_symbol : Ordering → List ℕ
order_symbol Less = codes " < "
order_symbol LessEqual = codes " <= "
order_symbol Greater = codes " > "
order_symbol GreaterEqual = codes " >= "

-- whether Any and All are in parentheses there
abbrev pub groups_any : Under → Bool
groups_any under.Query = false
groups_any under.Any = true
groups_any under.All = true
groups_any under.Not = true

abbrev pub groups_all : Under → Bool
groups_all under.Query = false
groups_all under.Any = false
groups_all under.All = true
groups_all under.Not = true

abbrev pub grouped : Bool → List ℕ → List ℕ
grouped true text = codes "( " ++ text ++ codes " )"
grouped false text = text

abbrev mutual
  -- a rule as it is written under another
  pub spelling_under : Under → Tree → List ℕ
  spelling_under place Always = codes "true"
  spelling_under place Never = codes "false"
  spelling_under place (Not tree) = codes "not " ++ spelling_under under.Not tree
  spelling_under place (All trees) = grouped (groups_all place) (joined_spelling (codes " and ") under.All trees)
  spelling_under place (Any trees) = grouped (groups_any place) (joined_spelling (codes " or ") under.Any trees)
  spelling_under place (Tagged tag) = codes "tagged " ++ string_literal tag
  spelling_under place (Equal field value) = field_name field ++ (codes " = " ++ value_spelling value)
  spelling_under place (Order field order number) = field_name field ++ (order_symbol order ++ signed_decimal number)
  spelling_under place (Wild field pattern) = field_name field ++ (codes " =~ " ++ string_literal pattern)
  spelling_under place (Search field pattern) = field_name field ++ (codes " ~= " ++ string_literal pattern)

  -- rules with the word between them
  pub joined_spelling : List ℕ → Under → Trees → List ℕ
  joined_spelling word place none = []
  joined_spelling word place (also tree trees) = spelling_under place tree ++ more_spelling word place trees

  pub more_spelling : List ℕ → Under → Trees → List ℕ
  more_spelling word place none = []
  more_spelling word place (also tree trees) = word ++ spelling_under place tree ++ more_spelling word place trees

abbrev pub spelling : Tree → List ℕ
spelling tree = spelling_under under.Query tree
