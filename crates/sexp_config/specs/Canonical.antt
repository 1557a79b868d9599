-- The canonical text of a configuration.
use Rattle.std.specs.Prelude.{ℕ, ℤ, pos, List, [], ◌∷◌, ◌++◌, map, Option, Some, None}
use Rattle.ev_types.specs.declared.field.Field.{Field}
use Rattle.ev_types.specs.declared.field.Field.TheVariants.{Attribute}
use Rattle.ev_types.specs.declared.settings.Expiry.{Expiry}
use Rattle.ev_types.specs.declared.settings.KeepKey.{KeepKey}
use Rattle.ev_types.specs.declared.settings.KeepKey.TheVariants as keep
use Rattle.ev_types.specs.declared.settings.Set.{Set}
use Rattle.ev_types.specs.declared.value.Value.{Value}
use Rattle.ev_types.specs.declared.value.Value.TheVariants as value
use Rattle.pred_eval.specs.Tree.{Tree, Trees, Always, Never, Not, All, Any, Tagged, Equal, Order, Wild, Search}
use Rattle.pred_eval.specs.Tree as pred
use Rattle.sexp_read.specs.declared.piece.Atom.TheVariants as atom
use Rattle.sexp_read.specs.declared.piece.Bracket.TheVariants.{Round, Square, Curly}
use Rattle.sexp_read.specs.declared.form.Form.{Form}
use Rattle.sexp_read.specs.Tree.{form_tree}
use Rattle.sexp_read.specs.Written.{BareTree, Leaf, Branch, bare_tree, listed, lines_text}
use Rattle.stream_plan.specs.Tree.{KindTree, StreamTree, stream, StreamTrees}
use Rattle.stream_plan.specs.Tree as plan
use Rattle.sexp_config.specs.declared.config.Config.{Config}
use Rattle.config_terms.specs.declared.word.RuleWord.TheVariants as rule
use Rattle.config_terms.specs.declared.word.StreamWord.TheVariants as word
use Rattle.config_terms.specs.declared.word.TopWord.TheVariants as top
use Rattle.ev_types.specs.Names.{field_name}
use Rattle.config_terms.specs.Words.{top_text, stream_text, rule_text, true_text, false_text, nil_text, tags_text}
use Rattle.config_terms.specs.Words.{else_text, fold_text, init_text, idle_text, keep_text, host_text, port_text}

-- ---- forms

-- apart from their places
abbrev pub bare_form : Form → BareTree
bare_form form = bare_tree (form_tree form)

abbrev pub bare_forms : List Form → List BareTree
bare_forms = map bare_form

abbrev pub symbol_form : List ℕ → BareTree
symbol_form name = Leaf (atom.Symbol name)

abbrev pub keyword_form : List ℕ → BareTree
keyword_form name = Leaf (atom.Keyword name)

abbrev pub text_form : List ℕ → BareTree
text_form text = Leaf (atom.Text text)

abbrev pub pattern_form : List ℕ → BareTree
pattern_form text = Leaf (atom.Pattern text)

abbrev pub number_form : ℤ → BareTree
number_form number = Leaf (atom.Number number)

abbrev pub list_form : List BareTree → BareTree
list_form forms = Branch Round (listed forms)

abbrev pub vector_form : List BareTree → BareTree
vector_form forms = Branch Square (listed forms)

abbrev pub map_form : List BareTree → BareTree
map_form forms = Branch Curly (listed forms)

-- a list that begins with the word
abbrev pub worded_form : List ℕ → List BareTree → BareTree
worded_form name forms = list_form (symbol_form name ∷ forms)

abbrev pub value_form : Value → BareTree
value_form value.Nil = symbol_form nil_text
value_form (value.Number number) = number_form number
value_form (value.Text text) = text_form text

abbrev pub field_form : Field → BareTree
field_form field = keyword_form (field_name field)

-- ---- predicates

-- attributes are keywords, and the other fields are bare
abbrev pub rule_field_form : Field → BareTree
rule_field_form (Attribute key) = keyword_form key
rule_field_form field = symbol_form (field_name field)

abbrev mutual
  pub rule_form : Tree → BareTree
  rule_form Always = symbol_form true_text
  rule_form Never = symbol_form false_text
  rule_form (Not one) = worded_form (rule_text rule.Not) (rule_form one ∷ [])
  rule_form (All rules) = worded_form (rule_text rule.And) (rule_forms rules)
  rule_form (Any rules) = worded_form (rule_text rule.Or) (rule_forms rules)
  rule_form (Tagged tag) = worded_form (rule_text rule.Tagged) (text_form tag ∷ [])
  rule_form (Equal field value) = worded_form (rule_text rule.Equal) (rule_field_form field ∷ value_form value ∷ [])
  rule_form (Order field order number) =
      worded_form (rule_text (rule.Order order)) (rule_field_form field ∷ number_form number ∷ [])
  rule_form (Wild field pattern) = worded_form (rule_text rule.Like) (rule_field_form field ∷ text_form pattern ∷ [])
  rule_form (Search field pattern) = list_form (rule_field_form field ∷ pattern_form pattern ∷ [])

  pub rule_forms : Trees → List BareTree
  rule_forms pred.none = []
  rule_forms (pred.also one rules) = rule_form one ∷ rule_forms rules

-- ---- streams

-- fields and values alternately
abbrev pub set_forms : List Set → List BareTree
set_forms [] = []
set_forms (set ∷ sets) = field_form set.field ∷ value_form set.value ∷ set_forms sets

abbrev pub init_forms : Option Value → List BareTree
init_forms None = []
init_forms (Some init) = map_form (keyword_form init_text ∷ value_form init ∷ []) ∷ []

abbrev pub idle_forms : Option ℕ → List BareTree
idle_forms None = []
idle_forms (Some secs) = map_form (keyword_form idle_text ∷ number_form (pos secs) ∷ []) ∷ []

-- the word of a kind, and the arguments before the streams
abbrev pub kind_forms : KindTree → List BareTree
kind_forms plan.Index = symbol_form (stream_text word.Index) ∷ []
kind_forms (plan.Notice name) = symbol_form (stream_text word.Notice) ∷ text_form name ∷ []
kind_forms plan.Sdo = symbol_form (stream_text word.Sdo) ∷ []
kind_forms (plan.Where one) = symbol_form (stream_text word.Where) ∷ rule_form one ∷ []
kind_forms (plan.With sets) = symbol_form (stream_text word.With) ∷ map_form (set_forms sets) ∷ []
kind_forms (plan.Default sets) = symbol_form (stream_text word.Default) ∷ map_form (set_forms sets) ∷ []
kind_forms (plan.Tag tags) = symbol_form (stream_text word.Tag) ∷ vector_form (map text_form tags) ∷ []
kind_forms (plan.By fields idle) =
    symbol_form (stream_text word.By) ∷ vector_form (map field_form fields) ∷ idle_forms idle
kind_forms (plan.Changed field init) = symbol_form (stream_text word.Changed) ∷ field_form field ∷ init_forms init
kind_forms (plan.Runs count field) =
    symbol_form (stream_text word.Runs) ∷ number_form (pos count) ∷ field_form field ∷ []
kind_forms (plan.Throttle count secs) =
    symbol_form (stream_text word.Throttle) ∷ number_form (pos count) ∷ number_form (pos secs) ∷ []
kind_forms (plan.Rollup count secs) =
    symbol_form (stream_text word.Rollup) ∷ number_form (pos count) ∷ number_form (pos secs) ∷ []
kind_forms (plan.Batch count secs) =
    symbol_form (stream_text word.Batch) ∷ number_form (pos count) ∷ number_form (pos secs) ∷ []
kind_forms (plan.Stable secs field) =
    symbol_form (stream_text word.Stable) ∷ number_form (pos secs) ∷ field_form field ∷ []
kind_forms (plan.FixedEvent count) = symbol_form (stream_text word.FixedEvent) ∷ number_form (pos count) ∷ []
kind_forms (plan.MovingEvent count) = symbol_form (stream_text word.MovingEvent) ∷ number_form (pos count) ∷ []
kind_forms (plan.FixedTime secs) = symbol_form (stream_text word.FixedTime) ∷ number_form (pos secs) ∷ []
kind_forms (plan.MovingTime secs) = symbol_form (stream_text word.MovingTime) ∷ number_form (pos secs) ∷ []
kind_forms (plan.Coalesce secs) = symbol_form (stream_text word.Coalesce) ∷ number_form (pos secs) ∷ []
kind_forms (plan.Smap fold) = symbol_form (stream_text word.Smap) ∷ symbol_form (fold_text fold) ∷ []

-- the streams that get the rest, where there are some
abbrev pub else_forms : List BareTree → List BareTree
else_forms [] = []
else_forms (form ∷ forms) = worded_form else_text (form ∷ forms) ∷ []

-- the index is its word, any other stream a list
abbrev pub kind_form : KindTree → List BareTree → BareTree
kind_form plan.Index forms = symbol_form (stream_text word.Index)
kind_form kind forms = list_form (kind_forms kind ++ forms)

abbrev mutual
  pub stream_form : StreamTree → BareTree
  stream_form (stream kind children otherwise) =
      kind_form kind (stream_forms children ++ else_forms (stream_forms otherwise))

  pub stream_forms : StreamTrees → List BareTree
  stream_forms plan.none = []
  stream_forms (plan.also one streams) = stream_form one ∷ stream_forms streams

-- ---- configurations

abbrev pub keep_form : KeepKey → BareTree
keep_form (keep.Field field) = field_form field
keep_form keep.Tags = keyword_form tags_text

abbrev pub server_form : List ℕ → ℕ → BareTree
server_form host port =
    worded_form (top_text top.TcpServer)
    (map_form (keyword_form host_text ∷ text_form host ∷ keyword_form port_text ∷ number_form (pos port) ∷ []) ∷ [])

abbrev pub expiry_form : Expiry → BareTree
expiry_form expiry =
    worded_form (top_text top.PeriodicallyExpire)
    (number_form (pos expiry.interval)
    ∷ map_form (keyword_form keep_text ∷ vector_form (map keep_form expiry.keep) ∷ []) ∷ [])

abbrev pub expiry_forms : Option Expiry → List BareTree
expiry_forms None = []
expiry_forms (Some expiry) = expiry_form expiry ∷ []

abbrev pub streams_form : StreamTrees → BareTree
streams_form streams = worded_form (top_text top.Streams) (stream_forms streams)

-- a line for the server, one for the expiry where it is set, and one for the streams
abbrev pub config_forms : Config → List BareTree
config_forms config =
    server_form config.host config.port ∷ (expiry_forms config.expiry ++ streams_form config.plan ∷ [])

unfoldable pub canonical_text : Config → List ℕ
canonical_text config = lines_text (listed (config_forms config))
