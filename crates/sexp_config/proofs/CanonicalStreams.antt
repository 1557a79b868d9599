-- The canonical form of a stream that a form represents represents it too, and can be written.
use Rattle.std.proofs.Common.{◌≡◌, ℕ, pos, Bool, true, false, ◌||◌, codes, List, [], ◌∷◌, ◌++◌, map, refl, ap, sym, ◌∙◌}
use Rattle.std.proofs.Common.{subst, arith}
use Rattle.std.proofs.lemmas.List.{append-nil}
use Rattle.ev_types.specs.declared.field.Field.TheVariants as field
use Rattle.ev_types.specs.declared.settings.Fold.{Fold}
use Rattle.ev_types.specs.declared.settings.Fold.TheVariants as fold
use Rattle.ev_types.specs.declared.value.Value.{Value}
use Rattle.ev_types.specs.declared.value.Value.TheVariants as value
use Rattle.pred_eval.specs.declared.rule.Ordering.TheVariants.{Less, Greater}
use Rattle.pred_eval.specs.Tree.{Tree, Tagged}
use Rattle.sexp_read.proofs.Ascii.{symbol_is_utf8}
use Rattle.sexp_read.specs.Bytes.{is_symbol}
use Rattle.sexp_read.specs.Written.{BareTree, BareTrees, no_trees, and_trees, listed, IsWritableTree, AreWritable}
use Rattle.stream_plan.specs.declared.kinds.TheConstants.{MAX_COUNT, MAX_SECS}
use Rattle.stream_plan.specs.Tree.{KindTree, StreamTree, stream, StreamTrees, none, also}
use Rattle.stream_plan.specs.Tree as plan
use Rattle.config_terms.specs.declared.binding.Bound.TheVariants as bound
use Rattle.config_terms.specs.Arguments.{Env}
use Rattle.config_terms.specs.Grammar.{worded, a_text, a_number, a_keyword, text_value, IsValue, tagged as tagged_with}
use Rattle.config_terms.specs.Grammar.{no_parts, more_parts}
use Rattle.config_terms.specs.Terms.{IsRanged, a_ranged, a_set, no_sets, more_sets, text_vector, IsInit, only}
use Rattle.config_terms.specs.Terms.{IsIdle}
use Rattle.stream_plan.specs.Kinds.{is_by as stream_is_by}
use Rattle.config_terms.specs.declared.word.StreamWord.{StreamWord}
use Rattle.ev_types.specs.declared.field.Field.{Field}
use Rattle.ev_types.specs.declared.settings.Set.{Set}
use Rattle.stream_plan.specs.Kinds.{may_have_children}
use Rattle.config_terms.specs.Terms.{IsSet}
use Rattle.config_streams.specs.Sorts.{Sort, ValueOf, IsA, some_texts, a_map}
use Rattle.config_streams.specs.Sorts as sort
use Rattle.config_streams.specs.Table.{row_of, AMap, bare_ahead, tag_rules, all_tagged, Matches, made, taken, there}
use Rattle.config_streams.specs.Table.{absent, expired_rule}
use Rattle.config_streams.specs.Streams.{is_by}
use Rattle.config_streams.specs.Grammar.{and_then, else_row, IsStream, index_word, index_name, ending, passing}
use Rattle.config_streams.specs.Grammar.{where_else, AreStreams, no_streams, more_streams, with_streams}
use Rattle.config_streams.proofs.YieldLaws.{Yields, yielded}
use Rattle.sexp_config.specs.Canonical.{map_form, vector_form, field_form, set_forms}
use Rattle.sexp_config.specs.Canonical.{symbol_form, keyword_form, text_form, number_form, value_form}
use Rattle.sexp_config.specs.Canonical.{rule_form, kind_form, else_forms, stream_form, stream_forms}
use Rattle.config_terms.specs.Words.{stream_text, fold_text, init_text, idle_text}
use Rattle.config_terms.specs.declared.word.StreamWord.TheVariants as word
use Rattle.sexp_config.proofs.StreamsBuilt.{row_forks}
use Rattle.sexp_config.proofs.CanonicalTerms.{GoodEnv, literal_good, field_written, value_written, RuleWritten}
use Rattle.sexp_config.proofs.CanonicalTerms.{RulesWritten, all_written, order_written, equal_written, state_tested}
use Rattle.sexp_config.proofs.CanonicalTerms.{metric_tested, rule_written, texts_written, fields_written, sets_written}

-- ---- arguments

pub number_written : (least most : ℕ) (env : Env) → GoodEnv env → (form : BareTree) (n : ℕ)
    → IsRanged least most env form n → IsWritableTree form
    → IsRanged least most [] (number_form (pos n)) n × IsWritableTree (number_form (pos n))
number_written least most env e form n (a_ranged is low high) w =
    (a_ranged a_number low high, literal_good env e form (bound.Number (pos n)) is w)

init_written : (env : Env) → GoodEnv env → (row : BareTrees) (held : Value) → IsInit env row held → AreWritable row
    → IsInit [] (listed (keyword_form init_text ∷ value_form held ∷ [])) held
    × AreWritable (listed (keyword_form init_text ∷ value_form held ∷ []))
init_written env e _ _ (only {v = v} {a = held} key is) w =
    let held_is = value_written env e v held is w.1.0 in (only a_keyword held_is.0, (refl, (held_is.1, tt)))

idle_written : (most : ℕ) (env : Env) → GoodEnv env → (row : BareTrees) (secs : ℕ) → IsIdle most env row secs
    → AreWritable row
    → IsIdle most [] (listed (keyword_form idle_text ∷ number_form (pos secs) ∷ [])) secs
    × AreWritable (listed (keyword_form idle_text ∷ number_form (pos secs) ∷ []))
idle_written most env e _ _ (only {v = n} {a = secs} key is) w =
    let n_is = number_written 1 most env e n secs is w.1.0 in (only a_keyword n_is.0, (refl, (n_is.1, tt)))

fold_written : (one : Fold) → IsWritableTree (symbol_form (fold_text one))
fold_written fold.Sum = refl
fold_written one = refl

tags_written : (tags : List (List ℕ)) → AreWritable (listed (map text_form tags)) → RulesWritten (tag_rules tags)
tags_written [] w = (no_parts, tt)
tags_written (tag ∷ tags) w =
    let more = tags_written tags w.1 in (more_parts (tagged_with a_text) more.0, ((refl, (w.0, tt)), more.1))

all_tags_written : (tag : List ℕ) (tags : List (List ℕ)) → AreWritable (listed (map text_form (tag ∷ tags)))
    → RuleWritten (all_tagged (tag ∷ tags))
all_tags_written tag [] w = (tagged_with a_text, (refl, (w.0, tt)))
all_tags_written tag (second ∷ tags) w =
    all_written (Tagged tag) (tag_rules (second ∷ tags)) (tagged_with a_text, (refl, (w.0, tt)))
    (tags_written (second ∷ tags) w.1)

-- ---- the canonical form of a value of a sort

abbrev form_of : (sort : Sort) → ValueOf sort → BareTree
form_of sort.Count count = number_form (pos count)
form_of sort.Secs secs = number_form (pos secs)
form_of sort.Number number = number_form number
form_of sort.Text text = text_form text
form_of sort.Texts texts = vector_form (map text_form texts)
form_of sort.SomeTexts texts = vector_form (map text_form texts)
form_of sort.OneField field = field_form field
form_of sort.Fields fields = vector_form (map field_form fields)
form_of sort.Rule rule = rule_form rule
form_of (sort.SetTo field) set = value_form set.value
form_of sort.Sets sets = map_form (set_forms sets)
form_of sort.Init held = map_form (keyword_form init_text ∷ value_form held ∷ [])
form_of (sort.Idle most) secs = map_form (keyword_form idle_text ∷ number_form (pos secs) ∷ [])
form_of sort.FoldWord fold = symbol_form (fold_text fold)

-- it is read as the value, and can be written
abbrev Good : (sort : Sort) → ValueOf sort → Type 0
Good sort value = IsA sort [] (form_of sort value) value × IsWritableTree (form_of sort value)

good : (env : Env) → GoodEnv env → (sort : Sort) (x : BareTree) (value : ValueOf sort) → IsA sort env x value
    → IsWritableTree x → Good sort value
good env e sort.Count x value is w = number_written 1 MAX_COUNT env e x value is w
good env e sort.Secs x value is w = number_written 1 MAX_SECS env e x value is w
good env e sort.Number x value is w = (a_number, literal_good env e x (bound.Number value) is w)
good env e sort.Text x value is w = (a_text, literal_good env e x (bound.Text value) is w)
good env e sort.Texts x value is w = let all = texts_written env e x value is w in (text_vector all.0, all.1)
good env e sort.SomeTexts x _ (some_texts {text = text} {texts = texts} are) w =
    let all = texts_written env e x (text ∷ texts) are w in (some_texts (text_vector all.0), all.1)
good env e sort.OneField x value is w = field_written env e x value is w
good env e sort.Fields x value is w = fields_written env e x value is w
good env e sort.Rule x value is w = rule_written env e x value is w
good env e (sort.SetTo field) x _ (a_set {held = held} is fitting) w =
    let held_is = value_written env e x held is w in (a_set held_is.0 fitting, held_is.1)
good env e sort.Sets _ value (a_map {entries = entries} are) w =
    let all = sets_written env e entries value are w in (a_map all.0, all.1)
good env e sort.Init _ value (a_map {entries = entries} is) w =
    let init = init_written env e entries value is w in (a_map init.0, init.1)
good env e (sort.Idle most) _ value (a_map {entries = entries} is) w =
    let idle = idle_written most env e entries value is w in (a_map idle.0, idle.1)
good env e sort.FoldWord x value is w = (refl, fold_written value)

one_set_good : (field : Field) (set : Set) → Good sort.OneField field → Good (sort.SetTo field) set
    → Good sort.Sets (set ∷ [])
one_set_good field set named fitting = one_set field (value_form set.value) set named fitting.0 fitting.1 refl
  where
    one_set : (field : Field) (x : BareTree) (set : Set) → Good sort.OneField field → IsSet [] field x set
        → IsWritableTree x → x ≡ value_form set.value → Good sort.Sets (set ∷ [])
    one_set field x _ named (a_set {held = held} is fits) w same = (
      a_map (more_sets named.0 (a_set (subst (λ (t : BareTree). IsValue [] t held) same is) fits) no_sets tt),
      (named.1, (subst (λ (t : BareTree). IsWritableTree t) same w, tt)),
    )

-- ---- kinds

-- what follows is no map
abbrev IsPlain : BareTrees → Type 0
IsPlain rest = bare_ahead AMap [] rest ≡ false

-- the canonical form of a stream of the kind, whatever follows its arguments
record KindWritten (in_fork : Bool) (one : KindTree) : Type 0 where
  from : StreamWord
  own : BareTrees
  is : (rest : BareTrees) → IsPlain rest → Matches [] (row_of in_fork from) (and_then own rest) one rest
  form_is : (forms : List BareTree) → kind_form one forms ≡ worded (stream_text from) (and_then own (listed forms))
  writable : AreWritable own
  forks : is_by from ≡ stream_is_by one

written : {in_fork : Bool} {one : KindTree} → (from : StreamWord) → (args : List BareTree)
    → ((rest : BareTrees) → IsPlain rest → Matches [] (row_of in_fork from) (and_then (listed args) rest) one rest)
    → ((forms : List BareTree) → kind_form one forms ≡ worded (stream_text from)
    (and_then (listed args) (listed forms)))
    → AreWritable (listed args) → is_by from ≡ stream_is_by one → KindWritten in_fork one
written {in_fork} {one} from args is form_is writable forks =
    record { from = from; own = listed args; is = is; form_is = form_is; writable = writable; forks = forks }

-- the index is a word by itself
abbrev Written : Bool → KindTree → Type 0
Written in_fork plan.Index = Unit {0}
Written in_fork one = KindWritten in_fork one

where_written : (in_fork : Bool) (one : Tree) → RuleWritten one → KindWritten in_fork (plan.Where one)
unfolding row_of
where_written in_fork one is =
    written word.Where (rule_form one ∷ []) (λ rest _. taken one is.0 made) (λ forms. refl) (is.1, tt) refl

sets_with : (in_fork : Bool) (sets : List Set) → Good sort.Sets sets → KindWritten in_fork (plan.With sets)
unfolding row_of
sets_with in_fork sets is =
    written word.With (map_form (set_forms sets) ∷ []) (λ rest _. there refl (taken sets is.0 made)) (λ forms. refl)
    (is.1, tt) refl

sets_default : (in_fork : Bool) (sets : List Set) → Good sort.Sets sets → KindWritten in_fork (plan.Default sets)
unfolding row_of
sets_default in_fork sets is =
    written word.Default (map_form (set_forms sets) ∷ []) (λ rest _. there refl (taken sets is.0 made))
    (λ forms. refl) (is.1, tt) refl

coalesce_with : (in_fork : Bool) (secs : ℕ) → Good sort.Secs secs → KindWritten in_fork (plan.Coalesce secs)
unfolding row_of
coalesce_with in_fork secs is =
    written word.Coalesce (number_form (pos secs) ∷ []) (λ rest _. there refl (taken secs is.0 made)) (λ forms. refl)
    (is.1, tt) refl

tagged_with_some : (in_fork : Bool) (tags : List (List ℕ)) → Good sort.SomeTexts tags
    → KindWritten in_fork (plan.Where (all_tagged tags))
tagged_with_some in_fork tags is = some in_fork (vector_form (map text_form tags)) tags is.0 is.1
  where
    some : (in_fork : Bool) (x : BareTree) (tags : List (List ℕ)) → IsA sort.SomeTexts [] x tags
        → AreWritable (listed (map text_form tags)) → KindWritten in_fork (plan.Where (all_tagged tags))
    some in_fork x _ (some_texts {text = text} {texts = texts} are) w =
        where_written in_fork (all_tagged (text ∷ texts)) (all_tags_written text texts w)

rows_written : (in_fork : Bool) (from : StreamWord) → Yields Good (Written in_fork) (row_of in_fork from)
unfolding row_of
rows_written in_fork word.Index = tt
rows_written in_fork word.Notice = λ name is.
    written word.Notice (text_form name ∷ []) (λ rest _. taken name is.0 made) (λ forms. refl) (is.1, tt) refl
rows_written in_fork word.Sdo = written word.Sdo ([]) (λ rest _. made) (λ forms. refl) tt refl
rows_written in_fork word.Where = λ rule is. where_written in_fork rule is
rows_written in_fork word.With = (
  λ sets is. sets_with in_fork sets is,
  λ field is set fits. sets_with in_fork (set ∷ [])
      (one_set_good field set is fits),
)
rows_written in_fork word.Default = (
  λ sets is. sets_default in_fork sets is,
  λ field is set fits. sets_default in_fork (set ∷ [])
      (one_set_good field set is fits),
)
rows_written in_fork word.Tag = λ tags is.
    written word.Tag (vector_form (map text_form tags) ∷ []) (λ rest _. taken tags is.0 made) (λ forms. refl)
    (is.1, tt) refl
rows_written in_fork word.By = λ fields is. (
  λ secs lasts. written word.By (vector_form (map field_form fields) ∷ form_of (sort.Idle 0) secs ∷ [])
      (λ rest _. taken fields is.0 (there refl (taken secs lasts.0 made)))
      (λ forms. refl) (is.1, (lasts.1, tt)) refl,
  written word.By (vector_form (map field_form fields) ∷ []) (λ rest plain. taken fields is.0 (absent plain made))
      (λ forms. refl) (is.1, tt) refl,
)
rows_written in_fork word.Changed = λ field is. (
  λ held starts. written word.Changed (field_form field ∷ form_of sort.Init held ∷ [])
      (λ rest _. taken field is.0 (there refl (taken held starts.0 made)))
      (λ forms. refl) (is.1, (starts.1, tt)) refl,
  written word.Changed (field_form field ∷ []) (λ rest plain. taken field is.0 (absent plain made)) (λ forms. refl)
      (is.1, tt) refl,
)
rows_written in_fork word.Runs = λ count is field means.
    written word.Runs (number_form (pos count) ∷ field_form field ∷ [])
    (λ rest _. taken count is.0 (taken field means.0 made)) (λ forms. refl) (is.1, (means.1, tt)) refl
rows_written in_fork word.Throttle = λ count is secs are.
    written word.Throttle (number_form (pos count) ∷ number_form (pos secs) ∷ [])
    (λ rest _. taken count is.0 (taken secs are.0 made)) (λ forms. refl) (is.1, (are.1, tt)) refl
rows_written in_fork word.Rollup = λ count is secs are.
    written word.Rollup (number_form (pos count) ∷ number_form (pos secs) ∷ [])
    (λ rest _. taken count is.0 (taken secs are.0 made)) (λ forms. refl) (is.1, (are.1, tt)) refl
rows_written in_fork word.Batch = λ count is secs are.
    written word.Batch (number_form (pos count) ∷ number_form (pos secs) ∷ [])
    (λ rest _. taken count is.0 (taken secs are.0 made)) (λ forms. refl) (is.1, (are.1, tt)) refl
rows_written in_fork word.Stable = λ secs are field means.
    written word.Stable (number_form (pos secs) ∷ field_form field ∷ [])
    (λ rest _. taken secs are.0 (taken field means.0 made)) (λ forms. refl) (are.1, (means.1, tt)) refl
rows_written in_fork word.Coalesce = (
  λ secs are. coalesce_with in_fork secs are,
  coalesce_with in_fork 1 (a_ranged a_number (omega arith) (omega arith), omega arith),
)
rows_written in_fork word.Smap = λ fold is.
    written word.Smap (symbol_form (fold_text fold) ∷ []) (λ rest _. taken fold is.0 made) (λ forms. refl)
    (is.1, tt) refl
rows_written in_fork word.FixedEvent = λ count is.
    written word.FixedEvent (number_form (pos count) ∷ []) (λ rest _. taken count is.0 made) (λ forms. refl)
    (is.1, tt) refl
rows_written in_fork word.MovingEvent = λ count is.
    written word.MovingEvent (number_form (pos count) ∷ []) (λ rest _. taken count is.0 made) (λ forms. refl)
    (is.1, tt) refl
rows_written in_fork word.FixedTime = λ secs are.
    written word.FixedTime (number_form (pos secs) ∷ []) (λ rest _. taken secs are.0 made) (λ forms. refl)
    (are.1, tt) refl
rows_written in_fork word.MovingTime = λ secs are.
    written word.MovingTime (number_form (pos secs) ∷ []) (λ rest _. taken secs are.0 made) (λ forms. refl)
    (are.1, tt) refl
rows_written in_fork word.Expired =
    where_written in_fork expired_rule
    (equal_written field.State (value.Text (codes "expired")) state_tested
    (text_value a_text, symbol_is_utf8 (codes "expired") refl))
rows_written in_fork word.Tagged = λ tags is. tagged_with_some in_fork tags is
rows_written in_fork word.Over = λ number is.
    where_written in_fork _ (order_written Greater field.Metric number metric_tested is.1)
rows_written in_fork word.Under = λ number is.
    where_written in_fork _ (order_written Less field.Metric number metric_tested is.1)

row_written_as : (in_fork : Bool) (env : Env) → GoodEnv env → (from : StreamWord) (row : BareTrees) (one : KindTree)
    (rest : BareTrees) → Matches env (row_of in_fork from) row one rest → AreWritable row
    → Written in_fork one × AreWritable rest
row_written_as in_fork env e from row one rest matched w =
    yielded env AreWritable Good (Written in_fork)
    (λ sort x forms value is kept. (good env e sort x value is kept.0, kept.1)) (row_of in_fork from) row one rest
    matched w (rows_written in_fork from)

-- a `where` and its rule
record Divides (one : KindTree) : Type 0 where
  rule : Tree
  one_is : one ≡ plan.Where rule
  is : RuleWritten rule

where_divides : (in_fork : Bool) → Yields Good Divides (row_of in_fork word.Where)
unfolding row_of
where_divides in_fork = λ rule is. record { rule = rule; one_is = refl; is = is }

word_named : (from : StreamWord) → is_symbol (stream_text from) ≡ true
word_named word.Index = refl
word_named from = refl

then_none : (row : BareTrees) → and_then row no_trees ≡ row
then_none no_trees = refl
then_none (and_trees form row) = ap (and_trees form) (then_none row)

-- ---- streams

abbrev StreamWritten : Bool → StreamTree → Type 0
StreamWritten in_fork one = IsStream in_fork [] (stream_form one) one × IsWritableTree (stream_form one)

-- each of them
abbrev pub AllWritten : Bool → StreamTrees → Type 0
AllWritten in_fork none = Unit {0}
AllWritten in_fork (also one streams) = StreamWritten in_fork one × AllWritten in_fork streams

pub row_written : (in_fork : Bool) (streams : StreamTrees) → AllWritten in_fork streams
    → AreStreams in_fork [] (listed (stream_forms streams)) streams × AreWritable (listed (stream_forms streams))
row_written in_fork none all = (no_streams, tt)
row_written in_fork (also one streams) all =
    let more = row_written in_fork streams all.1 in (more_streams all.0.0 more.0, (all.0.1, more.1))

pub joined_written : (in_fork : Bool) (streams others : StreamTrees) → AllWritten in_fork streams
    → AllWritten in_fork others → AllWritten in_fork (with_streams streams others)
joined_written in_fork none others all more = more
joined_written in_fork (also one streams) others all more =
    (all.0, joined_written in_fork streams others all.1 more)

rows_writable : (row others : BareTrees) → AreWritable row → AreWritable others → AreWritable (and_then row others)
rows_writable no_trees others first second = second
rows_writable (and_trees form row) others first second = (first.0, rows_writable row others first.1 second)

rows_split : (row others : BareTrees) → AreWritable (and_then row others) → AreWritable row × AreWritable others
rows_split no_trees others w = (tt, w)
rows_split (and_trees form row) others w = let rest = rows_split row others w.1 in ((w.0, rest.0), rest.1)

listed_then : (forms others : List BareTree) → listed (forms ++ others) ≡ and_then (listed forms) (listed others)
listed_then [] others = refl
listed_then (form ∷ forms) others = ap (and_trees form) (listed_then forms others)

-- what streams are written as is no map
kind_plain : (one : KindTree) (forms : List BareTree) (row : BareTrees) → IsPlain (and_trees (kind_form one forms) row)
kind_plain plan.Index forms row = refl
kind_plain one forms row = refl

streams_plain : (streams otherwise : StreamTrees)
    → IsPlain (listed (stream_forms streams ++ else_forms (stream_forms otherwise)))
streams_plain none none = refl
streams_plain none (also (stream one children others) streams) = refl
streams_plain (also (stream one children others) streams) otherwise =
    kind_plain one (stream_forms children ++ else_forms (stream_forms others)) _

kind_is_written : (in_fork : Bool) (one : KindTree) → may_have_children one ≡ true → Written in_fork one
    → KindWritten in_fork one
kind_is_written in_fork plan.Index passes is = absurd (never passes)
  where
    never : false ≡ true → ⊥
    never e = cc
kind_is_written in_fork plan.Sdo passes is = is
kind_is_written in_fork one passes is = is

passing_written : (in_fork : Bool) (one : KindTree) (children : StreamTrees) → may_have_children one ≡ true
    → KindWritten in_fork one → AllWritten (stream_is_by one || in_fork) children
    → StreamWritten in_fork (stream one children none)
passing_written in_fork one children passes known all =
    let row = row_written (stream_is_by one || in_fork) children all in
    let form_is : stream_form (stream one children none)
    ≡ worded (stream_text known.from) (and_then known.own (listed (stream_forms children))) =
    ap (kind_form one) (append-nil (stream_forms children)) ∙ known.form_is (stream_forms children) in
    let plain : IsPlain (listed (stream_forms children)) =
    ap (λ (forms : List BareTree). bare_ahead AMap [] (listed forms)) (sym (append-nil (stream_forms children)))
    ∙ streams_plain children none in (
      subst (λ (form : BareTree). IsStream in_fork [] form (stream one children none)) (sym form_is)
          (passing known.from (known.is (listed (stream_forms children)) plain) passes
          (subst (λ (b : Bool). AreStreams (b || in_fork) [] (listed (stream_forms children)) children)
          (sym known.forks) row.0)),
      subst (λ (form : BareTree). IsWritableTree form) (sym form_is) (
        word_named known.from,
        rows_writable known.own (listed (stream_forms children)) known.writable row.1,
      ),
    )

ending_written : (in_fork : Bool) (one : KindTree) → may_have_children one ≡ false → Written in_fork one
    → StreamWritten in_fork (stream one none none)
ending_written in_fork plan.Index ends is = (index_word refl, refl)
ending_written in_fork (plan.Notice name) ends known =
    let row_is : and_then known.own no_trees ≡ known.own = then_none known.own in
    let form_is : stream_form (stream (plan.Notice name) none none)
    ≡ worded (stream_text known.from) (and_then known.own no_trees) = known.form_is [] in (
      subst (λ (form : BareTree). IsStream in_fork [] form (stream (plan.Notice name) none none)) (sym form_is)
          (ending known.from (known.is no_trees refl) ends),
      subst (λ (form : BareTree). IsWritableTree form) (sym form_is)
          (word_named known.from, rows_writable known.own no_trees known.writable tt),
    )
ending_written in_fork one ends is = absurd (never ends)
  where
    never : true ≡ false → ⊥
    never e = cc

else_written : (in_fork : Bool) (one : Tree) (children otherwise : StreamTrees) → RuleWritten one
    → AllWritten in_fork children → AllWritten in_fork otherwise
    → StreamWritten in_fork (stream (plan.Where one) children otherwise)
unfolding row_of
else_written in_fork one children none is all others =
    passing_written in_fork (plan.Where one) children refl (where_written in_fork one is) all
else_written in_fork one children (also first streams) is all others =
    let row = row_written in_fork children all in
    let rest = row_written in_fork (also first streams) others in
    let last = else_row (listed (stream_forms (also first streams))) in
    let form_is : stream_form (stream (plan.Where one) children (also first streams))
    ≡ worded (codes "where") (and_trees (rule_form one) (and_then (listed (stream_forms children)) last)) =
    ap (λ (forms : BareTrees). worded (codes "where") (and_trees (rule_form one) forms))
    (listed_then (stream_forms children) (else_forms (stream_forms (also first streams)))) in (
      subst (λ (form : BareTree). IsStream in_fork [] form (stream (plan.Where one) children (also first streams)))
          (sym form_is) (where_else (taken one is.0 made) refl row.0 rest.0),
      subst (λ (form : BareTree). IsWritableTree form) (sym form_is)
          (refl, (is.1, rows_writable (listed (stream_forms children)) last row.1 ((refl, rest.1), tt))),
    )

mutual
  stream_written : (in_fork : Bool) (env : Env) → GoodEnv env → (form : BareTree) (one : StreamTree)
      → IsStream in_fork env form one → IsWritableTree form → StreamWritten in_fork one
  stream_written in_fork env e _ _ (index_word is) w = (index_word refl, refl)
  stream_written in_fork env e _ _ (index_name is) w = (index_word refl, refl)
  stream_written in_fork env e _ _ (ending {row = row} {one = one} from matched ends) w =
      ending_written in_fork one ends (row_written_as in_fork env e from row one no_trees matched w.1).0
  stream_written in_fork env e _ _
      (passing {row = row} {forms = forms} {one = one} {children = children} from matched passes are) w =
      let known = row_written_as in_fork env e from row one forms matched w.1 in
      let forks = row_forks in_fork env from row one forms matched in
      passing_written in_fork one children passes (kind_is_written in_fork one passes known.0)
      (subst (λ (b : Bool). AllWritten (b || in_fork) children) forks
      (streams_written (is_by from || in_fork) env e forms children are known.1))
  stream_written in_fork env e _ _
      (where_else {row = row} {forms = forms} {rest = rest} {one = one} {children = children} {otherwise = otherwise}
      matched passes are others)
      w =
      let known = yielded env AreWritable Good Divides
      (λ sort x forms value is kept. (good env e sort x value is kept.0, kept.1)) (row_of in_fork word.Where) row one
      (and_then forms (else_row rest)) matched w.1 (where_divides in_fork) in
      let parts = rows_split forms (else_row rest) known.1 in
      subst (λ (k : KindTree). StreamWritten in_fork (stream k children otherwise)) (sym known.0.one_is)
      (else_written in_fork known.0.rule children otherwise known.0.is
      (streams_written in_fork env e forms children are parts.0)
      (streams_written in_fork env e rest otherwise others parts.1.0.1))

  pub streams_written : (in_fork : Bool) (env : Env) → GoodEnv env → (forms : BareTrees) (streams : StreamTrees)
      → AreStreams in_fork env forms streams → AreWritable forms → AllWritten in_fork streams
  streams_written in_fork env e _ _ no_streams w = tt
  streams_written in_fork env e _ _ (more_streams {form = form} {forms = forms} {one = one} {streams = streams} is
      others) w =
      (stream_written in_fork env e form one is w.0, streams_written in_fork env e forms streams others w.1)
