-- Canonical forms piece by piece.
use Rattle.std.proofs.Common.{◌≡◌, ℕ, Bool, false, nat_eq, ◌+◌, ◌<◌, List, [], ◌∷◌, ◌++◌, length, get_or, take, map}
use Rattle.std.proofs.Common.{Vec, Global, refl, ap, sym, ◌∙◌, append_assoc, arith}
use Rattle.std.proofs.Math.Seq.{take-length}
use Rattle.std.proofs.lemmas.Bool.Decides.{nat_tests}
use Rattle.std.proofs.lemmas.List.{take_more}
use Rattle.ev_types.specs.declared.field.Field.{Field}
use Rattle.ev_types.specs.declared.settings.KeepKey.{KeepKey}
use Rattle.ev_types.specs.declared.settings.Set.{Set}
use Rattle.pred_eval.specs.declared.rule.Rule.{Rule}
use Rattle.pred_eval.specs.declared.rule.Rule as code
use Rattle.pred_eval.proofs.TreeLaws.{tree_of_all, tree_of_any}
use Rattle.pred_eval.specs.Tree.{tree_of, trees_in}
use Rattle.sexp_read.specs.declared.form.Form.{Form}
use Rattle.sexp_read.specs.Tree.{form_trees}
use Rattle.sexp_read.specs.Written.{BareTree, bare_trees, and_trees, listed}
use Rattle.stream_plan.specs.declared.plan.Kind.{Kind}
use Rattle.stream_plan.specs.declared.plan.Kind.TheVariants as kind
use Rattle.stream_plan.specs.declared.plan.Stream.{Stream, out-Stream}
use Rattle.stream_plan.specs.Search.{opened}
use Rattle.stream_plan.specs.Tree.{kind_tree, stream_tree, list_trees}
use Rattle.stream_plan.proofs.Trees.{stream_tree-opened}
use Rattle.config_terms.specs.declared.word.RuleWord.TheVariants as rule
use Rattle.config_terms.specs.declared.word.StreamWord.TheVariants as word
use Rattle.config_terms.specs.Words.{rule_text, stream_text, else_text}
use Rattle.sexp_config.specs.Canonical.{bare_form, bare_forms, text_form, field_form, value_form, keep_form}
use Rattle.sexp_config.specs.Canonical.{symbol_form, list_form, worded_form, rule_form, rule_forms, set_forms}
use Rattle.sexp_config.specs.Canonical.{kind_forms, kind_form, else_forms, stream_form, stream_forms}

pub bare_listed : (forms : List Form) → bare_trees (form_trees forms) ≡ listed (bare_forms forms)
bare_listed [] = refl
bare_listed (form ∷ forms) = ap (and_trees (bare_form form)) (bare_listed forms)

map_pushed : {A : Type 0} (f : A → BareTree) (xs : List A) (x : A) → map f (xs ++ x ∷ []) ≡ map f xs ++ f x ∷ []
map_pushed f [] x = refl
map_pushed f (first ∷ xs) x = ap (λ (forms : List BareTree). f first ∷ forms) (map_pushed f xs x)

pub bare_pushed : (forms : List Form) (form : Form)
    → bare_forms (forms ++ form ∷ []) ≡ bare_forms forms ++ bare_form form ∷ []
bare_pushed forms form = map_pushed bare_form forms form

taken_more : {A : Type 0} (xs : List A) (i : ℕ) (x : A) → i < length xs → x ≡ get_or xs i x
    → take (i + 1) xs ≡ take i xs ++ x ∷ []
taken_more {A} xs i x inside is = take_more xs i x inside ∙ ap (λ (last : A). take i xs ++ last ∷ []) (sym is)

map_more : {A : Type 0} (f : A → BareTree) (xs : List A) (i : ℕ) (x : A) → i < length xs → x ≡ get_or xs i x
    → map f (take (i + 1) xs) ≡ map f (take i xs) ++ f x ∷ []
map_more f xs i x inside is = ap (map f) (taken_more xs i x inside is) ∙ map_pushed f (take i xs) x

pub texts_more : (texts : List (List ℕ)) (i : ℕ) (text : List ℕ) → i < length texts → text ≡ get_or texts i text
    → map text_form (take (i + 1) texts) ≡ map text_form (take i texts) ++ text_form text ∷ []
texts_more texts i text inside is = map_more text_form texts i text inside is

pub texts_all : (texts : List (List ℕ)) → map text_form (take (length texts) texts) ≡ map text_form texts
texts_all texts = ap (map text_form) (take-length texts)

pub fields_more : (fields : List Field) (i : ℕ) (field : Field) → i < length fields → field ≡ get_or fields i field
    → map field_form (take (i + 1) fields) ≡ map field_form (take i fields) ++ field_form field ∷ []
fields_more fields i field inside is = map_more field_form fields i field inside is

pub fields_all : (fields : List Field) → map field_form (take (length fields) fields) ≡ map field_form fields
fields_all fields = ap (map field_form) (take-length fields)

pub keys_more : (keys : List KeepKey) (i : ℕ) (key : KeepKey) → i < length keys → key ≡ get_or keys i key
    → map keep_form (take (i + 1) keys) ≡ map keep_form (take i keys) ++ keep_form key ∷ []
keys_more keys i key inside is = map_more keep_form keys i key inside is

pub keys_all : (keys : List KeepKey) → map keep_form (take (length keys) keys) ≡ map keep_form keys
keys_all keys = ap (map keep_form) (take-length keys)

sets_pushed : (sets : List Set) (set : Set)
    → set_forms (sets ++ set ∷ []) ≡ (set_forms sets ++ field_form set.field ∷ []) ++ value_form set.value ∷ []
sets_pushed [] set = refl
sets_pushed (first ∷ sets) set =
    ap (λ (forms : List BareTree). field_form first.field ∷ value_form first.value ∷ forms) (sets_pushed sets set)

pub sets_more : (sets : List Set) (i : ℕ) (set : Set) → i < length sets → set ≡ get_or sets i set
    → set_forms (take (i + 1) sets)
    ≡ (set_forms (take i sets) ++ field_form set.field ∷ []) ++ value_form set.value ∷ []
sets_more sets i set inside is = ap set_forms (taken_more sets i set inside is) ∙ sets_pushed (take i sets) set

pub sets_all : (sets : List Set) → set_forms (take (length sets) sets) ≡ set_forms sets
sets_all sets = ap set_forms (take-length sets)

rules_pushed : (rules : List Rule) (rule : Rule)
    → rule_forms (trees_in (rules ++ rule ∷ [])) ≡ rule_forms (trees_in rules) ++ rule_form (tree_of rule) ∷ []
rules_pushed [] rule = refl
rules_pushed (first ∷ rules) rule =
    ap (λ (forms : List BareTree). rule_form (tree_of first) ∷ forms) (rules_pushed rules rule)

pub rules_more : (rules : List Rule) (i : ℕ) (rule : Rule) → i < length rules → rule ≡ get_or rules i rule
    → rule_forms (trees_in (take (i + 1) rules)) ≡ rule_forms (trees_in (take i rules)) ++ rule_form (tree_of rule) ∷ []
rules_more rules i rule inside is =
    ap (λ (all : List Rule). rule_forms (trees_in all)) (taken_more rules i rule inside is)
    ∙ rules_pushed (take i rules) rule

pub rules_all : (rules : List Rule) → rule_forms (trees_in (take (length rules) rules)) ≡ rule_forms (trees_in rules)
rules_all rules = ap (λ (all : List Rule). rule_forms (trees_in all)) (take-length rules)

streams_pushed : (streams : List Stream) (stream : Stream)
    → stream_forms (list_trees (streams ++ stream ∷ []))
    ≡ stream_forms (list_trees streams) ++ stream_form (stream_tree stream) ∷ []
streams_pushed [] stream = refl
streams_pushed (first ∷ streams) stream =
    ap (λ (forms : List BareTree). stream_form (stream_tree first) ∷ forms) (streams_pushed streams stream)

pub streams_more : (streams : List Stream) (i : ℕ) (stream : Stream) → i < length streams
    → stream ≡ get_or streams i stream
    → stream_forms (list_trees (take (i + 1) streams))
    ≡ stream_forms (list_trees (take i streams)) ++ stream_form (stream_tree stream) ∷ []
streams_more streams i stream inside is =
    ap (λ (all : List Stream). stream_forms (list_trees all)) (taken_more streams i stream inside is)
    ∙ streams_pushed (take i streams) stream

pub streams_all : (streams : List Stream)
    → stream_forms (list_trees (take (length streams) streams)) ≡ stream_forms (list_trees streams)
streams_all streams = ap (λ (all : List Stream). stream_forms (list_trees all)) (take-length streams)

-- a rule of rules, and a stream, at the values that the code has

pub all_formed : (one : Rule) (parts : Vec Rule Global) (items : List Rule) → one ≡ code.All parts → items ≡ parts.items
    → worded_form (rule_text rule.And) (rule_forms (trees_in items)) ≡ rule_form (tree_of one)
all_formed one parts items is same =
    ap (λ (all : List Rule). worded_form (rule_text rule.And) (rule_forms (trees_in all))) same
    ∙ sym (ap (λ (r : Rule). rule_form (tree_of r)) is ∙ ap rule_form (tree_of_all parts))

pub any_formed : (one : Rule) (parts : Vec Rule Global) (items : List Rule) → one ≡ code.Any parts → items ≡ parts.items
    → worded_form (rule_text rule.Or) (rule_forms (trees_in items)) ≡ rule_form (tree_of one)
any_formed one parts items is same =
    ap (λ (all : List Rule). worded_form (rule_text rule.Or) (rule_forms (trees_in all))) same
    ∙ sym (ap (λ (r : Rule). rule_form (tree_of r)) is ∙ ap rule_form (tree_of_any parts))

stream_formed : (s : Stream)
    → stream_form (stream_tree s)
    ≡ kind_form (kind_tree (out-Stream s).kind)
    (stream_forms (list_trees (out-Stream s).children.items)
    ++ else_forms (stream_forms (list_trees (out-Stream s).otherwise.items)))
unfolding opened
stream_formed s = ap stream_form (stream_tree-opened s)

pub stream_index : (s : Stream) → (out-Stream s).kind ≡ kind.Index
    → symbol_form (stream_text word.Index) ≡ stream_form (stream_tree s)
stream_index s is =
    sym (stream_formed s
    ∙ ap
    (λ (k : Kind). kind_form (kind_tree k)
    (stream_forms (list_trees (out-Stream s).children.items)
    ++ else_forms (stream_forms (list_trees (out-Stream s).otherwise.items))))
    is)

kind_listed : (k : Kind) (forms : List BareTree) → (k ≡ kind.Index → ⊥)
    → kind_form (kind_tree k) forms ≡ list_form (kind_forms (kind_tree k) ++ forms)
kind_listed kind.Index forms other = absurd (other refl)
kind_listed k forms other = refl

pub stream_listed : (s : Stream) (children otherwise : List Stream) (first second third : List BareTree)
    → ((out-Stream s).kind ≡ kind.Index → ⊥)
    → children ≡ (out-Stream s).children.items → otherwise ≡ (out-Stream s).otherwise.items
    → first ≡ kind_forms (kind_tree (out-Stream s).kind) → second ≡ first ++ stream_forms (list_trees children)
    → third ≡ second ++ else_forms (stream_forms (list_trees otherwise))
    → list_form third ≡ stream_form (stream_tree s)
stream_listed s children otherwise first second third other same rest leads below all =
    let lead = kind_forms (kind_tree (out-Stream s).kind) in
    let inner = stream_forms (list_trees (out-Stream s).children.items) in
    let outer = else_forms (stream_forms (list_trees (out-Stream s).otherwise.items)) in
    let later : second ≡ lead ++ inner =
    below ∙ ap (λ (forms : List BareTree). forms ++ stream_forms (list_trees children)) leads
    ∙ ap (λ (streams : List Stream). lead ++ stream_forms (list_trees streams)) same in
    let whole : third ≡ lead ++ (inner ++ outer) =
    all ∙ ap (λ (forms : List BareTree). forms ++ else_forms (stream_forms (list_trees otherwise))) later
    ∙ ap (λ (streams : List Stream). (lead ++ inner) ++ else_forms (stream_forms (list_trees streams))) rest
    ∙ append_assoc lead inner outer in
    ap list_form whole ∙ sym (stream_formed s ∙ kind_listed (out-Stream s).kind (inner ++ outer) other)

else_some : (streams : List Stream) → 0 < length streams
    → else_forms (stream_forms (list_trees streams))
    ≡ worded_form (else_text) (stream_forms (list_trees streams)) ∷ []
else_some [] some = absurd (omega arith)
else_some (s ∷ streams) some = refl

pub else_put : (streams : List Stream) (begun rest old new : List BareTree) (form : BareTree) (empty : Bool)
    → empty ≡ nat_eq (length streams) 0 → empty ≡ false
    → begun ≡ symbol_form (else_text) ∷ [] → rest ≡ begun ++ stream_forms (list_trees streams)
    → form ≡ list_form rest → new ≡ old ++ form ∷ []
    → new ≡ old ++ else_forms (stream_forms (list_trees streams))
else_put streams begun rest old new form empty test is first all listed_form put =
    let some : 0 < length streams = grind (arith, nat_tests) in
    let whole : form ≡ worded_form (else_text) (stream_forms (list_trees streams)) =
    listed_form
    ∙ ap list_form (all ∙ ap (λ (forms : List BareTree). forms ++ stream_forms (list_trees streams)) first) in
    put ∙ ap (λ (one : BareTree). old ++ one ∷ []) whole
    ∙ ap (λ (forms : List BareTree). old ++ forms) (sym (else_some streams some))

pub streams_step : (first before after : List BareTree) (form : BareTree) (streams : List Stream) (i : ℕ)
    (stream : Stream)
    → before ≡ first ++ stream_forms (list_trees (take i streams)) → form ≡ stream_form (stream_tree stream)
    → after ≡ before ++ form ∷ []
    → i < length streams → stream ≡ get_or streams i stream
    → after ≡ first ++ stream_forms (list_trees (take (i + 1) streams))
streams_step first before after form streams i stream so_far made put inside is =
    let done = stream_forms (list_trees (take i streams)) in
    put ∙ ap (λ (one : BareTree). before ++ one ∷ []) made
    ∙ ap (λ (forms : List BareTree). forms ++ stream_form (stream_tree stream) ∷ []) so_far
    ∙ append_assoc first done (stream_form (stream_tree stream) ∷ [])
    ∙ ap (λ (forms : List BareTree). first ++ forms) (sym (streams_more streams i stream inside is))
