-- Streams and their places, at the values that the code makes.
use Rattle.std.proofs.Common.{◌≡◌, ℕ, zero, suc, Bool, ◌||◌, List, [], ◌∷◌, ◌++◌, drop, Vec, Global, Option, Result, Ok}
use Rattle.std.proofs.Common.{Err, refl, ap, sym, ◌∙◌}
use Rattle.sexp_read.specs.declared.piece.Atom.TheVariants as atom
use Rattle.sexp_read.specs.declared.piece.Bracket.TheVariants.{Round}
use Rattle.sexp_read.specs.Tree.{FormTree, FormTrees, Single, Group, none, also}
use Rattle.stream_plan.specs.declared.plan.Kind.{Kind}
use Rattle.stream_plan.specs.declared.plan.Stream.{Stream, out-Stream}
use Rattle.stream_plan.specs.Search.{opened}
use Rattle.stream_plan.specs.Tree.{KindTree, StreamTree, stream, StreamTrees, kind_tree, stream_tree, list_trees}
use Rattle.stream_plan.specs.Tree as plan
use Rattle.stream_plan.proofs.Trees.{stream_tree-opened}
use Rattle.config_streams.specs.declared.source.Source.{Source, Row_of-Source, end_of-Source, more_of-Source}
use Rattle.config_streams.specs.declared.source.Source.{out-Source, is-Source', items-the_row-Source}
use Rattle.config_streams.specs.declared.source.Source.{items_hidden-the_row-Source-0}
use Rattle.config_streams.specs.declared.source.Source.TheBlock.{hidden-the_row-Source-0}
use Rattle.config_terms.specs.declared.fault.ConfigWhy.TheVariants as why
use Rattle.config_terms.specs.Steps.{Fault, start_of}
use Rattle.config_terms.specs.Words.{stream_word}
use Rattle.config_terms.specs.Arguments.{Env, bound_value}
use Rattle.config_streams.specs.Sources.{SourceTree, SourceTrees, source, with_source}
use Rattle.config_streams.specs.Sources as sources
use Rattle.config_streams.specs.Streams.{Below, Part, next_place, with_stream, with_part, all_read, is_where_in}
use Rattle.config_streams.specs.Streams.{is_by_in, symbol_by, worded, part_at, parts_in}
use Rattle.config_terms.specs.Code.{Look, Symbol, Call, Lookup, Other, look_of, later, next_of}
use Rattle.config_streams.specs.Made.{source_tree, source_trees, source_list}

-- ---- one more at the end

pub stream_pushed : (streams : List Stream) (one : Stream)
    → list_trees (streams ++ one ∷ []) ≡ with_stream (list_trees streams) (stream_tree one)
stream_pushed [] one = refl
stream_pushed (first ∷ streams) one = ap (λ more. plan.also (stream_tree first) more) (stream_pushed streams one)

pub source_pushed : (places : List Source) (one : Source)
    → source_list (places ++ one ∷ []) ≡ with_source (source_list places) (source_tree one)
source_pushed [] one = refl
source_pushed (first ∷ places) one = ap (λ more. sources.also (source_tree first) more) (source_pushed places one)

-- ---- one level

pub source_trees-list : {m : _} (row : Row_of-Source m) → source_trees row ≡ source_list (items-the_row-Source m row)
source_trees-list end_of-Source = refl
source_trees-list (more_of-Source s rest) = ap (λ more. sources.also (source_tree s) more) (source_trees-list rest)

pub source_trees-hidden : (places : Vec Source Global)
    → source_trees (hidden-the_row-Source-0 places) ≡ source_list places.items
source_trees-hidden places =
    source_trees-list (hidden-the_row-Source-0 places) ∙ ap source_list (items_hidden-the_row-Source-0 places)

pub source_tree-opened : (s : Source)
    → source_tree s
    ≡ source (out-Source s).place (source_list (out-Source s).children.items)
    (source_list (out-Source s).otherwise.items)
source_tree-opened s =
    ap source_tree (is-Source' s)
    ∙ ap
    (λ (children : SourceTrees).
    source (out-Source s).place children (source_trees (hidden-the_row-Source-0 (out-Source s).otherwise)))
    (source_trees-hidden (out-Source s).children)
    ∙ ap
    (λ (otherwise : SourceTrees). source (out-Source s).place (source_list (out-Source s).children.items) otherwise)
    (source_trees-hidden (out-Source s).otherwise)

-- ---- by what a form looks like

abbrev pub part_by : Bool → Bool → Env → ℕ → Look → Result Part Fault
part_by may_else in_fork env start (Symbol name) = symbol_by (bound_value name env) name start
part_by may_else in_fork env start (Call name forms) =
    worded may_else in_fork env name (stream_word name) start forms
    (parts_in (is_where_in (stream_word name)) (is_by_in (stream_word name) || in_fork) env forms)
part_by may_else in_fork env start (Lookup name forms) = Err (start, why.Form)
part_by may_else in_fork env start Other = Err (start, why.Form)

part_looks : (may_else in_fork : Bool) (env : Env) (form : FormTree)
    → part_at may_else in_fork env form ≡ part_by may_else in_fork env (start_of form) (look_of form)
unfolding part_at look_of
part_looks m i env (Single (atom.Symbol name) start last) = refl
part_looks m i env (Group Round (also (Single (atom.Symbol name) begin end) forms) start last) = refl
part_looks m i env form = refl

pub part_by_look : (may_else in_fork : Bool) (env : Env) (form : FormTree) (look : Look) → look ≡ look_of form
    → part_at may_else in_fork env form ≡ part_by may_else in_fork env (start_of form) look
part_by_look m i env form look e = part_looks m i env form ∙ ap (part_by m i env (start_of form)) (sym e)

-- ---- the forms later some

parts_in-later : (m i : Bool) (env : Env) (n : ℕ) (forms : FormTrees)
    → parts_in m i env (later n forms) ≡ drop n (parts_in m i env forms)
unfolding parts_in
parts_in-later m i env zero forms = refl
parts_in-later m i env (suc n) none = refl
parts_in-later m i env (suc n) (also form forms) = parts_in-later m i env n forms

pub parts_later : (may_else in_fork : Bool) (env : Env) (n : ℕ) (forms rest : FormTrees) → rest ≡ later n forms
    → parts_in may_else in_fork env rest ≡ drop n (parts_in may_else in_fork env forms)
parts_later m i env n forms rest e = ap (parts_in m i env) e ∙ parts_in-later m i env n forms

pub next_of_parts : (may_else in_fork : Bool) (env : Env) (forms : FormTrees)
    → next_place (parts_in may_else in_fork env forms) ≡ next_of forms
unfolding parts_in
next_of_parts m i env none = refl
next_of_parts m i env (also f forms) = refl

-- ---- one more part is read

pub parts_more : (may_else in_fork : Bool) (env : Env) (below more : Below) (left forms : FormTrees) (form : FormTree)
    (one : Part) (next : Option ℕ) →
    left ≡ also form forms → part_at may_else in_fork env form ≡ Ok one → next ≡ next_of forms →
    with_part below one next ≡ Ok more →
    all_read below (parts_in may_else in_fork env left) ≡ all_read more (parts_in may_else in_fork env forms)
unfolding all_read parts_in
parts_more m i env below more left forms form one next at read is put =
    let reported : with_part below one (next_place (parts_in m i env forms)) ≡ Ok more =
    rw (next_of_parts m i env forms, sym is) put in
    rw (at, read, reported) refl

-- ---- a stream and a source that are put together

pub stream_is : (s : Stream) (kind : Kind) (children otherwise : Vec Stream Global) → (out-Stream s).kind ≡ kind →
    (out-Stream s).children ≡ children → (out-Stream s).otherwise ≡ otherwise →
    stream_tree s ≡ stream (kind_tree kind) (list_trees children.items) (list_trees otherwise.items)
unfolding opened
stream_is s kind children otherwise k c o = stream_tree-opened s ∙ rw (k, c, o) refl

pub source_is : (s : Source) (place : ℕ) (children otherwise : Vec Source Global) → (out-Source s).place ≡ place →
    (out-Source s).children ≡ children → (out-Source s).otherwise ≡ otherwise →
    source_tree s ≡ source place (source_list children.items) (source_list otherwise.items)
source_is s place children otherwise p c o = source_tree-opened s ∙ rw (p, c, o) refl
