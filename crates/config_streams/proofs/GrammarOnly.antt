-- What is read as a stream is one of the grammar.
use Rattle.std.proofs.Common.{◌≡◌, ℕ, zero, suc, Bool, true, false, ◌&&◌, ◌||◌, codes, List, drop, Option, Some}
use Rattle.std.proofs.Common.{None, Ok, refl, ap, sym, subst, ◌∙◌}
use Rattle.std.proofs.lemmas.Bool.{and_parts}
use Rattle.std.proofs.lemmas.Slice.Eq.{bytes_eq-Decides}
use Rattle.std.specs.Str.{bytes_eq}
use Rattle.sexp_read.specs.declared.piece.Atom.TheVariants as atom
use Rattle.sexp_read.specs.declared.piece.Bracket.TheVariants.{Round}
use Rattle.sexp_read.specs.Tree.{FormTree, FormTrees, Single, Group, none, also}
use Rattle.sexp_read.specs.Written.{BareTree, BareTrees, no_trees, and_trees, bare_tree, bare_trees}
use Rattle.stream_plan.specs.Kinds.{may_have_children}
use Rattle.stream_plan.specs.Tree.{KindTree, StreamTree, stream, StreamTrees}
use Rattle.stream_plan.specs.Tree as plan
use Rattle.config_terms.specs.declared.binding.Bound.{Bound}
use Rattle.config_terms.specs.declared.binding.Bound.TheVariants as bound
use Rattle.config_terms.specs.declared.word.StreamWord.{StreamWord}
use Rattle.config_terms.specs.declared.word.StreamWord.TheVariants as word
use Rattle.config_terms.specs.Code.{later}
use Rattle.config_terms.specs.Steps.{◌>>=◌, nth, absent, at_most}
use Rattle.config_terms.specs.Words.{stream_text, stream_word, else_text}
use Rattle.config_terms.specs.Arguments.{Env, bound_value}
use Rattle.config_terms.specs.Grammar.{symbol, worded}
use Rattle.config_terms.proofs.Outcomes.{OkGood, SomeGood, bind_good, weaker, ok_if, ok_read}
use Rattle.config_streams.specs.Sources.{SourceTree}
use Rattle.config_streams.specs.Streams as read_
use Rattle.config_streams.specs.Streams.{Located, Below, nothing, Part, One, Rest, with_child, with_part, next_place}
use Rattle.config_streams.specs.Streams.{Readings, symbol_by, followed, rest_of, is_where, is_where_in}
use Rattle.config_streams.specs.Streams.{is_by_in, stream_of, part_at, parts_in, all_read}
use Rattle.config_streams.specs.Table.{row_of, read, Matches}
use Rattle.config_streams.specs.Streams.{is_by}
use Rattle.stream_plan.specs.Tree.{KindTree}
use Rattle.config_streams.specs.Grammar.{and_then, else_row, IsStream, index_word, index_name, ending, passing}
use Rattle.config_streams.specs.Grammar.{where_else, AreStreams, no_streams, more_streams, with_streams, AreThose}
use Rattle.config_streams.specs.Grammar.{OnlyStreamsAreRead}
use Rattle.config_streams.proofs.TableLaws.{RowMatches, row_matches}
use Rattle.config_terms.proofs.NameLaws.{stream_named}
use Rattle.config_streams.proofs.GrammarRead.{with_none, with_more}
use Rattle.config_streams.proofs.StreamLaws.{parts_later}

-- ---- one form

record Elsewhere (may_else in_fork : Bool) (env : Env) (form : BareTree) (streams : StreamTrees) : Type 0 where
  allowed : may_else ≡ true
  rest : BareTrees
  is : form ≡ worded else_text rest
  are : AreStreams in_fork env rest streams

-- what a form is that was read
abbrev PartIs : Bool → Bool → Env → BareTree → Part → Type 0
PartIs may_else in_fork env form (One one place) = IsStream in_fork env form one
PartIs may_else in_fork env form (Rest located) = Elsewhere may_else in_fork env form located.streams

abbrev AllMean : Bool → Bool → Env → FormTrees → Type 0
AllMean may_else in_fork env none = Unit {0}
AllMean may_else in_fork env (also f forms) =
    OkGood (PartIs may_else in_fork env (bare_tree f)) (part_at may_else in_fork env f)
    × AllMean may_else in_fork env forms

later_mean : (may_else in_fork : Bool) (env : Env) (n : ℕ) (forms : FormTrees) → AllMean may_else in_fork env forms
    → AllMean may_else in_fork env (later n forms)
later_mean may_else in_fork env zero forms all = all
later_mean may_else in_fork env (suc n) none all = tt
later_mean may_else in_fork env (suc n) (also f forms) all = later_mean may_else in_fork env n forms all.1

-- ---- forms in a row

-- how the forms end after the streams
data Ending (may_else in_fork : Bool) (env : Env) (row front : BareTrees) (before below : Below) : Type 0 where
  plain : row ≡ front → below.otherwise ≡ before.otherwise → Ending may_else in_fork env row front before below
  divided : (rest : BareTrees) → may_else ≡ true → row ≡ and_then front (else_row rest)
      → AreStreams in_fork env rest below.otherwise.streams → Ending may_else in_fork env row front before below

record Row (may_else in_fork : Bool) (env : Env) (row : BareTrees) (before below : Below) : Type 0 where
  front : BareTrees
  streams : StreamTrees
  are : AreStreams in_fork env front streams
  children : below.children.streams ≡ with_streams before.children.streams streams
  ending : Ending may_else in_fork env row front before below

more_ending : (may_else in_fork : Bool) (env : Env) (form : BareTree) (row front : BareTrees) (before below : Below)
    (one : StreamTree) (place : SourceTree)
    → Ending may_else in_fork env row front (with_child before one place) below
    → Ending may_else in_fork env (and_trees form row) (and_trees form front) before below
more_ending may_else in_fork env form row front before below one place (plain is same) =
    plain (ap (and_trees form) is) same
more_ending may_else in_fork env form row front before below one place (divided rest allowed is are) =
    divided rest allowed (ap (and_trees form) is) are

row_more : (may_else in_fork : Bool) (env : Env) (form : BareTree) (row : BareTrees) (before : Below) (one : StreamTree)
    (place : SourceTree)
    → IsStream in_fork env form one → (below : Below) → Row may_else in_fork env row (with_child before one place) below
    → Row may_else in_fork env (and_trees form row) before below
row_more may_else in_fork env form row before one place is below known =
    record {
      front = and_trees form known.front;
      streams = plan.also one known.streams;
      are = more_streams is known.are;
      children = known.children ∙ with_more before.children.streams one known.streams;
      ending = more_ending may_else in_fork env form row known.front before below one place known.ending;
    }

row_last : (may_else in_fork : Bool) (env : Env) (form : BareTree) (before : Below) (located : Located)
    → Elsewhere may_else in_fork env form located.streams
    → Row may_else in_fork env (and_trees form no_trees) before
    (record { children = before.children; otherwise = located })
row_last may_else in_fork env form before located known =
    record {
      front = no_trees;
      streams = plan.none;
      are = no_streams;
      children = sym (with_none before.children.streams);
      ending = divided known.rest known.allowed (ap (λ (t : BareTree). and_trees t no_trees) known.is) known.are;
    }

row_part : (may_else in_fork : Bool) (env : Env) (f : FormTree) (forms : FormTrees) (before : Below) (part : Part)
    → PartIs may_else in_fork env (bare_tree f) part
    → ((more : Below) → OkGood (Row may_else in_fork env (bare_trees forms) more)
    (all_read more (parts_in may_else in_fork env forms)))
    → OkGood (Row may_else in_fork env (bare_trees (also f forms)) before)
    (with_part before part (next_place (parts_in may_else in_fork env forms))
    >>= λ more. all_read more (parts_in may_else in_fork env forms))
unfolding all_read parts_in part_at
row_part may_else in_fork env f forms before (One one place) is rest =
    weaker (Row may_else in_fork env (bare_trees forms) (with_child before one place))
    (Row may_else in_fork env (bare_trees (also f forms)) before)
    (all_read (with_child before one place) (parts_in may_else in_fork env forms))
    (row_more may_else in_fork env (bare_tree f) (bare_trees forms) before one place is)
    (rest (with_child before one place))
row_part may_else in_fork env f none before (Rest located) is rest =
    row_last may_else in_fork env (bare_tree f) before located is
row_part may_else in_fork env f (also g forms) before (Rest located) is rest = tt

rows_mean : (may_else in_fork : Bool) (env : Env) (forms : FormTrees) → AllMean may_else in_fork env forms
    → (before : Below)
    → OkGood (Row may_else in_fork env (bare_trees forms) before)
    (all_read before (parts_in may_else in_fork env forms))
unfolding all_read parts_in part_at
rows_mean may_else in_fork env none all before =
    record {
      front = no_trees;
      streams = plan.none;
      are = no_streams;
      children = sym (with_none before.children.streams);
      ending = plain refl refl;
    }
rows_mean may_else in_fork env (also f forms) all before =
    bind_good (PartIs may_else in_fork env (bare_tree f)) (Row may_else in_fork env (bare_trees (also f forms)) before)
    (part_at may_else in_fork env f) _ all.0
    (λ part is. row_part may_else in_fork env f forms before part is
    (λ more. rows_mean may_else in_fork env forms all.1 more))

-- the forms after the arguments
later_rows : (may_else in_fork : Bool) (env : Env) (n : ℕ) (forms : FormTrees) → AllMean may_else in_fork env forms
    → OkGood (Row may_else in_fork env (bare_trees (later n forms)) nothing)
    (all_read nothing (drop n (parts_in may_else in_fork env forms)))
later_rows may_else in_fork env n forms all =
    subst
    (λ (readings : Readings).
    OkGood (Row may_else in_fork env (bare_trees (later n forms)) nothing) (all_read nothing readings))
    (parts_later may_else in_fork env n forms (later n forms) refl)
    (rows_mean may_else in_fork env (later n forms) (later_mean may_else in_fork env n forms all) nothing)

-- ---- streams that have others below them

true_false : {A : Type 0} → false ≡ true → A
true_false e = cc

where_is : (from : StreamWord) → is_where from ≡ true → from ≡ word.Where
where_is word.Where e = refl
where_is from e = cc

abbrev Is : Bool → Env → StreamWord → BareTrees → StreamTree → Type 0
Is in_fork env from row one = IsStream in_fork env (worded (stream_text from) row) one

-- with the streams of an `else`
divided_is : (in_fork : Bool) (env : Env) (from : StreamWord) (row front rest : BareTrees) (one : KindTree)
    (children otherwise : StreamTrees) → from ≡ word.Where
    → Matches env (row_of in_fork from) row one (and_then front (else_row rest)) → may_have_children one ≡ true
    → AreStreams (is_by from || in_fork) env front children → AreStreams (is_by from || in_fork) env rest otherwise
    → Is in_fork env from row (stream one children otherwise)
divided_is in_fork env from row front rest one children otherwise is =
    subst (λ (w : StreamWord). Matches env (row_of in_fork w) row one (and_then front (else_row rest))
    → may_have_children one ≡ true → AreStreams (is_by w || in_fork) env front children
    → AreStreams (is_by w || in_fork) env rest otherwise → Is in_fork env w row (stream one children otherwise))
    (sym is) (λ matched passes are others. where_else matched passes are others)

row_is : (in_fork : Bool) (env : Env) (from : StreamWord) (row later_row front : BareTrees) (one : KindTree)
    (below : Below) → Matches env (row_of in_fork from) row one later_row
    → may_have_children one ≡ true → AreStreams (is_by from || in_fork) env front below.children.streams
    → Ending (is_where from) (is_by from || in_fork) env later_row front nothing below
    → Is in_fork env from row (stream one below.children.streams below.otherwise.streams)
row_is in_fork env from row later_row front one below matched passes are (plain same nowhere) =
    subst (λ (located : Located). Is in_fork env from row (stream one below.children.streams located.streams))
    (sym nowhere)
    (passing from matched passes
    (subst (λ (r : BareTrees). AreStreams (is_by from || in_fork) env r below.children.streams) (sym same) are))
row_is in_fork env from row later_row front one below matched passes are (divided rest allowed same others) =
    divided_is in_fork env from row front rest one below.children.streams below.otherwise.streams
    (where_is from allowed) (subst (λ (r : BareTrees). Matches env (row_of in_fork from) row one r) same matched) passes
    are others

-- no forms are left
abbrev NoMore : ℕ → FormTrees → Unit {0} → Type 0
NoMore n forms over = later n forms ≡ none

absent_means : (n : ℕ) (forms : FormTrees) → OkGood (NoMore n forms) (absent (nth n forms))
absent_means zero none = refl
absent_means zero (also f forms) = tt
absent_means (suc n) none = refl
absent_means (suc n) (also f forms) = absent_means n forms

at_most_means : (n : ℕ) (forms : FormTrees) → OkGood (NoMore n forms) (at_most n forms)
unfolding at_most
at_most_means n forms = absent_means n forms

followed_means : (in_fork : Bool) (env : Env) (from : StreamWord) (start : ℕ) (forms : FormTrees) (one : KindTree)
    (own : ℕ) → Matches env (row_of in_fork from) (bare_trees forms) one (bare_trees (later own forms))
    → AllMean (is_where from) (is_by from || in_fork) env forms → (may_else : Bool)
    → OkGood (PartIs may_else in_fork env (worded (stream_text from) (bare_trees forms)))
    (followed one start own forms (parts_in (is_where from) (is_by from || in_fork) env forms))
followed_means in_fork env from start forms one own matched all may_else =
    let m = is_where from in
    let b = is_by from || in_fork in
    let Q = PartIs may_else in_fork env (worded (stream_text from) (bare_trees forms)) in
    ok_if Q (may_have_children one) _ _
    (λ passes. bind_good (Row m b env (bare_trees (later own forms)) nothing) Q
    (all_read nothing (drop own (parts_in m b env forms))) (λ below. Ok (stream_of one start below))
    (later_rows m b env own forms all)
    (λ below known. row_is in_fork env from (bare_trees forms) (bare_trees (later own forms)) known.front one below
    matched passes
    (subst (λ (streams : StreamTrees). AreStreams b env known.front streams) (sym known.children) known.are)
    known.ending))
    (λ ends. bind_good (NoMore own forms) Q (at_most own forms) (λ over. Ok (stream_of one start nothing))
    (at_most_means own forms)
    (λ over over_is. ending from
    (subst (λ (fs : FormTrees). Matches env (row_of in_fork from) (bare_trees forms) one (bare_trees fs)) over_is
    matched)
    ends))

-- ---- `else`

else_is_part : (may_else in_fork : Bool) (env : Env) (row : BareTrees) (below : Below) → may_else ≡ true
    → (known : Row false in_fork env row nothing below) → Ending false in_fork env row known.front nothing below
    → Elsewhere may_else in_fork env (worded else_text row) below.children.streams
else_is_part may_else in_fork env row below allowed known (plain same nowhere) =
    record {
      allowed = allowed;
      rest = row;
      is = refl;
      are =
          subst (λ (r : BareTrees). AreStreams in_fork env r below.children.streams) (sym same)
          (subst (λ (streams : StreamTrees). AreStreams in_fork env known.front streams) (sym known.children)
          known.are);
    }
else_is_part may_else in_fork env row below allowed known (divided rest other same others) = true_false other

else_means : (may_else in_fork : Bool) (env : Env) (forms : FormTrees) → may_else ≡ true
    → AllMean false in_fork env forms
    → OkGood (PartIs may_else in_fork env (worded else_text (bare_trees forms)))
    (rest_of (parts_in false in_fork env forms))
else_means may_else in_fork env forms allowed all =
    bind_good (Row false in_fork env (bare_trees forms) nothing)
    (PartIs may_else in_fork env (worded else_text (bare_trees forms)))
    (all_read nothing (parts_in false in_fork env forms)) (λ below. Ok (Rest below.children))
    (rows_mean false in_fork env forms all nothing)
    (λ below known. else_is_part may_else in_fork env (bare_trees forms) below allowed known known.ending)

-- ---- a list that begins with a name

word_means : (may_else in_fork : Bool) (env : Env) (from : StreamWord) (start : ℕ) (forms : FormTrees)
    → AllMean (is_where from) (is_by from || in_fork) env forms
    → OkGood (PartIs may_else in_fork env (worded (stream_text from) (bare_trees forms)))
    (read_.worded may_else in_fork env (stream_text from) (Some from) start forms
    (parts_in (is_where from) (is_by from || in_fork) env forms))
unfolding read_.worded
word_means may_else in_fork env from start forms all =
    bind_good (RowMatches env (row_of in_fork from) 0 forms)
    (PartIs may_else in_fork env (worded (stream_text from) (bare_trees forms)))
    (read (row_of in_fork from) env start 0 forms) _ (row_matches (row_of in_fork from) env start 0 forms)
    (λ found matched. followed_means in_fork env from start forms found.0 found.1 matched all may_else)

call_means : (may_else in_fork : Bool) (env : Env) (name : List ℕ) (start : ℕ) (forms : FormTrees)
    (from : Option StreamWord)
    → SomeGood (λ one. name ≡ stream_text one) from → AllMean (is_where_in from) (is_by_in from || in_fork) env forms
    → OkGood (PartIs may_else in_fork env (worded name (bare_trees forms)))
    (read_.worded may_else in_fork env name from start forms
    (parts_in (is_where_in from) (is_by_in from || in_fork) env forms))
unfolding read_.worded
call_means may_else in_fork env name start forms None spelled all =
    ok_if (PartIs may_else in_fork env (worded name (bare_trees forms))) (may_else && bytes_eq name else_text) _ _
    (λ is. let both = and_parts may_else (bytes_eq name else_text) is in
    subst
    (λ (n : List ℕ). OkGood (PartIs may_else in_fork env (worded n (bare_trees forms)))
    (rest_of (parts_in false in_fork env forms)))
    (sym ((bytes_eq-Decides name else_text).0 both.1)) (else_means may_else in_fork env forms both.0 all))
    (λ _. tt)
call_means may_else in_fork env name start forms (Some from) spelled all =
    subst
    (λ (n : List ℕ). OkGood (PartIs may_else in_fork env (worded n (bare_trees forms)))
    (read_.worded may_else in_fork env n (Some from) start forms
    (parts_in (is_where from) (is_by from || in_fork) env forms)))
    (sym spelled) (word_means may_else in_fork env from start forms all)

symbol_means : (may_else in_fork : Bool) (env : Env) (name : List ℕ) (start : ℕ) (held : Option Bound)
    → bound_value name env ≡ held → OkGood (PartIs may_else in_fork env (symbol name)) (symbol_by held name start)
symbol_means may_else in_fork env name start None is =
    ok_if (PartIs may_else in_fork env (symbol name)) (bytes_eq name (stream_text word.Index)) _ _
    (λ same. let at = (bytes_eq-Decides name (codes "index")).0 same in
    subst (λ (n : List ℕ). IsStream in_fork env (symbol n) (stream plan.Index plan.none plan.none)) (sym at)
    (index_word (ap (λ (n : List ℕ). bound_value n env) (sym at) ∙ is)))
    (λ _. tt)
symbol_means may_else in_fork env name start (Some bound.Index) is = index_name is
symbol_means may_else in_fork env name start held is = tt

-- ---- all streams

mutual
  unfolding part_at parts_in

  part_means : (may_else in_fork : Bool) (env : Env) (f : FormTree)
      → OkGood (PartIs may_else in_fork env (bare_tree f)) (part_at may_else in_fork env f)
  part_means may_else in_fork env (Single (atom.Symbol name) start last) =
      symbol_means may_else in_fork env name start (bound_value name env) refl
  part_means may_else in_fork env (Group Round (also (Single (atom.Symbol name) begin end) forms) start last) =
      call_means may_else in_fork env name start forms (stream_word name) (stream_named name)
      (all_mean (is_where_in (stream_word name)) (is_by_in (stream_word name) || in_fork) env forms)
  part_means may_else in_fork env f = tt

  all_mean : (may_else in_fork : Bool) (env : Env) (forms : FormTrees) → AllMean may_else in_fork env forms
  all_mean may_else in_fork env none = tt
  all_mean may_else in_fork env (also f forms) =
      (part_means may_else in_fork env f, all_mean may_else in_fork env forms)

those : (env : Env) (before : Below) (forms : FormTrees) (below : Below)
    → (known : Row false false env (bare_trees forms) before below)
    → Ending false false env (bare_trees forms) known.front before below → AreThose env before forms below
those env before forms below known (plain same kept) =
    record {
      streams = known.streams;
      are = subst (λ (r : BareTrees). AreStreams false env r known.streams) (sym same) known.are;
      grown = record { children = known.children; otherwise = kept };
    }
those env before forms below known (divided rest other same others) = true_false other

pub only_streams_are_read : OnlyStreamsAreRead
only_streams_are_read env before forms below is =
    let known =
    ok_read (Row false false env (bare_trees forms) before) (all_read before (parts_in false false env forms)) below is
    (rows_mean false false env forms (all_mean false false env forms) before) in
    those env before forms below known known.ending
