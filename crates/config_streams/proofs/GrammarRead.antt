-- Streams of the grammar are read.
use Rattle.std.proofs.Common.{◌≡◌, ℕ, zero, suc, Bool, true, false, ◌||◌, codes, List, drop, Option, Some, None, Result}
use Rattle.std.proofs.Common.{Ok, refl, ap, sym, ◌∙◌}
use Rattle.sexp_read.specs.declared.piece.Atom.TheVariants as atom
use Rattle.sexp_read.specs.declared.piece.Bracket.TheVariants.{Round}
use Rattle.sexp_read.specs.Tree.{FormTree, FormTrees, Single, Group, none, also}
use Rattle.sexp_read.specs.Written.{BareTree, BareTrees, no_trees, and_trees, bare_tree, bare_trees}
use Rattle.stream_plan.specs.Kinds.{may_have_children}
use Rattle.stream_plan.specs.Tree.{KindTree, StreamTree, stream, StreamTrees}
use Rattle.stream_plan.specs.Tree as plan
use Rattle.config_terms.specs.declared.binding.Bound.{Bound}
use Rattle.config_terms.specs.declared.word.StreamWord.{StreamWord}
use Rattle.config_terms.specs.declared.word.StreamWord.TheVariants as word
use Rattle.config_terms.specs.Code.{later, next_of}
use Rattle.config_terms.specs.Steps.{Fault, ◌>>=◌, nth, at_most}
use Rattle.config_terms.specs.Words.{stream_text, stream_word, else_text}
use Rattle.config_terms.specs.Arguments.{Env, bound_value}
use Rattle.config_terms.specs.Grammar.{worded}
use Rattle.config_terms.proofs.BareForms.{single_of, also_of, none_of, call_of}
use Rattle.config_terms.proofs.NameLaws.{stream_found}
use Rattle.config_terms.proofs.GrammarRead.{one_of}
use Rattle.config_streams.specs.Table.{row_of, read, Matches}
use Rattle.config_streams.specs.Sources.{SourceTree, SourceTrees, source}
use Rattle.config_streams.specs.Sources as sources
use Rattle.config_streams.specs.Streams as read_
use Rattle.config_streams.specs.Streams.{Located, Below, nothing, Part, One, Rest, with_stream, with_child, Readings}
use Rattle.config_streams.specs.Streams.{symbol_by, rest_of, is_where, is_by, is_where_in, is_by_in, part_at}
use Rattle.config_streams.specs.Streams.{parts_in, all_read}
use Rattle.config_streams.specs.Grammar.{and_then, else_row, IsStream, index_word, index_name, ending, passing}
use Rattle.config_streams.specs.Grammar.{where_else, AreStreams, no_streams, more_streams, with_streams, IsGrown}
use Rattle.config_streams.specs.Grammar.{StreamsAreRead}
use Rattle.config_streams.proofs.StreamLaws.{parts_more, parts_later}
use Rattle.config_streams.proofs.TableLaws.{row_read}

-- ---- streams in a row

pub with_none : (streams : StreamTrees) → with_streams streams plan.none ≡ streams
with_none plan.none = refl
with_none (plan.also one streams) = ap (plan.also one) (with_none streams)

pub with_more : (front : StreamTrees) (one : StreamTree) (later : StreamTrees)
    → with_streams (with_stream front one) later ≡ with_streams front (plan.also one later)
with_more plan.none one later = refl
with_more (plan.also first front) one later = ap (plan.also first) (with_more front one later)

then_none : (row : BareTrees) → row ≡ and_then row no_trees
then_none no_trees = refl
then_none (and_trees form row) = ap (and_trees form) (then_none row)

-- ---- one form

symbol_part : (may_else in_fork : Bool) (env : Env) (name : List ℕ) (start last : ℕ)
    → part_at may_else in_fork env (Single (atom.Symbol name) start last) ≡ symbol_by (bound_value name env) name start
unfolding part_at
symbol_part may_else in_fork env name start last = refl

call_part : (may_else in_fork : Bool) (env : Env) (name : List ℕ) (begin end : ℕ) (forms : FormTrees) (start last : ℕ)
    → part_at may_else in_fork env (Group Round (also (Single (atom.Symbol name) begin end) forms) start last)
    ≡ read_.worded may_else in_fork env name (stream_word name) start forms
    (parts_in (is_where_in (stream_word name)) (is_by_in (stream_word name) || in_fork) env forms)
unfolding part_at parts_in
call_part may_else in_fork env name begin end forms start last = refl

abbrev no_sources : ℕ → SourceTree
no_sources start = source start sources.none sources.none

abbrev index : StreamTree
index = stream plan.Index plan.none plan.none

record PartRead (may_else in_fork : Bool) (env : Env) (f : FormTree) (one : StreamTree) : Type 0 where
  place : SourceTree
  is : part_at may_else in_fork env f ≡ Ok (One one place)

-- a list that begins with a name, which is this word if it is one
record Worded (may_else in_fork : Bool) (env : Env) (f : FormTree) (name : List ℕ) (from : Option StreamWord)
    (args : BareTrees) : Type 0 where
  forms : FormTrees
  start : ℕ
  forms_are : bare_trees forms ≡ args
  is : part_at may_else in_fork env f
      ≡ read_.worded may_else in_fork env name from start forms
      (parts_in (is_where_in from) (is_by_in from || in_fork) env forms)

worded_part : (may_else in_fork : Bool) (env : Env) (f : FormTree) (name : List ℕ) (from : Option StreamWord)
    (args : BareTrees)
    → stream_word name ≡ from → bare_tree f ≡ worded name args → Worded may_else in_fork env f name from args
worded_part may_else in_fork env f name from args named h =
    let call = call_of f (atom.Symbol name) args h in
    record {
      forms = call.forms;
      start = call.start;
      forms_are = call.forms_are;
      is =
          ap (part_at may_else in_fork env) call.is
          ∙ call_part may_else in_fork env name call.begin call.end call.forms call.start call.last
          ∙ ap
          (λ (one : Option StreamWord).
          read_.worded may_else in_fork env name one call.start call.forms
          (parts_in (is_where_in one) (is_by_in one || in_fork) env call.forms))
          named;
    }

abbrev made : KindTree → ℕ → Below → Result Part Fault
made one start below =
    Ok (One (stream one below.children.streams below.otherwise.streams)
    (source start below.children.places below.otherwise.places))

kind_part : (may_else in_fork : Bool) (env : Env) (from : StreamWord) (start own : ℕ) (forms : FormTrees)
    (readings : Readings) (one : KindTree)
    → read (row_of in_fork from) env start 0 forms ≡ Ok (one, own)
    → may_have_children one ≡ true
    → read_.worded may_else in_fork env (stream_text from) (Some from) start forms readings
    ≡ (all_read nothing (drop own readings) >>= made one start)
unfolding read_.worded
kind_part may_else in_fork env from start own forms readings one is passes = rw (is, passes) refl

ending_part : (may_else in_fork : Bool) (env : Env) (from : StreamWord) (start own : ℕ) (forms : FormTrees)
    (readings : Readings) (one : KindTree)
    → read (row_of in_fork from) env start 0 forms ≡ Ok (one, own)
    → may_have_children one ≡ false → nth own forms ≡ None
    → read_.worded may_else in_fork env (stream_text from) (Some from) start forms readings
    ≡ Ok (One (stream one plan.none plan.none) (no_sources start))
unfolding read_.worded at_most
ending_part may_else in_fork env from start own forms readings one is ends over =
    rw (is, ends, over) refl

none_later : (n : ℕ) (forms : FormTrees) → later n forms ≡ none → nth n forms ≡ None
none_later n none h = refl
none_later zero (also f forms) h = cc
none_later (suc n) (also f forms) h = none_later n forms h

-- ---- the streams of `else`

else_is_no_word : stream_word else_text ≡ None
unfolding stream_word
else_is_no_word = refl

else_part : (env : Env) (in_fork : Bool) (start : ℕ) (forms : FormTrees) (readings : Readings)
    → read_.worded true in_fork env else_text None start forms readings ≡ rest_of readings
unfolding read_.worded
else_part env in_fork start forms readings = refl

abbrev with_rest : Below → Located → Below
with_rest below located = record { children = below.children; otherwise = located }

ends : (in_fork : Bool) (env : Env) (below : Below) (e : FormTree) (located : Located) → part_at true in_fork env e
    ≡ Ok (Rest located)
    → all_read below (parts_in true in_fork env (also e none)) ≡ Ok (with_rest below located)
unfolding all_read parts_in
ends in_fork env below e located is = rw is refl

no_parts : (may_else in_fork : Bool) (env : Env) (below : Below) → all_read below (parts_in may_else in_fork env none)
    ≡ Ok below
unfolding all_read parts_in
no_parts may_else in_fork env below = refl

-- ---- streams

-- the streams are read, and the rest of the forms are these
record Passed (may_else in_fork : Bool) (env : Env) (before : Below) (forms : FormTrees) (streams : StreamTrees)
    (tail : BareTrees) : Type 0 where
  below : Below
  rest : FormTrees
  rest_are : bare_trees rest ≡ tail
  same : all_read before (parts_in may_else in_fork env forms) ≡ all_read below (parts_in may_else in_fork env rest)
  grown : IsGrown before streams below

all_passed : (may_else in_fork : Bool) (env : Env) (before : Below) (forms : FormTrees) (streams : StreamTrees)
    → (known : Passed may_else in_fork env before forms streams no_trees)
    → all_read before (parts_in may_else in_fork env forms) ≡ Ok known.below
all_passed may_else in_fork env before forms streams known =
    known.same
    ∙ ap (λ (fs : FormTrees). all_read known.below (parts_in may_else in_fork env fs))
    (none_of known.rest known.rest_are)
    ∙ no_parts may_else in_fork env known.below

-- streams, and those of an `else` after them where they may be there
record Ended (may_else in_fork : Bool) (env : Env) (forms : FormTrees) (children otherwise : StreamTrees) : Type 0 where
  below : Below
  read : all_read nothing (parts_in may_else in_fork env forms) ≡ Ok below
  children_are : below.children.streams ≡ children
  otherwise_are : below.otherwise.streams ≡ otherwise

passed_ended : (may_else in_fork : Bool) (env : Env) (forms : FormTrees) (children : StreamTrees)
    → Passed may_else in_fork env nothing forms children no_trees
    → Ended may_else in_fork env forms children plan.none
passed_ended may_else in_fork env forms children known =
    record {
      below = known.below;
      read = all_passed may_else in_fork env nothing forms children known;
      children_are = known.grown.children;
      otherwise_are = ap (λ (located : Located). located.streams) known.grown.otherwise;
    }

list_part : (may_else in_fork : Bool) (env : Env) (f : FormTree) (from : StreamWord) (row rest : BareTrees)
    (one : KindTree) (children otherwise : StreamTrees)
    → Matches env (row_of in_fork from) row one rest → may_have_children one ≡ true
    → ((fs : FormTrees) → bare_trees fs ≡ rest → Ended (is_where from)
    (is_by from || in_fork) env fs children otherwise)
    → bare_tree f ≡ worded (stream_text from) row → PartRead may_else in_fork env f (stream one children otherwise)
list_part may_else in_fork env f from row rest one children otherwise matched passes end h =
    let part = worded_part may_else in_fork env f (stream_text from) (Some from) row (stream_found from) h in
    let led = row_read env (row_of in_fork from) row one rest matched 0 part.forms part.forms_are in
    let m = is_where from in
    let b = is_by from || in_fork in
    let known = end (later led.own part.forms) led.rest_are in
    let below = known.below in
    record {
      place = source part.start below.children.places below.otherwise.places;
      is =
          part.is
          ∙ kind_part may_else in_fork env from part.start led.own part.forms (parts_in m b env part.forms) one
          (led.is part.start) passes
          ∙ ap (λ (readings : Readings). all_read nothing readings >>= made one part.start)
          (sym (parts_later m b env led.own part.forms (later led.own part.forms) refl))
          ∙ ap (λ (found : Result Below Fault). found >>= made one part.start) known.read
          ∙ ap (λ (s : StreamTree). Ok (One s (source part.start below.children.places below.otherwise.places)))
          (ap (λ (streams : StreamTrees). stream one streams below.otherwise.streams) known.children_are
          ∙ ap (stream one children) known.otherwise_are);
    }

end_part : (may_else in_fork : Bool) (env : Env) (f : FormTree) (from : StreamWord) (row : BareTrees) (one : KindTree)
    → Matches env (row_of in_fork from) row one no_trees → may_have_children one ≡ false
    → bare_tree f ≡ worded (stream_text from) row → PartRead may_else in_fork env f (stream one plan.none plan.none)
end_part may_else in_fork env f from row one matched ends h =
    let part = worded_part may_else in_fork env f (stream_text from) (Some from) row (stream_found from) h in
    let led = row_read env (row_of in_fork from) row one no_trees matched 0 part.forms part.forms_are in
    record {
      place = no_sources part.start;
      is =
          part.is
          ∙ ending_part may_else in_fork env from part.start led.own part.forms
          (parts_in (is_where from) (is_by from || in_fork) env part.forms) one (led.is part.start) ends
          (none_later led.own part.forms (none_of (later led.own part.forms) led.rest_are));
    }

record ElseRead (in_fork : Bool) (env : Env) (e : FormTree) (otherwise : StreamTrees) : Type 0 where
  located : Located
  streams_are : located.streams ≡ otherwise
  is : part_at true in_fork env e ≡ Ok (Rest located)

else_read : (in_fork : Bool) (env : Env) (e : FormTree) (rest : BareTrees) (otherwise : StreamTrees)
    → ((m : Bool) (fs : FormTrees) → bare_trees fs ≡ rest → Passed m in_fork env nothing fs otherwise no_trees)
    → bare_tree e ≡ worded else_text rest → ElseRead in_fork env e otherwise
else_read in_fork env e rest otherwise pass h =
    let part = worded_part true in_fork env e else_text None rest else_is_no_word h in
    let known = pass false part.forms part.forms_are in
    record {
      located = known.below.children;
      streams_are = known.grown.children;
      is = part.is ∙ else_part env in_fork part.start part.forms (parts_in false in_fork env part.forms)
          ∙ ap (λ (found : Result Below Fault). found >>= λ below. Ok (Rest below.children))
          (all_passed false in_fork env nothing part.forms otherwise known);
    }

ended_of : (in_fork : Bool) (env : Env) (forms : FormTrees) (children otherwise : StreamTrees) (rest : BareTrees)
    → Passed true in_fork env nothing forms children (else_row rest)
    → ((m : Bool) (fs : FormTrees) → bare_trees fs ≡ rest → Passed m in_fork env nothing fs otherwise no_trees)
    → Ended true in_fork env forms children otherwise
ended_of in_fork env forms children otherwise rest known pass =
    let one = one_of known.rest (worded else_text rest) known.rest_are in
    let last = else_read in_fork env one.a rest otherwise pass one.a_is in
    record {
      below = with_rest known.below last.located;
      read =
          known.same ∙ ap (λ (fs : FormTrees). all_read known.below (parts_in true in_fork env fs)) one.are
          ∙ ends in_fork env known.below one.a last.located last.is;
      children_are = known.grown.children;
      otherwise_are = last.streams_are;
    }

row_more : (may_else in_fork : Bool) (env : Env) (before : Below) (forms : FormTrees) (form : BareTree)
    (row tail : BareTrees)
    (one : StreamTree) (streams : StreamTrees)
    → ((f : FormTree) → bare_tree f ≡ form → PartRead may_else in_fork env f one)
    → ((more : Below) (fs : FormTrees) → bare_trees fs ≡ and_then row tail
    → Passed may_else in_fork env more fs streams tail)
    → bare_trees forms ≡ and_trees form (and_then row tail)
    → Passed may_else in_fork env before forms (plan.also one streams) tail
row_more may_else in_fork env before forms form row tail one streams part pass h =
    let first = also_of forms form (and_then row tail) h in
    let known = part first.first first.first_is in
    let later = pass (with_child before one known.place) first.rest first.rest_are in
    record {
      below = later.below;
      rest = later.rest;
      rest_are = later.rest_are;
      same =
          parts_more may_else in_fork env before (with_child before one known.place) forms first.rest first.first
          (One one known.place) (next_of first.rest) first.are known.is refl refl
          ∙ later.same;
      grown = record {
        children = later.grown.children ∙ with_more before.children.streams one streams;
        otherwise = later.grown.otherwise;
      };
    }

mutual
  stream_read : (in_fork : Bool) (env : Env) (form : BareTree) (one : StreamTree) → IsStream in_fork env form one
      → (may_else : Bool) (f : FormTree) → bare_tree f ≡ form → PartRead may_else in_fork env f one
  stream_read in_fork env _ _ (index_word is) may_else f h =
      let single = single_of f (atom.Symbol (codes "index")) h in
      record {
        place = no_sources single.start;
        is =
            ap (part_at may_else in_fork env) single.is
            ∙ symbol_part may_else in_fork env (codes "index") single.start single.last
            ∙ ap (λ (held : Option Bound). symbol_by held (codes "index") single.start) is;
      }
  stream_read in_fork env _ _ (index_name {name = name} is) may_else f h =
      let single = single_of f (atom.Symbol name) h in
      record {
        place = no_sources single.start;
        is =
            ap (part_at may_else in_fork env) single.is ∙ symbol_part may_else in_fork env name single.start single.last
            ∙ ap (λ (held : Option Bound). symbol_by held name single.start) is;
      }
  stream_read in_fork env _ _ (ending {row = row} {one = one} from matched ends) may_else f h =
      end_part may_else in_fork env f from row one matched ends h
  stream_read in_fork env _ _
      (passing {row = row} {forms = forms} {one = one} {children = children} from matched passes are)
      may_else f h =
      let b = is_by from || in_fork in
      list_part may_else in_fork env f from row forms one children plan.none matched passes
      (λ fs at. passed_ended (is_where from) b env fs children
      (streams_read b env forms children are (is_where from) fs nothing no_trees (at ∙ then_none forms))) h
  stream_read in_fork env _ _
      (where_else {row = row} {forms = forms} {rest = rest} {one = one} {children = children} {otherwise = otherwise}
      matched passes are others)
      may_else f h =
      list_part may_else in_fork env f word.Where row (and_then forms (else_row rest)) one children otherwise matched
      passes
      (λ fs at.
      ended_of in_fork env fs children otherwise rest
      (streams_read in_fork env forms children are true fs nothing (else_row rest) at)
      (λ m gs to. streams_read in_fork env rest otherwise others m gs nothing no_trees (to ∙ then_none rest))) h

  streams_read : (in_fork : Bool) (env : Env) (row : BareTrees) (streams : StreamTrees)
      → AreStreams in_fork env row streams
      → (may_else : Bool) (forms : FormTrees) (before : Below) (tail : BareTrees) → bare_trees forms ≡ and_then row tail
      → Passed may_else in_fork env before forms streams tail
  streams_read in_fork env _ _ no_streams may_else forms before tail h =
      record {
        below = before;
        rest = forms;
        rest_are = h;
        same = refl;
        grown = record { children = sym (with_none before.children.streams); otherwise = refl };
      }
  streams_read in_fork env _ _ (more_streams {form = form} {forms = row} {one = one} {streams = streams} is others)
      may_else
      forms before tail h =
      row_more may_else in_fork env before forms form row tail one streams
      (stream_read in_fork env form one is may_else)
      (λ more fs at. streams_read in_fork env row streams others may_else fs more tail at) h

pub streams_are_read : StreamsAreRead
streams_are_read env before forms streams are =
    let known =
    streams_read false env (bare_trees forms) streams are false forms before no_trees (then_none (bare_trees forms)) in
    record { below = known.below; read = all_passed false false env before forms streams known; grown = known.grown }
