-- Streams that forms represent are well built: their numbers and sets are in their ranges, no stream has streams but
-- those that may follow it, and none is deeper than its form.
use Rattle.std.proofs.Common.{◌≡◌, ℕ, suc, ◌+◌, ◌≤◌, Bool, true, false, not, ◌&&◌, ◌||◌, List, [], ◌∷◌, Some, refl, subst}
use Rattle.std.proofs.Common.{arith}
use Rattle.std.proofs.lemmas.Bool.{le-leb}
use Rattle.ev_types.specs.declared.settings.Set.{Set}
use Rattle.ev_types.specs.Set.{all_fit}
use Rattle.sexp_read.specs.Written.{BareTree, BareTrees, no_trees, and_trees, bare_tree_depth, bare_depth}
use Rattle.stream_plan.specs.declared.kinds.TheConstants.{MAX_COUNT, MAX_SECS}
use Rattle.stream_plan.specs.Faults.{has_streams, has_wrong_streams}
use Rattle.stream_plan.specs.Kinds.{may_have_children, may_have_otherwise, is_by, has_idle, is_count, is_secs}
use Rattle.stream_plan.specs.Kinds.{is_in_range}
use Rattle.stream_plan.specs.Tree.{KindTree, StreamTree, stream, StreamTrees, none, also}
use Rattle.config_terms.specs.Arguments.{Env}
use Rattle.config_terms.specs.Terms.{a_ranged, a_set, AreSets, no_sets, more_sets, only}
use Rattle.config_terms.specs.declared.word.StreamWord.{StreamWord}
use Rattle.config_terms.specs.declared.word.StreamWord.TheVariants as word
use Rattle.ev_types.specs.declared.field.Field.{Field}
use Rattle.stream_plan.specs.Tree as plan
use Rattle.config_streams.specs.Sorts.{Sort, ValueOf, IsA, a_map}
use Rattle.config_streams.specs.Sorts as sort
use Rattle.config_streams.specs.Table.{row_of, most_idle, Matches}
use Rattle.config_streams.specs.Streams.{is_by as is_by_word}
use Rattle.config_streams.specs.Grammar.{and_then, else_row, IsStream, index_word, index_name, ending, passing}
use Rattle.config_streams.specs.Grammar.{where_else, AreStreams, no_streams, more_streams, with_streams}
use Rattle.config_streams.proofs.YieldLaws.{Yields, yielded}
use Rattle.sexp_config.specs.Grammar.{Said, IsTop, a_server, an_expiry, some_streams, with_names, AreTops, no_tops}
use Rattle.sexp_config.specs.Grammar.{more_tops}

-- ---- ranges

-- what holds of a value of a sort
abbrev Fits : (sort : Sort) → ValueOf sort → Type 0
Fits sort.Count count = is_count count ≡ true
Fits sort.Secs secs = is_secs secs ≡ true
Fits (sort.SetTo field) set = all_fit (set ∷ []) ≡ true
Fits sort.Sets sets = all_fit sets ≡ true
Fits (sort.Idle most) secs = (1 ≤ secs) × (secs ≤ most)
Fits _ value = Unit {0}

count_fits : (env : Env) (form : BareTree) (count : ℕ) → IsA sort.Count env form count → is_count count ≡ true
count_fits env form count (a_ranged is low high) = rw (le-leb 1 count low, le-leb count MAX_COUNT high) refl

secs_fit : (env : Env) (form : BareTree) (secs : ℕ) → IsA sort.Secs env form secs → is_secs secs ≡ true
secs_fit env form secs (a_ranged is low high) = rw (le-leb 1 secs low, le-leb secs MAX_SECS high) refl

sets_fit : (env : Env) (forms : BareTrees) (sets : List Set) → AreSets env forms sets → all_fit sets ≡ true
sets_fit env _ _ no_sets = refl
sets_fit env _ _ (more_sets {forms = forms} {sets = sets} means (a_set is fitting) others new) =
    rw (fitting, sets_fit env forms sets others) refl

fits : (sort : Sort) (env : Env) (form : BareTree) (value : ValueOf sort) → IsA sort env form value
    → Fits sort value
fits sort.Count env form value is = count_fits env form value is
fits sort.Secs env form value is = secs_fit env form value is
fits (sort.SetTo field) env form _ (a_set is fitting) = rw fitting refl
fits sort.Sets env _ sets (a_map {entries = entries} are) = sets_fit env entries sets are
fits (sort.Idle most) env _ secs (a_map (only key (a_ranged is low high))) = (low, high)
fits sort env form value is = tt

record KindFits (in_fork : Bool) (from : StreamWord) (one : KindTree) : Type 0 where
  ranges : is_in_range one ≡ true
  -- a `by` with `idle` is below no other
  outermost : (has_idle one && in_fork) ≡ false
  forks : is_by_word from ≡ is_by one

kind_fits : {in_fork : Bool} {from : StreamWord} {one : KindTree} → is_in_range one ≡ true
    → (has_idle one && in_fork) ≡ false → is_by_word from ≡ is_by one → KindFits in_fork from one
kind_fits ranges outermost forks = record { ranges = ranges; outermost = outermost; forks = forks }

idle_fits : (in_fork : Bool) (fields : List Field) (secs : ℕ) → (1 ≤ secs) × (secs ≤ most_idle in_fork)
    → KindFits in_fork word.By (plan.By fields (Some secs))
idle_fits true fields secs fit = absurd (omega arith)
idle_fits false fields secs fit = kind_fits (rw (le-leb 1 secs fit.0, le-leb secs MAX_SECS fit.1) refl) refl refl

both_true : (a b : Bool) → a ≡ true → b ≡ true → (a && b) ≡ true
both_true a b first second = rw (first, second) refl

rows_fit : (in_fork : Bool) (from : StreamWord) → Yields Fits (KindFits in_fork from) (row_of in_fork from)
unfolding row_of
rows_fit in_fork word.Index = kind_fits refl refl refl
rows_fit in_fork word.Notice = λ name _. kind_fits refl refl refl
rows_fit in_fork word.Sdo = kind_fits refl refl refl
rows_fit in_fork word.Where = λ rule _. kind_fits refl refl refl
rows_fit in_fork word.With = (λ sets fit. kind_fits fit refl refl, λ field _ set fit. kind_fits fit refl refl)
rows_fit in_fork word.Default = (λ sets fit. kind_fits fit refl refl, λ field _ set fit. kind_fits fit refl refl)
rows_fit in_fork word.Tag = λ tags _. kind_fits refl refl refl
rows_fit in_fork word.By = λ fields _. (λ secs fit. idle_fits in_fork fields secs fit, kind_fits refl refl refl)
rows_fit in_fork word.Changed = λ field _. (λ held _. kind_fits refl refl refl, kind_fits refl refl refl)
rows_fit in_fork word.Runs = λ count fit field _. kind_fits fit refl refl
rows_fit in_fork word.Throttle = λ count fit secs fits. kind_fits (both_true (is_count count) _ fit fits) refl refl
rows_fit in_fork word.Rollup = λ count fit secs fits. kind_fits (both_true (is_count count) _ fit fits) refl refl
rows_fit in_fork word.Batch = λ count fit secs fits. kind_fits (both_true (is_count count) _ fit fits) refl refl
rows_fit in_fork word.Stable = λ secs fit field _. kind_fits fit refl refl
rows_fit in_fork word.Coalesce = (λ secs fit. kind_fits fit refl refl, kind_fits refl refl refl)
rows_fit in_fork word.Smap = λ fold _. kind_fits refl refl refl
rows_fit in_fork word.FixedEvent = λ count fit. kind_fits fit refl refl
rows_fit in_fork word.MovingEvent = λ count fit. kind_fits fit refl refl
rows_fit in_fork word.FixedTime = λ secs fit. kind_fits fit refl refl
rows_fit in_fork word.MovingTime = λ secs fit. kind_fits fit refl refl
rows_fit in_fork word.Expired = kind_fits refl refl refl
rows_fit in_fork word.Tagged = λ tags _. kind_fits refl refl refl
rows_fit in_fork word.Over = λ number _. kind_fits refl refl refl
rows_fit in_fork word.Under = λ number _. kind_fits refl refl refl

-- the arguments are no deeper than their list, nor is what follows them
abbrev IsDeep : ℕ → BareTrees → Type 0
IsDeep n forms = n + bare_depth forms ≤ 64

row_fits : (in_fork : Bool) (env : Env) (from : StreamWord) (row : BareTrees) (one : KindTree) (rest : BareTrees)
    → Matches env (row_of in_fork from) row one rest → (n : ℕ) → IsDeep n row
    → KindFits in_fork from one × IsDeep n rest
row_fits in_fork env from row one rest matched n deep =
    yielded env (IsDeep n) Fits (KindFits in_fork from)
    (λ sort x forms value is d. (fits sort env x value is, omega (arith, d))) (row_of in_fork from) row one rest matched
    deep (rows_fit in_fork from)

pub row_forks : (in_fork : Bool) (env : Env) (from : StreamWord) (row : BareTrees) (one : KindTree) (rest : BareTrees)
    → Matches env (row_of in_fork from) row one rest → is_by_word from ≡ is_by one
row_forks in_fork env from row one rest matched =
    (yielded env (λ forms. Unit {0}) Fits (KindFits in_fork from)
    (λ sort x forms value is _. (fits sort env x value is, tt)) (row_of in_fork from) row one rest matched tt
    (rows_fit in_fork from)).0.forks

where_divides : (in_fork : Bool) → Yields Fits (λ one. may_have_otherwise one ≡ true) (row_of in_fork word.Where)
unfolding row_of
where_divides in_fork = λ rule _. refl

row_divides : (in_fork : Bool) (env : Env) (row : BareTrees) (one : KindTree) (rest : BareTrees)
    → Matches env (row_of in_fork word.Where) row one rest → may_have_otherwise one ≡ true
row_divides in_fork env row one rest matched =
    (yielded env (λ forms. Unit {0}) Fits (λ one. may_have_otherwise one ≡ true)
    (λ sort x forms value is _. (fits sort env x value is, tt)) (row_of in_fork word.Where) row one rest matched tt
    (where_divides in_fork)).0

-- ---- a stream that is n streams down, and in a fork or not, and those below it

abbrev mutual
  pub FitsAt : ℕ → Bool → StreamTree → Type 0
  FitsAt n in_fork (stream kind children otherwise) =
      (n ≤ 64) × (has_wrong_streams (stream kind children otherwise) ≡ false) × (is_in_range kind ≡ true)
      × ((has_idle kind && in_fork) ≡ false)
      × AllFitAt (suc n) (is_by kind || in_fork) children × AllFitAt (suc n) (is_by kind || in_fork) otherwise

  pub AllFitAt : ℕ → Bool → StreamTrees → Type 0
  AllFitAt n in_fork none = Unit {0}
  AllFitAt n in_fork (also one streams) = FitsAt n in_fork one × AllFitAt n in_fork streams

joined_fit : (n : ℕ) (in_fork : Bool) (streams others : StreamTrees) → AllFitAt n in_fork streams
    → AllFitAt n in_fork others → AllFitAt n in_fork (with_streams streams others)
joined_fit n in_fork none others all more = more
joined_fit n in_fork (also one streams) others all more = (all.0, joined_fit n in_fork streams others all.1 more)

right_streams : (may_children may_rest children rest : Bool) → may_children ≡ true → may_rest ≡ true
    → ((not may_children && children) || (not may_rest && rest)) ≡ false
right_streams may_children may_rest children rest may may_too = rw (may, may_too) refl

right_children : (may_children may_rest children : Bool) → may_children ≡ true
    → ((not may_children && children) || (not may_rest && false)) ≡ false
right_children may_children true children may = rw may refl
right_children may_children false children may = rw may refl

none_wrong : (may_children may_rest : Bool) → ((not may_children && false) || (not may_rest && false)) ≡ false
none_wrong true true = refl
none_wrong true false = refl
none_wrong false true = refl
none_wrong false false = refl

first_depth : (row others : BareTrees) → bare_depth row ≤ bare_depth (and_then row others)
first_depth no_trees others = omega arith
first_depth (and_trees form row) others = omega (arith, first_depth row others)

rest_depth : (row others : BareTrees) → bare_depth others ≤ bare_depth (and_then row others)
rest_depth no_trees others = omega arith
rest_depth (and_trees form row) others = omega (arith, rest_depth row others)

mutual
  stream_fits : (in_fork : Bool) (env : Env) (form : BareTree) (one : StreamTree) → IsStream in_fork env form one
      → (n : ℕ) → n + bare_tree_depth form ≤ 64 → FitsAt n in_fork one
  stream_fits in_fork env _ _ (index_word is) n h = (omega (arith, h), refl, refl, refl, tt, tt)
  stream_fits in_fork env _ _ (index_name is) n h = (omega (arith, h), refl, refl, refl, tt, tt)
  stream_fits in_fork env _ _ (ending {row = row} {one = one} from matched ends) n h =
      let known = row_fits in_fork env from row one no_trees matched (suc n) (omega (arith, h)) in (
        omega (arith, h),
        none_wrong (may_have_children one) (may_have_otherwise one),
        known.0.ranges,
        known.0.outermost,
        tt,
        tt,
      )
  stream_fits in_fork env _ _
      (passing {row = row} {forms = forms} {one = one} {children = children} from matched passes are) n h =
      let known = row_fits in_fork env from row one forms matched (suc n) (omega (arith, h)) in (
        omega (arith, h),
        right_children (may_have_children one) (may_have_otherwise one) (has_streams children) passes,
        known.0.ranges,
        known.0.outermost,
        subst (λ (b : Bool). AllFitAt (suc n) (b || in_fork) children) known.0.forks
            (streams_fit (is_by_word from || in_fork) env forms children are (suc n) known.1),
        tt,
      )
  stream_fits in_fork env _ _
      (where_else {row = row} {forms = forms} {rest = rest} {one = one} {children = children} {otherwise = otherwise}
      matched passes are others)
      n h =
      let known = row_fits in_fork env word.Where row one (and_then forms (else_row rest)) matched (suc n)
      (omega (arith, h)) in (
        omega (arith, h),
        right_streams (may_have_children one) (may_have_otherwise one) (has_streams children) (has_streams otherwise)
            passes
            (row_divides in_fork env row one (and_then forms (else_row rest)) matched),
        known.0.ranges,
        known.0.outermost,
        subst (λ (b : Bool). AllFitAt (suc n) (b || in_fork) children) known.0.forks
            (streams_fit in_fork env forms children are (suc n)
            (omega (arith, known.1, first_depth forms (else_row rest)))),
        subst (λ (b : Bool). AllFitAt (suc n) (b || in_fork) otherwise) known.0.forks
            (streams_fit in_fork env rest otherwise others (suc n)
            (omega (arith, known.1, rest_depth forms (else_row rest)))),
      )

  streams_fit : (in_fork : Bool) (env : Env) (forms : BareTrees) (streams : StreamTrees)
      → AreStreams in_fork env forms streams → (n : ℕ) → n + bare_depth forms ≤ 64 → AllFitAt n in_fork streams
  streams_fit in_fork env _ _ no_streams n h = tt
  streams_fit in_fork env _ _
      (more_streams {form = form} {forms = forms} {one = one} {streams = streams} is others) n h = (
        stream_fits in_fork env form one is n (omega (arith, h)),
        streams_fit in_fork env forms streams others n (omega (arith, h)),
      )

mutual
  top_fits : (env : Env) (form : BareTree) (said : Said) → IsTop env form said → bare_tree_depth form ≤ 64
      → AllFitAt 1 false said.streams
  top_fits env _ _ (a_server is) h = tt
  top_fits env _ _ (an_expiry is) h = tt
  top_fits env _ _ (some_streams {forms = forms} {streams = streams} are) h =
      streams_fit false env forms streams are 1 (omega (arith, h))
  top_fits env _ said (with_names {inner = inner} {forms = forms} known are) h =
      tops_fit inner forms said are (omega (arith, h))

  pub tops_fit : (env : Env) (forms : BareTrees) (said : Said) → AreTops env forms said → bare_depth forms ≤ 64
      → AllFitAt 1 false said.streams
  tops_fit env _ _ no_tops h = tt
  tops_fit env _ _ (more_tops {form = form} {forms = forms} {said = said} {more = more} is others) h =
      joined_fit 1 false said.streams more.streams (top_fits env form said is (omega (arith, h)))
      (tops_fit env forms more others (omega (arith, h)))
