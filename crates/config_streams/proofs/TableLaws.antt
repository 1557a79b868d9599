-- What is read by a row is what the grammar says of it.
use Rattle.std.proofs.Common.{◌≡◌, ℕ, zero, suc}
use Rattle.std.proofs.Common.{Ok, refl, ap, sym, subst, ◌∙◌}
use Rattle.sexp_read.specs.declared.piece.Atom.TheVariants as atom
use Rattle.sexp_read.specs.declared.piece.Bracket.TheVariants.{Curly}
use Rattle.sexp_read.specs.Tree.{FormTree, FormTrees, Single, Group, none, also}
use Rattle.sexp_read.specs.Written.{BareTree, BareTrees, and_trees, bare_tree, bare_trees}
use Rattle.stream_plan.specs.Tree.{KindTree}
use Rattle.config_terms.specs.Code.{later}
use Rattle.config_terms.specs.Steps.{nth, argument}
use Rattle.config_terms.specs.Arguments.{Env, argument_of}
use Rattle.config_terms.proofs.Outcomes.{OkGood, bind_good, ok_from, ok_if, weaker}
use Rattle.config_streams.specs.Sorts.{Sort, ValueOf, IsA, read_as}
use Rattle.config_streams.specs.Table.{Row, gives, takes, next_is, Ahead, AMap, ANumber, is_ahead, bare_ahead, read_argument, Matches, made, taken, there, absent, read}
use Rattle.config_streams.proofs.SortLaws.{sorts_are_read}

-- the form of a number is the first of the forms that are later

record Splits (n : ℕ) (forms : FormTrees) (x : BareTree) (row : BareTrees) : Type 0 where
  f : FormTree
  at : (start : ℕ) → argument start n forms ≡ Ok f
  f_is : bare_tree f ≡ x
  rest_are : bare_trees (later (suc n) forms) ≡ row

splits : (n : ℕ) (forms : FormTrees) (x : BareTree) (row : BareTrees)
    → bare_trees (later n forms) ≡ and_trees x row → Splits n forms x row
unfolding argument
splits zero none x row h = cc
splits (suc n) none x row h = cc
splits zero (also f forms) x row h = record { f = f; at = λ start. refl; f_is = cc; rest_are = cc }
splits (suc n) (also f forms) x row h =
    let known = splits n forms x row h in
    record { f = known.f; at = known.at; f_is = known.f_is; rest_are = known.rest_are }

argument_splits : (start n : ℕ) (forms : FormTrees)
    → OkGood (λ f. bare_trees (later n forms) ≡ and_trees (bare_tree f) (bare_trees (later (suc n) forms)))
    (argument start n forms)
unfolding argument
argument_splits start n none = tt
argument_splits start zero (also f forms) = refl
argument_splits start (suc n) (also f forms) = argument_splits start n forms

argument_is : (start n : ℕ) (forms : FormTrees) (sort : Sort) (env : Env) (f : FormTree) (value : ValueOf sort)
    → argument start n forms ≡ Ok f → read_as sort env f ≡ Ok value → read_argument sort env start n forms ≡ Ok value
unfolding read_argument
argument_is start n forms sort env f value at is = rw (at, is) refl

ahead_same : (ahead : Ahead) (env : Env) (n : ℕ) (forms : FormTrees)
    → is_ahead ahead env (nth n forms) ≡ bare_ahead ahead env (bare_trees (later n forms))
unfolding argument_of
ahead_same AMap env zero none = refl
ahead_same ANumber env zero none = refl
ahead_same AMap env (suc n) none = refl
ahead_same ANumber env (suc n) none = refl
ahead_same ahead env (suc n) (also f forms) = ahead_same ahead env n forms
ahead_same AMap env zero (also (Group Curly entries start last) forms) = refl
ahead_same AMap env zero (also f forms) = refl
ahead_same ANumber env zero (also (Single (atom.Number number) start last) forms) = refl
ahead_same ANumber env zero (also f forms) = refl

-- such arguments are read, and these forms are left
pub record IsRead (env : Env) (row : Row) (n : ℕ) (forms : FormTrees) (one : KindTree) (rest : BareTrees) : Type 0 where
  pub own : ℕ
  pub is : (start : ℕ) → read row env start n forms ≡ Ok (one, own)
  pub rest_are : bare_trees (later own forms) ≡ rest

pub row_read : (env : Env) (row : Row) (xs : BareTrees) (one : KindTree) (rest : BareTrees)
    → Matches env row xs one rest
    → (n : ℕ) (forms : FormTrees) → bare_trees (later n forms) ≡ xs → IsRead env row n forms one rest
row_read env _ _ one rest made n forms h = record { own = n; is = λ start. refl; rest_are = h }
row_read env _ _ one rest (taken {sort = sort} {row = row} {x = x} {forms = xs} value is matched) n forms h =
    let at = splits n forms x xs h in
    let known = row_read env (row value) xs one rest matched (suc n) forms at.rest_are in
    let f_reads = (sorts_are_read sort env at.f value).0
    (subst (λ (t : BareTree). IsA sort env t value) (sym at.f_is) is) in
    record {
      own = known.own;
      is = λ start. rw (argument_is start n forms sort env at.f value (at.at start) f_reads) (known.is start);
      rest_are = known.rest_are;
    }
row_read env _ _ one rest (there {ahead = ahead} {row = row} {other = other} {forms = xs} is matched) n forms h =
    let known = row_read env row xs one rest matched n forms h in
    record {
      own = known.own;
      is = λ start. rw (ahead_same ahead env n forms ∙ ap (bare_ahead ahead env) h ∙ is) (known.is start);
      rest_are = known.rest_are;
    }
row_read env _ _ one rest (absent {ahead = ahead} {row = row} {other = other} {forms = xs} is matched) n forms h =
    let known = row_read env other xs one rest matched n forms h in
    record {
      own = known.own;
      is = λ start. rw (ahead_same ahead env n forms ∙ ap (bare_ahead ahead env) h ∙ is) (known.is start);
      rest_are = known.rest_are;
    }

record IsFirst (sort : Sort) (env : Env) (n : ℕ) (forms : FormTrees) (value : ValueOf sort) : Type 0 where
  x : BareTree
  is : IsA sort env x value
  are : bare_trees (later n forms) ≡ and_trees x (bare_trees (later (suc n) forms))

argument_means : (sort : Sort) (env : Env) (start n : ℕ) (forms : FormTrees)
    → OkGood (IsFirst sort env n forms) (read_argument sort env start n forms)
unfolding read_argument
argument_means sort env start n forms =
    bind_good (λ f. bare_trees (later n forms) ≡ and_trees (bare_tree f) (bare_trees (later (suc n) forms)))
    (IsFirst sort env n forms) (argument start n forms) (read_as sort env) (argument_splits start n forms)
    (λ f are. ok_from (IsFirst sort env n forms) (read_as sort env f)
    (λ value is. record { x = bare_tree f; is = (sorts_are_read sort env f value).1 is; are = are }))

abbrev pub RowMatches : Env → Row → ℕ → FormTrees → KindTree × ℕ → Type 0
RowMatches env row n forms found = Matches env row (bare_trees (later n forms)) found.0
    (bare_trees (later found.1 forms))

pub row_matches : (row : Row) (env : Env) (start n : ℕ) (forms : FormTrees)
    → OkGood (RowMatches env row n forms) (read row env start n forms)
row_matches (gives one) env start n forms = made
row_matches (takes sort row) env start n forms =
    bind_good (IsFirst sort env n forms) (RowMatches env (takes sort row) n forms)
    (read_argument sort env start n forms) _
    (argument_means sort env start n forms)
    (λ value first. weaker (RowMatches env (row value) (suc n) forms) (RowMatches env (takes sort row) n forms)
    (read (row value) env start (suc n) forms)
    (λ found matched. subst (λ (xs : BareTrees). Matches env (takes sort row) xs found.0
    (bare_trees (later found.1 forms)))
    (sym first.are) (taken value first.is matched))
    (row_matches (row value) env start (suc n) forms))
row_matches (next_is ahead row other) env start n forms =
    ok_if (RowMatches env (next_is ahead row other) n forms) (is_ahead ahead env (nth n forms)) _ _
    (λ is. weaker (RowMatches env row n forms) (RowMatches env (next_is ahead row other) n forms)
    (read row env start n forms) (λ found matched. there (sym (ahead_same ahead env n forms) ∙ is) matched)
    (row_matches row env start n forms))
    (λ is. weaker (RowMatches env other n forms) (RowMatches env (next_is ahead row other) n forms)
    (read other env start n forms) (λ found matched. absent (sym (ahead_same ahead env n forms) ∙ is) matched)
    (row_matches other env start n forms))
