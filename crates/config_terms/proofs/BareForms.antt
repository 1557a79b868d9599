-- Forms that are known apart from their places.
use Rattle.std.proofs.Common.{◌≡◌, ℕ, refl, ap, ◌∙◌}
use Rattle.sexp_read.specs.declared.piece.Atom.{Atom}
use Rattle.sexp_read.specs.declared.piece.Bracket.{Bracket}
use Rattle.sexp_read.specs.declared.piece.Bracket.TheVariants.{Round}
use Rattle.sexp_read.specs.Tree.{FormTree, FormTrees, Single, Group, none, also}
use Rattle.sexp_read.specs.Written.{BareTree, BareTrees, Leaf, Branch, no_trees, and_trees, bare_tree, bare_trees}

pub record IsSingle (f : FormTree) (one : Atom) : Type 0 where
  pub start : ℕ
  pub last : ℕ
  pub is : f ≡ Single one start last

pub single_of : (f : FormTree) (one : Atom) → bare_tree f ≡ Leaf one → IsSingle f one
single_of (Single a start last) one h =
    record { start = start; last = last; is = let same : a ≡ one = cc in ap (λ (x : Atom). Single x start last) same }
single_of (Group bracket forms start last) one h = cc

pub record IsGroup (f : FormTree) (bracket : Bracket) (trees : BareTrees) : Type 0 where
  pub forms : FormTrees
  pub start : ℕ
  pub last : ℕ
  pub is : f ≡ Group bracket forms start last
  pub forms_are : bare_trees forms ≡ trees

pub group_of : (f : FormTree) (bracket : Bracket) (trees : BareTrees) → bare_tree f ≡ Branch bracket trees
    → IsGroup f bracket trees
group_of (Single a start last) bracket trees h = cc
group_of (Group b forms start last) bracket trees h =
    let same : b ≡ bracket = cc in
    record {
      forms = forms;
      start = start;
      last = last;
      is = ap (λ (x : Bracket). Group x forms start last) same;
      forms_are = cc;
    }

pub record AreAlso (forms : FormTrees) (tree : BareTree) (trees : BareTrees) : Type 0 where
  pub first : FormTree
  pub rest : FormTrees
  pub are : forms ≡ also first rest
  pub first_is : bare_tree first ≡ tree
  pub rest_are : bare_trees rest ≡ trees

pub also_of : (forms : FormTrees) (tree : BareTree) (trees : BareTrees) → bare_trees forms ≡ and_trees tree trees
    → AreAlso forms tree trees
also_of none tree trees h = cc
also_of (also f rest) tree trees h = record { first = f; rest = rest; are = refl; first_is = cc; rest_are = cc }

pub none_of : (forms : FormTrees) → bare_trees forms ≡ no_trees → forms ≡ none
none_of none h = refl
none_of (also f rest) h = cc

-- a list that begins with a single form
pub record IsCall (f : FormTree) (head : Atom) (args : BareTrees) : Type 0 where
  pub begin : ℕ
  pub end : ℕ
  pub forms : FormTrees
  pub start : ℕ
  pub last : ℕ
  pub is : f ≡ Group Round (also (Single head begin end) forms) start last
  pub forms_are : bare_trees forms ≡ args

pub call_of : (f : FormTree) (head : Atom) (args : BareTrees) → bare_tree f ≡ Branch Round (and_trees (Leaf head) args)
    → IsCall f head args
call_of f head args h =
    let group = group_of f Round (and_trees (Leaf head) args) h in
    let forms = also_of group.forms (Leaf head) args group.forms_are in
    let first = single_of forms.first head forms.first_is in
    record {
      begin = first.start;
      end = first.last;
      forms = forms.rest;
      start = group.start;
      last = group.last;
      is =
          group.is
          ∙ ap (λ (fs : FormTrees). Group Round fs group.start group.last)
          (forms.are ∙ ap (λ (one : FormTree). also one forms.rest) first.is);
      forms_are = forms.rest_are;
    }
