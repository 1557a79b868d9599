-- Forms without their places, and how they are written.
use Rattle.std.specs.Prelude.{◌≡◌, ℕ, ℤ, pos, negsuc, ◌+◌, ◌<◌, ◌≤◌, ◌^◌, ◌==◌, ◌||◌, max, if◌then◌else◌, Bool, true}
use Rattle.std.specs.Prelude.{false, List, [], ◌∷◌, ◌++◌, length}
use Rattle.std.specs.Fmt.{signed_decimal}
use Rattle.std.specs.Str.{IsUtf8}
use Rattle.string_literals.specs.Literals.{string_literal}
use Rattle.sexp_read.specs.Tree.{Bracket, Round, Square, Curly, Atom, Text, Pattern, Number, Keyword, Symbol, FormTree}
use Rattle.sexp_read.specs.Tree.{FormTrees, Single, Group, none, also}
use Rattle.sexp_read.specs.Bytes.{is_name, is_symbol}
use Rattle.sexp_read.specs.Grammar.{IsForms, longest, deepest}

-- a form without its places
mutual
  pub data BareTree : Type 0 where
    Leaf : Atom → BareTree
    Branch : Bracket → BareTrees → BareTree

  pub data BareTrees : Type 0 where
    no_trees : BareTrees
    and_trees : BareTree → BareTrees → BareTrees

abbrev mutual
  pub bare_tree : FormTree → BareTree
  bare_tree (Single atom start last) = Leaf atom
  bare_tree (Group bracket forms start last) = Branch bracket (bare_trees forms)

  pub bare_trees : FormTrees → BareTrees
  bare_trees none = no_trees
  bare_trees (also form forms) = and_trees (bare_tree form) (bare_trees forms)

-- trees in a row
abbrev pub listed : List BareTree → BareTrees
listed [] = no_trees
listed (tree ∷ trees) = and_trees tree (listed trees)

-- how many brackets are open at once at most
abbrev mutual
  pub bare_tree_depth : BareTree → ℕ
  bare_tree_depth (Leaf atom) = 0
  bare_tree_depth (Branch bracket trees) = 1 + bare_depth trees

  pub bare_depth : BareTrees → ℕ
  bare_depth no_trees = 0
  bare_depth (and_trees tree trees) = max (bare_tree_depth tree) (bare_depth trees)

-- a text as a literal, a pattern in quotes after a `#`, a number in decimal, a keyword after a colon
abbrev pub atom_text : Atom → List ℕ
atom_text (Text text) = string_literal text
atom_text (Pattern text) = 35 ∷ 34 ∷ (text ++ 34 ∷ [])
atom_text (Number number) = signed_decimal number
atom_text (Keyword name) = 58 ∷ name
atom_text (Symbol name) = name

abbrev pub opening : Bracket → ℕ
opening Round = 40
opening Square = 91
opening Curly = 123

abbrev pub closing : Bracket → ℕ
closing Round = 41
closing Square = 93
closing Curly = 125

abbrev mutual
  pub tree_text : BareTree → List ℕ
  tree_text (Leaf atom) = atom_text atom
  tree_text (Branch bracket trees) = opening bracket ∷ (between_text trees ++ closing bracket ∷ [])

  -- single spaces between
  pub between_text : BareTrees → List ℕ
  between_text no_trees = []
  between_text (and_trees tree trees) = tree_text tree ++ later_text trees

  pub later_text : BareTrees → List ℕ
  later_text no_trees = []
  later_text (and_trees tree trees) = 32 ∷ (tree_text tree ++ later_text trees)

-- each on a line of its own
abbrev pub lines_text : BareTrees → List ℕ
lines_text no_trees = []
lines_text (and_trees tree trees) = tree_text tree ++ 10 ∷ lines_text trees

-- every backslash has a byte after it, and every quote such a backslash before it
abbrev pub is_pattern : List ℕ → Bool
is_pattern [] = true
is_pattern (b ∷ []) = if b == 34 || b == 92 then false else true
is_pattern (b ∷ c ∷ bytes) =
    if b == 34 then false
    else (if b == 92 then is_pattern bytes
    else is_pattern (c ∷ bytes))

abbrev pub IsWithin64 : ℤ → Type 0
IsWithin64 (pos n) = n < 2 ^ 63
IsWithin64 (negsuc n) = n < 2 ^ 63

-- the atoms that a text can hold
abbrev pub IsWritable : Atom → Type 0
IsWritable (Text text) = IsUtf8 text
IsWritable (Pattern text) = IsUtf8 text × (is_pattern text ≡ true)
IsWritable (Number number) = IsWithin64 number
IsWritable (Keyword name) = is_name name ≡ true
IsWritable (Symbol name) = is_symbol name ≡ true

abbrev mutual
  pub IsWritableTree : BareTree → Type 0
  IsWritableTree (Leaf atom) = IsWritable atom
  IsWritableTree (Branch bracket trees) = AreWritable trees

  pub AreWritable : BareTrees → Type 0
  AreWritable no_trees = Unit {0}
  AreWritable (and_trees tree trees) = IsWritableTree tree × AreWritable trees

-- the text is forms that are these apart from their places
pub record IsReadBack (text : List ℕ) (trees : BareTrees) : Type 0 where
  pub forms : FormTrees
  pub read : IsForms text forms
  pub same : bare_trees forms ≡ trees

-- what is written of trees is read as these trees
abbrev pub WrittenIsRead : Type 0
WrittenIsRead =
    (trees : BareTrees) → AreWritable trees → bare_depth trees ≤ deepest → length (lines_text trees) ≤ longest
    → IsReadBack (lines_text trees) trees

-- what was read can be written
abbrev pub ReadIsWritable : Type 0
ReadIsWritable = (text : List ℕ) (forms : FormTrees) → IsForms text forms
    → AreWritable (bare_trees forms) × (bare_depth (bare_trees forms) ≤ deepest)
