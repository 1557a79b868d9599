-- What is written of trees is read as these trees.
use Rattle.std.proofs.Common.{◌≡◌, ℕ, ℤ, pos, negsuc, suc, ◌+◌, ◌<◌, ◌≤◌, List, [], ◌∷◌, ◌++◌, length, None, refl, ap}
use Rattle.std.proofs.Common.{sym, ◌∙◌, subst, arith, append_assoc, length-append, ⊎_elim}
use Rattle.std.proofs.lemmas.Bool.Decides.{eqb_tells}
use Rattle.std.proofs.lemmas.Fmt.{IsAscii-decimal}
use Rattle.std.proofs.lemmas.List.{append-nil}
use Rattle.std.proofs.lemmas.Str.{IsUtf8-append, IsUtf8-from_ascii}
use Rattle.std.proofs.lemmas.Str.Ascii.{IsAscii-nil, IsAscii-cons}
use Rattle.std.specs.Fmt.{decimal, signed_decimal}
use Rattle.std.specs.List.{flat_map}
use Rattle.std.specs.Str.{IsUtf8}
use Rattle.sexp_read.specs.declared.piece.Piece.TheVariants.{Blank, Opening, Closing}
use Rattle.sexp_read.specs.Tree.{Bracket, Round, Square, Curly, Atom, Text, Pattern, Number, Keyword, Symbol, FormTree}
use Rattle.sexp_read.specs.Tree.{FormTrees, Single, Group, none, also}
use Rattle.sexp_read.specs.Tokens.{Token, Opened, Closed, Lexed, lexed_from, lexed, with_tokens, piece_at}
use Rattle.sexp_read.specs.Grammar.{form_spelling, spelling, form_depth, depth, deepest, longest}
use Rattle.string_literals.specs.Literals.{escape as byte_text}
use Rattle.sexp_read.specs.Written.{BareTree, BareTrees, Leaf, Branch, no_trees, and_trees, bare_tree, bare_trees}
use Rattle.sexp_read.specs.Written.{bare_tree_depth, bare_depth, atom_text, opening, closing, tree_text, between_text}
use Rattle.sexp_read.specs.Written.{later_text, lines_text, IsWithin64, IsWritable, IsWritableTree, AreWritable}
use Rattle.sexp_read.specs.Written.{IsReadBack}
use Rattle.sexp_read.proofs.Ascii.{symbol_is_utf8, keyword_is_utf8}
use Rattle.sexp_read.proofs.QuotedText.{before_ascii, following_ascii}
use Rattle.sexp_read.proofs.WrittenAtoms.{Ends, ReadsBack, piece_read, atom_read}

-- one after another

with_both : (a b : List Token) (l : Lexed) → with_tokens a (with_tokens b l) ≡ with_tokens (a ++ b) l
with_both a b l =
    ap (λ (tokens : List Token). record { tokens = tokens; fault = l.fault }) (sym (append_assoc a b l.tokens))

reads_both : (place next : ℕ) (a b rest : List ℕ) (s t : List Token) → next ≡ place + length a
    → ReadsBack place a (b ++ rest) s → ReadsBack next b rest t → ReadsBack place (a ++ b) rest (s ++ t)
reads_both place next a b rest s t at first second =
    let size : next + length b ≡ place + length (a ++ b) = omega (arith, length-append a b) in
    let following =
    subst (λ (n : ℕ). lexed_from n n (b ++ rest) ≡ with_tokens t (lexed_from (next + length b) (next + length b) rest))
    at second.is in
    record {
      is =
          ap (lexed_from place place) (append_assoc a b rest) ∙ first.is ∙ ap (with_tokens s) following
          ∙ with_both s t (lexed_from (next + length b) (next + length b) rest)
          ∙ ap (λ (n : ℕ). with_tokens (s ++ t) (lexed_from n n rest)) size;
    }

reads_nothing : (place : ℕ) (rest : List ℕ) → ReadsBack place [] rest []
reads_nothing place rest = record { is = ap (λ (n : ℕ). lexed_from n n rest) (omega arith) }

opening_piece : (bracket : Bracket) (place : ℕ) (rest : List ℕ)
    → ReadsBack place (opening bracket ∷ []) rest (Opened bracket place ∷ [])
unfolding piece_at
opening_piece Round place rest = piece_read place 40 [] rest (Opening Round) refl
opening_piece Square place rest = piece_read place 91 [] rest (Opening Square) refl
opening_piece Curly place rest = piece_read place 123 [] rest (Opening Curly) refl

closing_piece : (bracket : Bracket) (place : ℕ) (rest : List ℕ)
    → ReadsBack place (closing bracket ∷ []) rest (Closed bracket (place + 1) ∷ [])
unfolding piece_at
closing_piece Round place rest = piece_read place 41 [] rest (Closing Round) refl
closing_piece Square place rest = piece_read place 93 [] rest (Closing Square) refl
closing_piece Curly place rest = piece_read place 125 [] rest (Closing Curly) refl

blank_piece : (place : ℕ) (rest : List ℕ) → ReadsBack place (32 ∷ []) rest []
unfolding piece_at
blank_piece place rest = piece_read place 32 [] rest Blank refl

line_piece : (place : ℕ) (rest : List ℕ) → ReadsBack place (10 ∷ []) rest []
unfolding piece_at
line_piece place rest = piece_read place 10 [] rest Blank refl

closing_ends : (bracket : Bracket) (rest : List ℕ) → Ends (closing bracket ∷ rest)
closing_ends Round rest = refl
closing_ends Square rest = refl
closing_ends Curly rest = refl

following_ends : (trees : BareTrees) (rest : List ℕ) → Ends rest → Ends (later_text trees ++ rest)
following_ends no_trees rest ends = ends
following_ends (and_trees tree trees) rest ends = refl

-- forms that are these trees, and are read of the text

record TreeRead (place : ℕ) (rest : List ℕ) (tree : BareTree) : Type 0 where
  form : FormTree
  same : bare_tree form ≡ tree
  read : ReadsBack place (tree_text tree) rest (form_spelling form)

record TreesRead (place : ℕ) (text rest : List ℕ) (trees : BareTrees) : Type 0 where
  forms : FormTrees
  same : bare_trees forms ≡ trees
  read : ReadsBack place text rest (spelling forms)

none_read : (place : ℕ) (rest : List ℕ) → TreesRead place [] rest no_trees
none_read place rest = record { forms = none; same = refl; read = reads_nothing place rest }

and_read : (place : ℕ) (text rest : List ℕ) (tree : BareTree) (trees : BareTrees) → TreeRead place (text ++ rest) tree
    → TreesRead (place + length (tree_text tree)) text rest trees
    → TreesRead place (tree_text tree ++ text) rest (and_trees tree trees)
and_read place text rest tree trees first others = record {
  forms = also first.form others.forms;
  same = ap (λ (t : BareTree). and_trees t (bare_trees others.forms)) first.same ∙ ap (and_trees tree) others.same;
  read =
      reads_both place _ (tree_text tree) text rest (form_spelling first.form) (spelling others.forms) refl first.read
      others.read;
}

-- after a byte that is not a token
following_read : (place b : ℕ) (text rest : List ℕ) (trees : BareTrees) → ReadsBack place (b ∷ []) (text ++ rest) []
    → TreesRead (place + 1) text rest trees → TreesRead place (b ∷ text) rest trees
following_read place b text rest trees blank others = record {
  forms = others.forms;
  same = others.same;
  read = reads_both place (place + 1) (b ∷ []) text rest [] (spelling others.forms) (omega arith) blank others.read;
}

branch_read : (bracket : Bracket) (trees : BareTrees) (place : ℕ) (rest : List ℕ)
    → TreesRead (place + 1) (between_text trees) (closing bracket ∷ rest) trees
    → TreeRead place rest (Branch bracket trees)
branch_read bracket trees place rest inner =
    let text = between_text trees in
    let at = place + 1 + length text in
    let following =
    reads_both (place + 1) at text (closing bracket ∷ []) rest (spelling inner.forms) (Closed bracket (at + 1) ∷ [])
    refl inner.read (closing_piece bracket at rest) in
    record {
      form = Group bracket inner.forms place (at + 1);
      same = ap (Branch bracket) inner.same;
      read =
          reads_both place (place + 1) (opening bracket ∷ []) (text ++ closing bracket ∷ []) rest
          (Opened bracket place ∷ []) (spelling inner.forms ++ Closed bracket (at + 1) ∷ []) (omega arith)
          (opening_piece bracket place ((text ++ closing bracket ∷ []) ++ rest)) following;
    }

mutual
  tree_read : (tree : BareTree) → IsWritableTree tree → (place : ℕ) (rest : List ℕ) → Ends rest
      → TreeRead place rest tree
  tree_read (Leaf atom) w place rest ends = record {
    form = Single atom place (place + length (atom_text atom));
    same = refl;
    read = atom_read atom w place rest ends;
  }
  tree_read (Branch bracket trees) w place rest ends =
      branch_read bracket trees place rest
      (between_read trees w (place + 1) (closing bracket ∷ rest) (closing_ends bracket rest))

  between_read : (trees : BareTrees) → AreWritable trees → (place : ℕ) (rest : List ℕ) → Ends rest
      → TreesRead place (between_text trees) rest trees
  between_read no_trees w place rest ends = none_read place rest
  between_read (and_trees tree trees) w place rest ends =
      and_read place (later_text trees) rest tree trees
      (tree_read tree w.0 place (later_text trees ++ rest) (following_ends trees rest ends))
      (others_read trees w.1 (place + length (tree_text tree)) rest ends)

  others_read : (trees : BareTrees) → AreWritable trees → (place : ℕ) (rest : List ℕ) → Ends rest
      → TreesRead place (later_text trees) rest trees
  others_read no_trees w place rest ends = none_read place rest
  others_read (and_trees tree trees) w place rest ends =
      following_read place 32 (tree_text tree ++ later_text trees) rest (and_trees tree trees) (blank_piece place _)
      (and_read (place + 1) (later_text trees) rest tree trees
      (tree_read tree w.0 (place + 1) (later_text trees ++ rest) (following_ends trees rest ends))
      (others_read trees w.1 (place + 1 + length (tree_text tree)) rest ends))

lines_read : (trees : BareTrees) → AreWritable trees → (place : ℕ) → TreesRead place (lines_text trees) [] trees
lines_read no_trees w place = none_read place []
lines_read (and_trees tree trees) w place =
    let next = place + length (tree_text tree) in
    and_read place (10 ∷ lines_text trees) [] tree trees (tree_read tree w.0 place (10 ∷ (lines_text trees ++ [])) refl)
    (following_read next 10 (lines_text trees) [] trees (line_piece next (lines_text trees ++ []))
    (lines_read trees w.1 (next + 1)))

-- it is UTF-8

one_utf8 : (b : ℕ) → b < 128 → IsUtf8 (b ∷ [])
one_utf8 b low = IsUtf8-from_ascii (b ∷ []) (IsAscii-cons b [] low IsAscii-nil)

two_utf8 : (b c : ℕ) → b < 128 → c < 128 → IsUtf8 (b ∷ c ∷ [])
two_utf8 b c low small =
    IsUtf8-from_ascii (b ∷ c ∷ []) (IsAscii-cons b (c ∷ []) low (IsAscii-cons c [] small IsAscii-nil))

between_utf8 : (b c : ℕ) (text : List ℕ) → b < 128 → c < 128 → IsUtf8 text → IsUtf8 (b ∷ (text ++ c ∷ []))
between_utf8 b c text low small u =
    IsUtf8-append (b ∷ []) (text ++ c ∷ []) (one_utf8 b low) (IsUtf8-append text (c ∷ []) u (one_utf8 c small))

-- a byte with an escape
record HasEscape (b : ℕ) : Type 0 where
  low : b < 128
  letter : ℕ
  small : letter < 128
  is : byte_text b ≡ 92 ∷ letter ∷ []

escape_as : (b c e : ℕ) → byte_text c ≡ 92 ∷ e ∷ [] → c < 128 → e < 128 → b ≡ c → HasEscape b
escape_as b c e is low small same = record { low = omega arith; letter = e; small = small; is = ap byte_text same ∙ is }

content_utf8 : (text front : List ℕ) → IsUtf8 (front ++ text) → IsUtf8 (front ++ flat_map byte_text text)
content_utf8 [] front u = u
content_utf8 (b ∷ text) front u =
    let escaped : HasEscape b → IsUtf8 (front ++ flat_map byte_text (b ∷ text)) = λ (h : HasEscape b).
    let before = before_ascii front text b u h.low in
    let after = following_ascii front text b u h.low in
    let whole =
    IsUtf8-append (front ++ 92 ∷ h.letter ∷ []) text
    (IsUtf8-append front (92 ∷ h.letter ∷ []) before (two_utf8 92 h.letter (omega arith) h.small)) after in
    subst (λ (bytes : List ℕ). IsUtf8 (front ++ (bytes ++ flat_map byte_text text))) (sym h.is)
    (subst (λ (bytes : List ℕ). IsUtf8 bytes) (append_assoc front (92 ∷ h.letter ∷ []) (flat_map byte_text text))
    (content_utf8 text (front ++ 92 ∷ h.letter ∷ []) whole)) in
    ⊎_elim (λ same. escaped (escape_as b 34 34 refl (omega arith) (omega arith) same.1)) (λ quote.
    ⊎_elim (λ same. escaped (escape_as b 92 92 refl (omega arith) (omega arith) same.1)) (λ slash.
    ⊎_elim (λ same. escaped (escape_as b 10 110 refl (omega arith) (omega arith) same.1)) (λ line.
    ⊎_elim (λ same. escaped (escape_as b 13 114 refl (omega arith) (omega arith) same.1)) (λ return.
    ⊎_elim (λ same. escaped (escape_as b 9 116 refl (omega arith) (omega arith) same.1)) (λ tab.
    let is : byte_text b ≡ b ∷ [] = rw (quote.0, slash.0, line.0, return.0, tab.0) refl in
    let moved = subst (λ (bytes : List ℕ). IsUtf8 bytes) (sym (append_assoc front (b ∷ []) text)) u in
    subst (λ (bytes : List ℕ). IsUtf8 (front ++ (bytes ++ flat_map byte_text text))) (sym is)
    (subst (λ (bytes : List ℕ). IsUtf8 bytes) (append_assoc front (b ∷ []) (flat_map byte_text text))
    (content_utf8 text (front ++ b ∷ []) moved)))
    (eqb_tells b 9)) (eqb_tells b 13)) (eqb_tells b 10)) (eqb_tells b 92)) (eqb_tells b 34)

number_utf8 : (number : ℤ) → IsWithin64 number → IsUtf8 (signed_decimal number)
number_utf8 (pos n) fits = IsUtf8-from_ascii (decimal n) (IsAscii-decimal n (omega arith))
number_utf8 (negsuc n) fits =
    IsUtf8-from_ascii (45 ∷ decimal (suc n))
    (IsAscii-cons 45 (decimal (suc n)) (omega arith) (IsAscii-decimal (suc n) (omega arith)))

atom_utf8 : (atom : Atom) → IsWritable atom → IsUtf8 (atom_text atom)
atom_utf8 (Text text) w =
    between_utf8 34 34 (flat_map byte_text text) (omega arith) (omega arith) (content_utf8 text [] w)
atom_utf8 (Pattern text) w =
    IsUtf8-append (35 ∷ []) (34 ∷ (text ++ 34 ∷ [])) (one_utf8 35 (omega arith))
    (between_utf8 34 34 text (omega arith) (omega arith) w.0)
atom_utf8 (Number number) w = number_utf8 number w
atom_utf8 (Keyword name) w = IsUtf8-append (58 ∷ []) name (one_utf8 58 (omega arith)) (keyword_is_utf8 (58 ∷ name) w)
atom_utf8 (Symbol name) w = symbol_is_utf8 name w

branch_utf8 : (bracket : Bracket) (text : List ℕ) → IsUtf8 text
    → IsUtf8 (opening bracket ∷ (text ++ closing bracket ∷ []))
branch_utf8 Round text u = between_utf8 40 41 text (omega arith) (omega arith) u
branch_utf8 Square text u = between_utf8 91 93 text (omega arith) (omega arith) u
branch_utf8 Curly text u = between_utf8 123 125 text (omega arith) (omega arith) u

nothing_utf8 : IsUtf8 []
nothing_utf8 = IsUtf8-from_ascii [] IsAscii-nil

mutual
  tree_utf8 : (tree : BareTree) → IsWritableTree tree → IsUtf8 (tree_text tree)
  tree_utf8 (Leaf atom) w = atom_utf8 atom w
  tree_utf8 (Branch bracket trees) w = branch_utf8 bracket (between_text trees) (trees_utf8 trees w)

  trees_utf8 : (trees : BareTrees) → AreWritable trees → IsUtf8 (between_text trees)
  trees_utf8 no_trees w = nothing_utf8
  trees_utf8 (and_trees tree trees) w =
      IsUtf8-append (tree_text tree) (later_text trees) (tree_utf8 tree w.0) (others_utf8 trees w.1)

  others_utf8 : (trees : BareTrees) → AreWritable trees → IsUtf8 (later_text trees)
  others_utf8 no_trees w = nothing_utf8
  others_utf8 (and_trees tree trees) w =
      IsUtf8-append (32 ∷ []) (tree_text tree ++ later_text trees) (one_utf8 32 (omega arith))
      (IsUtf8-append (tree_text tree) (later_text trees) (tree_utf8 tree w.0) (others_utf8 trees w.1))

lines_utf8 : (trees : BareTrees) → AreWritable trees → IsUtf8 (lines_text trees)
lines_utf8 no_trees w = nothing_utf8
lines_utf8 (and_trees tree trees) w =
    IsUtf8-append (tree_text tree) (10 ∷ lines_text trees) (tree_utf8 tree w.0)
    (IsUtf8-append (10 ∷ []) (lines_text trees) (one_utf8 10 (omega arith)) (lines_utf8 trees w.1))

-- places have no part in the depth
mutual
  tree_depth_is : (form : FormTree) → bare_tree_depth (bare_tree form) ≡ form_depth form
  tree_depth_is (Single atom start last) = refl
  tree_depth_is (Group bracket forms start last) = ap (λ (n : ℕ). 1 + n) (depth_is forms)

  pub depth_is : (forms : FormTrees) → bare_depth (bare_trees forms) ≡ depth forms
  depth_is none = refl
  depth_is (also form forms) = cc (tree_depth_is form, depth_is forms)

pub read_back : (trees : BareTrees) → AreWritable trees → bare_depth trees ≤ deepest
    → length (lines_text trees) ≤ longest → IsReadBack (lines_text trees) trees
unfolding lexed lexed_from
read_back trees w shallow short =
    let known = lines_read trees w 0 in
    let is : lexed (lines_text trees) ≡ with_tokens (spelling known.forms) (record { tokens = []; fault = None }) =
    ap (lexed_from 0 0) (sym (append-nil (lines_text trees))) ∙ known.read.is in
    record {
      forms = known.forms;
      read = record {
        short = short;
        utf8 = lines_utf8 trees w;
        read = record {
          spelled = ap (λ (l : Lexed). l.tokens) is ∙ append-nil (spelling known.forms);
          faultless = ap (λ (l : Lexed). l.fault) is;
        };
        shallow =
            let same : depth known.forms ≡ bare_depth trees = sym (depth_is known.forms) ∙ ap bare_depth known.same in
            omega arith;
      };
      same = known.same;
    }
