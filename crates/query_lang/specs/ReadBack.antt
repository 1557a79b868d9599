-- What is written is read again.
use Rattle.std.specs.Prelude.{ℕ, ◌≤◌, List, [], length, Ok}
use Rattle.pred_eval.specs.Tree.{Tree}
use Rattle.query_lang.specs.declared.read.TheConstants.{MAX_BYTES}
use Rattle.query_lang.specs.declared.parser.TheConstants.{MAX_OPENINGS}
use Rattle.query_lang.specs.declared.token.Token.{Token}
use Rattle.query_lang.specs.Grammar.{IsQuery}
use Rattle.query_lang.specs.Queries.{Begins, openings, IsAnswer}
use Rattle.query_lang.specs.Spelling.{spelling}

-- a text is read as this tree
abbrev pub IsReadable : Tree → Type 0
IsReadable tree = (text : List ℕ) × IsAnswer text (Ok tree)

-- what is written of the tree is a query for it, and is read so where it is within the limits
pub record IsReadBack (tree : Tree) : Type 0 where
  pub tokens : List Token
  pub text_is : Begins (spelling tree) tokens []
  pub query : IsQuery tokens tree
  pub reads : length (spelling tree) ≤ MAX_BYTES → openings tokens ≤ MAX_OPENINGS → IsAnswer (spelling tree) (Ok tree)

abbrev pub QueriesAreReadBack : Type 0
QueriesAreReadBack = (tree : Tree) → IsReadable tree → IsReadBack tree
