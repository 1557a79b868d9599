-- What is known of links from their log, where they report it.
use Rattle.std.specs.Prelude.{◌≡◌, ℕ, ◌<◌, IsTrue, List, [], ◌∷◌, ◌++◌, length, Option}
use Rattle.std.specs.Option.{ForSome}
use Rattle.conn_core.specs.Kept.{number_at}
use Rattle.ports.specs.Links.{is_unclosed}
use Rattle.ports.specs.declared.entry.Entry.{Entry}
use Rattle.ports.specs.declared.entry.Entry.TheVariants.{Next}
use Rattle.ports.specs.declared.links.Turn.{Turn}
use Rattle.ports.specs.declared.links.Want.{Want}
use Rattle.ports.specs.declared.links.What.{What}
use Rattle.ports.specs.declared.links.What.TheVariants.{Opened}

-- each of these links was opened and not closed since
abbrev pub AreUnclosed : Option (List Entry) → List Want → Type 0
AreUnclosed log wants =
    ForSome log (λ entries. (i : ℕ) → i < length wants → IsTrue (is_unclosed (number_at wants i) entries))

-- the last call was `next`, and it answered this turn
pub record EndsWith (turn : Turn) (entries : List Entry) : Type 0 where
  pub before : List Entry
  pub wants : List Want
  pub piece : List ℕ
  pub is : entries ≡ before ++ Next wants turn piece ∷ []

abbrev pub Answered : Option (List Entry) → Turn → Type 0
Answered log turn = ForSome log (EndsWith turn)

-- the link was opened and not closed since
abbrev pub IsUnclosed : Option (List Entry) → ℕ → Type 0
IsUnclosed log number = ForSome log (λ entries. IsTrue (is_unclosed number entries))

abbrev pub IsOpenedBy : Option (List Entry) → What → Type 0
IsOpenedBy log (Opened number) = IsUnclosed log number
IsOpenedBy log _ = Unit {0}
