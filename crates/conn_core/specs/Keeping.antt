-- What is kept of the links of a state.
use Rattle.std.specs.Prelude.{◌≡◌, ℕ, List, [], ◌∷◌}
use Rattle.conn_core.specs.Kept.{Kept, is_newer}
use Rattle.hub_link.specs.hub_meaning.Laws.{AreRising}
use Rattle.hub_link.specs.hub_meaning.Links.{Link, connected, is_above, wants_of}
use Rattle.hub_link.specs.declared.link.HubLink.{HubLink}
use Rattle.hub_link.specs.HubLink.{RepresentsLink}

-- each value represents the link at the same place
abbrev pub AreBeside : List HubLink → List Link → Type 0
AreBeside [] [] = Unit {0}
AreBeside [] (meant ∷ links) = ⊥
AreBeside (value ∷ values) [] = ⊥
AreBeside (value ∷ values) (meant ∷ links) = RepresentsLink value meant × AreBeside values links

-- the table has the links that are connected and what is wanted of them, and it knows which numbers are free
pub record Keeps (table : Kept HubLink) (links : List Link) : Type 0 where
  pub wants : table.wants ≡ wants_of links
  pub values : AreBeside table.values (connected links)
  pub free : (number : ℕ) → is_above number links ≡ is_newer number table.newest
  pub rising : AreRising links
