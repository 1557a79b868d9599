-- Counts of steps.
use Rattle.std.specs.Prelude.{◌≡◌, ℕ, zero, suc, ◌+◌, min, List, [], ◌∷◌, Option, None, Some}
use Rattle.std.specs.Option.{option_map}
use Rattle.list_laws.specs.Counts.{greatest}

-- what contracts see of a counter of steps: the two counts, the ledger that counts them too, and that ledger as it was
-- when the count began
pub record StepCount (G : Type 0) : Type 0 where
  pub forks : ℕ
  pub entries : ℕ
  pub ledger : G
  pub began : Option G

-- the count of a ledger after one more, where it is known
abbrev pub one_more : Option ℕ → Option ℕ
one_more known = option_map (λ count. min (count + 1) greatest) known

-- the count of a ledger after n more, where it is known
abbrev pub more_by : ℕ → Option ℕ → Option ℕ
more_by zero known = known
more_by (suc n) known = one_more (more_by n known)

module _ {G : Type 0} where
  -- what the ledger counted, where there is one and it is known
  abbrev pub counted_by : (G → Option ℕ) → Option G → Option ℕ
  counted_by counted None = None
  counted_by counted (Some ledger) = counted ledger

  -- the ledger of which a log has a note
  abbrev pub noted_in : List (G × Unit {0}) → Option G
  noted_in [] = None
  noted_in (note ∷ notes) = Some note.0

  -- what the ledger has counted is what it had counted when the count began, and all steps since
  pub record IsCounted (forks_of entries_of : G → Option ℕ) (count : StepCount G) : Type 0 where
    pub forks : forks_of count.ledger ≡ more_by count.forks (counted_by forks_of count.began)
    pub entries : entries_of count.ledger ≡ more_by count.entries (counted_by entries_of count.began)
