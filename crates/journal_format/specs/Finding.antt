-- What is found when bytes are read as a journal.
use Rattle.std.specs.Prelude.{◌≡◌, ◌⊎◌, ℕ, ◌≤◌, Bool, not, List, ◌++◌, length, Result, Ok, Err}
use Rattle.journal_format.specs.Limits.{config_limit}
use Rattle.journal_format.specs.Spelling.{Spells}
use Rattle.journal_format.specs.Journals.{BeginsWithNoLength, BeginsWithNone, EndsInConfig, HoldsAt, IsFront, Journal}
use Rattle.journal_format.specs.Journals.{MisfitsAt, head_bytes, is_blank}
use Rattle.journal_format.specs.declared.finder.Found.{Found}
use Rattle.journal_format.specs.declared.finder.NoJournal.{NoJournal}
use Rattle.journal_format.specs.declared.finder.NoJournal.TheVariants as none
use Rattle.journal_format.specs.declared.turn_record.TurnRecord.{TurnRecord}
use Rattle.journal_format.specs.declared.unread.Unread.{Unread}
use Rattle.journal_format.specs.declared.unread.Unread.TheVariants as unread

-- the bytes hold a journal that ends so
pub record Ends (bytes : List ℕ) (found : Found) : Type 0 where
  pub journal : Journal
  pub holds : HoldsAt journal found.gate bytes
  pub has_record : is_blank journal ≡ not found.has_record

-- why there is no journal: the place that does not fit, or memory ran out
abbrev pub IsWhyNone : List ℕ → NoJournal → Type 0
IsWhyNone bytes (none.Refused place) = MisfitsAt bytes place
IsWhyNone bytes none.Memory = Unit {0}

-- the answer to a search for the end of a journal
abbrev pub IsFound : List ℕ → Result Found NoJournal → Type 0
IsFound bytes (Ok found) = Ends bytes found
IsFound bytes (Err why) = IsWhyNone bytes why

-- the bytes are a journal up to here, and then the rest. `first` says whether it has no record.
pub record HasFront (first : Bool) (bytes rest : List ℕ) : Type 0 where
  pub journal : Journal
  pub front : List ℕ
  pub begins : IsFront journal front
  pub next : is_blank journal ≡ first
  pub whole : bytes ≡ front ++ rest

-- the bytes are a length and a configuration, and then the rest
pub record IsHead (bytes rest : List ℕ) : Type 0 where
  pub config : List ℕ
  pub small : length config ≤ config_limit
  pub whole : bytes ≡ head_bytes config ++ rest

-- the first that does not fit of a length and a configuration
abbrev pub IsWhyNoHead : List ℕ → NoJournal → Type 0
IsWhyNoHead bytes (none.Refused place) = ((place ≡ 1) × BeginsWithNoLength bytes) ⊎ ((place ≡ 5) × EndsInConfig bytes)
IsWhyNoHead bytes none.Memory = ⊥

-- the bytes are a record that may come there, and then the rest
pub record TakesRecord (first : Bool) (bytes rest : List ℕ) : Type 0 where
  pub entry : TurnRecord
  pub text : List ℕ
  pub spells : Spells first entry text
  pub whole : bytes ≡ text ++ rest

-- why no record was read
abbrev pub IsWhyNoRecord : Bool → List ℕ → Unread → Type 0
IsWhyNoRecord first bytes unread.Refused = BeginsWithNone first bytes
IsWhyNoRecord first bytes unread.Memory = Unit {0}
