-- What holds of journals and the bytes that hold them.
use Rattle.std.specs.Prelude.{◌≡◌, ◌⊎◌, ℕ, ◌<◌, List, ◌++◌, take, slice_index}
use Rattle.journal_format.specs.Journals.{FileMisfitsAt, Holds, HoldsAt, IsFront, Journal}

-- a file holds one journal at most, whose closed gate is at one place
abbrev pub JournalsAreOne : Type 0
JournalsAreOne = (journal other : Journal) (place next : ℕ) (file : List ℕ) → HoldsAt journal place file
    → HoldsAt other next file → (journal ≡ other) × (place ≡ next)

-- a file that does not fit at a place holds none
abbrev pub MisfitsHoldNone : Type 0
MisfitsHoldNone = (journal : Journal) (file : List ℕ) (place : ℕ) → Holds journal file → FileMisfitsAt file place → ⊥

-- the journal with its first n records alone
abbrev pub first_records : ℕ → Journal → Journal
first_records n journal = record { config = journal.config; records = take n journal.records }

-- a journal's bytes begin with those of its first n records
abbrev pub PrefixesAreJournals : Type 0
PrefixesAreJournals =
    (journal : Journal) (bytes : List ℕ) (n : ℕ) → IsFront journal bytes
    → (part : List ℕ) × (rest : List ℕ) × (bytes ≡ part ++ rest) × IsFront (first_records n journal) part

-- each of these is a byte
abbrev pub AreBytes : List ℕ → Type 0
AreBytes bytes = (i : ℕ) → slice_index bytes i < 256

-- a file holds a journal, or it does not fit at some place
abbrev pub FilesHoldOrMisfit : Type 0
FilesHoldOrMisfit = (file : List ℕ) → AreBytes file
    → ((journal : Journal) × Holds journal file) ⊎ ((place : ℕ) × FileMisfitsAt file place)

-- it does not fit at one place at most
abbrev pub MisfitsAreOne : Type 0
MisfitsAreOne = (file : List ℕ) (place other : ℕ) → FileMisfitsAt file place → FileMisfitsAt file other → place ≡ other
