-- The limits of a journal, as numbers.
use Rattle.std.specs.Prelude.{ℕ}

-- the most bytes of a configuration
abbrev pub config_limit : ℕ
config_limit = 1048576

-- the most bytes of a journal, without what follows its closed gate
abbrev pub journal_limit : ℕ
journal_limit = 67108864

-- the most summaries of a record
abbrev pub summary_limit : ℕ
summary_limit = 257

-- the most bytes of a piece that was read
abbrev pub piece_limit : ℕ
piece_limit = 65536

-- the most bytes of a record with a gate
abbrev pub step_limit : ℕ
step_limit = 69929
