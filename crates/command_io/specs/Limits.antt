-- The limits of files, as numbers.
use Rattle.std.specs.Prelude.{ℕ}

-- the most bytes of a configuration, and of its tests
abbrev pub config_limit : ℕ
config_limit = 1048576

-- the most bytes of a script and of a file that is fed
abbrev pub file_limit : ℕ
file_limit = 67108864
