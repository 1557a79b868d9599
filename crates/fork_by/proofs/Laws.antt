-- The laws of tables of forks, for proofs of other crates.
use Rattle.fork_by.specs.Laws.{ForksAreApart, KeysHaveForks, ForksAreReached, NumbersReachForks, LatestIsOfForks}
use Rattle.fork_by.specs.Laws.{WrittenIsTable, WrittenHasForks, WrittenIsReplaced}
use Rattle.fork_by.proofs.KeptForkLaws.{kept-apart, found-key, latest-kept, kept-all-have, has-kept, written-kept}
use Rattle.fork_by.proofs.KeptForkLaws.{written-table, written-has}

-- the forks of a table
pub forks_apart : {F : Type 0} → ForksAreApart F
forks_apart = kept-apart

pub keys_have_forks : {F : Type 0} → KeysHaveForks F
keys_have_forks = found-key

pub forks_reached : {F : Type 0} → ForksAreReached F
forks_reached = kept-all-have

pub numbers_reach : {F : Type 0} → NumbersReachForks F
numbers_reach = has-kept

pub latest_of_forks : {F : Type 0} → LatestIsOfForks F
latest_of_forks = latest-kept

-- a table in which the fork of a number was written
pub written_is_table : {F : Type 0} → WrittenIsTable F
written_is_table = written-table

pub written_has_forks : {F : Type 0} → WrittenHasForks F
written_has_forks = written-has

pub written_is_replaced : {F : Type 0} → WrittenIsReplaced F
written_is_replaced = written-kept
