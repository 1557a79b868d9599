-- The past that the log of a disk in memory stands for.
use Rattle.std.specs.Prelude.{ℕ, List, fold}
use Rattle.disk_port.specs.Past.{Past, found, synced, written}
use Rattle.disk_port.specs.declared.disk_call.DiskCall.{DiskCall}
use Rattle.disk_port.specs.declared.disk_call.DiskCall.TheVariants.{Write, Sync}

abbrev pub after : Past → DiskCall → Past
after past (Write place bytes) = written place bytes past
after past Sync = synced past

-- the past after these calls, where the disk had these bytes before the first of them
abbrev pub past_after : List ℕ → List DiskCall → Past
past_after first calls = fold after (synced (found first)) calls
