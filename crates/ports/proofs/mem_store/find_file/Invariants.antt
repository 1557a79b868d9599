use Rattle.std.proofs.Common.{◌≡◌, drop}
use Rattle.ports.specs.Files.{held_in}
use Rattle.ports.proofs.mem_store.find_file.Given as goal

abbrev pub invariant-loop-file : goal.invariant-loop-file
invariant-loop-file l = held_in l.files l.name ≡ held_in (drop l.file-index l.files) l.name
