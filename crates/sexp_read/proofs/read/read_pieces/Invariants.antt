use Rattle.std.proofs.Common.{◌-◌, length}
use Rattle.sexp_read.specs.Reading.{reading_of}
use Rattle.sexp_read.proofs.Progress.{IsReadTo}
use Rattle.sexp_read.proofs.read.read_pieces.Given as goal

abbrev pub invariant-pieces : goal.invariant-pieces
invariant-pieces l = IsReadTo l.text l.place (reading_of l.reader)

abbrev pub decreases-pieces : goal.decreases-pieces
decreases-pieces l = length l.text - l.place
