use Rattle.sexp_read.proofs.ReadableAtoms.{read_writable}
use Rattle.sexp_read.proofs.WrittenTrees.{read_back}
use Rattle.sexp_read.proofs.law.written_is_read.Goals as goal

pub returns : goal.returns
returns c = record { read = read_back; writable = read_writable }
