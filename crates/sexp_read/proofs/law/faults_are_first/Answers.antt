use Rattle.sexp_read.proofs.FrontLaws.{first_fault, closed_forms}
use Rattle.sexp_read.proofs.Spellings.{none_open, one_reading}
use Rattle.sexp_read.proofs.law.faults_are_first.Goals as goal

pub returns : goal.returns
returns c = record { first = first_fault; closed = closed_forms; «open» = none_open; one = one_reading }
