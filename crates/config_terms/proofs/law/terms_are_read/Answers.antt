use Rattle.config_terms.proofs.TermLaws.{texts_are_read, numbers_are_read, values_are_read, fields_are_read}
use Rattle.config_terms.proofs.law.terms_are_read.Goals as goal

pub returns : goal.returns
returns c =
    record { texts = texts_are_read; numbers = numbers_are_read; values = values_are_read; fields = fields_are_read }
