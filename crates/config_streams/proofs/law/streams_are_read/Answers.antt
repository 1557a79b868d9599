use Rattle.config_streams.proofs.GrammarLaws.{streams_are_read, only_streams_are_read}
use Rattle.config_streams.proofs.law.streams_are_read.Goals as goal

pub returns : goal.returns
returns c = record { read = streams_are_read; only = only_streams_are_read }
