-- Forms are read as streams exactly where they are those of the grammar.
use Rattle.config_streams.specs.Grammar.{StreamsAreRead, OnlyStreamsAreRead}
use Rattle.config_streams.proofs.GrammarRead as forms
use Rattle.config_streams.proofs.GrammarOnly as only

pub streams_are_read : StreamsAreRead
streams_are_read = forms.streams_are_read

pub only_streams_are_read : OnlyStreamsAreRead
only_streams_are_read = only.only_streams_are_read
