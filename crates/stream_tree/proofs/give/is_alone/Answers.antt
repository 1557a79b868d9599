use Rattle.std.proofs.Common.{length, refl, ◌∙◌}
use Rattle.std.proofs.lemmas.Bool.{ne_eqb}
use Rattle.stream_tree.proofs.GiveLaws.{only_stream, other_streams}
use Rattle.stream_tree.proofs.give.is_alone.Goals as goal

pub returns-then-streams-eq1 : goal.returns-then-streams-eq1
returns-then-streams-eq1 c = c.is_index.ensures ∙ only_stream c.args.streams.now _ _ c.if-streams-eq1.true refl

pub returns-else-streams-eq1 : goal.returns-else-streams-eq1
returns-else-streams-eq1 c =
    ne_eqb (length c.args.streams.now) 1 c.if-streams-eq1.false ∙ other_streams c.args.streams.now c.if-streams-eq1.false
