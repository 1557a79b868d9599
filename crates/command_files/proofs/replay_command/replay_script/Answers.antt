use Rattle.std.proofs.Common.{inr}
use Rattle.command_files.proofs.replay_command.replay_script.Goals as goal

pub returns-in-Ok-clause-ends : goal.returns-in-Ok-clause-ends
returns-in-Ok-clause-ends g c =
    λ links err err'. inr (c.in-Ok.links.script, c.in-Ok.ensures.script, c.play.ensures.ends _ _ links err err')
