use Rattle.riemann_commands.proofs.command.command_on_three.Goals as goal

pub returns-then-is : goal.returns-then-is
returns-then-is c = rw (c.is.ensures.0 c.if-is.true) c.load_of.ensures
