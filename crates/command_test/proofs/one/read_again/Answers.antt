use Rattle.command_test.proofs.one.read_again.Goals as goal

pub returns-in-Ok-clause-config : goal.returns-in-Ok-clause-config
returns-in-Ok-clause-config c = λ read is. c.in-Ok.ensures.only read is

pub unreachable-requires : goal.unreachable-requires
unreachable-requires c =
    let only = c.in-Err-Refused.ensures.only c.requires.0 c.requires.1 in cc (only, c.in-Err-Refused.field-0-is)
