use Rattle.std.proofs.Common.{sym}
use Rattle.command_io.proofs.ConfigLaws.{text_fault}
use Rattle.command_test.proofs.files.check_config.Goals as goal

pub returns-in-Ok-clause-config : goal.returns-in-Ok-clause-config
returns-in-Ok-clause-config c = (
  c.in-Ok._read,
  record {
    reads = c.in-Ok.ensures.config;
    alone = λ other is. sym (c.in-Ok.ensures.only other is);
    accepted = c.in-Ok.ensures.only_refused;
  },
)

pub returns-in-Err-clause-fault : goal.returns-in-Err-clause-fault
returns-in-Err-clause-fault c =
    text_fault c.args.text.now c.in-Err.fault c.in-Err.ensures.refused c.in-Err.ensures.only_refused
    c.in-Err.ensures.only
