use Rattle.std.proofs.Common.{sym}
use Rattle.command_setup.proofs.TextLaws.{makes_text, text_refused}
use Rattle.command_setup.proofs.setup.read_setup.Goals as goal

pub returns-in-Ok-clause-setup : goal.returns-in-Ok-clause-setup
returns-in-Ok-clause-setup g c =
    let made = makes_text c.args.text.now c.in-Ok.config _ _ c.setup_of.result (record {
      reads = c.in-Ok.ensures.config;
      alone = λ other is. sym (c.in-Ok.ensures.only other is);
      accepted = c.in-Ok.ensures.only_refused;
    }) c.setup_of.ensures.makes in made.0

pub returns-in-Ok-clause-refused : goal.returns-in-Ok-clause-refused
returns-in-Ok-clause-refused g c =
    let made = makes_text c.args.text.now c.in-Ok.config _ _ c.setup_of.result (record {
      reads = c.in-Ok.ensures.config;
      alone = λ other is. sym (c.in-Ok.ensures.only other is);
      accepted = c.in-Ok.ensures.only_refused;
    }) c.setup_of.ensures.makes in made.1

pub returns-in-Err-clause-refused : goal.returns-in-Err-clause-refused
returns-in-Err-clause-refused g c =
    rw c.ending_of_config.ensures
    (text_refused c.args.text.now c.in-Err.fault _ c.in-Err.ensures.refused c.in-Err.ensures.only_refused
    c.in-Err.ensures.only)
