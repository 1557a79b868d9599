use Rattle.command_test.proofs.FileLaws.{config_of_file, config_read, file_read, no_config_of_file}
use Rattle.command_test.proofs.files.fetch_config.Goals as goal

pub returns-in-Ok-clause-config : goal.returns-in-Ok-clause-config
returns-in-Ok-clause-config g c =
    config_of_file c.args.name.now _ _ c.in-Ok.text (c.in-Ok.ensures.file, c.in-Ok.ensures.within) c.config_text.result
    c.config_text.ensures.config

pub returns-in-Ok-clause-fault : goal.returns-in-Ok-clause-fault
returns-in-Ok-clause-fault g c =
    no_config_of_file c.args.name.now _ _ c.in-Ok.text (c.in-Ok.ensures.file, c.in-Ok.ensures.within)
    c.config_text.result c.config_text.ensures.fault

pub returns-in-Ok-clause-read : goal.returns-in-Ok-clause-read
returns-in-Ok-clause-read g c = file_read c.args.name.now _ _ c.config_text.result c.in-Ok.ensures.reads

pub returns-in-Ok-clause-reads : goal.returns-in-Ok-clause-reads
returns-in-Ok-clause-reads g c =
    config_read c.args.name.now c.in-Ok.text _ _ c.config_text.result c.config_text.ensures.fault c.in-Ok.ensures.reads
