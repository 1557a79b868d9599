use Rattle.command_files.proofs.RunLaws.{ran_script, same_script}
use Rattle.command_files.proofs.run.run_script.Goals as goal

pub returns-clause-whole : goal.returns-clause-whole
returns-clause-whole g c =
    (c.in_ok-_hub._hub, ran_script _ c.args.links.now c.run.new.links _ _ _ c.requires.begins c.in_ok-_hub.ensures.runs)

pub returns-clause-script : goal.returns-clause-script
returns-clause-script g c = same_script c.args.links.now c.run.new.links _ c.in_ok-_hub.ensures.runs
