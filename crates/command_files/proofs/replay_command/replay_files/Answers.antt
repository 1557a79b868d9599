use Rattle.std.proofs.Common.{inl, refl}
use Rattle.command_files.proofs.ReplayLaws.{replay_ended}
use Rattle.command_files.proofs.OtherLaws.{both_read}
use Rattle.command_files.proofs.replay_command.replay_files.Goals as goal

pub returns-in-Ok-clause-ends : goal.returns-in-Ok-clause-ends
returns-in-Ok-clause-ends g c = λ links err err'.
    replay_ended c.args.config.now c.args.script.now c.in-Ok.setup _
    (g.S.Store.report c.fetch_setup.new.store)
    _ links _ _ err err' _ _ _ _ _ _ c.replay_script.result c.in-Ok.ensures.setup
    c.in-Ok.ensures.same (both_read _ _ _ c.args.config.now c.args.script.now c.replay_script.result
    c.in-Ok.ensures.read c.replay_script.ensures.reads)
    (c.replay_script.ensures.ends links err err')

pub returns-in-Err-clause-ends : goal.returns-in-Err-clause-ends
returns-in-Err-clause-ends g c = λ links err err'.
    inl (c.in-Err.ensures.fault, (refl, refl, refl), (c.in-Err.ensures.reads, c.in-Err.ensures.unasked))
