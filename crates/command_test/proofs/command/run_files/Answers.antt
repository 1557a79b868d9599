use Rattle.std.proofs.Common.{inl, inr, refl}
use Rattle.command_test.proofs.FileLaws.{both_read, config_not_complete, config_refused, config_unread, has_config}
use Rattle.command_test.proofs.command.run_files.Goals as goal

pub run_text-requires : goal.run_text-requires
run_text-requires g c = rw c.as_slice.ensures (c.in-Ok.ensures.config.config, c.in-Ok.ensures.config.is.reads)

pub returns-in-Ok-clause-ends : goal.returns-in-Ok-clause-ends
returns-in-Ok-clause-ends g c =
    let holds = c.in-Ok.ensures.config in
    let ends = rw c.as_slice.ensures at (c.run_text.ensures.ends holds.config) in
    inr (
      holds.config,
      g.S.Store.report c.fetch_config.new.store,
      has_config c.args.config.now _ _ c.in-Ok.text holds,
      both_read c.args.config.now c.args.tests.now _ _ _ c.run_text.result c.in-Ok.ensures.read
          c.run_text.ensures.reads,
      ends holds.is.reads,
    )

pub returns-in-Err-clause-ends : goal.returns-in-Err-clause-ends
returns-in-Err-clause-ends g c = rw c.ending.ensures (inl (
  config_refused c.args.config.now c.as_str.result (g.S.Store.report c.args.store.now)
      (g.S.Store.report c.fetch_config.new.store) c.in-Err.fault c.as_str.ensures c.in-Err.ensures.fault,
  refl,
  config_unread c.args.config.now c.as_str.result _ _ c.in-Err.fault c.in-Err.ensures.reads,
))

pub returns-in-Err-clause-quiet : goal.returns-in-Err-clause-quiet
returns-in-Err-clause-quiet g c =
    rw c.ending.ensures (λ complete. absurd (config_not_complete c.as_str.result c.in-Err.fault complete))
