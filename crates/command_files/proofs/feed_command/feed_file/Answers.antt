use Rattle.std.proofs.Common.{inr}
use Rattle.command_files.proofs.feed_command.feed_file.Goals as goal

pub returns-in-Ok-clause-ends : goal.returns-in-Ok-clause-ends
returns-in-Ok-clause-ends g c = λ links. inr (
  c.in-Ok.bytes,
  c.in-Ok.ensures.file,
  c.serve_bytes.ensures.ends
      (g.S.Store.report c.args.store.now)
      (g.S.Store.report c.read_other.new.store)
      links,
)
