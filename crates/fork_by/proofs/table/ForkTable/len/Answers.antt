use Rattle.std.proofs.Common.{◌≡◌, length, rules, sym, ◌∙◌}
use Rattle.fork_by.proofs.TableLaws.{kept-length}
use Rattle.fork_by.proofs.table.ForkTable.len.Goals as goal

pub returns : goal.returns
returns g c table =
    let many : c.len.result ≡ length c.args.self.now.forks.items = search (rules, c.len.ensures) in
    many ∙ table.even
    ∙ sym (kept-length c.args.self.now.forks.items c.args.self.now.labels table.even table.sound.within)
