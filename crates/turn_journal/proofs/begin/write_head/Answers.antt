use Rattle.std.proofs.Common.{◌≡◌, inl, length, refl, rules}
use Rattle.turn_journal.specs.Beginning.{blank_bytes}
use Rattle.disk_port.proofs.PastLaws.{failed_tears}
use Rattle.turn_journal.proofs.BeginLaws.{same_done, same_tears}
use Rattle.turn_journal.proofs.begin.write_head.Goals as goal

pub returns-in-Ok-clause-done : goal.returns-in-Ok-clause-done
returns-in-Ok-clause-done g c =
    let is : c.as_slice.result.now ≡ blank_bytes c.args.config.now = search rules in
    same_done c.write_synced.result 1 c.as_slice.result.now (blank_bytes c.args.config.now)
    (g.D.Disk.report c.args.disk.now).past (g.D.Disk.report c.write_synced.new.disk).past is c.write_synced.ensures.done

pub returns-in-Ok-clause-any_moment : goal.returns-in-Ok-clause-any_moment
returns-in-Ok-clause-any_moment g c =
    let is : c.as_slice.result.now ≡ blank_bytes c.args.config.now = search rules in
    same_tears 1 c.as_slice.result.now (blank_bytes c.args.config.now) (g.D.Disk.report c.args.disk.now).past
    (g.D.Disk.report c.write_synced.new.disk).past is c.write_synced.ensures.any_moment

pub returns-in-Err-clause-any_moment : goal.returns-in-Err-clause-any_moment
returns-in-Err-clause-any_moment g c =
    failed_tears 1 (length (blank_bytes c.args.config.now)) (g.D.Disk.report c.args.disk.now).past
    (g.D.Disk.report c.args.disk.now).past (inl refl)
