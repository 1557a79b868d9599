use Rattle.std.proofs.Common.{◌≡◌, length, Option, Some, refl, arith}
use Rattle.std.proofs.lemmas.Grind.{common_steps}
use Rattle.disk_port.specs.Past.{IsUndoneOrBegun, Past, written}
use Rattle.disk_port.specs.Replay.{past_after}
use Rattle.disk_port.proofs.PastLaws.{done_all_the_same, if_err}
use Rattle.disk_port.proofs.mem_disk.MemDiskDisk.write_at.Goals as goal

pub returns-clause-failed : goal.returns-clause-failed
returns-clause-failed c =
    let place = c.args.place in
    let bytes = c.args.bytes.now in
    let old = past_after c.args.self.now.synced c.args.self.now.log in
    let new : Option Past = Some (past_after c.count_call.new.self.synced c.count_call.new.self.log) in
    let is : Some (past_after c.count_call.new.self.synced c.count_call.new.self.log) ≡ Some (written place bytes old) =
    grind (arith, common_steps) in
    if_err c.count_call.result (IsUndoneOrBegun place (length bytes) (Some old) new)
    (done_all_the_same place bytes old new (c.requires old refl) is)
