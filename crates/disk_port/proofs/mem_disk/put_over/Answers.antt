use Rattle.std.proofs.Common.{◌≡◌, ◌++◌, min, length, take, drop, arith}
use Rattle.std.proofs.lemmas.Grind.{common_steps}
use Rattle.disk_port.proofs.PastLaws.{put_parts}
use Rattle.disk_port.proofs.mem_disk.put_over.Goals as goal

pub returns : goal.returns
returns c =
    let place = c.args.place in
    let file = c.args.file.now in
    let bytes = c.args.bytes.now in
    let parts : c.append-2.new.self ≡ (take place file ++ bytes)
    ++ drop (min (length bytes) (length (drop place file))) (drop place file) = grind (arith, common_steps) in
    put_parts place bytes file c.append-2.new.self parts
