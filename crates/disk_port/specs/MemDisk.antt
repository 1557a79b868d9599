-- What contracts see of a disk in memory.
use Rattle.std.specs.Prelude.{Some}
use Rattle.disk_port.specs.Calls.{DiskReport}
use Rattle.disk_port.specs.Failing.{Counted}
use Rattle.disk_port.specs.Replay.{past_after}
use Rattle.disk_port.specs.declared.mem_disk.MemDisk.{MemDisk}

abbrev pub mem_report : MemDisk → DiskReport
mem_report disk = record {
  past = Some (past_after disk.synced disk.log);
  opened = Some disk.opened;
  faults = disk.faults;
}

abbrev pub counted : MemDisk → Counted
counted disk = record { failing = disk.failing.items; stop = disk.stop; calls = disk.calls }
