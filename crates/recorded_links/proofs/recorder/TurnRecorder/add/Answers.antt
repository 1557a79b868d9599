use Rattle.std.proofs.Common.{◌≡◌, rules}
use Rattle.recorded_links.specs.Keeping.{kept_of}
use Rattle.recorded_links.proofs.KeepLaws.{added_err, added_ok}
use Rattle.recorded_links.proofs.recorder.TurnRecorder.add.Goals as goal

pub returns-in-Ok-clause-records : goal.returns-in-Ok-clause-records
returns-in-Ok-clause-records g c =
    let is : c.as_slice.result.now ≡ c.args.self.now.bytes.now.items = search rules in
    added_ok c.args.self.now.bytes.now.items c.as_slice.result.now
    (kept_of (g.D.Disk.report c.args.self.now.journal.disk.now).past c.args.self.now.journal.gate
    c.args.self.now.journal.has_record) (kept_of (g.D.Disk.report c.append.new.self.disk.now).past
    c.append.new.self.gate c.append.new.self.has_record) is c.in-Ok.ensures.any_moment c.in-Ok.ensures.ok
    c.in-Ok.ensures.possible

pub returns-in-Err-clause-records : goal.returns-in-Err-clause-records
returns-in-Err-clause-records g c =
    let is : c.as_slice.result.now ≡ c.args.self.now.bytes.now.items = search rules in
    added_err c.args.self.now.bytes.now.items c.as_slice.result.now
    (kept_of (g.D.Disk.report c.args.self.now.journal.disk.now).past c.args.self.now.journal.gate
    c.args.self.now.journal.has_record) (kept_of (g.D.Disk.report c.append.new.self.disk.now).past
    c.append.new.self.gate c.append.new.self.has_record) is c.in-Err.ensures.any_moment c.in-Err.ensures.possible
