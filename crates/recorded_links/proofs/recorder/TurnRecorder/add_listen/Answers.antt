use Rattle.std.proofs.Common.{◌≡◌, refl, rules}
use Rattle.journal_format.specs.Spelling.{record_bytes}
use Rattle.recorded_links.specs.Keeping.{listen_entry, kept_of}
use Rattle.recorded_links.proofs.KeepLaws.{bytes_short, listen_allowed, listen_next, untouched}
use Rattle.recorded_links.proofs.recorder.TurnRecorder.add_listen.Goals as goal

pub add-requires-clause-next : goal.add-requires-clause-next
add-requires-clause-next g c =
    let is : c.fill_listen.new.bytes.items ≡ record_bytes
    (listen_entry c.args.self.now.sends.now.summaries.items c.args.secs) = search rules in
    listen_next c.args.self.now.sends.now.summaries.items c.args.secs c.fill_listen.new.bytes.items
    c.args.self.now.journal.has_record
    (listen_allowed c.args.self.now.sends.now.summaries.items c.args.secs c.args.self.now.sends.now.few
    c.args.self.now.sends.now.words c.args.self.now.sends.now.distinct c.ranges.secs.fits) is c.requires.unbegun

pub add-requires-clause-short : goal.add-requires-clause-short
add-requires-clause-short g c =
    let is : c.fill_listen.new.bytes.items ≡ record_bytes
    (listen_entry c.args.self.now.sends.now.summaries.items c.args.secs) = search rules in
    bytes_short (listen_entry c.args.self.now.sends.now.summaries.items c.args.secs) c.fill_listen.new.bytes.items
    (listen_allowed c.args.self.now.sends.now.summaries.items c.args.secs c.args.self.now.sends.now.few
    c.args.self.now.sends.now.words c.args.self.now.sends.now.distinct c.ranges.secs.fits) is

pub returns-in-Err-clause-records : goal.returns-in-Err-clause-records
returns-in-Err-clause-records g c =
    untouched (record_bytes (listen_entry c.args.self.now.sends.now.summaries.items c.args.secs))
    (kept_of (g.D.Disk.report c.args.self.now.journal.disk.now).past c.args.self.now.journal.gate
    c.args.self.now.journal.has_record) (kept_of (g.D.Disk.report c.args.self.now.journal.disk.now).past
    c.args.self.now.journal.gate c.args.self.now.journal.has_record) refl

pub returns-in-Ok-clause-allowed : goal.returns-in-Ok-clause-allowed
returns-in-Ok-clause-allowed g c =
    listen_allowed c.args.self.now.sends.now.summaries.items c.args.secs c.args.self.now.sends.now.few
    c.args.self.now.sends.now.words c.args.self.now.sends.now.distinct c.ranges.secs.fits

pub returns-in-Err-clause-allowed : goal.returns-in-Err-clause-allowed
returns-in-Err-clause-allowed g c =
    listen_allowed c.args.self.now.sends.now.summaries.items c.args.secs c.args.self.now.sends.now.few
    c.args.self.now.sends.now.words c.args.self.now.sends.now.distinct c.ranges.secs.fits
