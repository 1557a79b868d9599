-- What calls of links that record read and change, of the links themselves.
use Rattle.std.specs.Prelude.{List}
use Rattle.disk_port.specs.Calls.{DiskReport}
use Rattle.disk_port.specs.declared.disk.Disk.{Ghosts as Disk}
use Rattle.journal_format.specs.declared.turn_record.Summary.{Summary}
use Rattle.ports.specs.Calls.{LinksReport}
use Rattle.ports.specs.declared.links.Links.{Ghosts as Links}
use Rattle.recorded_links.specs.Keeping.{Kept, kept_of}
use Rattle.recorded_links.specs.Numbers.{first_after}
use Rattle.recorded_links.specs.Steps.{Seen, own_report, seen}
use Rattle.recorded_links.specs.declared.links.RecordedLinks.{RecordedLinks}
use Rattle.recorded_links.specs.declared.recorder.TurnRecorder.{TurnRecorder}

-- what the disk of the journal reports
abbrev pub disk_in : {D : Type 0} {d : Disk D} → TurnRecorder D d → DiskReport
disk_in {d = d} recorder = d.report recorder.journal.disk.now

-- the journal in which turns are recorded
abbrev pub kept_in : {D : Type 0} {d : Disk D} → TurnRecorder D d → Kept
kept_in recorder = kept_of (disk_in recorder).past recorder.journal.gate recorder.journal.has_record

-- what came of the sends since the last record
abbrev pub sends_in : {D : Type 0} {d : Disk D} → TurnRecorder D d → List Summary
sends_in recorder = recorder.sends.now.summaries.items

-- what the disk of their journal reports
abbrev pub disk_of : {L D : Type 0} {l : Links L} {d : Disk D} → RecordedLinks L D l d → DiskReport
disk_of links = disk_in links.recorder

abbrev pub seen_of : {L D : Type 0} {l : Links L} {d : Disk D} → RecordedLinks L D l d → Seen
seen_of {l = l} links =
    seen (l.report links.inner.now) (first_after links.last) (disk_of links) links.recorder.journal.gate
    links.recorder.journal.has_record links.recorder.sends.now.summaries.items links.spent

-- what they report
abbrev pub report_of : {L D : Type 0} {l : Links L} {d : Disk D} → RecordedLinks L D l d → LinksReport
report_of {l = l} links = own_report links.log (l.report links.inner.now) (disk_of links)
