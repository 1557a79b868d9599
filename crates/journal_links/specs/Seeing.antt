-- What calls of links that keep a journal read and change, of the links themselves, and what these report.
use Rattle.std.specs.Prelude.{List}
use Rattle.disk_port.specs.declared.disk.Disk.{Ghosts as Disk}
use Rattle.journal_format.specs.declared.finder.Found.{Found}
use Rattle.journal_links.specs.Steps.{Progress, progress_of}
use Rattle.journal_links.specs.declared.links.JournalLinks.{JournalLinks}
use Rattle.ports.specs.Calls.{LinksReport}
use Rattle.ports.specs.declared.entry.Entry.{Entry}
use Rattle.ports.specs.declared.links.Links.{Ghosts as Links}
use Rattle.recorded_links.specs.Seeing.{disk_of}
use Rattle.recorded_links.specs.Steps.{own_report}

-- how far they have given the turns of the journal again
abbrev pub reached : {L D : Type 0} {l : Links L} {d : Disk D} → JournalLinks L D l d → Progress
reached links = progress_of links.replay.now.records links.replay.now.given links.replay.now.left.items
    links.opened.now.numbers.keys

-- what they report if this is their log
abbrev pub report_with : {L D : Type 0} {l : Links L} {d : Disk D} → List Entry → JournalLinks L D l d → LinksReport
report_with {l = l} log links = own_report log (l.report links.recorded.inner.now) (disk_of links.recorded)

abbrev pub report_of : {L D : Type 0} {l : Links L} {d : Disk D} → JournalLinks L D l d → LinksReport
report_of links = report_with links.log links

-- where their journal ends
abbrev pub end_of : {L D : Type 0} {l : Links L} {d : Disk D} → JournalLinks L D l d → Found
end_of links = record {
  gate = links.recorded.recorder.journal.gate;
  has_record = links.recorded.recorder.journal.has_record;
}
