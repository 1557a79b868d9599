-- The calls of links that resume a journal, one after another.
use Rattle.std.specs.Prelude.{List, []}
use Rattle.disk_port.specs.Calls.{DiskReport}
use Rattle.disk_port.specs.declared.disk.Disk.{Ghosts as Disk}
use Rattle.journal_format.specs.declared.finder.Found.{Found}
use Rattle.journal_format.specs.declared.turn_record.TurnRecord.{TurnRecord}
use Rattle.journal_links.specs.Seeing.{reached}
use Rattle.journal_links.specs.Steps.{CloseOf, ListenOf, NextOf, Progress, SendOf, progress_of}
use Rattle.journal_links.specs.declared.links.JournalLinks.{JournalLinks}
use Rattle.ports.specs.Calls.{LinksReport}
use Rattle.ports.specs.declared.entry.Entry.{Entry}
use Rattle.ports.specs.declared.links.Links.{Ghosts as Links}
use Rattle.recorded_links.specs.Seeing.{seen_of}
use Rattle.recorded_links.specs.Steps.{Seen}
use Rattle.recorded_links.specs.Making.{AreCalls, Steps, uncalled}
use Rattle.journal_links.specs.Opened.{first_free}
use Rattle.journal_links.specs.Replaying.{summaries_next}

-- the links and the journal, and how far its turns were given again
pub record State : Type 0 where
  pub seen : Seen
  pub progress : Progress

abbrev pub state_of : {L D : Type 0} {l : Links L} {d : Disk D} → JournalLinks L D l d → State
state_of links = record { seen = seen_of links.recorded; progress = reached links }

-- what each call of links that keep a journal does
abbrev pub resuming : Steps State
resuming = record {
  seen = λ state. state.seen;
  listens = λ old new. ListenOf old.seen new.seen old.progress new.progress;
  turns = λ old new. NextOf old.seen new.seen old.progress new.progress;
  sends = λ old new. SendOf old.seen new.seen old.progress new.progress;
  closes = λ old new. CloseOf old.seen new.seen old.progress new.progress;
}

-- Links that resume the journal with these records, which ends there, over these links and this disk, before the first
-- call. No turn of the journal was given.
abbrev pub unresumed : Found → List TurnRecord → LinksReport → DiskReport → State
unresumed found records links disk = record {
  seen = uncalled (first_free records) found links disk;
  progress = progress_of records 0 (summaries_next records) [];
}

-- all calls of such links since then
abbrev pub Made : Found → List TurnRecord → LinksReport → DiskReport → List Entry → State → Type 0
Made found records links disk calls now = AreCalls resuming (unresumed found records links disk) calls now
