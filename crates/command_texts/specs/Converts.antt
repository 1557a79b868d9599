-- What `graphite FILE` and `graphite FILE --host K` promise.
use Rattle.std.specs.Prelude.{◌≡◌, ◌≢◌, ℕ, ◌+◌, ◌≤◌, ◌⊎◌, List, [], ◌∷◌, ◌++◌, length, codes, Option}
use Rattle.std.specs.Fmt.{decimal}
use Rattle.std.specs.List.{flat_map}
use Rattle.command_io.specs.Endings.{GotLineOf}
use Rattle.command_io.specs.Files.{Gives, GivesNone, MayGive, ReadMore, bad_read, good_read}
use Rattle.command_io.specs.Lines.{memory_line, too_long_line, unread_line}
use Rattle.command_io.specs.Reports.{Reports}
use Rattle.command_io.specs.declared.limits.TheConstants.{FILE_LIMIT}
use Rattle.command_io.specs.declared.status.Status.{Status}
use Rattle.command_io.specs.declared.status.Status.TheVariants.{Done, Lines, Memory, ReadFault, SinkFault, TooLong}
use Rattle.graphite_lines.specs.Frames.{AreReadBack, accepted, frames_in, refused_lines}
use Rattle.graphite_lines.specs.Lines.{lines_of}
use Rattle.graphite_lines.specs.Names.{why_name}
use Rattle.graphite_lines.specs.declared.bad.BadLine.{BadLine}
use Rattle.ports.specs.Counts.{IsStill, Rose, RoseBy}
use Rattle.ports.specs.Reading.{IsHeld, IsOverLimit, StoreReport}
use Rattle.ports.specs.Writing.{SinkReport}
use Rattle.ports.specs.declared.store.StoreRead.{StoreRead}
use Rattle.command_texts.specs.Writing.{WritesAll, WritesSome}

-- the line that says why one is refused
abbrev pub refused_line : BadLine → List ℕ
refused_line bad = codes "riemann: line " ++ (decimal bad.line ++ (codes " refused: " ++ (why_name bad.why ++ 10 ∷ [])))

abbrev pub refused_text : List BadLine → List ℕ
refused_text bad = flat_map refused_line bad

-- ---- what was written

-- The frames of the text were written. They are read again, at any moment, as the events of its accepted lines.
pub record WritesFrames (host_part : Option ℕ) (text : List ℕ) (old new : SinkReport) : Type 0 where
  pub all : WritesAll (frames_in host_part text) old new
  pub read_back : AreReadBack (accepted host_part (lines_of text)) (frames_in host_part text)

-- How the call ended once the text was read, from what output and error stream report before and after.
abbrev pub ConvertsText : Option ℕ → List ℕ → SinkReport → SinkReport → SinkReport → SinkReport → Status → Type 0
ConvertsText host_part text out out' err err' Done =
    (refused_lines host_part text ≡ []) × WritesFrames host_part text out out' × (err' ≡ err)
ConvertsText host_part text out out' err err' Lines =
    (refused_lines host_part text ≢ []) × WritesFrames host_part text out out'
    × WritesAll (refused_text (refused_lines host_part text)) err err'
ConvertsText host_part text out out' err err' SinkFault =
    (WritesSome (frames_in host_part text) out out' × (err' ≡ err))
    ⊎ ((refused_lines host_part text ≢ []) × WritesFrames host_part text out out'
    × WritesSome (refused_text (refused_lines host_part text)) err err')
ConvertsText host_part text out out' err err' Memory = (out' ≡ out) × GotLineOf memory_line err err'
ConvertsText host_part text out out' err err' _ = ⊥

-- ---- the command

-- a read of the file of the name gave this text, which is within its limit, from what the store reports before and after
abbrev pub IsText : List ℕ → StoreReport → StoreReport → List ℕ → Type 0
IsText name old new text = Gives name text old new × (length text ≤ FILE_LIMIT)

-- the file could not be read, or it was read and converted
abbrev pub ConvertEnds : List ℕ → Option ℕ → Reports → Reports → Status → Type 0
ConvertEnds file host_part old new ReadFault =
    Rose old.store.faults new.store.faults × (new.out ≡ old.out) × GotLineOf (unread_line file) old.err new.err
    × GivesNone old.store new.store
ConvertEnds file host_part old new TooLong = IsOverLimit (old.store.held file) FILE_LIMIT
    × RoseBy (FILE_LIMIT + 1) old.store.taken new.store.taken × (new.out ≡ old.out)
    × GotLineOf (too_long_line file FILE_LIMIT) old.err new.err × GivesNone old.store new.store
ConvertEnds file host_part old new Memory =
    (new.out ≡ old.out) × GotLineOf memory_line old.err new.err × MayGive file old.store new.store
ConvertEnds file host_part old new status = (text : List ℕ) × IsText file old.store new.store text
    × ConvertsText host_part text old.out new.out old.err new.err status

-- The file was read once, and the read failed exactly where the status says so. If memory ran out, it may not have been
-- read.
abbrev pub ReadsOnce : List ℕ → Option (List StoreRead) → Option (List StoreRead) → Status → Type 0
ReadsOnce file old new ReadFault = ReadMore (bad_read file ∷ []) old new
ReadsOnce file old new Memory = ReadMore [] old new ⊎ ReadMore (good_read file ∷ []) old new
ReadsOnce file old new _ = ReadMore (good_read file ∷ []) old new

-- the statuses of a call that wrote all that it had to
abbrev pub IsConverted : Status → Type 0
IsConverted Done = Unit {0}
IsConverted Lines = Unit {0}
IsConverted _ = ⊥

-- the status of a call that met no fault, by the refused lines
abbrev pub HasConverted : List BadLine → Status → Type 0
HasConverted bad Done = bad ≡ []
HasConverted bad Lines = bad ≢ []
HasConverted bad Memory = Unit {0}
HasConverted bad _ = ⊥

-- with a file within its limit and no fault all is written, or memory runs out
abbrev pub ConvertCompletes : List ℕ → Option ℕ → Reports → Reports → Status → Type 0
ConvertCompletes file host_part old new status =
    (text : List ℕ) → IsHeld (old.store.held file) text → length text ≤ FILE_LIMIT
    → IsStill old.store.faults new.store.faults → IsStill old.out.faults new.out.faults
    → IsStill old.err.faults new.err.faults
    → HasConverted (refused_lines host_part text) status

pub record Converts (file : List ℕ) (host_part : Option ℕ) (old new : Reports) (status : Status) : Type 0 where
  -- how it ended, and what it wrote
  pub ends : ConvertEnds file host_part old new status
  pub reads : ReadsOnce file old.store.reads new.store.reads status
  -- where it wrote all that it had to, its read did not fail
  pub quiet : IsConverted status → new.store.faults ≡ old.store.faults
  -- it calls no link, builds no pattern, and enters no fork
  pub idle : (new.links ≡ old.links) × (new.patterns ≡ old.patterns) × (new.forks ≡ old.forks)
  pub complete : ConvertCompletes file host_part old new status
