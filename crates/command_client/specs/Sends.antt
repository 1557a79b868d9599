-- What `send ADDRESS FILE` promises.
use Rattle.std.specs.Prelude.{◌≡◌, ◌≢◌, ℕ, ◌+◌, ◌≤◌, ◌⊎◌, List, [], ◌∷◌, length, Option}
use Rattle.command_io.specs.Files.{Gives, GivesNone, ReadMore, bad_read, good_read}
use Rattle.command_io.specs.Reports.{Reports}
use Rattle.command_io.specs.declared.ending.Ending.TheVariants.{Unread, OverLimit, BytesLeft, LinksFailed, OutOfMemory}
use Rattle.command_io.specs.declared.limits.TheConstants.{FILE_LIMIT}
use Rattle.command_io.specs.declared.status.Status.{Status}
use Rattle.command_io.specs.declared.status.Status.TheVariants.{Done, Memory, Truncated, Unanswered, BadReply}
use Rattle.framing.specs.Frames.{partial}
use Rattle.ports.specs.Calls.{LinksReport}
use Rattle.ports.specs.Counts.{IsStill, Rose, RoseBy}
use Rattle.ports.specs.Reading.{IsHeld, IsOverLimit, StoreReport}
use Rattle.ports.specs.Writing.{SinkReport}
use Rattle.ports.specs.declared.store.StoreRead.{StoreRead}
use Rattle.command_client.specs.Endings.{HasRead, Says, status_of}
use Rattle.command_client.specs.Exchanges.{ExchangeEnds}
use Rattle.command_client.specs.declared.ending.ClientEnding.{ClientEnding}
use Rattle.command_client.specs.declared.ending.ClientEnding.TheVariants.{Shared}

-- ---- the frames

-- bytes are left after the last whole frame, and nothing was done
pub record LeavesBytes (stream : List ℕ) (links links' : LinksReport) (out out' : SinkReport)
    (ending : ClientEnding) : Type 0 where
  pub ended : ending ≡ Shared (BytesLeft (length (partial stream)))
  pub left : partial stream ≢ []
  pub uncalled : links' ≡ links
  pub untouched : out' ≡ out

-- the stream is whole frames, and they were sent
pub record SendsFrames (address stream : List ℕ) (limit : ℕ) (links links' : LinksReport) (out out' : SinkReport)
    (ending : ClientEnding) : Type 0 where
  pub none_left : partial stream ≡ []
  pub ends : ExchangeEnds address stream limit links links' out out' ending

abbrev pub FramesEnd : List ℕ → List ℕ → ℕ → LinksReport → LinksReport → SinkReport → SinkReport → ClientEnding → Type 0
FramesEnd address stream limit links links' out out' ending =
    LeavesBytes stream links links' out out' ending ⊎ SendsFrames address stream limit links links' out out' ending

-- ---- the file

-- why there are no frames of the file of the name; the ending has this name and its limit
abbrev pub IsUnread : List ℕ → StoreReport → StoreReport → ClientEnding → Type 0
IsUnread file store store' (Shared (Unread name)) =
    Rose store.faults store'.faults × (name.now ≡ file) × GivesNone store store'
IsUnread file store store' (Shared (OverLimit name limit)) = IsOverLimit (store.held file) FILE_LIMIT
    × RoseBy (FILE_LIMIT + 1) store.taken store'.taken × (name.now ≡ file) × (limit ≡ FILE_LIMIT)
    × GivesNone store store'
IsUnread file store store' (Shared OutOfMemory) = GivesNone store store'
IsUnread file store store' _ = ⊥

-- the file was not read, and nothing was done
pub record RefusesFile (file : List ℕ) (store store' : StoreReport) (links links' : LinksReport) (out out' : SinkReport)
    (ending : ClientEnding) : Type 0 where
  pub unread : IsUnread file store store' ending
  pub uncalled : links' ≡ links
  pub untouched : out' ≡ out

-- a read of the file of the name gave these bytes, within its limit
pub record SendsFile (address file : List ℕ) (limit : ℕ) (store store' : StoreReport) (links links' : LinksReport)
    (out out' : SinkReport) (ending : ClientEnding) : Type 0 where
  pub frames : List ℕ
  pub gives : Gives file frames store store'
  pub within : length frames ≤ FILE_LIMIT
  pub ends : FramesEnd address frames limit links links' out out' ending

abbrev pub FileEnds : List ℕ → List ℕ → ℕ → StoreReport → StoreReport → LinksReport → LinksReport → SinkReport
    → SinkReport → ClientEnding → Type 0
FileEnds address file limit store store' links links' out out' ending =
    RefusesFile file store store' links links' out out' ending
    ⊎ SendsFile address file limit store store' links links' out out' ending

-- The file was read once, and the read failed exactly where the ending says so. If memory ran out, it may not have been
-- read.
abbrev pub ReadsOnce : List ℕ → Option (List StoreRead) → Option (List StoreRead) → ClientEnding → Type 0
ReadsOnce file old new (Shared (Unread name)) = ReadMore (bad_read file ∷ []) old new
ReadsOnce file old new (Shared OutOfMemory) = ReadMore [] old new ⊎ ReadMore (good_read file ∷ []) old new
ReadsOnce file old new _ = ReadMore (good_read file ∷ []) old new

-- ---- the command

-- the status of a call that met no fault
abbrev pub HasSent : List ℕ → Status → Type 0
HasSent frames Truncated = partial frames ≢ []
HasSent frames Done = partial frames ≡ []
HasSent frames Unanswered = partial frames ≡ []
HasSent frames BadReply = partial frames ≡ []
HasSent frames Memory = Unit {0}
HasSent frames _ = ⊥

-- With a file within its limit and no fault, the status says what is left in the file, or what the exchange came to, or
-- memory runs out.
abbrev pub SendCompletes : List ℕ → Reports → Reports → Status → Type 0
SendCompletes file old new status = (frames : List ℕ) → IsHeld (old.store.held file) frames → length frames ≤ FILE_LIMIT
    → IsStill old.store.faults new.store.faults → IsStill old.links.faults new.links.faults
    → IsStill old.out.faults new.out.faults
    → HasSent frames status

pub record Sends (address file : List ℕ) (limit : ℕ) (old new : Reports) (status : Status) : Type 0 where
  -- how it ended, as the status and the line on the error stream say
  pub ending : ClientEnding
  pub ended : status ≡ status_of ending
  pub says : Says ending old.err new.err
  -- why it ended so, which calls were made of the links, and what was written
  pub ends : FileEnds address file limit old.store new.store old.links new.links old.out new.out ending
  pub reads : ReadsOnce file old.store.reads new.store.reads ending
  -- where the file was read, its read did not fail
  pub quiet : HasRead ending → new.store.faults ≡ old.store.faults
  -- unless it ended with LinksFailed, no call of the links failed
  pub works : ending ≢ Shared LinksFailed → new.links.faults ≡ old.links.faults
  -- it builds no pattern and enters no fork
  pub idle : (new.patterns ≡ old.patterns) × (new.forks ≡ old.forks)
  pub complete : SendCompletes file old new status
