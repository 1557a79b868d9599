-- What `query ADDRESS TEXT` promises.
use Rattle.std.specs.Prelude.{◌≡◌, ◌≢◌, ℕ, ◌⊎◌, List, [], ◌∷◌}
use Rattle.command_io.specs.Reports.{Reports}
use Rattle.command_io.specs.declared.ending.Ending.TheVariants.{LinksFailed, OutOfMemory}
use Rattle.command_io.specs.declared.status.Status.{Status}
use Rattle.command_io.specs.declared.status.Status.TheVariants.{Done, Memory, Unanswered, BadReply}
use Rattle.framing.specs.Frames.{frames_of}
use Rattle.ports.specs.Calls.{LinksReport}
use Rattle.ports.specs.Counts.{IsStill}
use Rattle.ports.specs.Writing.{SinkReport}
use Rattle.riemann_msg.specs.Spelling.{spelling}
use Rattle.command_client.specs.Endings.{Says, status_of}
use Rattle.command_client.specs.Exchanges.{ExchangeEnds}
use Rattle.command_client.specs.Queries.{asking, query_frame}
use Rattle.command_client.specs.declared.ending.ClientEnding.{ClientEnding}
use Rattle.command_client.specs.declared.ending.ClientEnding.TheVariants.{Shared}

-- there was no memory for the request, and nothing was done
pub record HasNoRequest (links links' : LinksReport) (out out' : SinkReport) (ending : ClientEnding) : Type 0 where
  pub ended : ending ≡ Shared OutOfMemory
  pub uncalled : links' ≡ links
  pub untouched : out' ≡ out

abbrev pub QueryEnds : List ℕ → List ℕ → ℕ → LinksReport → LinksReport → SinkReport → SinkReport → ClientEnding → Type 0
QueryEnds address text limit links links' out out' ending =
    HasNoRequest links links' out out' ending
    ⊎ ExchangeEnds address (query_frame text) limit links links' out out' ending

-- the status of a call that met no fault
abbrev pub HasAsked : Status → Type 0
HasAsked Done = Unit {0}
HasAsked Unanswered = Unit {0}
HasAsked BadReply = Unit {0}
HasAsked Memory = Unit {0}
HasAsked _ = ⊥

-- without a fault the status says what the exchange came to, or memory runs out
abbrev pub AskCompletes : Reports → Reports → Status → Type 0
AskCompletes old new status =
    IsStill old.links.faults new.links.faults → IsStill old.out.faults new.out.faults → HasAsked status

pub record Asks (address text : List ℕ) (limit : ℕ) (old new : Reports) (status : Status) : Type 0 where
  -- how it ended, as the status and the line on the error stream say
  pub ending : ClientEnding
  pub ended : status ≡ status_of ending
  pub says : Says ending old.err new.err
  -- the one request is the message that asks the query
  pub one : frames_of (query_frame text) ≡ spelling (asking text) ∷ []
  -- why it ended so, which calls were made of the links, and what was written
  pub ends : QueryEnds address text limit old.links new.links old.out new.out ending
  -- unless it ended with LinksFailed, no call of the links failed
  pub works : ending ≢ Shared LinksFailed → new.links.faults ≡ old.links.faults
  -- it reads no file, builds no pattern, and enters no fork
  pub idle : (new.store ≡ old.store) × (new.patterns ≡ old.patterns) × (new.forks ≡ old.forks)
  pub complete : AskCompletes old new status
