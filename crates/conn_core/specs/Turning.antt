-- What a turn does.
use Rattle.std.specs.Prelude.{◌≡◌, ◌≢◌, ℕ, zero, suc, ◌+◌, ◌<◌, ◌≤◌, List, [], ◌∷◌, ◌++◌, length, take, drop, Option}
use Rattle.std.specs.Prelude.{Result, Err, OnOk, OnErr}
use Rattle.std.specs.Option.{option_map}
use Rattle.ev_types.specs.declared.item.Notice.{Notice}
use Rattle.hub_link.specs.event_core.Core.{CoreConfig, forks_by}
use Rattle.hub_link.specs.hub_meaning.Legal.{IsLegal}
use Rattle.hub_link.specs.hub_meaning.Runs.{Step, notices_after, plain, state_after}
use Rattle.hub_link.specs.hub_meaning.Verdicts.{AfterVerdicts, PatternsReport, Refusal}
use Rattle.list_laws.specs.Prefix.{IsPrefix}
use Rattle.notice_sink.specs.Lines.{lines_of}
use Rattle.ports.specs.declared.entry.Entry.{Entry}
use Rattle.ports.specs.declared.entry.Entry.TheVariants.{Next}
use Rattle.ports.specs.declared.links.Turn.{Turn}
use Rattle.ports.specs.declared.links.Want.{Want}
use Rattle.ports.specs.Counts.{count_after}
use Rattle.ports.specs.Writing.{Got, GotPrefix, SinkReport}
use Rattle.conn_core.specs.Hub.{Follows, wants_in}
use Rattle.conn_core.specs.declared.hub.Hub.{Hub}
use Rattle.conn_core.specs.declared.stop.Stop.{Stop}
use Rattle.conn_core.specs.declared.stop.Stop.TheVariants.{SinkFault}

-- a count of puts after n more; at its greatest number it stays
abbrev pub puts_after : ℕ → ℕ → ℕ
puts_after zero count = count
puts_after (suc more) count = count_after (puts_after more count) 1

-- the same, where it is reported
abbrev pub CountedPuts : Option ℕ → ℕ → Option ℕ → Type 0
CountedPuts old more new = new ≡ option_map (puts_after more) old

-- the sink got the lines of these notices, each in one put
pub record GotLines (old : SinkReport) (notices : List Notice) (new : SinkReport) : Type 0 where
  pub text : Got old.text (lines_of notices) new.text
  pub puts : CountedPuts old.puts (length notices) new.puts

-- The sink got the lines of the first of these notices, each in one put. Of the next line it may have got a prefix, in
-- a put that is not counted.
pub record GotFirstLines (old : SinkReport) (notices : List Notice) (new : SinkReport) : Type 0 where
  pub whole : ℕ
  pub within : whole ≤ length notices
  -- where there are lines, not all were put
  pub missing : notices ≢ [] → whole < length notices
  pub part : List ℕ
  pub next : IsPrefix part (lines_of (take 1 (drop whole notices)))
  pub text : Got old.text (lines_of (take whole notices) ++ part) new.text
  pub puts : CountedPuts old.puts whole new.puts

-- the step of a turn
abbrev pub turn_step : List Want → Turn → List ℕ → List (Option Refusal) → Step
turn_step wants turn piece verdicts = record { entry = Next wants turn piece; verdicts = verdicts }

-- the steps of a run, then a turn, and then the calls that were made of links in it
abbrev pub longer : List Step → Step → List Entry → List Step
longer steps turn run = steps ++ (turn ∷ plain run)

-- The turn was done, or the hub stopped in the middle of it. The verdicts on its messages are those that were reported
-- of the patterns.
pub record Turns (turn : Turn) (piece : List ℕ) (hub hub' : Hub) (patterns patterns' : PatternsReport)
    (forks forks' : ℕ)
    (sink sink' : SinkReport) (result : Result (Unit {0}) Stop) (config : CoreConfig) (steps : List Step)
    (run : List Entry) : Type 0 where
  pub verdicts : List (Option Refusal)
  pub reported : AfterVerdicts patterns patterns' verdicts
  pub legal : IsLegal config (longer steps (turn_step (wants_in hub) turn piece verdicts) run)
  pub made : List Notice
  pub notices : notices_after config (longer steps (turn_step (wants_in hub) turn piece verdicts) run)
      ≡ notices_after config steps ++ made
  -- the lines of these notices were written, or a prefix of them
  pub lines : OnOk result (GotLines sink made sink')
  pub prefix : OnErr result (GotPrefix sink.text (lines_of made) sink'.text)
  -- the puts that were counted are the lines that were written whole
  pub first_lines : OnErr result (GotFirstLines sink made sink')
  -- the sink failed only if there was a line to be written
  pub some : result ≡ Err SinkFault → made ≢ []
  pub follows : OnOk result (Follows hub' config (longer steps (turn_step (wants_in hub) turn piece verdicts) run))
  pub counted :
      OnOk result
      (forks + forks_by config
      (state_after config (longer steps (turn_step (wants_in hub) turn piece verdicts) run)).arrivals
      ≡ forks' + forks_by config (state_after config steps).arrivals)

-- it does so after any steps that the hub follows
abbrev pub TurnsFrom : Turn → List ℕ → Hub → Hub → PatternsReport → PatternsReport → ℕ → ℕ → SinkReport → SinkReport
    → Result (Unit {0}) Stop → List Entry → Type 0
TurnsFrom turn piece hub hub' patterns patterns' forks forks' sink sink' result run =
    (config : CoreConfig) (steps : List Step) → Follows hub config steps
    → Turns turn piece hub hub' patterns patterns' forks forks' sink sink' result config steps run
