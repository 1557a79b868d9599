-- What a run comes to: the calls of the links, in order, with their answers. Each turn is one reading of the clock and
-- one occurrence on one link.
use Rattle.std.specs.Prelude.{ℕ, ◌-◌, if◌then◌else◌, List, [], ◌∷◌, ◌++◌, length, map, drop, replicate, Option, Some}
use Rattle.std.specs.Prelude.{None, nat_lt, ◌&&◌, nat_le, Bool, true, false}
use Rattle.ev_types.specs.declared.item.Notice.{Notice}
use Rattle.framing.specs.declared.TheConstants.{BODY_LIMIT}
use Rattle.framing.specs.Frames.{frames_of, partial, length_at}
use Rattle.ports.specs.declared.entry.Entry.{Entry}
use Rattle.ports.specs.declared.entry.Entry.TheVariants.{Listen, Next, Send, Close}
use Rattle.ports.specs.declared.links.Turn.{Turn}
use Rattle.ports.specs.Playing.{is_turn_answer}
use Rattle.ports.specs.declared.links.What.{What}
use Rattle.ports.specs.declared.links.What.TheVariants.{Idle, Opened, Read, Ended, Broken, Room, Stopped, Failed}
use Rattle.ports.specs.declared.links.What.TheVariants.{Memory}
use Rattle.stream_meaning.specs.Arrivals.{Arrival, Elapsed, CoreConfig, state_by, notices_by}
use Rattle.ev_types.specs.Clock.{next_moment}
use Rattle.hub_meaning.specs.Links.{Link, ReadClosed, changed, closed, broken, ended, find_link, is_open, opened, sent}
use Rattle.hub_meaning.specs.Links.{unblocked, unsent, with_stage}
use Rattle.hub_meaning.specs.Messages.{posts_of}
use Rattle.hub_meaning.specs.Replies.{reply_to, reply_to_oversized}
use Rattle.hub_meaning.specs.Verdicts.{Message, Refusal, judged}

-- an entry, and the verdicts on the messages that come with it
pub record Step : Type 0 where
  pub entry : Entry
  pub verdicts : List (Option Refusal)

abbrev pub entry_of : Step → Entry
entry_of step = step.entry

abbrev pub verdicts_of : Step → List (Option Refusal)
verdicts_of step = step.verdicts

-- calls that bring no message
abbrev pub plain : List Entry → List Step
plain = map (λ entry. record { entry = entry; verdicts = [] })

-- what a run has come to
pub record RunState : Type 0 where
  pub now : ℕ
  -- the seconds that passed and the events that were posted
  pub arrivals : List Arrival
  -- every link that was opened, by rising number
  pub links : List Link

-- ---- what is read of one link

-- the arrivals, and the link that messages come from
pub record Talk : Type 0 where
  pub arrivals : List Arrival
  pub link : Link

-- the frames of a link's bytes that are whole only with this piece
abbrev pub new_frames : List ℕ → List ℕ → List (List ℕ)
new_frames came piece = drop (length (frames_of came)) (frames_of (came ++ piece))

abbrev pub with_reply : List ℕ → Link → Link
with_reply reply link = record link { replies = link.replies ++ reply }

-- the events of a message arrive, and then it is answered
abbrev pub answered : CoreConfig → ℕ → Message → Talk → Talk
answered config now message talk =
    let arrivals = talk.arrivals ++ posts_of now message.body in record {
      arrivals = arrivals;
      link = with_reply (reply_to now (state_by config arrivals).log (length (unsent talk.link)) message) talk.link;
    }

abbrev pub all_answered : CoreConfig → ℕ → List Message → Talk → Talk
all_answered config now [] talk = talk
all_answered config now (message ∷ messages) talk = all_answered config now messages (answered config now message talk)

-- the bytes begin with a length over the limit
abbrev pub is_oversized : List ℕ → Bool
is_oversized bytes = nat_le 4 (length bytes) && nat_lt BODY_LIMIT (length_at bytes)

-- after a length over the limit, which is answered too, no more is read
abbrev pub cut_off : Link → Link
cut_off link =
    if is_oversized (partial link.came)
    then with_stage ReadClosed (with_reply (reply_to_oversized (length_at (partial link.came))) link)
    else link

abbrev pub with_piece : List ℕ → Link → Link
with_piece piece link = record link { came = link.came ++ piece }

-- the messages that are whole only with this piece
abbrev pub messages_in : List ℕ → List (Option Refusal) → Link → List Message
messages_in piece verdicts link = judged (new_frames link.came piece) verdicts

abbrev pub talk_of : List ℕ → RunState → Link → Talk
talk_of piece state link = record { arrivals = state.arrivals; link = with_piece piece link }

abbrev pub with_talk : RunState → Talk → RunState
with_talk state talk = record {
  now = state.now;
  arrivals = talk.arrivals;
  links = changed talk.link.number (λ link. cut_off talk.link) state.links;
}

abbrev pub read_from : CoreConfig → List ℕ → List (Option Refusal) → RunState → Link → RunState
read_from config piece verdicts state link =
    if is_open link
    then with_talk state (all_answered config state.now (messages_in piece verdicts link) (talk_of piece state link))
    else state

-- the piece is read where its link is open
abbrev pub read_by : CoreConfig → List ℕ → List (Option Refusal) → RunState → Option Link → RunState
read_by config piece verdicts state None = state
read_by config piece verdicts state (Some link) = read_from config piece verdicts state link

-- ---- a turn, and the other calls

-- the seconds up to this moment pass
abbrev pub passed : ℕ → RunState → RunState
passed moment state = record state { now = moment; arrivals = state.arrivals ++ replicate (moment - state.now) Elapsed }

abbrev pub with_links : List Link → RunState → RunState
with_links links state = record state { links = links }

abbrev pub occurred : CoreConfig → What → List ℕ → List (Option Refusal) → RunState → RunState
occurred config Idle piece verdicts state = state
occurred config (Opened number) piece verdicts state = with_links (opened number state.links) state
occurred config (Read number count) piece verdicts state =
    read_by config piece verdicts state (find_link number state.links)
occurred config (Ended number) piece verdicts state = with_links (changed number ended state.links) state
occurred config (Broken number) piece verdicts state = with_links (changed number broken state.links) state
occurred config (Room number) piece verdicts state = with_links (changed number unblocked state.links) state
occurred config Stopped piece verdicts state = state
occurred config Failed piece verdicts state = state
occurred config Memory piece verdicts state = state

-- a turn: its reading of the clock, and then its occurrence
abbrev pub turned : CoreConfig → Turn → List ℕ → List (Option Refusal) → RunState → RunState
turned config turn piece verdicts state =
    if is_turn_answer turn.what
    then occurred config turn.what piece verdicts (passed (next_moment state.now turn.secs) state) else state

abbrev pub after_entry : CoreConfig → Entry → List (Option Refusal) → RunState → RunState
after_entry config (Listen address answer) verdicts state = state
after_entry config (Next wants turn piece) verdicts state = turned config turn piece verdicts state
after_entry config (Send number bytes answer) verdicts state =
    with_links (changed number (sent bytes answer) state.links) state
after_entry config (Close number) verdicts state = with_links (changed number closed state.links) state

abbrev pub after_step : CoreConfig → Step → RunState → RunState
after_step config step state = after_entry config step.entry step.verdicts state

abbrev pub state_from : CoreConfig → List Step → RunState → RunState
state_from config [] state = state
state_from config (step ∷ steps) state = state_from config steps (after_step config step state)

-- nothing has arrived
abbrev pub first_state : CoreConfig → RunState
first_state config = record { now = config.start; arrivals = []; links = [] }

-- what the steps after `listen` come to, where the config's start is the first moment
abbrev pub state_after : CoreConfig → List Step → RunState
state_after config steps = state_from config steps (first_state config)

-- the notices of these steps
abbrev pub notices_after : CoreConfig → List Step → List Notice
notices_after config steps = notices_by config (state_after config steps).arrivals
