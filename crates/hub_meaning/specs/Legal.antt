-- Which calls a server may make, one after another.
use Rattle.std.specs.Prelude.{◌≡◌, ℕ, ◌<◌, ◌≤◌, Bool, true, false, List, [], ◌∷◌, length, take, Option, Some, None}
use Rattle.stream_meaning.specs.Arrivals.{CoreConfig}
use Rattle.ports.specs.declared.entry.Entry.{Entry}
use Rattle.ports.specs.declared.entry.Entry.TheVariants.{Listen, Next, Send, Close}
use Rattle.ports.specs.declared.links.Turn.{Turn}
use Rattle.ports.specs.declared.links.Want.{Want}
use Rattle.ports.specs.declared.links.What.{What}
use Rattle.ports.specs.declared.links.What.TheVariants.{Idle, Opened, Read, Ended, Broken, Room, Stopped, Failed}
use Rattle.ports.specs.declared.links.What.TheVariants.{Memory}
use Rattle.ev_types.specs.Clock.{next_moment}
use Rattle.hub_meaning.specs.Links.{Link, Stage, Open, ReadClosed, Closing, Closed, find_link, is_connected, is_open}
use Rattle.hub_meaning.specs.Links.{unsent, wants_of}
use Rattle.hub_meaning.specs.Runs.{RunState, Step, Talk, after_step, answered, first_state, messages_in, new_frames}
use Rattle.hub_meaning.specs.Runs.{passed, talk_of}
use Rattle.hub_meaning.specs.Verdicts.{IsPossible, Message, Refusal}

-- ---- when a turn may be asked for

-- an open link has nothing unsent or is blocked; a read-closed link still has unsent bytes and is blocked
abbrev pub IsSettledAs : Link → Stage → Type 0
IsSettledAs link Open = 0 < length (unsent link) → link.blocked ≡ true
IsSettledAs link ReadClosed = (0 < length (unsent link)) × (link.blocked ≡ true)
IsSettledAs link Closing = ⊥
IsSettledAs link Closed = Unit {0}

abbrev pub IsSettled : Link → Type 0
IsSettled link = IsSettledAs link link.stage

abbrev pub AreSettled : List Link → Type 0
AreSettled [] = Unit {0}
AreSettled (link ∷ links) = IsSettled link × AreSettled links

-- ---- the verdicts on the messages of a turn

-- each refusal is of a pattern of the rule that is asked
abbrev pub ArePossible : CoreConfig → ℕ → List Message → Talk → Type 0
ArePossible config now [] talk = Unit {0}
ArePossible config now (message ∷ messages) talk =
    IsPossible now (length (unsent talk.link)) message
    × ArePossible config now messages (answered config now message talk)

-- there are at most as many verdicts as messages; a message without one had no pattern refused
pub record AreVerdicts (config : CoreConfig) (piece : List ℕ) (verdicts : List (Option Refusal)) (state : RunState)
    (link : Link) : Type 0 where
  pub few : length verdicts ≤ length (new_frames link.came piece)
  pub possible : ArePossible config state.now (messages_in piece verdicts link) (talk_of piece state link)

abbrev pub VerdictsIf : Bool → CoreConfig → List ℕ → List (Option Refusal) → RunState → Link → Type 0
VerdictsIf true config piece verdicts state link = AreVerdicts config piece verdicts state link
VerdictsIf false config piece verdicts state link = verdicts ≡ []

abbrev pub VerdictsOn : CoreConfig → List ℕ → List (Option Refusal) → RunState → Option Link → Type 0
VerdictsOn config piece verdicts state None = verdicts ≡ []
VerdictsOn config piece verdicts state (Some link) = VerdictsIf (is_open link) config piece verdicts state link

-- only a turn that reads from an open link has messages
abbrev pub VerdictsIn : CoreConfig → What → List ℕ → List (Option Refusal) → RunState → Type 0
VerdictsIn config Idle piece verdicts state = verdicts ≡ []
VerdictsIn config (Opened number) piece verdicts state = verdicts ≡ []
VerdictsIn config (Read number count) piece verdicts state =
    VerdictsOn config piece verdicts state (find_link number state.links)
VerdictsIn config (Ended number) piece verdicts state = verdicts ≡ []
VerdictsIn config (Broken number) piece verdicts state = verdicts ≡ []
VerdictsIn config (Room number) piece verdicts state = verdicts ≡ []
VerdictsIn config Stopped piece verdicts state = verdicts ≡ []
VerdictsIn config Failed piece verdicts state = verdicts ≡ []
VerdictsIn config Memory piece verdicts state = verdicts ≡ []

-- ---- when bytes may be sent, and a link closed

-- they are those that come next, on a connected link that is not blocked
pub record MaySend (bytes : List ℕ) (link : Link) : Type 0 where
  pub connected : is_connected link ≡ true
  pub free : link.blocked ≡ false
  pub some : 0 < length bytes
  pub next : bytes ≡ take (length bytes) (unsent link)

-- there is a cause: it does not work, it is one too many, or no more is read of it and all was taken
abbrev pub MayCloseAs : Link → Stage → Type 0
MayCloseAs link Open = ⊥
MayCloseAs link ReadClosed = unsent link ≡ []
MayCloseAs link Closing = Unit {0}
MayCloseAs link Closed = ⊥

abbrev pub MayClose : Link → Type 0
MayClose link = MayCloseAs link link.stage

abbrev pub OnLink : ℕ → List Link → (Link → Type 0) → Type 0
OnLink number links P = (link : Link) × (find_link number links ≡ Some link) × P link

-- ---- a run

-- a turn is asked for with the wants of all connected links
pub record MayAsk (config : CoreConfig) (wants : List Want) (turn : Turn) (piece : List ℕ)
    (beside : List (Option Refusal)) (state : RunState) : Type 0 where
  pub wanted : wants ≡ wants_of state.links
  pub settled : AreSettled state.links
  pub verdicts : VerdictsIn config turn.what piece beside (passed (next_moment state.now turn.secs) state)

-- `listen` is called once, before all these
abbrev pub MayCome : CoreConfig → Entry → List (Option Refusal) → RunState → Type 0
MayCome config (Listen address answer) verdicts state = ⊥
MayCome config (Next wants turn piece) verdicts state = MayAsk config wants turn piece verdicts state
MayCome config (Send number bytes answer) verdicts state = (verdicts ≡ []) × OnLink number state.links (MaySend bytes)
MayCome config (Close number) verdicts state = (verdicts ≡ []) × OnLink number state.links MayClose

abbrev pub IsLegalFrom : CoreConfig → List Step → RunState → Type 0
IsLegalFrom config [] state = Unit {0}
IsLegalFrom config (step ∷ steps) state =
    MayCome config step.entry step.verdicts state × IsLegalFrom config steps (after_step config step state)

-- each call is one that may come then
abbrev pub IsLegal : CoreConfig → List Step → Type 0
IsLegal config steps = IsLegalFrom config steps (first_state config)
