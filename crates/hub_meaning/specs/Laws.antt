-- Laws of runs.
use Rattle.std.specs.Prelude.{◌≡◌, ℕ, ◌<◌, List, [], ◌∷◌, ◌++◌}
use Rattle.std.specs.List.{AllByRecursion}
use Rattle.stream_meaning.specs.Arrivals.{CoreConfig}
use Rattle.framing.specs.Frames.{frames_of, partial}
use Rattle.list_laws.specs.Prefix.{IsPrefix}
use Rattle.hub_meaning.specs.Links.{Link}
use Rattle.hub_meaning.specs.Runs.{RunState, Step, new_frames, state_from, state_after}
use Rattle.hub_meaning.specs.Legal.{IsLegal, IsLegalFrom}

-- later steps go on from the state after the first ones
abbrev pub StepsComeInOrder : Type 0
StepsComeInOrder = (config : CoreConfig) (first more : List Step) (state : RunState) →
    state_from config (first ++ more) state ≡ state_from config more (state_from config first state)

abbrev pub LegalInOrder : Type 0
LegalInOrder = (config : CoreConfig) (first more : List Step) (state : RunState) →
    IsLegalFrom config first state → IsLegalFrom config more (state_from config first state)
    → IsLegalFrom config (first ++ more) state

-- how a link's bytes are cut decides only with which piece a message is whole
abbrev pub MessagesComeWhole : Type 0
MessagesComeWhole = (came piece : List ℕ) → frames_of (came ++ piece) ≡ frames_of came ++ new_frames came piece

abbrev pub NewFramesAreOfTheRest : Type 0
NewFramesAreOfTheRest = (came piece : List ℕ) → new_frames came piece ≡ frames_of (partial came ++ piece)

-- a link was sent a prefix of its replies
abbrev pub SentPrefix : Link → Type 0
SentPrefix link = IsPrefix link.taken link.replies

abbrev pub PrefixesAreSent : Type 0
PrefixesAreSent =
    (config : CoreConfig) (steps : List Step) → IsLegal config steps
    → AllByRecursion SentPrefix (state_after config steps).links

-- the numbers of links rise
abbrev pub AreAbove : ℕ → List Link → Type 0
AreAbove number links = AllByRecursion (λ link. number < link.number) links

abbrev pub AreRising : List Link → Type 0
AreRising [] = Unit {0}
AreRising (link ∷ links) = AreAbove link.number links × AreRising links

abbrev pub NumbersRise : Type 0
NumbersRise = (config : CoreConfig) (steps : List Step) → AreRising (state_after config steps).links
