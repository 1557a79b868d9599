-- Laws of runs: how they go on.
use Rattle.std.proofs.Common.{[], ◌∷◌, ◌++◌, length, refl}
use Rattle.std.proofs.lemmas.List.{drop_at}
use Rattle.framing.specs.Frames.{frames_of, partial}
use Rattle.framing.proofs.FrameLaws.{frames_append}
use Rattle.hub_meaning.specs.Runs.{after_step}
use Rattle.hub_meaning.specs.Laws.{StepsComeInOrder, LegalInOrder, MessagesComeWhole, NewFramesAreOfTheRest}

pub state_append : StepsComeInOrder
state_append config [] more state = refl
state_append config (step ∷ first) more state = state_append config first more (after_step config step state)

pub legal_append : LegalInOrder
legal_append config [] more state before after = after
legal_append config (step ∷ first) more state before after =
    (before.0, legal_append config first more (after_step config step state) before.1 after)

pub new_frames_rest : NewFramesAreOfTheRest
new_frames_rest came piece =
    rw (frames_append came piece)
    (drop_at (frames_of came) (frames_of (partial came ++ piece)) (length (frames_of came)) refl)

pub frames_whole : MessagesComeWhole
frames_whole came piece = rw (new_frames_rest came piece) (frames_append came piece)
